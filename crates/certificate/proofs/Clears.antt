-- What a check that is clear tells of the free cells.
use Rattle.std.proofs.Common.{◌≡◌, ℕ, Bool, false, ◌&&◌, List, length, get_or, ℤ, pos, negsuc, ◌≤ℤ◌, Some, None, Option, refl, subst, arith}
use Rattle.std.proofs.lemmas.List.{get_or_default}
use Rattle.std.proofs.lemmas.Int.{ints}
use Rattle.refusal.specs.Refusals.{clear, at_first, fault}
use Rattle.refusal.specs.declared.types.Level.TheVariants.{Call}
use Rattle.section.specs.Limits.{outside}
use Rattle.section.specs.Plan.{Plan, size, is_free_at, Free}
use Rattle.section.specs.declared.rows.Temperature.{Temperature}
use Rattle.section.specs.declared.rows.Majorant.{Majorant}
use Rattle.section.proofs.Cells.{free-inside}
use Rattle.scan.specs.First.{first}
use Rattle.scan.proofs.Firsts.{first-none}
use Rattle.walk.specs.Sites.{Walkable}
use Rattle.walk.proofs.Walking.{free_true}
use Rattle.steps.specs.Steps.{FairTemperature, FairMajorant}
use Rattle.certificate.specs.Certifying.{free_check, temperature_check, majorant_check}

-- no free cell passes the test
pub clear_at : (p : Plan) (k : ℕ) (test : ℕ → Bool) → free_check p k test ≡ clear → (i : ℕ) → Free p i → test i ≡ false
clear_at p k test e i f =
    let none = first-none (λ (j : ℕ). is_free_at p j && test j) (size p) (by (first (λ (j : ℕ). is_free_at p j && test j) (size p)) e) i (free-inside p i f) in
    rw (free_true p i f) at none
  where
    by : (o : Option ℕ) → at_first o (fault Call k) ≡ clear → o ≡ None
    by None e = refl
    by (Some i) e = let z : ◌≡◌ {A = ℕ} 0 1 = cc in absurd (omega arith)

module _ (least most z : ℤ) (e : outside least most z ≡ false) where
  above : least ≤ℤ z
  above = grind (arith, ints)

  below : z ≤ℤ most
  below = grind (arith, ints)

-- a grid within its limits can be walked
limited_walkable :
    {E : Type 0} (fair : E → Type 0) (value : E → ℤ) (least most : ℤ) (none : E) (k : ℕ) → ((x : E) → least ≤ℤ value x → value x ≤ℤ most → fair x) →
    (p : Plan) (xs : List E) → length xs ≡ size p → free_check p k (λ i. outside least most (value (get_or xs i none))) ≡ clear → Walkable fair p xs
limited_walkable fair value least most none k fair-of p xs n e = record {
  count = n;
  entries = λ i f d.
      let fine = clear_at p k (λ (j : ℕ). outside least most (value (get_or xs j none))) e i f in
      let x = get_or xs i none in
      subst fair (get_or_default xs i none d (omega (arith, free-inside p i f, n))) (fair-of x (above least most (value x) fine) (below least most (value x) fine));
}

pub mild_walkable : (p : Plan) (us : List Temperature) → length us ≡ size p → temperature_check p us ≡ clear → Walkable FairTemperature p us
mild_walkable = limited_walkable FairTemperature (λ t. t.value) (negsuc 999999999) (pos 1000000000) (record { value = pos 0 }) 10 (λ t lo hi. record { least = lo; most = hi })

pub fair_walkable : (p : Plan) (ws : List Majorant) → length ws ≡ size p → majorant_check p ws ≡ clear → Walkable FairMajorant p ws
fair_walkable = limited_walkable FairMajorant (λ w. w.value) (pos 0) (pos 500000) (record { value = pos 0 }) 11 (λ w lo hi. record { least = lo; most = hi })
