-- One walk of a run.
use Rattle.std.proofs.Common.{◌≡◌, ℕ, zero, suc, ◌+◌, ◌<◌, ◌≤◌, Bool, true, false, cond, not, ◌&&◌, eqb, List, Some, None, sym, refl, ◌∙◌, subst, add-one, arith}
use native.Mathlib.Decide.{ℕ_discrete}
use Rattle.std.proofs.lemmas.Bool.{ne_eqb}
use Rattle.walk.specs.Walks.{Walk, walk, Run, ended, onward, run}
use Rattle.walk.specs.declared.types.Turn.{Turn}

goes_on : (m k : ℕ) → (m ≡ 0 → k ≡ 0) → eqb m 0 && not (eqb k 0) ≡ false
goes_on zero zero h = refl
goes_on zero (suc k) h = let z : suc k ≡ 0 = h refl in absurd (omega arith)
goes_on (suc m) k h = rw (ne_eqb (suc m) 0 (λ z. omega arith)) refl

module _ {E : Type 0} (step : List E → ℕ → Turn E) (free : ℕ → Bool) (n : ℕ) (xs₀ : List E) where
  -- a run that has not ended makes one walk more
  run_more :
      (xs : List E) (k m : ℕ) (w : Walk E) → run step free n k xs₀ ≡ record { grid = xs; walks = k; changed = m; stopped = None } → (m ≡ 0 → k ≡ 0) →
      w ≡ walk step free n xs → run step free n (k + 1) xs₀ ≡ record { grid = w.grid; walks = k + 1; changed = w.changed; stopped = w.stopped }
  run_more xs k m w so_far h e = rw (add-one, so_far, goes_on m k h, e) (rw add-one refl)

  -- a run that has ended stays as it is
  run-ended : (r : Run E) (k most : ℕ) → run step free n k xs₀ ≡ r → ended r ≡ true → k ≤ most → run step free n most xs₀ ≡ r
  run-ended r k zero e t l = let z : k ≡ 0 = omega arith in subst (λ (j : ℕ). run step free n j xs₀ ≡ r) z e
  run-ended r k (suc most) e t l = elim (ℕ_discrete k (suc most)) [
    | yes q ↦ subst (λ (j : ℕ). run step free n j xs₀ ≡ r) q e
    | no d ↦
        let ih = run-ended r k most e t (omega arith) in
        let P : Run E → Type 0 = λ v. cond (ended v) v (onward step free n v (walk step free n v.grid)) ≡ v in
        subst P (sym ih) (rw t refl) ∙ ih
  ]

-- one walk of the run
module _
    {E : Type 0}
    (step : List E → ℕ → Turn E)
    (free : ℕ → Bool)
    (n : ℕ)
    (xs₀ xs : List E)
    (k m most : ℕ)
    (lt : k < most)
    (so_far : run step free n k xs₀ ≡ record { grid = xs; walks = k; changed = m; stopped = None })
    (going : m ≡ 0 → k ≡ 0)
    (w : Walk E)
    (walked : w ≡ walk step free n xs)
  where
    pub run_on : run step free n (k + 1) xs₀ ≡ record { grid = w.grid; walks = k + 1; changed = w.changed; stopped = w.stopped }
    run_on = run_more step free n xs₀ xs k m w so_far going walked

    pub run-stopped : (i : ℕ) → w.stopped ≡ Some i → run step free n most xs₀ ≡ record { grid = w.grid; walks = k + 1; changed = w.changed; stopped = Some i }
    run-stopped i e = run-ended step free n xs₀ _ (k + 1) most (rw e at run_on) refl (omega arith)

    pub run_settled : w.stopped ≡ None → w.changed ≡ 0 → run step free n most xs₀ ≡ record { grid = w.grid; walks = k + 1; changed = 0; stopped = None }
    run_settled e z = run-ended step free n xs₀ _ (k + 1) most (rw (e, z) at run_on) (rw (ne_eqb (k + 1) 0 (λ q. omega arith)) refl) (omega arith)
