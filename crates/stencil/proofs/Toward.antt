-- The sides of a cell, by what lies there.
use Rattle.std.proofs.Common.{[], ◌∷◌, ap, ◌≡◌, ℕ, ◌*◌, ◌^◌, ◌<◌, ◌≤◌, true, cond, T, ℤ, pos, negsuc, ◌*ℤ◌, nat_abs, ◌≤ℤ◌, Some, Option, sym, refl, subst, arith, w64, to_z, of_z}
use borrow.Author.Differences.{ints}
use Rattle.std.proofs.lemmas.Nat.{mul-le}
use Rattle.number.proofs.Words.{back}
use Rattle.section.specs.Plan.{Plan, Cell, held, void, at, is_free, is_solid, Free, link, counted}
use Rattle.section.proofs.Cells.{entry_free, entry-held, mass-free, mass-held, counted_solid}
use Rattle.stencil.specs.Stencils.{SideOf, toward}
use Rattle.stencil.specs.declared.types.Side.{Side}

pub temperature_abs : (t : ℤ) → negsuc 999999999 ≤ℤ t → t ≤ℤ pos 1000000000 → nat_abs t ≤ 1000000000
temperature_abs t lo hi = omega (arith, ints)

pub given_small : (c : ℕ) (t x : ℤ) → nat_abs x ≡ c * nat_abs t → c ≤ 1000 → nat_abs t ≤ 1000000000 → nat_abs x ≤ 1000000000000
given_small c t x e few small = omega (arith, mul-le c (nat_abs t) 1000 1000000000 few small)

-- a side of the cell i toward the neighbour j, by a link of weight c
module _ (p : Plan) (i c j : ℕ) (to : Option ℕ) (on : to ≡ Some j) (s : Side) where
  there : SideOf p i (counted p true c j) s → SideOf p i (toward p to c) s
  there h = subst (λ (o : Option ℕ). SideOf p i (toward p o c) s) (sym on) h

  pub side_free : (k : Cell) → k ≡ at p j → is_free k ≡ true → is_solid k ≡ true → s.counts ≡ c → s.arm.weight ≡ c → s.arm.cell ≡ j → s.given ≡ pos 0 → SideOf p i (toward p to c) s
  side_free k e f solid ec ew ej eg =
      let here : Free p j = subst (λ (x : Cell). T (is_free x)) e (rw f tt) in
      let ls = counted_solid p c j k e solid in
      there (record {
        counts = rw (ls, ec) (omega arith);
        pulls = λ u. rw (ls, ew, ej, eg) (rw (entry_free p u j here) (omega (arith, ints)));
        loads = λ w. rw (ls, ew, ej) (rw (mass-free p w j here) (omega arith));
        reads = rw ej here;
      })

  module _ (own : Free p i) (ew : s.arm.weight ≡ 0) (ei : s.arm.cell ≡ i) where
    pub side_held : (t : ℤ) → held t ≡ at p j → s.counts ≡ c → s.given ≡ pos c *ℤ t → SideOf p i (toward p to c) s
    side_held t e ec eg =
        let ls = counted_solid p c j (held t) e refl in
        there (record {
          counts = rw (ls, ec) (omega arith);
          pulls = λ u. rw (ls, ew, eg) (rw (entry-held p u j t (sym e)) (omega (arith, ints)));
          loads = λ w. rw (ls, ew) (rw (mass-held p w j t (sym e)) (omega arith));
          reads = rw ei own;
        })

    pub side_void : void ≡ at p j → s.counts ≡ 0 → s.given ≡ pos 0 → SideOf p i (toward p to c) s
    side_void e ec eg =
        let ls : counted p true c j ≡ [] = ap (λ (k : Cell). cond (is_solid k) (link c j ∷ []) []) (sym e) in
        there (record {
          counts = rw (ls, ec);
          pulls = λ u. rw (ls, ew, eg) (omega (arith, ints));
          loads = λ w. rw (ls, ew) (omega arith);
          reads = rw ei own;
        })

pub small-back : (z : ℤ) → nat_abs z ≤ 1000000000000 → nat_abs (to_z w64 (of_z w64 z)) ≤ 1000000000000
small-back z h = rw (back z (lit z h)) h
  where
    lit : (z : ℤ) → nat_abs z ≤ 1000000000000 → nat_abs z < 2 ^ 63
    lit z h = omega arith

pub heat_abs : (q : ℤ) → negsuc 999999999999 ≤ℤ q → q ≤ℤ pos 1000000000000 → nat_abs q ≤ 1000000000000
heat_abs q lo hi = omega (arith, ints)
