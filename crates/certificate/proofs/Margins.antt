-- The margin of a majorant whose cells have margins of at least 1.
use Rattle.std.proofs.Common.{◌≡◌, ℕ, zero, suc, ◌<◌, Bool, true, false, cond, T, List, ℤ, pos, ◌≤ℤ◌, Some, None, Option, sym, refl, subst, arith, below_more}
use Rattle.std.proofs.lemmas.Int.{ints, clamps}
use Rattle.section.specs.Plan.{Plan, size, is_free_at, Free}
use Rattle.section.specs.declared.rows.Majorant.{Majorant}
use Rattle.section.proofs.Cells.{free-inside}
use Rattle.measure.specs.Measures.{cell_margin, lesser, margin_to, or0, margin}

-- a margin so far that is from 1 to x
abbrev UpTo : ℤ → Option ℤ → Type 0
UpTo x None = ⊥
UpTo x (Some z) = (pos 1 ≤ℤ z) × (z ≤ℤ x)

up_to : (x : ℤ) (a : Option ℤ) → UpTo x a → (pos 1 ≤ℤ or0 a) × (or0 a ≤ℤ x)
up_to x None h = absurd h
up_to x (Some z) h = h

abbrev AtLeast1 : Option ℤ → Type 0
AtLeast1 None = Unit {0}
AtLeast1 (Some z) = pos 1 ≤ℤ z

lesser_up_to : (a : Option ℤ) (x z : ℤ) → pos 1 ≤ℤ z → UpTo x a → UpTo x (Some (lesser a z))
lesser_up_to None x z one h = absurd h
lesser_up_to (Some y) x z one h = omega (arith, ints, clamps)

lesser-new : (a : Option ℤ) (z : ℤ) → pos 1 ≤ℤ z → AtLeast1 a → UpTo z (Some (lesser a z))
lesser-new None z one h = omega (arith, ints)
lesser-new (Some y) z one h = omega (arith, ints, clamps)

module _ (p : Plan) (ws : List Majorant) (ones : (i : ℕ) → Free p i → pos 1 ≤ℤ cell_margin p ws i) where
  margin-least : (n : ℕ) → AtLeast1 (margin_to p ws n)
  margin-least zero = tt
  margin-least (suc n) = by (is_free_at p n) refl (margin-least n)
    where
      by : (b : Bool) → is_free_at p n ≡ b → AtLeast1 (margin_to p ws n) → AtLeast1 (cond b (Some (lesser (margin_to p ws n) (cell_margin p ws n))) (margin_to p ws n))
      by true e before = (lesser-new (margin_to p ws n) (cell_margin p ws n) (ones n (subst T (sym e) tt)) before).0
      by false e before = before

  -- the margin is from 1 to each free cell's
  margin_bounds : (n i : ℕ) → i < n → Free p i → UpTo (cell_margin p ws i) (margin_to p ws n)
  margin_bounds zero i l f = absurd (omega arith)
  margin_bounds (suc n) i l f = by (is_free_at p n) refl (margin_bounds n)
    where
      by :
          (b : Bool) → is_free_at p n ≡ b → ((k : ℕ) → k < n → Free p k → UpTo (cell_margin p ws k) (margin_to p ws n)) →
          UpTo (cell_margin p ws i) (cond b (Some (lesser (margin_to p ws n) (cell_margin p ws n))) (margin_to p ws n))
      by true e before =
          let here = ones n (subst T (sym e) tt) in
          below_more (λ (k : ℕ). Free p k → UpTo (cell_margin p ws k) (Some (lesser (margin_to p ws n) (cell_margin p ws n)))) n
          (λ k lk g. lesser_up_to (margin_to p ws n) (cell_margin p ws k) (cell_margin p ws n) here (before k lk g))
          (λ g. lesser-new (margin_to p ws n) (cell_margin p ws n) here (margin-least n)) i (omega arith) f
      by false e before =
          below_more (λ (k : ℕ). Free p k → UpTo (cell_margin p ws k) (margin_to p ws n)) n before (λ g. absurd (subst T e g)) i (omega arith) f

  pub margin_is : (i : ℕ) → Free p i → (pos 1 ≤ℤ margin p ws) × (margin p ws ≤ℤ cell_margin p ws i)
  margin_is i f = up_to (cell_margin p ws i) (margin_to p ws (size p)) (margin_bounds (size p) i (free-inside p i f) f)
