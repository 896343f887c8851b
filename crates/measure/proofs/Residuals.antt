-- Residuals: the difference that code computes, and the largest so far.
use Rattle.std.proofs.Common.{◌≡◌, ℕ, ◌+◌, ◌*◌, ◌≤◌, List, ℤ, pos, ◌-ℤ◌, ◌*ℤ◌, nat_abs, sym, refl, ap, ◌∙◌, arith, w64, SFits}
use Rattle.std.proofs.lemmas.Nat.{mul-le}
use Rattle.std.proofs.lemmas.Int.{ints}
use Rattle.number.proofs.Words.{word, back, times_abs, fits_abs, product_fits, product_back}
use Rattle.section.specs.Plan.{Plan}
use Rattle.section.specs.Reading.{temperatures}
use Rattle.section.specs.declared.rows.Temperature.{Temperature}
use Rattle.stencil.specs.Stencils.{Equation}
use Rattle.stencil.specs.declared.types.Stencil.{Stencil}
use Rattle.walk.specs.Sites.{Shows}
use Rattle.walk.specs.declared.types.Site.{Site}
use Rattle.steps.specs.AtSites.{site_sum}
use Rattle.measure.specs.Measures.{residual}

minus_abs : (a b : ℤ) → nat_abs (a -ℤ b) ≤ nat_abs a + nat_abs b
minus_abs a b = omega (arith, ints)

-- y is the diagonal d as a signed number
module _ (y old : ℤ) (d : ℕ) (ey : y ≡ pos d) (few : d ≤ 5000) (bo : nat_abs old ≤ 1000000000) where
  yb : word y ≡ pos d
  yb = rw ey (back (pos d) (omega arith))

  ob : word old ≡ old
  ob = back old (omega arith)

  own-size : d * nat_abs old ≤ 5000000000000
  own-size = mul-le d (nat_abs old) 5000 1000000000 few bo

  pub own-fits : SFits w64 (word y *ℤ word old)
  own-fits = product_fits y old (pos d) old yb ob (omega (arith, own-size))

  own : word (word y *ℤ word old) ≡ pos d *ℤ old
  own = product_back y old (pos d) old yb ob (omega (arith, own-size))

  -- x is the sum S
  module _ (x : ℤ) (bx : nat_abs x ≤ 13000000000000) where
    xb : word x ≡ x
    xb = back x (omega arith)

    gap-most : nat_abs (x -ℤ pos d *ℤ old) ≤ 18000000000000
    gap-most = omega (arith, bx, own-size, times_abs (pos d) old, minus_abs x (pos d *ℤ old))

    pub gap-fits : SFits w64 (word x -ℤ word (word y *ℤ word old))
    gap-fits = rw (xb, own) (fits_abs (x -ℤ pos d *ℤ old) (omega (arith, gap-most)))

    -- code answers the absolute value of the difference
    module _ (r : ℕ) (e : r ≡ nat_abs (word (word x -ℤ word (word y *ℤ word old)))) where
      gap : r ≡ nat_abs (x -ℤ pos d *ℤ old)
      gap = e ∙ rw (xb, own) (rw (back (x -ℤ pos d *ℤ old) (omega (arith, gap-most))) refl)

      pub gap_is : (sum : ℤ) → word x ≡ sum → r ≡ nat_abs (sum -ℤ pos d *ℤ old)
      gap_is sum q = gap ∙ ap (λ (z : ℤ). nat_abs (z -ℤ pos d *ℤ old)) (sym xb ∙ q)

      pub gap-small : r ≤ 18000000000000
      gap-small = rw gap gap-most

-- the residual at a site is that of the plan which it shows
pub shown :
    (p : Plan) (us : List Temperature) (i : ℕ) (st : Stencil) (s : Site Temperature) → Equation p i st → Shows us i st s →
    site_sum s -ℤ pos s.stencil.diagonal *ℤ s.old.value ≡ residual p us i
shown p us i st s q h =
    rw (h.stencil, h.old (record { value = pos 0 }), h.around (record { value = pos 0 }))
    (rw (q.pulls (temperatures us), q.diagonal) refl)
