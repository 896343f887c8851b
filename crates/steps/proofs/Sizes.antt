-- How large the sums around a cell are.
use Rattle.std.proofs.Common.{◌≡◌, ◌+◌, ◌*◌, ◌^◌, ◌<◌, ◌≤◌, ℤ, pos, negsuc, ◌+ℤ◌, nat_abs, ◌≤ℤ◌, sym, refl, ap, ◌∙◌, arith, w64, to_z, of_z}
use Rattle.std.proofs.lemmas.Nat.{mul-le}
use Rattle.std.proofs.lemmas.Int.{ints}
use Rattle.stencil.specs.Sides.{OnSides, AcrossSides}
use Rattle.stencil.specs.Stencils.{weighed_sum}
use Rattle.stencil.specs.declared.sides.Sides.{Sides}
use Rattle.stencil.specs.declared.types.Arm.{Arm}
use Rattle.stencil.specs.declared.types.Stencil.{Stencil}
use Rattle.walk.specs.Sites.{FairSite}
use Rattle.walk.specs.declared.types.Site.{Site}
use Rattle.steps.specs.AtSites.{site_sum}
use Rattle.section.specs.declared.rows.Temperature.{Temperature}
use Rattle.steps.specs.Steps.{FairTemperature}
use Rattle.number.proofs.Words.{word, back}

pub large-back : (z : ℤ) → nat_abs z ≤ 13000000000000 → word z ≡ z
large-back z h = back z (omega arith)

pub entry-back : (t : ℤ) → nat_abs t ≤ 2000000000 → word t ≡ t
entry-back t h = large-back t (omega arith)

pub entry-word : (t : ℤ) → nat_abs t ≤ 2000000000 → nat_abs (word t) ≤ 2000000000
entry-word t h = rw (entry-back t h) h

pub fair_abs : (t : Temperature) → FairTemperature t → nat_abs t.value ≤ 2000000000
fair_abs t f = omega (arith, ints, f.least, f.most)

pub own_abs : (t : Temperature) → FairTemperature t → nat_abs t.value ≤ 1000000000
own_abs t f = omega (arith, ints, f.least, f.most)

pub limit-back : (z : ℤ) → negsuc 999999999 ≤ℤ z → z ≤ℤ pos 1000000000 → word z ≡ z
limit-back z lo hi = back z (small z lo hi)
  where
    small : (z : ℤ) → negsuc 999999999 ≤ℤ z → z ≤ℤ pos 1000000000 → nat_abs z < 2 ^ 63
    small z lo hi = omega (arith, ints)

pub source-small : (st : Stencil) → nat_abs (word st.source) ≤ 5000000000000
source-small st = rw (large-back st.source (omega (arith, size st))) (size st)
  where
    size : (st : Stencil) → nat_abs st.source ≤ 5000000000000
    size st = omega (arith, ints, st.source_least, st.source_most)

pub weighed_small : (a : Arm) (t x : ℤ) → nat_abs x ≡ a.weight * nat_abs (word t) → nat_abs t ≤ 2000000000 → nat_abs (word x) ≤ 2000000000000
weighed_small a t x e small = rw (large-back x (omega (arith, size))) size
  where
    size : nat_abs x ≤ 2000000000000
    size = omega (arith, e, mul-le a.weight (nat_abs (word t)) 1000 2000000000 a.light (entry-word t small))

-- the source and four weighed entries
pub parts_small :
    (st : Stencil) (xs : Sides ℤ) → OnSides (λ x. nat_abs x ≤ 2000000000) xs → (n w e s : ℤ) →
    nat_abs n ≡ st.arms.north.weight * nat_abs (word xs.north) → nat_abs w ≡ st.arms.west.weight * nat_abs (word xs.west) →
    nat_abs e ≡ st.arms.east.weight * nat_abs (word xs.east) → nat_abs s ≡ st.arms.south.weight * nat_abs (word xs.south) →
    nat_abs (word st.source) + (nat_abs (word n) + (nat_abs (word w) + (nat_abs (word e) + nat_abs (word s)))) ≤ 13000000000000
parts_small st xs small n w e s an aw ae az =
    omega (
      arith,
      source-small st,
      weighed_small st.arms.north xs.north n an small.north,
      weighed_small st.arms.west xs.west w aw small.west,
      weighed_small st.arms.east xs.east e ae small.east,
      weighed_small st.arms.south xs.south s az small.south,
    )

pub fair_back : (t : Temperature) → FairTemperature t → word t.value ≡ t.value
fair_back t f = entry-back t.value (fair_abs t f)

-- the sum that code computes over a site's entries
pub sum_seen :
    (s : Site Temperature) (x : ℤ) (xs : Sides ℤ) → FairSite FairTemperature s → x ≡ s.stencil.source +ℤ weighed_sum s.stencil.arms xs →
    nat_abs x ≤ 13000000000000 → AcrossSides (λ t y. y ≡ word t.value) s.around xs → word x ≡ site_sum s
sum_seen s x xs f v b e =
    large-back x b ∙ v ∙ rw (e.north, e.west, e.east, e.south)
    (rw (fair_back s.around.north f.around.north, fair_back s.around.west f.around.west, fair_back s.around.east f.around.east, fair_back s.around.south f.around.south) refl)

pub bits_same : (a b : ℤ) → word a ≡ a → word b ≡ b → of_z w64 a ≡ of_z w64 b → a ≡ b
bits_same a b p q e = sym p ∙ ap (to_z w64) e ∙ q
