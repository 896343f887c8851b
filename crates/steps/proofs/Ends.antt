-- The ends of brackets at a site.
use Rattle.std.proofs.Common.{◌≡◌, ℕ, ◌≤◌, ℤ, ◌+ℤ◌, nat_abs, refl, ap, ◌∙◌, arith}
use Rattle.std.proofs.lemmas.Int.{ints}
use Rattle.std.proofs.lemmas.Bool.{ne_eqb}
use Rattle.std.specs.Int.{int_max, int_min}
use Rattle.number.specs.Rounding.{floor, ceiling}
use Rattle.number.proofs.Words.{word}
use Rattle.section.specs.Reading.{plain, row_bracket}
use Rattle.section.specs.declared.rows.BracketRow.{BracketRow}
use Rattle.section.specs.declared.types.Bracket.{Bracket}
use Rattle.stencil.specs.Sides.{OnSides, AcrossSides}
use Rattle.stencil.specs.Stencils.{weighed_sum}
use Rattle.stencil.specs.declared.sides.Sides.{Sides}
use Rattle.walk.specs.declared.types.Site.{Site}
use Rattle.walk.specs.declared.types.Turn.{Turn}
use Rattle.steps.specs.AtSites.{site_end}
use Rattle.steps.specs.Tightening.{narrow_to, tighten_turn}
use Rattle.steps.proofs.Sizes.{entry-word, entry-back, large-back}

-- one end of the brackets around a site, as code sums it up
module _ (end : BracketRow → ℤ) (small : (b : Bracket) → nat_abs (end (plain b)) ≤ 2000000000) (bs : Sides Bracket) (xs : Sides ℤ)
    (read : AcrossSides (λ b y. y ≡ word (end (plain b))) bs xs) where
  pub ends_small : OnSides (λ y. nat_abs y ≤ 2000000000) xs
  ends_small = record {
    north = rw read.north (entry-word (end (plain bs.north)) (small bs.north));
    west = rw read.west (entry-word (end (plain bs.west)) (small bs.west));
    east = rw read.east (entry-word (end (plain bs.east)) (small bs.east));
    south = rw read.south (entry-word (end (plain bs.south)) (small bs.south));
  }

  one : (r : BracketRow) (b : Bracket) (y : ℤ) → plain b ≡ row_bracket r → y ≡ word (end (plain b)) → y ≡ end (row_bracket r)
  one r b y e q = q ∙ entry-back (end (plain b)) (small b) ∙ ap end e

  pub end_seen :
      (site : Site BracketRow) (x : ℤ) → AcrossSides (λ r b. plain b ≡ row_bracket r) site.around bs →
      x ≡ site.stencil.source +ℤ weighed_sum site.stencil.arms xs → nat_abs x ≤ 13000000000000 → word x ≡ site_end end site
  end_seen site x e v b =
      large-back x b ∙ v ∙ rw (
        one site.around.north bs.north xs.north e.north read.north,
        one site.around.west bs.west xs.west e.west read.west,
        one site.around.east bs.east xs.east e.east read.east,
        one site.around.south bs.south xs.south e.south read.south,
      ) refl

pub low_abs : (b : Bracket) → nat_abs b.lo ≤ 2000000000
low_abs b = omega (arith, ints, b.lo_least, b.hi_most, b.ordered)

pub high_abs : (b : Bracket) → nat_abs b.hi ≤ 2000000000
high_abs b = omega (arith, ints, b.lo_least, b.hi_most, b.ordered)

pub tighten_turned :
    (d : ℕ) (t : Turn BracketRow) (lo hi low high : ℤ) (old b : BracketRow) → (d ≡ 0 → ⊥) → t ≡ narrow_to (record { lo = lo; hi = hi }) old → old ≡ b →
    lo ≡ int_max b.lo (floor low d) → hi ≡ int_min b.hi (ceiling high d) → t ≡ tighten_turn d low high b
tighten_turned d t lo hi low high old b some e same l h = e ∙ rw (ne_eqb d 0 some) (rw (same, l, h) refl)
