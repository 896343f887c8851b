-- The turn that relaxing takes, from its parts.
use Rattle.std.proofs.Common.{◌≡◌, ◌≤◌, ℕ, nat_abs, ◌+ℤ◌, true, false, ℤ, sym, ◌∙◌, arith}
use Rattle.std.proofs.lemmas.Int.{ints}
use Rattle.std.proofs.lemmas.Bool.{ne_eqb}
use Rattle.section.specs.declared.rows.Temperature.{Temperature}
use Rattle.number.proofs.Words.{word}
use Rattle.stencil.specs.Sides.{AcrossSides}
use Rattle.stencil.specs.Stencils.{weighed_sum}
use Rattle.stencil.specs.declared.sides.Sides.{Sides}
use Rattle.walk.specs.Sites.{FairSite}
use Rattle.walk.specs.declared.types.Site.{Site}
use Rattle.steps.specs.AtSites.{site_sum}
use Rattle.steps.proofs.Sizes.{fair_back, sum_seen}
use Rattle.walk.specs.declared.types.Turn.TheVariants.{Stay, Put}
use Rattle.steps.specs.Steps.{same, relaxed_to, relax_turn, FairTemperature}

same_yes : (a b : ℤ) → a ≡ b → same a b ≡ true
same_yes a b e = grind (arith, ints)

same_no : (a b : ℤ) → (a ≡ b → ⊥) → same a b ≡ false
same_no a b n = grind (arith, ints)

module _ (k : ℤ) (d : ℕ) (sum old : ℤ) where
  module _ (some : d ≡ 0 → ⊥) (new : ℤ) (e : new ≡ relaxed_to k d sum old) where
    pub turn_stay : new ≡ old → Stay ≡ relax_turn k d sum old
    turn_stay s = rw (ne_eqb d 0 some, same_yes (relaxed_to k d sum old) old (sym e ∙ s))

    pub turn_put : (new ≡ old → ⊥) → Put (record { value = new }) ≡ relax_turn k d sum old
    turn_put n = rw (ne_eqb d 0 some, same_no (relaxed_to k d sum old) old (λ s. n (e ∙ s)), e)

-- what relaxing reckons over the entries that code read is what the site says
pub relaxed_seen :
    (k : ℤ) (s : Site Temperature) (x : ℤ) (xs : Sides ℤ) (new : ℤ) → FairSite FairTemperature s → x ≡ s.stencil.source +ℤ weighed_sum s.stencil.arms xs →
    nat_abs x ≤ 13000000000000 → AcrossSides (λ t y. y ≡ word t.value) s.around xs →
    new ≡ relaxed_to k s.stencil.diagonal (word x) (word s.old.value) → new ≡ relaxed_to k s.stencil.diagonal (site_sum s) s.old.value
relaxed_seen k s x xs new f v b read e = rw (sum_seen s x xs f v b read, fair_back s.old f.old) at e
