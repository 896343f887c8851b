use Rattle.std.proofs.Common.{◌≡◌, ℤ, refl, ap, ◌∙◌, w64, SFits, rules}
use Rattle.std.proofs.lemmas.Int.{to_z-of_z}
use Rattle.section.specs.Reading.{plain, row_bracket}
use Rattle.section.specs.declared.rows.BracketRow.{BracketRow}
use Rattle.section.specs.declared.types.Bracket.{Bracket}
use Rattle.stencil.specs.Sides.{AcrossSides}
use Rattle.number.proofs.Words.{word}
use Rattle.steps.specs.AtSites.{site_end}
use Rattle.steps.proofs.Sizes.{entry-back}
use Rattle.steps.proofs.Ends.{low_abs, high_abs, ends_small, end_seen, tighten_turned}
use Rattle.steps.proofs.tighten.tighten_at.Goals as goal

pub pull-high-requires : goal.pull-high-requires
pull-high-requires c =
    let highs : AcrossSides (λ (b : Bracket) (y : ℤ). y ≡ word b.hi) c.map-around.result c.map-2.result = search rules in
    ends_small (λ b. b.hi) high_abs c.map-around.result c.map-2.result highs

pub returns : goal.returns
returns c =
    let site = c.args.site.now in
    let around : AcrossSides (λ (r : BracketRow) (b : Bracket). plain b ≡ row_bracket r) site.around c.map-around.result = search rules in
    let lows : AcrossSides (λ (b : Bracket) (y : ℤ). y ≡ word b.lo) c.map-around.result c.map.result = search rules in
    let highs : AcrossSides (λ (b : Bracket) (y : ℤ). y ≡ word b.hi) c.map-around.result c.map-2.result = search rules in
    let low = end_seen (λ b. b.lo) low_abs c.map-around.result c.map.result lows site c.pull-low.result around c.pull-low.ensures.value c.pull-low.ensures.size in
    let high = end_seen (λ b. b.hi) high_abs c.map-around.result c.map-2.result highs site c.pull-high.result around c.pull-high.ensures.value c.pull-high.ensures.size in
    let old = c.from-old.result in
    let fl : SFits w64 c.lower-lo.result = search rules in
    let fh : SFits w64 c.upper-hi.result = search rules in
    let is = c.from-old.ensures in
    let lo = to_z-of_z w64 c.lower-lo.result fl ∙ c.lower-lo.ensures ∙ rw (entry-back old.lo (low_abs old) ∙ ap (λ r. r.lo) is, low) refl in
    let hi = to_z-of_z w64 c.upper-hi.result fh ∙ c.upper-hi.ensures ∙ rw (entry-back old.hi (high_abs old) ∙ ap (λ r. r.hi) is, high) refl in
    tighten_turned site.stencil.diagonal c.narrowed.result (word c.lower-lo.result) (word c.upper-hi.result)
    (site_end (λ b. b.lo) site) (site_end (λ b. b.hi) site) (plain old) (row_bracket site.old)
    c.if-diagonal-eq0.false c.narrowed.ensures is lo hi
