use Rattle.std.proofs.Common.{ℤ, ◌≡◌, rules}
use Rattle.number.proofs.Words.{word}
use Rattle.section.specs.declared.rows.Temperature.{Temperature}
use Rattle.stencil.specs.Sides.{AcrossSides}
use Rattle.steps.specs.AtSites.{site_sum}
use Rattle.steps.proofs.Sizes.{own_abs, sum_seen}
use Rattle.measure.proofs.Residuals.{own-fits, gap-fits, gap_is, gap-small}
use Rattle.measure.proofs.at.residual.Goals as goal

pub overflow_mul-from : goal.overflow_mul-from
overflow_mul-from c =
    let s = c.args.site.now in
    own-fits c.from.result s.old.value s.stencil.diagonal c.from.ensures s.stencil.diagonal_most (own_abs s.old c.requires.old)

pub overflow_sub-sum : goal.overflow_sub-sum
overflow_sub-sum c =
    let s = c.args.site.now in
    gap-fits c.from.result s.old.value s.stencil.diagonal c.from.ensures s.stencil.diagonal_most (own_abs s.old c.requires.old)
    c.pull-sum.result c.pull-sum.ensures.size

pub returns : goal.returns
returns c =
    let s = c.args.site.now in
    let read : AcrossSides (λ (t : Temperature) (y : ℤ). y ≡ word t.value) s.around c.map.result = search rules in
    let sum = sum_seen s c.pull-sum.result c.map.result c.requires c.pull-sum.ensures.value c.pull-sum.ensures.size read in
    let few = s.stencil.diagonal_most in
    let old = own_abs s.old c.requires.old in
    record {
      value = gap_is c.from.result s.old.value s.stencil.diagonal c.from.ensures few old c.pull-sum.result c.pull-sum.ensures.size c.unsigned_abs.result c.unsigned_abs.ensures.value (site_sum s) sum;
      most = gap-small c.from.result s.old.value s.stencil.diagonal c.from.ensures few old c.pull-sum.result c.pull-sum.ensures.size c.unsigned_abs.result c.unsigned_abs.ensures.value;
    }
