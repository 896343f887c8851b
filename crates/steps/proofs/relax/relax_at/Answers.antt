use Rattle.std.proofs.Common.{ℤ, ◌≡◌, sym, ap, ◌∙◌, arith, w64, of_z, rules}
use Rattle.number.proofs.Words.{word}
use Rattle.section.specs.declared.rows.Temperature.{Temperature}
use Rattle.stencil.specs.Sides.{AcrossSides}
use Rattle.steps.specs.AtSites.{site_sum}
use Rattle.steps.proofs.Sizes.{fair_back, own_abs, large-back, limit-back, bits_same}
use Rattle.steps.proofs.Turning.{relaxed_seen, turn_stay, turn_put}
use Rattle.steps.proofs.relax.relax_at.Goals as goal

pub invariant_of-relaxed : goal.invariant_of-relaxed
invariant_of-relaxed c = record {
  some = omega (arith, c.if-diagonal-eq0.false);
  few = c.args.site.now.stencil.diagonal_most;
  sum_most = rw (large-back c.pull-sum.result c.pull-sum.ensures.size) c.pull-sum.ensures.size;
  old_most = rw (fair_back c.args.site.now.old c.requires.old) (own_abs c.args.site.now.old c.requires.old);
}

pub returns-then-value-old-clause-value : goal.returns-then-value-old-clause-value
returns-then-value-old-clause-value c =
    let s = c.args.site.now in
    let new = c.relaxed-value.result in
    let read : AcrossSides (λ (t : Temperature) (y : ℤ). y ≡ word t.value) s.around c.map.result = search rules in
    turn_stay c.args.factor.factor s.stencil.diagonal (site_sum s) s.old.value c.if-diagonal-eq0.false new
    (relaxed_seen c.args.factor.factor s c.pull-sum.result c.map.result new c.requires c.pull-sum.ensures.value c.pull-sum.ensures.size read c.relaxed-value.ensures.value)
    (bits_same new s.old.value (limit-back new c.relaxed-value.ensures.least c.relaxed-value.ensures.most) (fair_back s.old c.requires.old) c.if-value-old.true)

pub returns-else-value-old-clause-value : goal.returns-else-value-old-clause-value
returns-else-value-old-clause-value c =
    let s = c.args.site.now in
    let new = c.relaxed-value.result in
    let read : AcrossSides (λ (t : Temperature) (y : ℤ). y ≡ word t.value) s.around c.map.result = search rules in
    let back = limit-back new c.relaxed-value.ensures.least c.relaxed-value.ensures.most in
    turn_put c.args.factor.factor s.stencil.diagonal (site_sum s) s.old.value c.if-diagonal-eq0.false (word new)
    (back ∙ relaxed_seen c.args.factor.factor s c.pull-sum.result c.map.result new c.requires c.pull-sum.ensures.value c.pull-sum.ensures.size read c.relaxed-value.ensures.value)
    (λ e. c.if-value-old.false (ap (of_z w64) (sym back ∙ e)))
