use Rattle.std.proofs.Common.{sym, ◌∙◌}
use Rattle.section.specs.Plan.{Plan}
use Rattle.stencil.specs.Stencils.{Stands}
use Rattle.certificate.specs.Proposals.{MeasureOf}
use Rattle.certificate.proofs.Clears.{mild_walkable, fair_walkable}
use Rattle.certificate.proofs.Passing.{useful_of, certifiable_of}
use Rattle.certificate.proofs.proposal.Proposal.new.Goals as goal

pub margins_enough-requires : goal.margins_enough-requires
margins_enough-requires c =
    let l = c.requires.majorant in
    record {
      laid = l;
      fair = record { plan = l.plan; stands = l.stands; walkable = fair_walkable l.plan c.args.majorant.now l.count (sym (c.in_ok-majorant_fair.ensures l.plan l.stands)) };
    }

pub measured-measure-requires : goal.measured-measure-requires
measured-measure-requires c =
    let l = c.requires.majorant in
    let t = c.requires.temperatures in
    record {
      mild = record { plan = t.plan; stands = t.stands; walkable = mild_walkable t.plan c.args.temperatures.now t.count (sym (c.in_ok-temperatures_fair.ensures t.plan t.stands)) };
      fair = record { plan = l.plan; stands = l.stands; walkable = fair_walkable l.plan c.args.majorant.now l.count (sym (c.in_ok-majorant_fair.ensures l.plan l.stands)) };
    }

pub spreads_near-requires : goal.spreads_near-requires
spreads_near-requires c =
    let us = c.args.temperatures.now in
    let ws = c.args.majorant.now in
    let m = c.measured-measure.result in
    let l = c.requires.majorant in
    let of : (p : Plan) → Stands p c.args.rows.now → MeasureOf p us ws m = λ p st. record { rest_is = c.measured-measure.ensures.rest p st; margin_is = c.measured-measure.ensures.margin p st } in
    record {
      laid = l;
      fair = record { plan = l.plan; stands = l.stands; walkable = fair_walkable l.plan ws l.count (sym (c.in_ok-majorant_fair.ensures l.plan l.stands)) };
      some = λ p k st. useful_of p us ws m (of p st) (sym (c.in_ok-margins_enough.ensures p st)) k;
      measured = of;
    }

pub invariant_of-result : goal.invariant_of-result
invariant_of-result c =
    let us = c.args.temperatures.now in
    let ws = c.args.majorant.now in
    let m = c.measured-measure.result in
    let l = c.requires.majorant in
    let t = c.requires.temperatures in
    let of : (p : Plan) → Stands p c.args.rows.now → MeasureOf p us ws m = λ p st. record { rest_is = c.measured-measure.ensures.rest p st; margin_is = c.measured-measure.ensures.margin p st } in
    record {
      laid = t;
      certifiable = λ p st. certifiable_of p us ws m (of p st) (sym (c.in_ok-margins_enough.ensures p st))
          (mild_walkable p us (t.count ∙ sym t.stands.count ∙ st.count) (sym (c.in_ok-temperatures_fair.ensures p st)))
          (fair_walkable p ws (l.count ∙ sym l.stands.count ∙ st.count) (sym (c.in_ok-majorant_fair.ensures p st)))
          (sym (c.in_ok-spreads_near.ensures p st));
    }
