use Rattle.std.proofs.Common.{sym}
use Rattle.section.specs.Plan.{Plan}
use Rattle.certificate.proofs.Clears.{mild_walkable}
use Rattle.study.proofs.relax.relax_laid.Goals as goal

pub run-requires : goal.run-requires
run-requires g c =
    let p : Plan = g.G.Ground.plan c.args.laid.now in
    record { plan = p; stands = c.rows-rows.ensures; walkable = mild_walkable p c.args.grid.now c.requires (sym (c.in_ok-temperatures_fair.ensures p c.rows-rows.ensures)) }
