use Rattle.std.proofs.Common.{◌≡◌, ◌∙◌, arith, rules}
use Rattle.number.proofs.Words.{back}
use Rattle.stencil.specs.Sides.{AcrossSides}
use Rattle.stencil.specs.declared.types.Arm.{Arm}
use Rattle.stencil.specs.declared.types.Side.{Side}
use Rattle.stencil.proofs.Equations.{equation_is}
use Rattle.stencil.proofs.Nearness.{arms_near}
use Rattle.stencil.proofs.lay.equation.Goals as goal

pub returns : goal.returns
returns g c =
    let arms : AcrossSides (λ (s : Side) (a : Arm). a ≡ s.arm) c.look_around-sides.result c.map.result = search rules in
    record {
      equation = equation_is (g.G.Ground.plan c.args.ground.now) c.args.index c.args.own c.requires.here c.look_around-sides.result c.look_around-sides.ensures.sides _
          arms c.diagonal.ensures (back c.source.result (omega (arith, c.source.ensures.size)) ∙ c.source.ensures.value);
      near = arms_near (g.G.Ground.plan c.args.ground.now) c.args.index c.look_around-sides.result c.map.result arms c.look_around-sides.ensures.near;
    }
