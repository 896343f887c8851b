use Rattle.std.proofs.Common.{leb, ltb, ◌+◌, ◌-◌, ◌%◌, true, arith}
use Rattle.stencil.proofs.Nearness.{near_if}
use Rattle.stencil.proofs.lay.look_around.Goals as goal

pub returns-clause-near : goal.returns-clause-near
returns-clause-near g c =
    let p = g.G.Ground.plan c.args.ground.now in
    let i = c.args.index in
    let w = c.args.shape.wide in
    record {
      north = c.look_toward.ensures.near (near_if p i (i - w) (leb w i) _ c.north.ensures (omega arith, omega arith));
      west = c.look_toward-2.ensures.near (near_if p i (i - 1) (ltb 0 (i % w)) _ c.west.ensures (omega arith, omega arith));
      east = c.look_toward-3.ensures.near (near_if p i (i + 1) (ltb (i % w + 1) w) _ c.east.ensures (omega arith, omega arith));
      south = c.look_toward-4.ensures.near (near_if p i (i + w) true _ c.south.ensures (omega arith, omega arith));
    }
