use Rattle.std.proofs.Common.{◌^◌, ◌<◌, pos, ◌*ℤ◌, arith, w64, SFits}
use mir.Val.{hbits}
use Rattle.std.proofs.lemmas.Int.{to_z-of_z, to_z_pos, ints}
use Rattle.ground.proofs.Radius.{heat-size, within-heat}
use Rattle.ground.proofs.ring.Ring.heat.Goals as goal

pub returns : goal.returns
returns c =
    let ring = c.args.self.now in
    let fits-q : SFits w64 ring.q = omega (arith, ints) in
    let part : c.args.part < 2 ^ hbits w64 = omega arith in
    let told = within-heat _ (heat-size ring.q c.args.part ring.q_least ring.q_most c.requires) in
    let fits : SFits w64 (ring.q *ℤ pos c.args.part) = told.0 in
    (simp (to_z-of_z, to_z_pos), (simp (to_z-of_z, to_z_pos) told.1, simp (to_z-of_z, to_z_pos) told.2))
