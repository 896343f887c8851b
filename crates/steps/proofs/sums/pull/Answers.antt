use Rattle.std.proofs.Common.{◌≤◌, nat_abs, arith}
use Rattle.steps.proofs.Sizes.{parts_small, large-back}
use Rattle.steps.proofs.sums.pull.Goals as goal

pub sum_of_five-requires : goal.sum_of_five-requires
sum_of_five-requires c =
    omega (arith, parts_small c.args.stencil.now c.args.entries c.requires c.weighed-n.result c.weighed-w.result c.weighed-e.result c.weighed-s.result c.weighed-n.ensures.size c.weighed-w.ensures.size c.weighed-e.ensures.size c.weighed-s.ensures.size)

pub returns-clause-size : goal.returns-clause-size
returns-clause-size c =
    let parts = parts_small c.args.stencil.now c.args.entries c.requires c.weighed-n.result c.weighed-w.result c.weighed-e.result c.weighed-s.result c.weighed-n.ensures.size c.weighed-w.ensures.size c.weighed-e.ensures.size c.weighed-s.ensures.size in
    let size : nat_abs c.sum_of_five.result ≤ 13000000000000 = omega (arith, c.sum_of_five.ensures.size, parts) in
    rw (large-back c.sum_of_five.result size) size
