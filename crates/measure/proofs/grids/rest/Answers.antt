use Rattle.std.proofs.Common.{Some}
use Rattle.walk.proofs.Walking.{row_is}
use Rattle.measure.proofs.Rows.{row_over}
use Rattle.measure.proofs.grids.rest.Goals as goal

pub residual_at-requires-clause-here : goal.residual_at-requires-clause-here
residual_at-requires-clause-here c =
    let rows = c.args.rows.now in
    let i = c.loop-cell.cell in
    let lt = c.loop-cell-test.true in
    row_over rows c.args.grid.now i c.in-Some.stencil c.requires lt (row_is rows i c.index-rows-cell.result (Some c.in-Some.stencil) lt c.index-rows-cell.is c.in-Some.is)
