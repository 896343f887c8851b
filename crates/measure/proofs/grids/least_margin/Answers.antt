use Rattle.std.proofs.Common.{Some, None}
use Rattle.walk.proofs.Walking.{row_is}
use Rattle.measure.proofs.Margins.{kept_is, kept_small, margin_past, margin-here}
use Rattle.measure.proofs.Rows.{row_over}
use Rattle.measure.proofs.grids.least_margin.Goals as goal
use Rattle.measure.proofs.grids.least_margin.Goals.{in-Some, in_default}

pub margin_at-requires-clause-here : goal.margin_at-requires-clause-here
margin_at-requires-clause-here c =
    let rows = c.args.rows.now in
    let i = c.loop-cell.cell in
    let lt = c.loop-cell-test.true in
    row_over rows c.args.grid.now i c.in-Some.stencil c.requires lt (row_is rows i c.index-rows-cell.result (Some c.in-Some.stencil) lt c.index-rows-cell.is c.in-Some.is)

pub loop-cell-preserved : goal.loop-cell-preserved
loop-cell-preserved c =
    let rows = c.args.rows.now in
    let i = c.loop-cell.cell in
    let lt = c.loop-cell-test.true in
    let ws = c.args.grid.now in
    let least = c.loop-cell.least in
    elim c.match-row.branch [
      | in_default w ↦ rw w.least-is (record {
        value = λ p st. margin_past p rows st ws i least lt (c.loop-cell.invariant.value p st) (row_is rows i c.index-rows-cell.result None lt c.index-rows-cell.is w.in_default.is);
        most = c.loop-cell.invariant.most;
      })
      | in-Some w ↦ rw w.least-is (record {
        value = λ p st. rw (kept_is least w.margin_at.result w.lesser.result c.loop-cell.invariant.most w.margin_at.ensures.most w.lesser.ensures)
            (margin-here p rows st ws i least lt (c.loop-cell.invariant.value p st) w.in-Some.stencil w.margin_at.result
            (row_is rows i c.index-rows-cell.result (Some w.in-Some.stencil) lt c.index-rows-cell.is w.in-Some.is) (w.margin_at.ensures.value p st));
        most = kept_small least w.margin_at.result w.lesser.result c.loop-cell.invariant.most w.margin_at.ensures.most w.lesser.ensures;
      })
    ]
