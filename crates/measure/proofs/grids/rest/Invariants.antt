use Rattle.std.proofs.Common.{◌≡◌, ◌≤◌}
use Rattle.section.specs.Plan.{Plan}
use Rattle.stencil.specs.Stencils.{Stands}
use Rattle.measure.specs.Measures.{rest_to}
use Rattle.measure.proofs.grids.rest.Given as goal

abbrev pub invariant-loop-cell : goal.invariant-loop-cell
invariant-loop-cell l = record {
  value : (p : Plan) → Stands p l.rows → l.rest ≡ rest_to p l.grid l.cell;
  most : l.rest ≤ 18000000000000;
}
