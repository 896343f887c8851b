use Rattle.std.proofs.Common.{◌≡◌, ◌≤◌, ℤ, nat_abs, Some}
use Rattle.section.specs.Plan.{Plan}
use Rattle.stencil.specs.Stencils.{Stands}
use Rattle.measure.specs.Measures.{margin_to}
use Rattle.measure.proofs.grids.least_margin.Given as goal

abbrev pub invariant-loop-cell : goal.invariant-loop-cell
invariant-loop-cell l = record {
  value : (p : Plan) → Stands p l.rows → l.least ≡ margin_to p l.grid l.cell;
  most : (m : ℤ) → l.least ≡ Some m → nat_abs m ≤ 2500000000;
}
