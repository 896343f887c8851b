use Rattle.std.proofs.Common.{◌≡◌, ◌≤◌}
use Rattle.section.specs.Plan.{Plan, count_to}
use Rattle.stencil.specs.Stencils.{Stands}
use Rattle.certificate.specs.Counting.{is_open}
use Rattle.certificate.proofs.count.count_open.Given as goal

abbrev pub invariant-loop-index : goal.invariant-loop-index
invariant-loop-index l = record {
  few : l.«open» ≤ l.index;
  so_far : (p : Plan) → Stands p l.rows → l.«open» ≡ count_to (is_open p l.tolerance.width l.grid) l.index;
}
