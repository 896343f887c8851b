use Rattle.std.proofs.Common.{◌≡◌, length}
use Rattle.section.specs.Plan.{Plan}
use Rattle.stencil.specs.Stencils.{Stands}
use Rattle.certificate.specs.Certifying.{written_to}
use Rattle.certificate.proofs.proposal.Proposal.write.Given as goal

abbrev pub invariant-loop-cell : goal.invariant-loop-cell
invariant-loop-cell l = record {
  count : length l.grid ≡ length l.initial.grid;
  so_far : (p : Plan) → Stands p l.self.base → l.grid ≡ written_to p l.basis l.self.us l.self.ws l.cell l.initial.grid;
}
