use Rattle.std.proofs.Common.{◌≡◌, sym, subst, ◌∙◌, arith}
use Rattle.std.proofs.lemmas.List.{set-get_or}
use Rattle.section.specs.Plan.{Plan, is_free_at}
use Rattle.stencil.specs.Stencils.{Stands}
use Rattle.certificate.proofs.Writing.{write_past, write_here}
use Rattle.certificate.proofs.proposal.Proposal.write.Goals as goal
use Rattle.certificate.proofs.proposal.Proposal.write.Goals.{then-has_row, else-has_row}

pub loop-cell-preserved : goal.loop-cell-preserved
loop-cell-preserved c =
    let s = c.args.self.now in
    let i = c.loop-cell.cell in
    let free : (p : Plan) → Stands p s.base → is_free_at p i ≡ c.has_row.result = λ p st. sym (c.has_row.ensures p (subst (λ v. Stands p v.base) (sym c.self.view_is) st)) in
    record {
      count = c.if-has_row.auto.grid ∙ c.loop-cell.invariant.count;
      so_far = elim c.if-has_row.branch [
        | then-has_row w ↦ λ p st. rw w.grid-is (write_here p c.args.basis s.us s.ws c.args.grid.now i c.loop-cell.grid (c.loop-cell.invariant.so_far p st)
            w.bracket_at.result w.settled.result _ (free p st ∙ w.if-has_row.true) (omega (arith, c.loop-cell-test.true, c.loop-cell.invariant.count)) (w.bracket_at.ensures p st) w.settled.ensures)
        | else-has_row w ↦ λ p st. rw (w.grid-is, set-get_or c.loop-cell.grid i _) (write_past p c.args.basis s.us s.ws c.args.grid.now i c.loop-cell.grid (c.loop-cell.invariant.so_far p st) (free p st ∙ w.if-has_row.false))
      ];
    }
