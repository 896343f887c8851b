use Rattle.std.proofs.Common.{Some, refl, arith}
use Rattle.number.proofs.Words.{back}
use Rattle.walk.proofs.Walking.{row_is, row-free, free_true}
use Rattle.certificate.proofs.propose.fn.margins_enough.is_slack.Goals as goal

pub margin_at-requires : goal.margin_at-requires
margin_at-requires c =
    let rows = c.captures.rows.now in
    let i = c.args.cell in
    let st = c.in-Some.stencil in
    let w = c.requires.fair in
    let e = row_is rows i c.index-rows-cell.result (Some st) c.requires.row c.index-rows-cell.is c.in-Some.is in
    record { fair = w; here = record { plan = w.plan; stands = w.stands; equation = row-free w.plan rows i st w.stands c.requires.row e } }

pub returns-in-Some : goal.returns-in-Some
returns-in-Some c = λ p stands.
    let rows = c.captures.rows.now in
    let i = c.args.cell in
    let st = c.in-Some.stencil in
    let e = row_is rows i c.index-rows-cell.result (Some st) c.requires.row c.index-rows-cell.is c.in-Some.is in
    let q = row-free p rows i st stands c.requires.row e in
    rw (free_true p i q.free, back c.margin_at.result (omega (arith, c.margin_at.ensures.most)), c.margin_at.ensures.value p stands) refl
