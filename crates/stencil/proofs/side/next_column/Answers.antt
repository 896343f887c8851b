use Rattle.std.proofs.Common.{◌+◌, ◌<◌, ◌≡◌, arith}
use Rattle.std.proofs.lemmas.Nat.{mod_below}
use Rattle.stencil.proofs.Columns.{column_on, column_over}
use Rattle.stencil.proofs.side.next_column.Goals as goal

pub returns-then-column-shape : goal.returns-then-column-shape
returns-then-column-shape c = column_on c.args.column c.args.index c.args.shape.wide c.requires c.if-column-shape.true

pub returns-else-column-shape : goal.returns-else-column-shape
returns-else-column-shape c =
    let w = c.args.shape.wide in
    let some : 0 < w = omega (arith, c.args.shape.wide_least) in
    let last : c.args.column + 1 ≡ w = omega (arith, mod_below c.args.index w some, c.requires, c.if-column-shape.false) in
    column_over c.args.column c.args.index w c.requires last

pub overflow_add-column : goal.overflow_add-column
overflow_add-column c =
    let w = c.args.shape.wide in
    let some : 0 < w = omega (arith, c.args.shape.wide_least) in
    omega (arith, mod_below c.args.index w some, c.requires, c.args.shape.wide_most)

pub overflow_add-result : goal.overflow_add-result
overflow_add-result c = omega (arith, c.if-column-shape.true, c.args.shape.wide_most)
