use Rattle.std.proofs.Common.{◌≡◌, ℕ, ◌+◌, ◌*◌, None, sym, ap, ◌∙◌, subst, add_assoc, mul_comm, arith}
use Rattle.scan.specs.First.{first}
use Rattle.scan.proofs.Firsts.{first_past, first_found, within, next_row}
use Rattle.scan.proofs.first_failing.Goals as goal
use Rattle.scan.proofs.first_failing.Goals.{then-loop-row-test+then-loop-column-test+then-fails, else-loop-row-test}

pub loop-column-preserved : goal.loop-column-preserved
loop-column-preserved g c = λ test agree.
    let k : ℕ = c.loop-row.row * c.args.shape.wide + c.loop-column.column in
    let lt = within c.loop-row.row c.loop-column.column c.args.shape.wide c.args.shape.high c.loop-row-test.true c.loop-column-test.true in
    rw (sym (add_assoc (c.loop-row.row * c.args.shape.wide) c.loop-column.column 1))
    (first_past test k (c.loop-column.invariant test agree) (sym (agree k c.fails.result lt c.fails.ensures) ∙ c.if-fails.false))

pub loop-row-preserved : goal.loop-row-preserved
loop-row-preserved g c = λ test agree.
    let end : c.loop-column.column ≡ c.args.shape.wide = omega (arith, c.loop-column-test.false, c.loop-column.auto.column-end) in
    let next : c.loop-row.row * c.args.shape.wide + c.loop-column.column ≡ (c.loop-row.row + 1) * c.args.shape.wide = rw end (sym (next_row c.loop-row.row c.args.shape.wide)) in
    subst (λ (k : ℕ). first test k ≡ None) next (c.loop-column.invariant test agree)

pub returns : goal.returns
returns g c = λ test agree.
    let n : ℕ = c.args.shape.wide * c.args.shape.high in
    elim c.loop-row-test.branch [
      | then-loop-row-test+then-loop-column-test+then-fails w ↦
          let k : ℕ = c.loop-row.row * c.args.shape.wide + w.loop-column.column in
          let lt = within c.loop-row.row w.loop-column.column c.args.shape.wide c.args.shape.high w.loop-row-test.true w.loop-column-test.true in
          w.result-is ∙ sym (first_found test k n (w.loop-column.invariant test agree) (sym (agree k w.fails.result lt w.fails.ensures) ∙ w.if-fails.true) lt)
      | else-loop-row-test w ↦
          let end : c.loop-row.row ≡ c.args.shape.high = omega (arith, w.loop-row-test.false, c.loop-row.auto.row-end) in
          let whole : c.loop-row.row * c.args.shape.wide ≡ n = ap (λ (k : ℕ). k * c.args.shape.wide) end ∙ mul_comm c.args.shape.high c.args.shape.wide in
          w.result-is ∙ sym (subst (λ (k : ℕ). first test k ≡ None) whole (c.loop-row.invariant test agree))
    ]
