use Rattle.std.proofs.Common.{Some, None, sym, refl}
use Rattle.section.specs.Plan.{is_free_at, size}
use Rattle.walk.proofs.Running.{run-stopped, run_settled}
use Rattle.walk.proofs.run.run.Goals as goal

pub returns-in-Err : goal.returns-in-Err
returns-in-Err g c = λ p st.
    sym (run-stopped (g.R.Rule.step c.args.rule.now p) (is_free_at p) (size p) c.args.grid.now c.loop-done.grid c.loop-done.done c.loop-done.changed c.args.most
    c.loop-done-test.true (c.loop-done.invariant.so_far p st) c.loop-done.invariant.going
    (record { grid = c.once.new.grid; changed = c.in-Err.halted.changed; stopped = Some c.in-Err.halted.cell }) (c.in-Err.ensures.value p st) c.in-Err.halted.cell refl)

pub returns-then-changed-eq0 : goal.returns-then-changed-eq0
returns-then-changed-eq0 g c = λ p st.
    sym (run_settled (g.R.Rule.step c.args.rule.now p) (is_free_at p) (size p) c.args.grid.now c.loop-done.grid c.loop-done.done c.loop-done.changed c.args.most
    c.loop-done-test.true (c.loop-done.invariant.so_far p st) c.loop-done.invariant.going
    (record { grid = c.once.new.grid; changed = c.in-Ok.changed; stopped = None }) (c.in-Ok.ensures.value p st) refl c.if-changed-eq0.true)
