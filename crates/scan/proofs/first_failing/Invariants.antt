use Rattle.std.proofs.Common.{◌≡◌, ℕ, ◌+◌, ◌*◌, Bool, None}
use Rattle.scan.specs.First.{first, Tests}
use Rattle.scan.proofs.first_failing.Given as goal

abbrev pub invariant-loop-column : goal.invariant-loop-column
invariant-loop-column g l =
    (test : ℕ → Bool) → Tests (goal.F-post g l.fails) test (l.shape.wide * l.shape.high) → first test (l.row * l.shape.wide + l.column) ≡ None

abbrev pub invariant-loop-row : goal.invariant-loop-row
invariant-loop-row g l = (test : ℕ → Bool) → Tests (goal.F-post g l.fails) test (l.shape.wide * l.shape.high) → first test (l.row * l.shape.wide) ≡ None
