use Rattle.std.proofs.Common.{◌≡◌, None}
use Rattle.section.specs.Plan.{Plan, is_free_at, size}
use Rattle.stencil.specs.Stencils.{Stands}
use Rattle.walk.specs.Sites.{WalkableOver}
use Rattle.walk.specs.Walks.{run}
use Rattle.walk.proofs.run.run.Given as goal

abbrev pub invariant-loop-done : goal.invariant-loop-done
invariant-loop-done g l = record {
  over : WalkableOver (g.R.Rule.fair l.rule) l.rows l.grid;
  so_far : (p : Plan) → Stands p l.rows → run (g.R.Rule.step l.rule p) (is_free_at p) (size p) l.done l.initial.grid ≡ record { grid = l.grid; walks = l.done; changed = l.changed; stopped = None };
  going : l.changed ≡ 0 → l.done ≡ 0;
}
