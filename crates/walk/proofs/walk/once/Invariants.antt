use Rattle.std.proofs.Common.{◌≡◌, ◌≤◌, None}
use Rattle.section.specs.Plan.{Plan, is_free_at}
use Rattle.stencil.specs.Stencils.{Stands}
use Rattle.walk.specs.Sites.{WalkableOver}
use Rattle.walk.specs.Walks.{walk}
use Rattle.walk.proofs.walk.once.Given as goal

abbrev pub invariant-loop-index : goal.invariant-loop-index
invariant-loop-index g l = record {
  few : l.changed ≤ l.index;
  over : WalkableOver (g.R.Rule.fair l.rule) l.rows l.grid;
  so_far : (p : Plan) → Stands p l.rows → walk (g.R.Rule.step l.rule p) (is_free_at p) l.index l.initial.grid ≡ record { grid = l.grid; changed = l.changed; stopped = None };
}
