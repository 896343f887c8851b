use Rattle.std.proofs.Common.{◌≡◌}
use Rattle.steps.specs.Steps.{clear_to}
use Rattle.steps.proofs.start.clear.Given as goal

abbrev pub invariant-loop-index : goal.invariant-loop-index
invariant-loop-index g l = l.grid ≡ clear_to (g.G.Ground.plan l.laid) l.index l.initial.grid
