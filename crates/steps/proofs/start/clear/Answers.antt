use Rattle.std.proofs.Common.{◌≡◌, sym, ap, ◌∙◌, subst, arith}
use Rattle.section.specs.Plan.{Plan, size}
use Rattle.walk.specs.Sites.{Walkable}
use Rattle.steps.specs.Steps.{clear_to, cleared, FairMajorant}
use Rattle.steps.proofs.Clearing.{cleared_walkable}
use Rattle.steps.proofs.start.clear.Goals as goal

pub returns-clause-fair : goal.returns-clause-fair
returns-clause-fair g c =
    let p : Plan = g.G.Ground.plan c.args.laid.now in
    let end : c.loop-index.index ≡ size p = omega (arith, c.loop-index-test.false, c.loop-index.auto.index-end, c.rows-row-items.ensures.count) in
    let whole : cleared p c.args.grid.now ≡ c.loop-index.grid = sym (c.loop-index.invariant ∙ ap (λ k. clear_to p k c.args.grid.now) end) in
    subst (Walkable FairMajorant p) whole (cleared_walkable p c.args.grid.now c.requires)
