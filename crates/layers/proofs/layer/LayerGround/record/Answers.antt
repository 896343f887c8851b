use Rattle.std.proofs.Common.{sym, ap, ◌∙◌}
use Rattle.section.specs.Plan.{at}
use Rattle.layers.proofs.Layered.{laid_in, laid_out}
use Rattle.layers.proofs.layer.LayerGround.record.Goals as goal

pub returns-then-index-cells : goal.returns-then-index-cells
returns-then-index-cells g c =
    let layer = c.args.self.now in
    laid_in (g.T.Laid.laying layer.table) (g.G.Ground.plan layer.below) _ _ _ _ c.shape.ensures.wide c.shape.ensures.high c.cells.ensures c.if-index-cells.true
    _ _ c.record.ensures c.lay_over.ensures
    ∙ ap (λ p. at p c.args.index) (sym (g.met.T.Laid.by_cells layer.table (g.G.Ground.plan layer.below)))

pub returns-else-index-cells : goal.returns-else-index-cells
returns-else-index-cells g c =
    let layer = c.args.self.now in
    laid_out (g.T.Laid.laying layer.table) (g.G.Ground.plan layer.below) _ _ _ _ c.shape.ensures.wide c.shape.ensures.high c.cells.ensures c.if-index-cells.false
    ∙ ap (λ p. at p c.args.index) (sym (g.met.T.Laid.by_cells layer.table (g.G.Ground.plan layer.below)))
