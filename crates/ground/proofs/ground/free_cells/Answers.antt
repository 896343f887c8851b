use Rattle.std.proofs.Common.{◌∙◌, ap}
use Rattle.section.specs.Plan.{is_free_at, count_to}
use Rattle.section.proofs.Cells.{shape_size}
use Rattle.ground.proofs.Plans.{count_range}
use Rattle.ground.proofs.ground.free_cells.Goals as goal

pub returns : goal.returns
returns g c =
    let p = g.G.Ground.plan c.args.ground.now in
    c.free_among.ensures ∙ count_range (is_free_at p) _ ∙ ap (count_to (is_free_at p)) (shape_size p c.shape.result c.cells.result c.shape.ensures.wide c.shape.ensures.high c.cells.ensures)
