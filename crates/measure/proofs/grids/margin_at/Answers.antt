use Rattle.std.proofs.Common.{◌∙◌}
use Rattle.steps.specs.Steps.{FairMajorant}
use Rattle.measure.proofs.Rows.{equation_at, within, site_fair}
use Rattle.measure.proofs.Margins.{margin-back, shown}
use Rattle.measure.proofs.grids.margin_at.Goals as goal

pub look-requires : goal.look-requires
look-requires c = within FairMajorant c.args.rows.now c.args.grid.now c.requires.fair c.args.cell c.args.stencil c.requires.here

pub cell_margin-requires : goal.cell_margin-requires
cell_margin-requires c =
    site_fair FairMajorant c.args.rows.now c.args.grid.now c.requires.fair c.args.cell c.args.stencil c.requires.here c.look.result c.look.ensures

pub returns-clause-value : goal.returns-clause-value
returns-clause-value c = λ p st.
    let q = equation_at c.args.rows.now c.args.cell c.args.stencil c.requires.here p st in
    margin-back c.cell_margin.result c.cell_margin.ensures.most ∙ c.cell_margin.ensures.value ∙ shown p c.args.grid.now c.args.cell c.args.stencil c.look.result q c.look.ensures
