use Rattle.std.proofs.Common.{nat_abs, ap, ◌∙◌}
use Rattle.steps.specs.Steps.{FairTemperature}
use Rattle.measure.proofs.Rows.{equation_at, within, site_fair}
use Rattle.measure.proofs.Residuals.{shown}
use Rattle.measure.proofs.grids.residual_at.Goals as goal

pub look-requires : goal.look-requires
look-requires c = within FairTemperature c.args.rows.now c.args.grid.now c.requires.fair c.args.cell c.args.stencil c.requires.here

pub residual-requires : goal.residual-requires
residual-requires c =
    site_fair FairTemperature c.args.rows.now c.args.grid.now c.requires.fair c.args.cell c.args.stencil c.requires.here c.look.result c.look.ensures

pub returns-clause-value : goal.returns-clause-value
returns-clause-value c = λ p st.
    let q = equation_at c.args.rows.now c.args.cell c.args.stencil c.requires.here p st in
    c.residual.ensures.value ∙ ap nat_abs (shown p c.args.grid.now c.args.cell c.args.stencil c.look.result q c.look.ensures)
