use Rattle.measure.proofs.Margins.{gap-small}
use Rattle.measure.proofs.at.cell_margin.Goals as goal

pub returns-clause-most : goal.returns-clause-most
returns-clause-most c =
    gap-small c.from.result c.of.result.value (rw c.from.ensures c.args.site.now.stencil.diagonal_most) c.of.result.most c.load-sum.result c.load-sum.ensures.size
