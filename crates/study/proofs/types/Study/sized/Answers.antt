use Rattle.std.proofs.Common.{◌≡◌, arith}
use Rattle.std.proofs.lemmas.Bool.Decides.{nat_tests}
use Rattle.section.specs.Plan.{size}
use Rattle.study.specs.Studies.{equations_of}
use Rattle.section.proofs.Cells.{shape_size}
use Rattle.study.proofs.types.Study.sized.Goals as goal

pub returns-then-length-cells : goal.returns-then-length-cells
returns-then-length-cells g c =
    let p = equations_of g.G.Ground.plan c.args.self.now in
    let cells : c.cells.result ≡ size p = shape_size p c.shape.result c.cells.result c.shape.ensures.wide c.shape.ensures.high c.cells.ensures in
    grind (arith, nat_tests)

pub returns : goal.returns
returns g c =
    let p = equations_of g.G.Ground.plan c.args.self.now in
    let cells : c.cells.result ≡ size p = shape_size p c.shape.result c.cells.result c.shape.ensures.wide c.shape.ensures.high c.cells.ensures in
    grind (arith, nat_tests)
