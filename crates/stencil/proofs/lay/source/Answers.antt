use Rattle.std.proofs.Common.{◌≡◌, w64, SFits, arith, rules}
use Rattle.std.proofs.lemmas.Int.{to_z-of_z}
use Rattle.number.proofs.Words.{word}
use Rattle.stencil.proofs.Toward.{small-back, heat_abs}
use Rattle.stencil.proofs.lay.source.Goals as goal

pub returns-clause-size : goal.returns-clause-size
returns-clause-size c =
    let f : SFits w64 c.sum_of_five.result = search rules in
    let whole : word c.sum_of_five.result ≡ c.sum_of_five.result = to_z-of_z w64 c.sum_of_five.result f in
    rw whole (omega (
      arith,
      c.sum_of_five.ensures.size,
      small-back c.args.own.heat (heat_abs c.args.own.heat c.args.own.heat_least c.args.own.heat_most),
      small-back c.args.sides.north.given c.args.sides.north.small,
      small-back c.args.sides.west.given c.args.sides.west.small,
      small-back c.args.sides.east.given c.args.sides.east.small,
      small-back c.args.sides.south.given c.args.sides.south.small,
    ))
