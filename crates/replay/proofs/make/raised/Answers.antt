use Rattle.std.proofs.Common.{◌∙◌, w64}
use Rattle.std.proofs.lemmas.List.{with_items_is}
use Rattle.std.proofs.lemmas.Int.{to_z-of_z}
use Rattle.replay.proofs.Making.{raise-made}
use Rattle.replay.proofs.make.raised.Goals as goal

pub returns : goal.returns
returns g c = λ bs.
    let filled = with_items_is c.args.majorant c.raise.new.grid (c.raise.auto.grid ∙ c.deref_mut.ensures.len) in
    raise-made c.deref_mut.ensures.value (to_z-of_z w64 c.args.margin c.ranges.margin) (to_z-of_z w64 c.args.walks c.ranges.walks)
    c.raise.ensures.answer (filled ∙ c.raise.ensures.grid)
