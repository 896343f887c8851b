use Rattle.std.proofs.Common.{◌∙◌, w64}
use Rattle.std.proofs.lemmas.List.{with_items_is}
use Rattle.std.proofs.lemmas.Int.{to_z-of_z}
use Rattle.replay.proofs.Making.{relax-made}
use Rattle.replay.proofs.make.relaxed.Goals as goal

pub returns : goal.returns
returns g c = λ bs.
    let filled = with_items_is c.args.temperatures c.relax.new.grid (c.relax.auto.grid ∙ c.deref_mut.ensures.len) in
    relax-made c.deref_mut.ensures.value (to_z-of_z w64 c.args.factor c.ranges.factor) (to_z-of_z w64 c.args.walks c.ranges.walks)
    c.relax.ensures.answer (filled ∙ c.relax.ensures.grid)
