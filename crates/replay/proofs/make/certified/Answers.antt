use Rattle.replay.proofs.Making.{certify-made}
use Rattle.replay.proofs.make.certified.Goals as goal

pub returns : goal.returns
returns g c =
    let done = c.certify.ensures in
    certify-made c.deref.ensures.value c.deref-2.ensures.value done.answer done.grid done.study
