use Rattle.laws.proofs.Tighten.{tightening_law}
use Rattle.laws.proofs.tightening_is_sound.Goals as goal

pub returns : goal.returns
returns c = tightening_law
