use Rattle.laws.proofs.Raise.{raising_law}
use Rattle.laws.proofs.raising_is_least.Goals as goal

pub returns : goal.returns
returns c = raising_law
