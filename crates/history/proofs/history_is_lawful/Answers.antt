use Rattle.history.proofs.Points.{history_law}
use Rattle.history.proofs.history_is_lawful.Goals as goal

pub returns : goal.returns
returns c = history_law
