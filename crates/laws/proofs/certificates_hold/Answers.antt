use Rattle.laws.proofs.Joining.{certificate_law}
use Rattle.laws.proofs.certificates_hold.Goals as goal

pub returns : goal.returns
returns c = certificate_law
