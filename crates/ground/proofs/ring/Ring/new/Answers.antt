use Rattle.std.proofs.Common.{rules}
use Rattle.ground.proofs.ring.Ring.new.Goals as goal

pub returns : goal.returns
returns c = search rules
