use Rattle.std.proofs.Common.{rules}
use Rattle.ground.proofs.slab.Slab.new.Goals as goal

pub returns-in_err-last : goal.returns-in_err-last
returns-in_err-last c = search rules

pub returns-in_err-within : goal.returns-in_err-within
returns-in_err-within c = search rules

pub returns : goal.returns
returns c = search rules
