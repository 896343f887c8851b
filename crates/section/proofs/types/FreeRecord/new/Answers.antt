use Rattle.std.proofs.Common.{rules}
use Rattle.section.proofs.types.FreeRecord.new.Goals as goal

pub returns-in_err-loss : goal.returns-in_err-loss
returns-in_err-loss c = search rules

pub returns-in_err-within : goal.returns-in_err-within
returns-in_err-within c = search rules

pub returns : goal.returns
returns c = search rules
