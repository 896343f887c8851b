use Rattle.std.proofs.Common.{rules}
use Rattle.section.proofs.read.RecordFromRow.from.Goals as goal

pub returns-in-Free : goal.returns-in-Free
returns-in-Free c = search rules
