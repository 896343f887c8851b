use Rattle.std.proofs.Common.{sym, ap}
use Rattle.refusal.specs.Refusals.{table_cause}
use Rattle.refusal.proofs.told.table_cause.Goals as goal

pub returns-in-PinnedAlready : goal.returns-in-PinnedAlready
returns-in-PinnedAlready c = sym (ap table_cause c.in-PinnedAlready.is)

pub returns-in-NoPin : goal.returns-in-NoPin
returns-in-NoPin c = sym (ap table_cause c.in-NoPin.is)

pub returns-in-Full : goal.returns-in-Full
returns-in-Full c = sym (ap table_cause c.in-Full.is)
