use Rattle.std.proofs.Common.{sym, ap, ◌∙◌}
use Rattle.refusal.specs.Refusals.{cause_of}
use Rattle.refusal.proofs.types.Refusal.cause.Goals as goal

pub returns-in-NoSuchCell : goal.returns-in-NoSuchCell
returns-in-NoSuchCell c = sym (ap cause_of c.in-NoSuchCell.is)

pub returns-in-NotFree : goal.returns-in-NotFree
returns-in-NotFree c = sym (ap cause_of c.in-NotFree.is)

pub returns-in-OutsideLimits : goal.returns-in-OutsideLimits
returns-in-OutsideLimits c = sym (ap cause_of c.in-OutsideLimits.is)

pub returns-in-GridLength : goal.returns-in-GridLength
returns-in-GridLength c = sym (ap cause_of c.in-GridLength.is)

pub returns-in-Temperature : goal.returns-in-Temperature
returns-in-Temperature c = sym (ap cause_of c.in-Temperature.is)

pub returns-in-Majorant : goal.returns-in-Majorant
returns-in-Majorant c = sym (ap cause_of c.in-Majorant.is)

pub returns-in-Margin : goal.returns-in-Margin
returns-in-Margin c = sym (ap cause_of c.in-Margin.is)

pub returns-in-Table : goal.returns-in-Table
returns-in-Table c = c.table_cause.ensures ∙ sym (ap cause_of c.in-Table.is)
