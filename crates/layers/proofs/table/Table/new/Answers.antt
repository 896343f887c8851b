use Rattle.std.proofs.Common.{sym}
use lib.ListN.{length-replicate}
use Rattle.layers.proofs.Reading.{lookup_empty, used_empty, apart_empty}
use Rattle.layers.proofs.table.Table.new.Goals as goal

pub invariant_of-result : goal.invariant_of-result
invariant_of-result g c = record { full = length-replicate _ _; once = apart_empty g.row.X.Denot g.row.N; count = sym (used_empty g.row.X.Denot g.row.N) }

pub returns : goal.returns
returns g c = (lookup_empty g.row.X.Denot g.row.N, used_empty g.row.X.Denot g.row.N)
