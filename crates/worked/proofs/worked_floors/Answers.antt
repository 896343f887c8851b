use Rattle.std.proofs.Common.{refl}
use Rattle.section.specs.Plan.{cells_of, links, diag, heat, entry, mass, pull, load}
use Rattle.worked.proofs.worked_floors.Goals as goal

-- by computing every case
pub returns : goal.returns
unfolding cells_of links diag heat entry mass pull load
returns c = record { count = refl; right = refl }
