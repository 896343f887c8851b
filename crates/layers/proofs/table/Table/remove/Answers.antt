use Rattle.std.proofs.Common.{◌∙◌, length-set, rules}
use Rattle.layers.proofs.Reading.{lookup_missed, place_lists}
use Rattle.layers.proofs.Writes.{removed, cleared-apart}
use Rattle.layers.proofs.table.Table.remove.Goals as goal

pub invariant_of-self : goal.invariant_of-self
invariant_of-self g c =
    let table = c.args.self.now in
    let told = place_lists table.places c.args.cell c.in-Some.place c.in-Some.ensures in
    record { full = length-set table.places _ _ ∙ table.full; once = cleared-apart table.places _ _ told.1 table.once; count = c.listed_in-self.ensures }

pub returns-in-Some : goal.returns-in-Some
returns-in-Some g c =
    let table = c.args.self.now in
    removed table.places _ _ (place_lists table.places c.args.cell c.in-Some.place c.in-Some.ensures).1 table.once

pub returns-in-None : goal.returns-in-None
returns-in-None g c = let missed = lookup_missed c.args.self.now.places c.args.cell c.in-None.ensures in search rules
