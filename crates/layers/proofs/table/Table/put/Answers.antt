use Rattle.std.proofs.Common.{◌∙◌, length-set, rules}
use Rattle.layers.proofs.Reading.{suits, none_left}
use Rattle.layers.proofs.Writes.{entered, entered-apart}
use Rattle.layers.proofs.table.Table.put.Goals as goal

pub invariant_of-self : goal.invariant_of-self
invariant_of-self g c =
    let table = c.args.self.now in
    let told = suits table.places c.args.cell c.in-Some.place c.in-Some.ensures in
    record {
      full = length-set table.places _ _ ∙ table.full;
      once = entered-apart g.row.N table.places c.in-Some.place (record { cell = c.args.cell; laid = c.args.laid }) table.full table.once told.0 told.1;
      count = c.listed_in-self.ensures;
    }

pub returns-in-Some : goal.returns-in-Some
returns-in-Some g c =
    let table = c.args.self.now in
    let told = suits table.places c.args.cell c.in-Some.place c.in-Some.ensures in
    entered g.row.N table.places c.in-Some.place (record { cell = c.args.cell; laid = c.args.laid }) table.full table.once told.0 told.1

pub returns-in-None : goal.returns-in-None
returns-in-None g c = let left = none_left c.args.self.now.places c.args.cell c.in-None.ensures in search rules
