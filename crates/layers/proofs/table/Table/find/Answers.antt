use Rattle.std.proofs.Common.{sym, ◌∙◌, rules}
use Rattle.layers.proofs.Reading.{lookup_missed, lookup_met, none_listed}
use Rattle.layers.proofs.table.Table.find.Goals as goal

pub returns-in_err-place : goal.returns-in_err-place
returns-in_err-place g c = c.from_residual.ensures ∙ sym (lookup_missed c.args.self.now.places c.args.cell c.in_err-place.ensures)

pub returns : goal.returns
returns g c =
    let met = lookup_met c.args.self.now.places c.args.cell c.in_ok-place.place c.index-self-place.result c.in_ok-place.ensures c.index-self-place.is in
    search rules

pub returns-then-self-eq0 : goal.returns-then-self-eq0
returns-then-self-eq0 g c =
    let table = c.args.self.now in
    sym (none_listed table.places c.args.cell (sym table.count ∙ c.if-self-eq0.true))
