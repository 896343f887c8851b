use Rattle.std.proofs.Common.{◌≡◌, ◌-◌, None, rules}
use Rattle.refusal.specs.Refusals.{Answer, accepted, answer, answer_of}
use Rattle.layers.specs.Layers.{altered}
use Rattle.study.specs.Pins.{pins_in, pin_count, releasing_check, ChangesPins}
use Rattle.study.proofs.Pins.{accepted-leaves}
use Rattle.study.proofs.Repinning.{changes-one}
use Rattle.study.proofs.types.Study.release.Goals as goal

pub update_at-requires-clause-alone : goal.update_at-requires-clause-alone
update_at-requires-clause-alone g c = λ r after gave.
    let s = c.args.self.now in
    let i = c.args.cell in
    let plan = g.G.Ground.plan in
    let changes : ChangesPins s.layer after (releasing_check plan s.layer i) (altered (pins_in s.layer) i None) (pin_count s.layer - 1) = search rules in
    let told : ◌≡◌ {A = Answer (Unit {0})} (answer_of r) (answer (releasing_check plan s.layer i) tt) = search rules in
    changes-one plan s.layer after i None (pin_count s.layer - 1) (releasing_check plan s.layer i) r changes told

pub returns-clause-study : goal.returns-clause-study
returns-clause-study g c =
    let s = c.args.self.now in
    let i = c.args.cell in
    let layer = c.update_at.new.self in
    let plan = g.G.Ground.plan in
    let changes : ChangesPins s.layer layer (releasing_check plan s.layer i) (altered (pins_in s.layer) i None) (pin_count s.layer - 1) = search rules in
    let told : ◌≡◌ {A = Answer (Unit {0})} (accepted tt) (answer (releasing_check plan s.layer i) tt) = search rules in
    accepted-leaves plan s c.begin.new.self layer (releasing_check plan s.layer i) (altered (pins_in s.layer) i None) (pin_count s.layer - 1)
    changes c.begin.ensures.layer c.begin.ensures.tolerance told (search rules)
