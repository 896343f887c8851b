use Rattle.std.proofs.Common.{◌≡◌, ◌+◌, ℤ, Some, refl, subst, rules, w64, to_z, of_z}
use Rattle.std.proofs.lemmas.Int.{to_z-of_z}
use Rattle.refusal.specs.Refusals.{Answer, refused, accepted, answer, answer_of, fault_of}
use Rattle.layers.specs.Layers.{altered}
use Rattle.study.specs.Pins.{pins_in, pin_count, pinning_check, ChangesPins}
use Rattle.study.proofs.Pins.{refused-leaves, accepted-leaves}
use Rattle.study.proofs.Repinning.{changes-one}
use Rattle.study.proofs.types.Study.pin.Goals as goal

-- The closure's own facts speak of the temperature as it was captured, a word that reads as the number.
pub update_at-requires-clause-alone : goal.update_at-requires-clause-alone
update_at-requires-clause-alone g c = λ r after gave.
    let s = c.args.self.now in
    let i = c.args.cell in
    let plan = g.G.Ground.plan in
    let whole : to_z w64 (of_z w64 c.args.temperature) ≡ c.args.temperature = to_z-of_z w64 c.args.temperature c.ranges.temperature in
    let changes = λ (t : ℤ). ChangesPins s.layer after (pinning_check plan s.layer i t) (altered (pins_in s.layer) i (Some t)) (pin_count s.layer + 1) in
    let told = λ (t : ℤ). ◌≡◌ {A = Answer (Unit {0})} (answer_of r) (answer (pinning_check plan s.layer i t) tt) in
    changes-one plan s.layer after i (Some c.args.temperature) (pin_count s.layer + 1) (pinning_check plan s.layer i c.args.temperature) r
    (subst changes whole (search rules)) (subst told whole (search rules))

pub returns-in_err-update_at-clause-study : goal.returns-in_err-update_at-clause-study
returns-in_err-update_at-clause-study g c =
    let s = c.args.self.now in
    let i = c.args.cell in
    let layer = c.update_at.new.self in
    let plan = g.G.Ground.plan in
    let whole : to_z w64 (of_z w64 c.args.temperature) ≡ c.args.temperature = to_z-of_z w64 c.args.temperature c.ranges.temperature in
    let changes = λ (t : ℤ). ChangesPins s.layer layer (pinning_check plan s.layer i t) (altered (pins_in s.layer) i (Some t)) (pin_count s.layer + 1) in
    let told = λ (t : ℤ). ◌≡◌ {A = Answer (Unit {0})} (refused (fault_of c.in_err-update_at.field-0.0)) (answer (pinning_check plan s.layer i t) tt) in
    refused-leaves plan s _ layer (pinning_check plan s.layer i c.args.temperature) (altered (pins_in s.layer) i (Some c.args.temperature)) (pin_count s.layer + 1)
    (subst changes whole (search rules)) refl refl (fault_of c.in_err-update_at.field-0.0) (subst told whole (search rules)) refl

pub returns-clause-study : goal.returns-clause-study
returns-clause-study g c =
    let s = c.args.self.now in
    let i = c.args.cell in
    let layer = c.update_at.new.self in
    let plan = g.G.Ground.plan in
    let whole : to_z w64 (of_z w64 c.args.temperature) ≡ c.args.temperature = to_z-of_z w64 c.args.temperature c.ranges.temperature in
    let changes = λ (t : ℤ). ChangesPins s.layer layer (pinning_check plan s.layer i t) (altered (pins_in s.layer) i (Some t)) (pin_count s.layer + 1) in
    let told = λ (t : ℤ). ◌≡◌ {A = Answer (Unit {0})} (accepted tt) (answer (pinning_check plan s.layer i t) tt) in
    accepted-leaves plan s c.begin.new.self layer (pinning_check plan s.layer i c.args.temperature) (altered (pins_in s.layer) i (Some c.args.temperature)) (pin_count s.layer + 1)
    (subst changes whole (search rules)) c.begin.ensures.layer c.begin.ensures.tolerance (subst told whole (search rules)) (search rules)
