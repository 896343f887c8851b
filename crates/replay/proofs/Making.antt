-- What each call needs to have been made.
use Rattle.std.proofs.Common.{◌≡◌, ℕ, List, [], ◌∷◌, length, ℤ, nat_abs, vec_items, Result, Vec, sym, refl, ap, ap₂, ◌∙◌}
use Rattle.std.specs.declared.alloc.Global.{Global}
use Rattle.refusal.specs.Refusals.{Check, Answer, answer, answer_of, Checked}
use Rattle.refusal.specs.declared.types.Refusal.{Refusal}
use Rattle.section.specs.Limits.{numbers}
use Rattle.section.specs.Plan.{Plan}
use Rattle.section.specs.Reading.{plain, brackets}
use Rattle.section.specs.declared.rows.BracketRow.{BracketRow}
use Rattle.section.specs.declared.rows.Temperature.{Temperature}
use Rattle.section.specs.declared.rows.Majorant.{Majorant}
use Rattle.section.specs.declared.types.Bracket.{Bracket}
use Rattle.layers.specs.Layers.{holding, pin_checks, release_checks}
use Rattle.study.specs.Pins.{pins_in, pin_count}
use Rattle.certificate.specs.Certifying.{written}
use Rattle.steps.specs.Tightening.{tighten_run}
use Rattle.steps.specs.declared.report.Raised.{Raised as Report}
use Rattle.study.specs.Calls.{Pinning, length_check, walks, relax_answer, relax_grid, raise_answer, raise_grid, basis_of, certify_check, certificate_of, certify_answer, certify_grid, certify_standing, tighten_answer, tighten_grid, tighten_standing, ask_check, pin_leaves, release_leaves}
use Rattle.study.specs.Studies.{standing_of, pinning_of, Becomes, Repinned}
use Rattle.study.specs.declared.types.Certificate.{Certificate}
use Rattle.study.specs.declared.types.State.{State}
use Rattle.study.specs.declared.types.Study.{Study}
use Rattle.history.specs.Doing.{state_by, Does}
use Rattle.history.specs.Events.{Event as Happened, certified, tightened, pinned, released, History, held_by, pins_by, equations, proved_by, grid_by}
use Rattle.replay.specs.Calls.{Handed, passed, happened}
use Rattle.replay.specs.Replays.{Led, Made}
use Rattle.replay.specs.declared.types.Call.{Call}
use Rattle.replay.specs.declared.types.Call.TheVariants.{Relax, Raise, Certify, Tighten, Pin, Release, Bracket as Ask}
use Rattle.replay.specs.declared.types.Answer.TheVariants.{Relaxed, Raised, Certified, Tightened, Pinned, Released, Bracket as Asked}
use Rattle.replay.specs.declared.types.Event.{Event}
use Rattle.replay.proofs.Leading.{ap3, ap4, standing_by, pinning_by, held_is, equations_are, standing_is, pinned_is, pinning_is, unchanged, becomes, leads_on}
use Rattle.replay.proofs.Leaving.{certify-stands, tighten-stands, pin_left, release_left, ask_is}

-- the equations of a study, and its tolerance
abbrev laid : {G : Type 0} → Plan → Study G → Plan
laid ground s = holding ground (pins_in s.layer)

abbrev wide : {G : Type 0} → Study G → ℤ
wide s = s.tolerance.width

-- the event that a call makes
abbrev new : Plan → Call → Event → List BracketRow → History → Happened
new ground c e start h = happened ground start h (passed c) (passed e.call) e.answer

module _ {G : Type 0} {ground : Plan} {s s' : Study G} {bs cs : List BracketRow} where
  module _ (c : Call) (e : Event) where
    -- a call whose event says what it leaves
    made :
        (x : Pinning) → Handed c e → Repinned s s' x →
        ((start : List BracketRow) (h : History) → Led ground s start h bs →
        Does ground (wide s) start (new ground c e start h) h × (x ≡ pinning_by ground (wide s) start (new ground c e start h ∷ h)) × (cs ≡ grid_by start (new ground c e start h ∷ h))) →
        Made ground s bs c e s' cs
    made x handed so says = record {
      below = so.below;
      tolerance = so.tolerance;
      handed = handed;
      does = λ start h led. let y = says start h led in (y.0, leads_on s s' ground start (new ground c e start h ∷ h) cs x so y.1 y.2);
    }

  pub certify-made :
      {v : Vec Temperature Global} {w : Vec Majorant Global} {us : List Temperature} {ws : List Majorant} {r : Result Certificate Refusal} → us ≡ vec_items v → ws ≡ vec_items w →
      answer_of r ≡ certify_answer (laid ground s) (wide s) s.state us ws bs → cs ≡ certify_grid (laid ground s) s.state us ws bs →
      Becomes s s' (certify_standing (laid ground s) (wide s) (standing_of s) us ws bs) →
      Made ground s bs (Certify v w) (record { call = Certify v w; answer = Certified r }) s' cs
  certify-made {v = v} {w = w} {us = us} {ws = ws} {r = r} ev ew told left so =
      made (Certify v w) (record { call = Certify v w; answer = Certified r }) _
      (refl, refl)
      (becomes s s' (certify_standing (laid ground s) (wide s) (standing_of s) us ws bs) so)
      (λ start h led.
      let q = equations_are led in
      let xs = vec_items v in
      let ys = vec_items w in
      let now = grid_by start h in
      let p : Plan = equations ground h in
      let k : Check = certify_check p (state_by h) xs ys now in
      let x : Certificate = certificate_of p (wide s) (basis_of (state_by h)) xs ys now in
      let grid : List BracketRow = written p (basis_of (state_by h)) xs ys now in
      let after : List BracketRow = certify_grid p (state_by h) xs ys now in
      let told' : answer_of r ≡ answer k x =
      told ∙ ap₂ (λ a b. certify_answer (laid ground s) (wide s) s.state a b bs) ev ew ∙ ap3 (λ a b d. certify_answer a (wide s) b xs ys d) q led.state led.grid in
      let left' : cs ≡ after = left ∙ ap₂ (λ a b. certify_grid (laid ground s) s.state a b bs) ev ew ∙ ap3 (λ a b d. certify_grid a b xs ys d) q led.state led.grid in
      let stood : certify_standing (laid ground s) (wide s) (standing_of s) us ws bs ≡ standing_by ground (wide s) start (certified xs ys (answer_of r) after ∷ h) =
      ap₂ (λ a b. certify_standing (laid ground s) (wide s) (standing_of s) a b bs) ev ew
      ∙ ap3 (λ a b d. certify_standing a (wide s) b xs ys d) q (standing_is led) led.grid
      ∙ certify-stands ground (wide s) start h xs ys k x grid
      ∙ ap (λ a. standing_by ground (wide s) start (certified xs ys a after ∷ h)) (sym told') in
      ((told', refl), pinned_is led stood, left'))

  pub tighten-made :
      {n n' : ℤ} {r : Result (ℕ × ℕ) Refusal} → n' ≡ n →
      answer_of r ≡ tighten_answer (laid ground s) s.state bs n' → cs ≡ tighten_grid (laid ground s) s.state bs n' →
      Becomes s s' (tighten_standing (laid ground s) (wide s) (standing_of s) bs n') →
      Made ground s bs (Tighten n) (record { call = Tighten n'; answer = Tightened r }) s' cs
  tighten-made {n = n} {n' = n'} {r = r} en told left so =
      made (Tighten n) (record { call = Tighten n'; answer = Tightened r }) _
      en
      (becomes s s' (tighten_standing (laid ground s) (wide s) (standing_of s) bs n') so)
      (λ start h led.
      let q = equations_are led in
      let now = grid_by start h in
      let p : Plan = equations ground h in
      let stood : tighten_standing (laid ground s) (wide s) (standing_of s) bs n' ≡ standing_by ground (wide s) start (tightened n (answer_of r) (tighten_grid p (state_by h) now n) ∷ h) =
      ap4 (λ a b d e. tighten_standing a (wide s) b d e) q (standing_is led) led.grid en
      ∙ tighten-stands p (wide s) now (tighten_run p (nat_abs n) now).grid (proved_by h) (length_check p (length now)) (numbers 1 (walks n ∷ [])) in
      ((told ∙ ap4 tighten_answer q led.state led.grid en, refl), pinned_is led stood, left ∙ ap4 tighten_grid q led.state led.grid en))

-- calls that leave the brackets as they were
module _ {G : Type 0} {ground : Plan} {s s' : Study G} {bs : List BracketRow} where
  pub pin-made :
      {i : ℕ} {t t' : ℤ} {r : Result (Unit {0}) Refusal} → t' ≡ t → answer_of r ≡ answer (pin_checks ground (pins_in s.layer) (pin_count s.layer) i t') tt →
      Repinned s s' (pin_leaves ground (pinning_of s) i t') →
      Made ground s bs (Pin i t) (record { call = Pin i t'; answer = Pinned r }) s' bs
  pin-made {i = i} {t = t} {t' = t'} {r = r} et told so =
      made (Pin i t) (record { call = Pin i t'; answer = Pinned r }) (pin_leaves ground (pinning_of s) i t')
      (refl, et) so
      (λ start h led.
      let k : Check = pin_checks ground (held_by h) (pins_by h) i t in
      let told' : answer_of r ≡ answer k tt = told ∙ ap3 (λ a b z. answer (pin_checks ground a b i z) tt) (held_is led) led.count et in (
        told',
        ap₂ (λ x z. pin_leaves ground x i z) (pinning_is led) et
            ∙ pin_left ground (wide s) start h i t k
            ∙ ap (λ a. pinning_by ground (wide s) start (pinned i t a ∷ h)) (sym told'),
        led.grid,
      ))

  pub release-made :
      {i : ℕ} {r : Result (Unit {0}) Refusal} → answer_of r ≡ answer (release_checks ground (pins_in s.layer) i) tt →
      Repinned s s' (release_leaves ground (pinning_of s) i) →
      Made ground s bs (Release i) (record { call = Release i; answer = Released r }) s' bs
  release-made {i = i} {r = r} told so =
      made (Release i) (record { call = Release i; answer = Released r }) (release_leaves ground (pinning_of s) i)
      refl so
      (λ start h led.
      let k : Check = release_checks ground (held_by h) i in
      let told' : answer_of r ≡ answer k tt = told ∙ ap (λ a. answer (release_checks ground a i) tt) (held_is led) in (
        told',
        ap (λ x. release_leaves ground x i) (pinning_is led)
            ∙ release_left ground (wide s) start h i k
            ∙ ap (λ a. pinning_by ground (wide s) start (released i a ∷ h)) (sym told'),
        led.grid,
      ))

-- calls that leave the study and its brackets as they were
module _ {G : Type 0} {ground : Plan} {s : Study G} {bs : List BracketRow} where
  -- an event that says nothing new of the study
  same :
      (c : Call) (e : Event) → Handed c e →
      ((start : List BracketRow) (h : History) → Led ground s start h bs →
      Does ground (wide s) start (new ground c e start h) h
      × (pinning_by ground (wide s) start h ≡ pinning_by ground (wide s) start (new ground c e start h ∷ h))
      × (grid_by start h ≡ grid_by start (new ground c e start h ∷ h))) →
      Made ground s bs c e s bs
  same c e handed says =
      made c e (pinning_of s) handed (unchanged s)
      (λ start h led. let y = says start h led in (y.0, pinning_is led ∙ y.1, led.grid ∙ y.2))

  pub relax-made :
      {v v' : Vec Temperature Global} {us : List Temperature} {k n k' n' : ℤ} {r : Result (ℕ × ℕ) Refusal} → us ≡ vec_items v → k' ≡ k → n' ≡ n →
      answer_of r ≡ relax_answer (laid ground s) us k' n' → vec_items v' ≡ relax_grid (laid ground s) us k' n' →
      Made ground s bs (Relax v k n) (record { call = Relax v' k' n'; answer = Relaxed r }) s bs
  relax-made {v = v} {v' = v'} {k = k} {n = n} {k' = k'} {n' = n'} {r = r} ev ek en told left =
      same (Relax v k n) (record { call = Relax v' k' n'; answer = Relaxed r })
      (ek, en)
      (λ start h led.
      let q = equations_are led in
      ((told ∙ ap4 relax_answer q ev ek en, left ∙ ap4 relax_grid q ev ek en), refl, refl))

  pub raise-made :
      {v v' : Vec Majorant Global} {ws : List Majorant} {g n g' n' : ℤ} {r : Result Report Refusal} → ws ≡ vec_items v → g' ≡ g → n' ≡ n →
      answer_of r ≡ raise_answer (laid ground s) ws g' n' → vec_items v' ≡ raise_grid (laid ground s) ws g' n' →
      Made ground s bs (Raise v g n) (record { call = Raise v' g' n'; answer = Raised r }) s bs
  raise-made {v = v} {v' = v'} {g = g} {n = n} {g' = g'} {n' = n'} {r = r} ev eg en told left =
      same (Raise v g n) (record { call = Raise v' g' n'; answer = Raised r })
      (eg, en)
      (λ start h led.
      let q = equations_are led in
      ((told ∙ ap4 raise_answer q ev eg en, left ∙ ap4 raise_grid q ev eg en), refl, refl))

  pub ask-made :
      {i : ℕ} {r : Result Bracket Refusal} →
      Checked r (ask_check (laid ground s) s.state (length bs) i) (λ b. plain b ≡ brackets bs i) →
      Made ground s bs (Ask i) (record { call = Ask i; answer = Asked r }) s bs
  ask-made {i = i} {r = r} told =
      same (Ask i) (record { call = Ask i; answer = Asked r })
      refl
      (λ start h led.
      let asking : Plan → State → List BracketRow → Answer BracketRow = λ p k x. answer (ask_check p k (length x) i) (brackets x i) in
      let answered = ask_is r (ask_check (laid ground s) s.state (length bs) i) (brackets bs i) told in
      (answered ∙ ap3 asking (equations_are led) led.state led.grid, refl, refl))
