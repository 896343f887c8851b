-- What each call leaves and answers is what its event says.
use Rattle.std.proofs.Common.{◌≡◌, ℕ, ◌+◌, ◌-◌, Bool, true, false, cond, ◌&&◌, List, ◌∷◌, ℤ, Some, None, Ok, Err, Result, sym, refl, ap, ◌∙◌}
use Rattle.std.proofs.Math.Bool.{and-true}
use mathlib.Core.Path.{fun_ext}
use Rattle.refusal.specs.Refusals.{Check, clear, refuse, ◌then◌, answer, unless_refused, Checked}
use Rattle.refusal.specs.declared.types.Refusal.{Refusal}
use Rattle.section.specs.Plan.{Plan, size, is_free_at, count_to, free_count}
use Rattle.section.specs.Reading.{plain, brackets}
use Rattle.section.specs.declared.rows.BracketRow.{BracketRow}
use Rattle.section.specs.declared.rows.Temperature.{Temperature}
use Rattle.section.specs.declared.rows.Majorant.{Majorant}
use Rattle.section.specs.declared.types.Bracket.{Bracket}
use Rattle.layers.specs.Layers.{altered, holding}
use Rattle.certificate.specs.Counting.{open_count}
use Rattle.study.specs.Calls.{Standing, standing, pinning, anew, proved_check}
use Rattle.study.specs.declared.types.Certificate.{Certificate}
use Rattle.study.specs.declared.types.State.TheVariants.{Unproved, Proved}
use Rattle.history.specs.Events.{certified, pinned, released, History, held_by, pins_by, equations, grid_by, is_wide}
use Rattle.replay.specs.Calls.{bracket_answer}
use Rattle.replay.proofs.Leading.{standing_by, pinning_by}

-- where nothing is proved every free cell is open
all_open : (p : Plan) → count_to (λ i. is_free_at p i && true) (size p) ≡ free_count p
all_open p = ap (λ test. count_to test (size p)) (fun_ext (λ i. and-true (is_free_at p i)))

module _ (ground : Plan) (tolerance : ℤ) (start : List BracketRow) (h : History) where
  pub certify-stands :
      (us : List Temperature) (ws : List Majorant) (k : Check) (x : Certificate) (w : List BracketRow) →
      unless_refused k (standing_by ground tolerance start h) (standing Proved (open_count (equations ground h) tolerance w))
      ≡ standing_by ground tolerance start (certified us ws (answer k x) (unless_refused k (grid_by start h) w) ∷ h)
  certify-stands us ws clear x w = refl
  certify-stands us ws (refuse f) x w = refl

  pub pin_left :
      (i : ℕ) (t : ℤ) (k : Check) →
      unless_refused k (pinning_by ground tolerance start h) (anew ground (altered (held_by h) i (Some t)) (pins_by h + 1))
      ≡ pinning_by ground tolerance start (pinned i t (answer k tt) ∷ h)
  pin_left i t clear =
      let pins = altered (held_by h) i (Some t) in ap (λ n. pinning pins (pins_by h + 1) (standing Unproved n)) (sym (all_open (holding ground pins)))
  pin_left i t (refuse f) = refl

  pub release_left :
      (i : ℕ) (k : Check) →
      unless_refused k (pinning_by ground tolerance start h) (anew ground (altered (held_by h) i None) (pins_by h - 1))
      ≡ pinning_by ground tolerance start (released i (answer k tt) ∷ h)
  release_left i clear =
      let pins = altered (held_by h) i None in ap (λ n. pinning pins (pins_by h - 1) (standing Unproved n)) (sym (all_open (holding ground pins)))
  release_left i (refuse f) = refl

-- brackets are written by tightening only where they are proved
module _ (p : Plan) (tolerance : ℤ) (bs w : List BracketRow) where
  abbrev opens : Bool → List BracketRow → ℕ
  opens proved grid = count_to (λ i. is_free_at p i && is_wide tolerance (cond proved (Some (brackets grid i)) None)) (size p)

  abbrev stands : Bool → List BracketRow → Standing
  stands proved grid = standing (cond proved Proved Unproved) (opens proved grid)

  pub tighten-stands :
      (proved : Bool) (l m : Check) →
      unless_refused (l then proved_check (cond proved Proved Unproved) then m) (stands proved bs) (standing (cond proved Proved Unproved) (open_count p tolerance w))
      ≡ stands proved (unless_refused (l then proved_check (cond proved Proved Unproved) then m) bs w)
  tighten-stands true clear clear = refl
  tighten-stands true clear (refuse f) = refl
  tighten-stands false clear m = refl
  tighten-stands true (refuse f) m = refl
  tighten-stands false (refuse f) m = refl

-- the answer to the question for a bracket
pub ask_is :
    (r : Result Bracket Refusal) (k : Check) (x : BracketRow) → Checked r k (λ b. plain b ≡ x) →
    bracket_answer r ≡ answer k x
ask_is (Ok b) k x so = ap (answer clear) so.1 ∙ sym (ap (λ j. answer j x) so.0)
ask_is (Err e) k x so = sym (ap (λ j. answer j x) so)
