-- What has happened to a study, and what that says of it.
use Rattle.std.specs.Prelude.{ℕ, ◌+◌, ◌-◌, Bool, true, false, if◌then◌else◌, ◌&&◌, List, [], ◌∷◌, ℤ, Some, None, Option, int_lt}
use Rattle.refusal.specs.Refusals.{Answer, accepted}
use Rattle.section.specs.Plan.{Plan, size, is_free_at, count_to}
use Rattle.section.specs.Reading.{brackets}
use Rattle.section.specs.declared.rows.BracketRow.{BracketRow}
use Rattle.section.specs.declared.rows.Temperature.{Temperature}
use Rattle.section.specs.declared.rows.Majorant.{Majorant}
use Rattle.layers.specs.Layers.{altered, holding}
use Rattle.steps.specs.declared.report.Raised.{Raised}
use Rattle.certificate.specs.Counting.{width}
use Rattle.study.specs.declared.types.Certificate.{Certificate}

-- a call with what it was passed, its answer, and the grid after it
pub data Event : Type 0 where
  relaxed : (before : List Temperature) (factor walks : ℤ) → Answer (ℕ × ℕ) → (after : List Temperature) → Event
  raised : (before : List Majorant) (margin walks : ℤ) → Answer Raised → (after : List Majorant) → Event
  certified : List Temperature → List Majorant → Answer Certificate → (after : List BracketRow) → Event
  tightened : (walks : ℤ) → Answer (ℕ × ℕ) → (after : List BracketRow) → Event
  pinned : (cell : ℕ) (temperature : ℤ) → Answer (Unit {0}) → Event
  released : (cell : ℕ) → Answer (Unit {0}) → Event
  asked : (cell : ℕ) → Answer BracketRow → Event
  counted : ℕ → Event
  finished : Bool → Event

-- the newest event stands first
abbrev pub History : Type 0
History = List Event

-- The cells that pins hold: where an accepted pin named the cell, and no accepted release has named it since.
abbrev pub held_after : Event → (ℕ → Option ℤ) → ℕ → Option ℤ
held_after (pinned i t (accepted x)) before = altered before i (Some t)
held_after (released i (accepted x)) before = altered before i None
held_after _ before = before

abbrev pub held_by : History → ℕ → Option ℤ
held_by [] = λ i. None
held_by (e ∷ h) = held_after e (held_by h)

-- the equations: the ground's, with those cells held
abbrev pub equations : Plan → History → Plan
equations base h = holding base (held_by h)

-- how many pins there are: those accepted, less the accepted releases
abbrev pub pins_after : Event → ℕ → ℕ
pins_after (pinned i t (accepted x)) n = n + 1
pins_after (released i (accepted x)) n = n - 1
pins_after _ n = n

abbrev pub pins_by : History → ℕ
pins_by [] = 0
pins_by (e ∷ h) = pins_after e (pins_by h)

-- Proved: a certificate was accepted, and no pin or release has been accepted since.
abbrev pub proved_after : Event → Bool → Bool
proved_after (certified us ws (accepted c) bs) before = true
proved_after (pinned i t (accepted x)) before = false
proved_after (released i (accepted x)) before = false
proved_after _ before = before

abbrev pub proved_by : History → Bool
proved_by [] = false
proved_by (e ∷ h) = proved_after e (proved_by h)

-- the bracket grid, which was bs at the start
abbrev pub grid_after : Event → List BracketRow → List BracketRow
grid_after (certified us ws a after) before = after
grid_after (tightened n a after) before = after
grid_after _ before = before

abbrev pub grid_by : List BracketRow → History → List BracketRow
grid_by bs [] = bs
grid_by bs (e ∷ h) = grid_after e (grid_by bs h)

-- the bracket of a free cell, which it has while the study is proved
abbrev pub bracket_by : List BracketRow → History → ℕ → Option BracketRow
bracket_by bs h i = if proved_by h then Some (brackets (grid_by bs h) i) else None

-- a cell with no bracket, or one wider than the tolerance, is open
abbrev pub is_wide : ℤ → Option BracketRow → Bool
is_wide tolerance None = true
is_wide tolerance (Some b) = int_lt tolerance (width b)

-- how many free cells are open
abbrev pub open_by : Plan → ℤ → List BracketRow → History → ℕ
open_by base tolerance bs h =
    count_to (λ i. is_free_at (equations base h) i && is_wide tolerance (bracket_by bs h i)) (size (equations base h))
