-- What each call answers and leaves, by the history before it: refused for the first cause in its order, and otherwise what is defined.
use Rattle.std.specs.Prelude.{◌≡◌, if◌then◌else◌, ◌&&◌, List, [], ◌∷◌, length, ℤ, ◌==◌, ⊤}
use Rattle.refusal.specs.Refusals.{answer}
use Rattle.section.specs.Plan.{Plan}
use Rattle.section.specs.Reading.{brackets}
use Rattle.section.specs.declared.rows.BracketRow.{BracketRow}
use Rattle.layers.specs.Layers.{pin_checks, release_checks}
use Rattle.study.specs.Calls.{relax_answer, relax_grid, raise_answer, raise_grid, certify_answer, certify_grid, tighten_answer, tighten_grid, ask_check}
use Rattle.study.specs.declared.types.State.{State}
use Rattle.study.specs.declared.types.State.TheVariants.{Unproved, Proved}
use Rattle.history.specs.Events.{Event, relaxed, raised, certified, tightened, pinned, released, asked, counted, finished, History, held_by, pins_by, equations, proved_by, grid_by, open_by}

abbrev pub state_by : History → State
state_by h = if proved_by h then Proved else Unproved

module _ (base : Plan) (tolerance : ℤ) (bs : List BracketRow) where
  abbrev pub Does : Event → History → Type 0
  Does (relaxed us k n a vs) h = (a ≡ relax_answer (equations base h) us k n) × (vs ≡ relax_grid (equations base h) us k n)
  Does (raised ws g n a vs) h = (a ≡ raise_answer (equations base h) ws g n) × (vs ≡ raise_grid (equations base h) ws g n)
  Does (certified us ws a after) h =
      (a ≡ certify_answer (equations base h) tolerance (state_by h) us ws (grid_by bs h)) × (after ≡ certify_grid (equations base h) (state_by h) us ws (grid_by bs h))
  Does (tightened n a after) h = (a ≡ tighten_answer (equations base h) (state_by h) (grid_by bs h) n) × (after ≡ tighten_grid (equations base h) (state_by h) (grid_by bs h) n)
  Does (pinned i t a) h = a ≡ answer (pin_checks base (held_by h) (pins_by h) i t) tt
  Does (released i a) h = a ≡ answer (release_checks base (held_by h) i) tt
  Does (asked i a) h = a ≡ answer (ask_check (equations base h) (state_by h) (length (grid_by bs h)) i) (brackets (grid_by bs h) i)
  Does (counted n) h = n ≡ open_by base tolerance bs h
  Does (finished b) h = b ≡ proved_by h && open_by base tolerance bs h == 0

  -- every event of a history, by the history before it
  abbrev pub Done : History → Type 0
  Done [] = ⊤
  Done (e ∷ h) = Does e h × Done h
