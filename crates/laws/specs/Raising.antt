-- What the report of raising says of the plan.
use Rattle.std.specs.Prelude.{◌≡◌, ℕ, ◌≤◌, List, pos}
use Rattle.section.specs.Plan.{Plan, Free, IsMajorant}
use Rattle.section.specs.Reading.{majorants}
use Rattle.section.specs.declared.rows.Majorant.{Majorant}
use Rattle.steps.specs.Steps.{heights, limit, raise_run, report_of}
use Rattle.steps.specs.declared.report.Report.{Report}
use Rattle.steps.specs.declared.report.Report.TheVariants.{Settled, Moving, NoneAt}

-- the grid is a majorant of margin g with no negative entry, and none has less at any free cell
pub record Least (p : Plan) (g : ℕ) (ws : List Majorant) : Type 0 where
  pub natural : (i : ℕ) → Free p i → majorants ws i ≡ pos (heights ws i)
  pub majorant : IsMajorant p g (heights ws)
  pub least : (M : ℕ → ℕ) → IsMajorant p g M → (i : ℕ) → Free p i → heights ws i ≤ M i

-- no majorant of margin g stays within the limit at every free cell
abbrev pub NoneWithin : Plan → ℕ → Type 0
NoneWithin p g = (M : ℕ → ℕ) → IsMajorant p g M → ((i : ℕ) → Free p i → M i ≤ limit) → ⊥

-- what each report says of the grid that is left; a run still moving has shown nothing yet
abbrev pub Told : Plan → ℕ → List Majorant → Report → Type 0
Told p g ws Settled = Least p g ws
Told p g ws Moving = Unit {0}
Told p g ws (NoneAt i) = NoneWithin p g

-- Every report is true, whatever grid was handed in. At least one walk, since a run of none has changed nothing and reports settled.
abbrev pub RaisingLaw : Type 0
RaisingLaw =
    (p : Plan) (g n : ℕ) (ws : List Majorant) → 1 ≤ g → 1 ≤ n → Told p g (raise_run p g n ws).grid (report_of (raise_run p g n ws))
