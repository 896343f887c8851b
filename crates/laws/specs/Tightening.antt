-- What the runs of tightening keep.
use Rattle.std.specs.Prelude.{ℕ, List, ◌≤ℤ◌}
use Rattle.section.specs.Plan.{Plan, Free}
use Rattle.section.specs.declared.rows.BracketRow.{BracketRow}
use Rattle.laws.specs.Exact.{Bracketed}
use Rattle.section.specs.Reading.{brackets}
use Rattle.steps.specs.Tightening.{lows, highs, tighten_run}

-- what has become of the rows xs: no exact solution is lost, and no free cell's bracket is wider
pub record Tightened (p : Plan) (xs ys : List BracketRow) : Type 0 where
  pub keeps : Bracketed p (brackets xs) → Bracketed p (brackets ys)
  pub lower : (i : ℕ) → Free p i → lows xs i ≤ℤ lows ys i
  pub upper : (i : ℕ) → Free p i → highs ys i ≤ℤ highs xs i

-- every run tightens, stopped or not
abbrev pub TighteningLaw : Type 0
TighteningLaw = (p : Plan) (n : ℕ) (xs : List BracketRow) → Tightened p xs (tighten_run p n xs).grid
