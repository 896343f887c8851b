-- What tightening does at a cell.
use Rattle.std.specs.Prelude.{ℕ, cond, ◌&&◌, List, ℤ, ◌==◌, int_lt}
use Rattle.std.specs.Int.{int_max, int_min}
use Rattle.number.specs.Rounding.{floor, ceiling}
use Rattle.section.specs.Plan.{Plan, size, is_free_at, diag, pull}
use Rattle.section.specs.Reading.{brackets}
use Rattle.section.specs.declared.rows.BracketRow.{BracketRow}
use Rattle.walk.specs.Walks.{Run, run}
use Rattle.walk.specs.declared.types.Turn.{Turn}
use Rattle.walk.specs.declared.types.Turn.TheVariants.{Stay, Put, Stop}
use Rattle.steps.specs.Steps.{same}

-- the ends of a cell's bracket
abbrev pub lows : List BracketRow → ℕ → ℤ
lows xs j = (brackets xs j).lo

abbrev pub highs : List BracketRow → ℕ → ℤ
highs xs j = (brackets xs j).hi

-- the larger of lo and S over d rounded down, the smaller of hi and S over d rounded up
abbrev pub tighter : BracketRow → ℤ → ℤ → ℕ → BracketRow
tighter b low high d = record { lo = int_max b.lo (floor low d); hi = int_min b.hi (ceiling high d) }

-- ends that cross stop the walk; a bracket that stays leaves its row as it lies
abbrev pub narrow_to : BracketRow → BracketRow → Turn BracketRow
narrow_to new old = cond (int_lt new.hi new.lo) Stop (cond (same new.lo old.lo && same new.hi old.hi) Stay (Put new))

-- with S over the lower ends and S over the upper ends; where d is 0 the bracket stays
abbrev pub tighten_turn : ℕ → ℤ → ℤ → BracketRow → Turn BracketRow
tighten_turn d low high old = cond (d == 0) Stay (narrow_to (tighter old low high d) old)

abbrev pub tightening : Plan → List BracketRow → ℕ → Turn BracketRow
tightening p xs i = tighten_turn (diag p i) (pull p (lows xs) i) (pull p (highs xs) i) (brackets xs i)

-- a run of at most n walks
abbrev pub tighten_run : Plan → ℕ → List BracketRow → Run BracketRow
tighten_run p n xs = run (tightening p) (is_free_at p) (size p) n xs
