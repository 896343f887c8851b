-- The open cells: free, with a bracket wider than the tolerance.
use Rattle.std.specs.Prelude.{ℕ, Bool, ◌&&◌, List, ℤ, ◌-ℤ◌, int_lt}
use Rattle.section.specs.Plan.{Plan, size, is_free_at, count_to}
use Rattle.section.specs.Reading.{brackets}
use Rattle.section.specs.declared.rows.BracketRow.{BracketRow}

abbrev pub width : BracketRow → ℤ
width b = b.hi -ℤ b.lo

abbrev pub is_open : Plan → ℤ → List BracketRow → ℕ → Bool
is_open p tolerance bs i = is_free_at p i && int_lt tolerance (width (brackets bs i))

abbrev pub open_count : Plan → ℤ → List BracketRow → ℕ
open_count p tolerance bs = count_to (is_open p tolerance bs) (size p)
