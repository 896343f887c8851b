-- What is printed of the rows of a grid.
use Rattle.std.specs.Prelude.{ℕ, List, ◌++◌, codes}
use Rattle.std.specs.Fmt.{signed_decimal}
use Rattle.section.specs.declared.rows.BracketRow.{BracketRow}

-- its two ends
abbrev pub bracket_text : BracketRow → List ℕ
bracket_text b = signed_decimal b.lo ++ codes ".." ++ signed_decimal b.hi
