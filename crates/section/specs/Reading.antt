-- How plain rows read: a table's bad row as void, a grid's bad row as the widest bracket.
use Rattle.std.specs.Prelude.{ℕ, List, ℤ, pos, negsuc, slice_index_or, unsigned_abs}
use Rattle.refusal.specs.Refusals.{Check, clear, refuse}
use Rattle.section.specs.Limits.{free_check, held_check, bracket_check}
use Rattle.section.specs.Plan.{Cell, free, held, void}
use Rattle.section.specs.declared.rows.Row.{Row}
use Rattle.section.specs.declared.rows.Row.TheVariants.{Free as FreeR, Held as HeldR, Void as VoidR}
use Rattle.section.specs.declared.rows.FreeRow.{FreeRow}
use Rattle.section.specs.declared.rows.BracketRow.{BracketRow}
use Rattle.section.specs.declared.rows.Temperature.{Temperature}
use Rattle.section.specs.declared.rows.Majorant.{Majorant}
use Rattle.section.specs.declared.types.Bracket.{Bracket}

abbrev pub or_void : Check → Cell → Cell
or_void clear c = c
or_void (refuse f) c = void

abbrev free_cell : FreeRow → Cell
free_cell r =
    or_void (free_check r.north r.west r.east r.south r.loss r.heat)
    (free (unsigned_abs r.north) (unsigned_abs r.west) (unsigned_abs r.east) (unsigned_abs r.south) (unsigned_abs r.loss) r.heat)

abbrev pub row_cell : Row → Cell
row_cell (FreeR r) = free_cell r
row_cell (HeldR t) = or_void (held_check t) (held t)
row_cell VoidR = void

abbrev pub widest : BracketRow
widest = record { lo = negsuc 1999999999; hi = pos 2000000000 }

abbrev pub or_widest : Check → BracketRow → BracketRow
or_widest clear b = b
or_widest (refuse f) b = widest

-- the bracket that a row reads as
abbrev pub row_bracket : BracketRow → BracketRow
row_bracket r = or_widest (bracket_check r.lo r.hi) r

abbrev pub plain : Bracket → BracketRow
plain b = record { lo = b.lo; hi = b.hi }

-- the entry of a grid at a cell
abbrev pub temperatures : List Temperature → ℕ → ℤ
temperatures us j = (slice_index_or us j (record { value = pos 0 })).value

abbrev pub majorants : List Majorant → ℕ → ℤ
majorants ws j = (slice_index_or ws j (record { value = pos 0 })).value

abbrev pub brackets : List BracketRow → ℕ → BracketRow
brackets bs j = row_bracket (slice_index_or bs j widest)
