-- When a certificate is accepted, and the brackets that it leaves.
use Rattle.std.specs.Prelude.{ℕ, zero, suc, Bool, cond, ◌&&◌, List, pos, negsuc, int_lt, nat_lt, slice_index_or, slice_set}
use Rattle.std.specs.Int.{int_max, int_min}
use Rattle.refusal.specs.Refusals.{Check, clear, ◌then◌, at_first, fault}
use Rattle.refusal.specs.declared.types.Level.TheVariants.{Call}
use Rattle.section.specs.Limits.{outside}
use Rattle.section.specs.Plan.{Plan, size, is_free_at}
use Rattle.section.specs.Reading.{temperatures, majorants, brackets, row_bracket, widest}
use Rattle.section.specs.declared.rows.BracketRow.{BracketRow}
use Rattle.section.specs.declared.rows.Temperature.{Temperature}
use Rattle.section.specs.declared.rows.Majorant.{Majorant}
use Rattle.scan.specs.First.{first}
use Rattle.steps.specs.Steps.{same}
use Rattle.measure.specs.Measures.{cell_margin, spread, certified}
use Rattle.certificate.specs.declared.basis.Basis.{Basis}
use Rattle.certificate.specs.declared.basis.Basis.TheVariants.{Alone, Joined}

-- a fault k at the first free cell that a test finds
abbrev pub free_check : Plan → ℕ → (ℕ → Bool) → Check
free_check p k test = at_first (first (λ i. is_free_at p i && test i) (size p)) (fault Call k)

-- temperatures within 1,000 degrees
abbrev pub temperature_check : Plan → List Temperature → Check
temperature_check p us = free_check p 10 (λ i. outside (negsuc 999999999) (pos 1000000000) (temperatures us i))

abbrev pub majorant_check : Plan → List Majorant → Check
majorant_check p ws = free_check p 11 (λ i. outside (pos 0) (pos 500000) (majorants ws i))

abbrev pub margin_check : Plan → List Majorant → Check
margin_check p ws = free_check p 12 (λ i. int_lt (cell_margin p ws i) (pos 1))

abbrev pub spread_check : Plan → List Temperature → List Majorant → Check
spread_check p us ws = free_check p 13 (λ i. nat_lt 1000000000 (spread p us ws i))

-- what two brackets have in common; it is empty where its ends cross
abbrev pub common : BracketRow → BracketRow → BracketRow
common a b = record { lo = int_max a.lo b.lo; hi = int_min a.hi b.hi }

abbrev pub crossed : BracketRow → Bool
crossed b = int_lt b.hi b.lo

-- brackets that are proved already must have something in common with the certified ones
abbrev pub meeting_check : Plan → Basis → List Temperature → List Majorant → List BracketRow → Check
meeting_check p Alone us ws bs = clear
meeting_check p Joined us ws bs = free_check p 9 (λ i. crossed (common (certified p us ws i) (brackets bs i)))

-- what is proposed, each check over the whole grid before the next
abbrev pub proposal_check : Plan → List Temperature → List Majorant → Check
proposal_check p us ws = temperature_check p us then majorant_check p ws then margin_check p ws then spread_check p us ws

abbrev pub certificate_check : Plan → Basis → List Temperature → List Majorant → List BracketRow → Check
certificate_check p b us ws bs = proposal_check p us ws then meeting_check p b us ws bs

-- the bracket that a certified one leaves, over the one that the row gives
abbrev pub joined : Basis → BracketRow → BracketRow → BracketRow
joined Alone new old = new
joined Joined new old = common new old

-- a bracket that stays leaves its row as it lies
abbrev pub row_for : BracketRow → BracketRow → BracketRow
row_for new row = cond (same new.lo (row_bracket row).lo && same new.hi (row_bracket row).hi) row new

abbrev pub settled : Basis → BracketRow → BracketRow → BracketRow
settled b new row = row_for (joined b new (row_bracket row)) row

-- the grid once the free cells below n have their brackets
abbrev pub written_to : Plan → Basis → List Temperature → List Majorant → ℕ → List BracketRow → List BracketRow
written_to p b us ws zero bs = bs
written_to p b us ws (suc n) bs =
    cond (is_free_at p n) (slice_set (written_to p b us ws n bs) n (settled b (certified p us ws n) (slice_index_or bs n widest))) (written_to p b us ws n bs)

abbrev pub written : Plan → Basis → List Temperature → List Majorant → List BracketRow → List BracketRow
written p b us ws bs = written_to p b us ws (size p) bs
