-- What proposed temperatures and a majorant certify.
use Rattle.std.specs.Prelude.{ℕ, zero, suc, ◌*◌, max, cond, List, ℤ, pos, ◌+ℤ◌, ◌-ℤ◌, ◌*ℤ◌, Some, None, Option, unsigned_abs}
use Rattle.std.specs.Int.{int_min}
use Rattle.number.specs.Rounding.{ceil}
use Rattle.section.specs.Plan.{Plan, size, is_free_at, diag, pull, load}
use Rattle.section.specs.Reading.{temperatures}
use Rattle.section.specs.declared.rows.BracketRow.{BracketRow}
use Rattle.section.specs.declared.rows.Temperature.{Temperature}
use Rattle.section.specs.declared.rows.Majorant.{Majorant}
use Rattle.steps.specs.Steps.{heights}

-- S - d * u, by how much a cell's equation fails
abbrev pub residual : Plan → List Temperature → ℕ → ℤ
residual p us i = pull p (temperatures us) i -ℤ pos (diag p i) *ℤ temperatures us i

-- the largest absolute residual over the free cells below n
abbrev pub rest_to : Plan → List Temperature → ℕ → ℕ
rest_to p us zero = 0
rest_to p us (suc n) = cond (is_free_at p n) (max (rest_to p us n) (unsigned_abs (residual p us n))) (rest_to p us n)

-- over all of them, and 0 with none
abbrev pub rest : Plan → List Temperature → ℕ
rest p us = rest_to p us (size p)

-- d * w less the sum over the free neighbours
abbrev pub cell_margin : Plan → List Majorant → ℕ → ℤ
cell_margin p ws i = pos (diag p i * heights ws i) -ℤ pos (load p (heights ws) i)

abbrev pub lesser : Option ℤ → ℤ → ℤ
lesser None z = z
lesser (Some y) z = int_min y z

-- the smallest margin of the free cells below n, if there are any
abbrev pub margin_to : Plan → List Majorant → ℕ → Option ℤ
margin_to p ws zero = None
margin_to p ws (suc n) = cond (is_free_at p n) (Some (lesser (margin_to p ws n) (cell_margin p ws n))) (margin_to p ws n)

abbrev pub or0 : Option ℤ → ℤ
or0 None = pos 0
or0 (Some z) = z

-- over all of them, and 0 with none
abbrev pub margin : Plan → List Majorant → ℤ
margin p ws = or0 (margin_to p ws (size p))

-- rest * w over the margin, rounded up
abbrev pub spread_of : ℕ → ℕ → ℕ → ℕ
spread_of r m w = ceil (r * w) m

abbrev pub spread : Plan → List Temperature → List Majorant → ℕ → ℕ
spread p us ws i = spread_of (rest p us) (unsigned_abs (margin p ws)) (heights ws i)

-- the certified bracket of a cell: its temperature less and plus its spread
abbrev pub around : ℤ → ℕ → BracketRow
around u e = record { lo = u -ℤ pos e; hi = u +ℤ pos e }

abbrev pub certified : Plan → List Temperature → List Majorant → ℕ → BracketRow
certified p us ws i = around (temperatures us i) (spread p us ws i)
