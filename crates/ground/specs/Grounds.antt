-- What the three kinds of ground mean: for each the check of its numbers, and the cell at an index.
use Rattle.std.specs.Prelude.{ℕ, ◌+◌, ◌*◌, ◌/◌, ◌%◌, cond, List, [], ◌∷◌, ℤ, pos, negsuc, ◌*ℤ◌, ◌==◌, slice_index_or}
use Rattle.refusal.specs.Refusals.{Check}
use Rattle.section.specs.Limits.{numbers, number, temperature, heating}
use Rattle.section.specs.Plan.{Cell, free, held}
use Rattle.section.specs.Reading.{row_cell}
use Rattle.section.specs.declared.rows.Row.{Row}
use Rattle.section.specs.declared.rows.Row.TheVariants.{Void as VoidRow}

abbrev pub row : ℕ → ℕ → ℕ
row w i = i / w

abbrev pub column : ℕ → ℕ → ℕ
column w i = i % w

-- A slab: a cold-store floor as a rectangle whose four sides are held, the first named winning at a corner.
abbrev pub slab_check : ℤ → ℤ → ℤ → ℤ → ℤ → Check
slab_check top bottom first last q = numbers 1 (temperature top ∷ temperature bottom ∷ temperature first ∷ temperature last ∷ heating q ∷ [])

abbrev pub slab_cell : ℕ → ℕ → ℤ → ℤ → ℤ → ℤ → ℤ → ℕ → Cell
slab_cell w h top bottom first last q i =
    cond (row w i == 0) (held top)
    (cond (row w i + 1 == h) (held bottom)
    (cond (column w i == 0) (held first)
    (cond (column w i + 1 == w) (held last)
    (free 1 1 1 1 0 q))))

-- A ring: a section through a round tank, its axis along column 0. Weights and heat grow with the radius.
abbrev pub ring_check : ℤ → ℤ → ℤ → ℤ → Check
ring_check top bottom last q = numbers 1 (temperature top ∷ temperature bottom ∷ temperature last ∷ number q (negsuc 999999999) (pos 1000000000) ∷ [])

abbrev pub ring_free : ℕ → ℤ → Cell
ring_free j q = free (2 * j + 1) (2 * j) (2 * j + 2) (2 * j + 1) 0 (q *ℤ pos (2 * j + 1))

abbrev pub ring_cell : ℕ → ℕ → ℤ → ℤ → ℤ → ℤ → ℕ → Cell
ring_cell w h top bottom last q i =
    cond (row w i == 0) (held top)
    (cond (row w i + 1 == h) (held bottom)
    (cond (column w i + 1 == w) (held last)
    (ring_free (column w i) q)))

-- A listed ground: the caller's table; past its end all is void.
abbrev pub listed_cell : List Row → ℕ → Cell
listed_cell rows i = row_cell (slice_index_or rows i VoidRow)
