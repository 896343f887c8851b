-- A table of a layer: places that each list a cell with what is laid on it, or are empty.
use Rattle.std.specs.Prelude.{ℕ, ◌+◌, Bool, true, false, cond, not, ◌&&◌, List, [], ◌∷◌, is_some, Some, None, Option, ◌==◌}
use Rattle.layers.specs.declared.table.Entry.{Entry}

-- what is listed for a cell
abbrev pub lookup : {X : Type 0} → List (Option (Entry X)) → ℕ → Option X
lookup [] i = None
lookup (None ∷ places) i = lookup places i
lookup (Some e ∷ places) i = cond (e.cell == i) (Some e.laid) (lookup places i)

-- how many cells are listed
abbrev pub used : {X : Type 0} → List (Option (Entry X)) → ℕ
used [] = 0
used (None ∷ places) = used places
used (Some e ∷ places) = used places + 1

-- whether no cell is listed twice
abbrev pub apart : {X : Type 0} → List (Option (Entry X)) → Bool
apart [] = true
apart (None ∷ places) = apart places
apart (Some e ∷ places) = not (is_some (lookup places e.cell)) && apart places

-- the cell that a place lists
abbrev pub listing : {X : Type 0} → Option (Entry X) → Option ℕ
listing None = None
listing (Some e) = Some e.cell

-- whether a place lists the cell
abbrev pub lists : {X : Type 0} → Option (Entry X) → ℕ → Bool
lists None cell = false
lists (Some e) cell = e.cell == cell
