-- What a call leaves of a layer's table.
use Rattle.std.specs.Prelude.{◌≡◌, ℕ, ◌+◌, Bool, true, false, cond, not, ◌&&◌, List, is_some, Some, None, Option, nat_le}
use Rattle.layers.specs.Tables.{lookup, used}
use Rattle.layers.specs.Layers.{altered}
use Rattle.layers.specs.declared.table.Entry.{Entry}

-- whether a table of n places has none for the cell
abbrev pub full : {X : Type 0} → ℕ → List (Option (Entry X)) → ℕ → Bool
full n places cell = not (is_some (lookup places cell)) && nat_le n (used places)

-- the cell is listed, in the place that it had or in an empty one
pub record Entered {X : Type 0} (n : ℕ) (before : List (Option (Entry X))) (cell : ℕ) (laid : X) (after : List (Option (Entry X))) : Type 0 where
  pub room : full n before cell ≡ false
  pub found : (j : ℕ) → lookup after j ≡ altered (lookup before) cell (Some laid) j
  pub count : used after ≡ cond (is_some (lookup before cell)) (used before) (used before + 1)

-- the cell is listed no more
pub record Removed {X : Type 0} (before : List (Option (Entry X))) (cell : ℕ) (after : List (Option (Entry X))) : Type 0 where
  pub was : is_some (lookup before cell) ≡ true
  pub found : (j : ℕ) → lookup after j ≡ altered (lookup before) cell None j
  pub count : used after + 1 ≡ used before
