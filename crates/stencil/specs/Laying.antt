-- What is kept of a plan that is laid out, and how a plan may change at one cell.
use Rattle.std.specs.Prelude.{◌≡◌, ℕ, ◌+◌, ◌<◌, ◌≤◌, ◌≢◌, List, length, Some, None, Option, slice_index_or}
use Rattle.section.specs.Plan.{Plan, meant, at, size}
use Rattle.section.specs.declared.types.Record.{Record}
use Rattle.section.specs.declared.types.Record.TheVariants.{Void}
use Rattle.stencil.specs.Sides.{OnSides}
use Rattle.stencil.specs.Stencils.{Stands}
use Rattle.stencil.specs.declared.types.Stencil.{Stencil}

-- the records are those of the plan
pub record RecordsOf (p : Plan) (records : List Record) : Type 0 where
  pub count : length records ≡ size p
  pub cells : (k : ℕ) → k < size p → meant (slice_index_or records k Void) ≡ at p k

-- two cells are no further apart than a cell and the one below it
abbrev pub Near : Plan → ℕ → ℕ → Type 0
Near p i j = (i ≤ j + p.wide) × (j ≤ i + p.wide)

abbrev pub NearIf : Plan → ℕ → Option ℕ → Type 0
NearIf p i (Some j) = Near p i j
NearIf p i None = Unit {0}

-- the arms of a row lead no further than that
abbrev pub ArmsNear : Plan → ℕ → Option Stencil → Type 0
ArmsNear p i (Some s) = OnSides (λ a. Near p i a.cell) s.arms
ArmsNear p i None = Unit {0}

abbrev pub AllNear : Plan → List (Option Stencil) → Type 0
AllNear p rows = (k : ℕ) → k < size p → ArmsNear p k (slice_index_or rows k None)

-- the records and the rows that are kept of a plan
pub record LaidOf (p : Plan) (records : List Record) (rows : List (Option Stencil)) : Type 0 where
  pub kept : RecordsOf p records
  pub stands : Stands p rows
  pub near : AllNear p rows

-- plans of one shape that have the same cells, but at the cell i
pub record ChangedAt (i : ℕ) (before after : Plan) : Type 0 where
  pub wide : after.wide ≡ before.wide
  pub high : after.high ≡ before.high
  pub others : (k : ℕ) → k ≢ i → at after k ≡ at before k
