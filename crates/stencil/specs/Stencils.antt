-- When a stencil is the equation of a plan at a cell.
use Rattle.std.specs.Prelude.{◌≡◌, ℕ, ◌+◌, ◌-◌, ◌*◌, ◌<◌, ◌≤◌, true, List, [], length, ℤ, pos, ◌+ℤ◌, ◌*ℤ◌, Some, None, Option, slice_index_or}
use Rattle.section.specs.Plan.{Plan, size, Free, Link, counted, has_north, has_west, has_east, dot, dot_n, weights, entry, mass, diag, pull, load}
use Rattle.section.specs.declared.types.FreeRecord.{FreeRecord}
use Rattle.stencil.specs.Sides.{OnSides, map_sides}
use Rattle.stencil.specs.declared.sides.Sides.{Sides}
use Rattle.stencil.specs.declared.types.Arm.{Arm}
use Rattle.stencil.specs.declared.types.Stencil.{Stencil}
use Rattle.stencil.specs.declared.types.Side.{Side}

-- the sums of the arms' weights times what lies on their sides
abbrev pub weighed_sum : Sides Arm → Sides ℤ → ℤ
weighed_sum a x =
    pos a.north.weight *ℤ x.north +ℤ (pos a.west.weight *ℤ x.west +ℤ (pos a.east.weight *ℤ x.east +ℤ pos a.south.weight *ℤ x.south))

abbrev pub weighed_sum_n : Sides Arm → Sides ℕ → ℕ
weighed_sum_n a x = a.north.weight * x.north + (a.west.weight * x.west + (a.east.weight * x.east + a.south.weight * x.south))

-- the sums over the four arms
abbrev pub arms : Stencil → (ℕ → ℤ) → ℤ
arms s u = weighed_sum s.arms (map_sides (λ a. u a.cell) s.arms)

abbrev pub arms_n : Stencil → (ℕ → ℕ) → ℕ
arms_n s w = weighed_sum_n s.arms (map_sides (λ a. w a.cell) s.arms)

-- the stencil gives d, S and the sum over a majorant of the plan at the cell, whatever the entries, and reads free cells only
pub record Equation (p : Plan) (i : ℕ) (s : Stencil) : Type 0 where
  pub free : Free p i
  pub diagonal : s.diagonal ≡ diag p i
  pub pulls : (u : ℕ → ℤ) → s.source +ℤ arms s u ≡ pull p u i
  pub loads : (w : ℕ → ℕ) → arms_n s w ≡ load p w i
  pub reads : OnSides (λ a. Free p a.cell) s.arms

abbrev pub RowOf : Plan → ℕ → Option Stencil → Type 0
RowOf p i (Some s) = Equation p i s
RowOf p i None = Free p i → ⊥

-- the rows are the equations of the plan, one for each cell
pub record Stands (p : Plan) (rows : List (Option Stencil)) : Type 0 where
  pub count : length rows ≡ size p
  pub row : (k : ℕ) → k < size p → RowOf p k (slice_index_or rows k None)

-- a free cell of a plan that is not too large
pub record OnPlan (p : Plan) (i : ℕ) : Type 0 where
  pub free : Free p i
  pub few : size p ≤ 4096
  pub near : i < 4096

-- the links that count toward one side
abbrev pub toward : Plan → Option ℕ → ℕ → List Link
toward p None c = []
toward p (Some j) c = counted p true c j

-- one side of a cell i: what its link adds to d, its arm, and what a held cell there gives
pub record SideOf (p : Plan) (i : ℕ) (ls : List Link) (s : Side) : Type 0 where
  pub counts : s.counts ≡ weights ls
  pub pulls : (u : ℕ → ℤ) → s.given +ℤ pos s.arm.weight *ℤ u s.arm.cell ≡ dot ls (entry p u)
  pub loads : (w : ℕ → ℕ) → s.arm.weight * w s.arm.cell ≡ dot_n ls (mass p w)
  pub reads : Free p s.arm.cell

-- the four sides of a free cell with a record
pub record SidesOf (p : Plan) (i : ℕ) (own : FreeRecord) (s : Sides Side) : Type 0 where
  pub north : SideOf p i (counted p (has_north p i) own.north (i - p.wide)) s.north
  pub west : SideOf p i (counted p (has_west p i) own.west (i - 1)) s.west
  pub east : SideOf p i (counted p (has_east p i) own.east (i + 1)) s.east
  pub south : SideOf p i (counted p true own.south (i + p.wide)) s.south
