-- When a site shows a cell of a plan with the entries of a grid.
use Rattle.std.specs.Prelude.{◌≡◌, ℕ, List, length, Option, slice_index_or}
use Rattle.section.specs.Plan.{Plan, size, Free}
use Rattle.stencil.specs.Sides.{OnSides, map_sides}
use Rattle.stencil.specs.Stencils.{Equation, Stands}
use Rattle.stencil.specs.declared.types.Stencil.{Stencil}
use Rattle.walk.specs.declared.types.Site.{Site}
use Rattle.walk.specs.declared.types.Turn.{Turn}
use Rattle.walk.specs.declared.types.Turn.TheVariants.{Stay, Put, Stop}

-- the site has the stencil, and the entries at the cell and at its arms
pub record Shows {E : Type 0} (xs : List E) (i : ℕ) (st : Stencil) (s : Site E) : Type 0 where
  pub stencil : s.stencil ≡ st
  pub old : (d : E) → s.old ≡ slice_index_or xs i d
  pub around : (d : E) → s.around ≡ map_sides (λ a. slice_index_or xs a.cell d) st.arms

-- and the stencil is the equation of the plan there
pub record Sees {E : Type 0} (p : Plan) (xs : List E) (i : ℕ) (s : Site E) : Type 0 where
  pub equation : Equation p i s.stencil
  pub shows : Shows xs i s.stencil s

pub record FairSite {E : Type 0} (fair : E → Type 0) (s : Site E) : Type 0 where
  pub old : fair s.old
  pub around : OnSides fair s.around

abbrev pub Keeps : {E : Type 0} → (E → Type 0) → Turn E → Type 0
Keeps fair Stay = Unit {0}
Keeps fair (Put e) = fair e
Keeps fair Stop = Unit {0}

-- the grid has an entry for each cell of the plan, and a fair one at each free cell
pub record Walkable {E : Type 0} (fair : E → Type 0) (p : Plan) (xs : List E) : Type 0 where
  pub count : length xs ≡ size p
  pub entries : (i : ℕ) → Free p i → (d : E) → fair (slice_index_or xs i d)

-- so it is over the plan that some rows stand for
pub record WalkableOver {E : Type 0} (fair : E → Type 0) (rows : List (Option Stencil)) (xs : List E) : Type 0 where
  pub plan : Plan
  pub stands : Stands plan rows
  pub walkable : Walkable fair plan xs
