-- Grids over rows of equations that are laid out.
use Rattle.std.specs.Prelude.{◌≡◌, ℕ, List, Option}
use Rattle.section.specs.Plan.{Plan, size}
use Rattle.section.specs.declared.types.Shape.{Shape}
use Rattle.stencil.specs.Stencils.{Stands}
use Rattle.stencil.specs.declared.types.Stencil.{Stencil}

-- the rows are the equations of some plan of this shape, with as many cells as the grid has entries
pub record Laid (s : Shape) (rows : List (Option Stencil)) (n : ℕ) : Type 0 where
  pub plan : Plan
  pub stands : Stands plan rows
  pub wide : s.wide ≡ plan.wide
  pub high : s.high ≡ plan.high
  pub count : n ≡ size plan
