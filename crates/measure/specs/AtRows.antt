-- An equation of a plan that is laid out in rows.
use Rattle.std.specs.Prelude.{ℕ, List, Option}
use Rattle.section.specs.Plan.{Plan}
use Rattle.stencil.specs.Stencils.{Equation, Stands}
use Rattle.stencil.specs.declared.types.Stencil.{Stencil}

-- the stencil is the equation at a cell of the plan that some rows stand for
pub record EquationOver (rows : List (Option Stencil)) (i : ℕ) (s : Stencil) : Type 0 where
  pub plan : Plan
  pub stands : Stands plan rows
  pub equation : Equation plan i s
