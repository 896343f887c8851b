-- Proposed grids that can be certified.
use Rattle.std.specs.Prelude.{◌≡◌, ℕ, ◌≤◌, List, length, Option, unsigned_abs}
use Rattle.section.specs.Plan.{Plan, Free}
use Rattle.section.specs.declared.rows.Temperature.{Temperature}
use Rattle.section.specs.declared.rows.Majorant.{Majorant}
use Rattle.section.specs.declared.types.Shape.{Shape}
use Rattle.stencil.specs.Stencils.{Stands}
use Rattle.stencil.specs.declared.types.Stencil.{Stencil}
use Rattle.walk.specs.Sites.{Walkable}
use Rattle.steps.specs.Steps.{FairTemperature, FairMajorant}
use Rattle.measure.specs.Measures.{rest, margin, spread}
use Rattle.measure.specs.declared.measure.Measure.{Measure}
use Rattle.certificate.specs.AtRows.{Laid}

-- the measure is that of the grids over the plan
pub record MeasureOf (p : Plan) (us : List Temperature) (ws : List Majorant) (m : Measure) : Type 0 where
  pub rest_is : m.rest ≡ rest p us
  pub margin_is : m.margin ≡ unsigned_abs (margin p ws)

-- the grids keep their limits; at a free cell a spread can be had, and it is not too wide
pub record Certifiable (p : Plan) (us : List Temperature) (ws : List Majorant) (m : Measure) : Type 0 where
  pub mild : Walkable FairTemperature p us
  pub fair : Walkable FairMajorant p ws
  pub measured : MeasureOf p us ws m
  pub useful : (k : ℕ) → Free p k → 1 ≤ m.margin
  pub near : (k : ℕ) → Free p k → spread p us ws k ≤ 1000000000

-- they can be over the plan that some rows of this shape stand for
pub record CertifiableOver (s : Shape) (rows : List (Option Stencil)) (us : List Temperature) (ws : List Majorant) (m : Measure) : Type 0 where
  pub laid : Laid s rows (length us)
  pub certifiable : (p : Plan) → Stands p rows → Certifiable p us ws m

-- what grids are proposed for, with the grids
pub record Proposed (G : Type 0) : Type 0 where
  pub base : G
  pub us : List Temperature
  pub ws : List Majorant
