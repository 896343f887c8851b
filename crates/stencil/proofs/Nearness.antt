-- How far the arms of a cell lead.
use Rattle.std.proofs.Common.{◌≡◌, ℕ, Bool, true, false, cond, Some, None, Option, sym, subst, arith}
use Rattle.section.specs.Plan.{Plan}
use Rattle.stencil.specs.Laying.{Near, NearIf}
use Rattle.stencil.specs.Sides.{OnSides, AcrossSides}
use Rattle.stencil.specs.declared.types.Arm.{Arm}
use Rattle.stencil.specs.declared.types.Side.{Side}
use Rattle.stencil.specs.declared.sides.Sides.{Sides}

-- a neighbour that lies on the plan only under a condition
pub near_if : (p : Plan) (i j : ℕ) (b : Bool) (to : Option ℕ) → to ≡ cond b (Some j) None → Near p i j → NearIf p i to
near_if p i j b to e near = subst (NearIf p i) (sym e) (by b)
  where
    by : (b : Bool) → NearIf p i (cond b (Some j) None)
    by true = near
    by false = tt

pub near_at : (p : Plan) (i j k : ℕ) → j ≡ k → Near p i k → Near p i j
near_at p i j k e near = (omega arith, omega arith)

pub arms_near :
    (p : Plan) (i : ℕ) (f : Sides Side) (a : Sides Arm) → AcrossSides (λ (s : Side) (b : Arm). b ≡ s.arm) f a →
    OnSides (λ (s : Side). Near p i s.arm.cell) f → OnSides (λ (b : Arm). Near p i b.cell) a
arms_near p i f a same near = record {
  north = rw same.north near.north;
  west = rw same.west near.west;
  east = rw same.east near.east;
  south = rw same.south near.south;
}
