-- How a study stands, before and after a call.
use Rattle.std.specs.Prelude.{◌≡◌, ℕ, ℤ, pos, ◌≤ℤ◌, None}
use Rattle.section.specs.Limits.{Number}
use Rattle.section.specs.Plan.{Plan, size}
use Rattle.section.specs.declared.types.Tolerance.{Tolerance}
use Rattle.study.specs.Pins.{pins_in, pin_count, plan_through}
use Rattle.study.specs.Calls.{Standing, standing, Pinning, pinning}
use Rattle.study.specs.declared.types.State.TheVariants.{Unproved}
use Rattle.study.specs.declared.types.Study.{Study}

-- the plan of its equations, by the meaning of its ground
abbrev pub equations_of : {G : Type 0} → (G → Plan) → Study G → Plan
equations_of plan s = plan_through plan s.layer

-- how its brackets stand
abbrev pub standing_of : {G : Type 0} → Study G → Standing
standing_of s = standing s.state s.«open»

-- a call that leaves pins and tolerance as they were
pub record Becomes {G : Type 0} (before after : Study G) (k : Standing) : Type 0 where
  pub layer : after.layer ≡ before.layer
  pub tolerance : after.tolerance ≡ before.tolerance
  pub stands : standing_of after ≡ k

-- how its pins and brackets stand
abbrev pub pinning_of : {G : Type 0} → Study G → Pinning
pinning_of s = pinning (pins_in s.layer) (pin_count s.layer) (standing_of s)

-- a call that may change the pins; ground and tolerance stay
pub record Repinned {G : Type 0} (before after : Study G) (x : Pinning) : Type 0 where
  pub below : after.layer.below ≡ before.layer.below
  pub tolerance : after.tolerance ≡ before.tolerance
  pub pins : (i : ℕ) → pins_in after.layer i ≡ x.pins i
  pub count : pin_count after.layer ≡ x.count
  pub stands : standing_of after ≡ x.stands

-- a new study: its ground and tolerance as given, unproved, no pin
pub record Fresh {G : Type 0} (s : Study G) (base : G) (tolerance : Tolerance) : Type 0 where
  pub below : s.layer.below ≡ base
  pub pins : (i : ℕ) → pins_in s.layer i ≡ None
  pub none : pin_count s.layer ≡ 0
  pub tolerance_is : s.tolerance ≡ tolerance
  pub state : s.state ≡ Unproved

-- what a run that may begin goes by: a grid for its plan, and numbers within their limits
pub record Ready (p : Plan) (entries : ℕ) (x : Number) (n : ℤ) : Type 0 where
  pub count : entries ≡ size p
  pub least : x.least ≤ℤ x.value
  pub most : x.value ≤ℤ x.most
  pub some : pos 1 ≤ℤ n
  pub few : n ≤ℤ pos 1000000
