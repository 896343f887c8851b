-- The pin layer of a study: its pins, the plan of its equations and the checks of its calls.
use Rattle.std.specs.Prelude.{◌≡◌, ℕ, ℤ, Option}
use Rattle.refusal.specs.Refusals.{Check, unless_refused}
use Rattle.section.specs.Plan.{Plan}
use Rattle.layers.specs.Layers.{pinned_at, holding, pin_checks, release_checks}
use Rattle.layers.specs.Tables.{used}
use Rattle.layers.specs.declared.layer.Layer.{Layer}
use Rattle.layers.specs.declared.table.Table.{Table}
use Rattle.section.specs.declared.types.HeldRecord.{HeldRecord}

-- a ground with pins over it
abbrev pub PinLayer : Type 0 → Type 0
PinLayer G = Layer G (Table HeldRecord 32)

-- its pins, and how many there are
abbrev pub pins_in : {G : Type 0} → PinLayer G → ℕ → Option ℤ
pins_in layer = pinned_at layer.table.places

abbrev pub pin_count : {G : Type 0} → PinLayer G → ℕ
pin_count layer = used layer.table.places

-- what the ground below means, with every pinned cell held
abbrev pub plan_through : {G : Type 0} → (G → Plan) → PinLayer G → Plan
plan_through plan layer = holding (plan layer.below) (pins_in layer)

abbrev pub pinning_check : {G : Type 0} → (G → Plan) → PinLayer G → ℕ → ℤ → Check
pinning_check plan layer i t = pin_checks (plan layer.below) (pins_in layer) (pin_count layer) i t

abbrev pub releasing_check : {G : Type 0} → (G → Plan) → PinLayer G → ℕ → Check
releasing_check plan layer i = release_checks (plan layer.below) (pins_in layer) i

-- a call that leaves these pins, so many, unless it is refused; the ground below stays
pub record ChangesPins {G : Type 0} (before after : PinLayer G) (k : Check) (pins : ℕ → Option ℤ) (count : ℕ) : Type 0 where
  pub below : after.below ≡ before.below
  pub pins_are : (i : ℕ) → pins_in after i ≡ unless_refused k (pins_in before i) (pins i)
  pub count_is : pin_count after ≡ unless_refused k (pin_count before) count
