-- What the two layers mean, and the checks of their calls.
use Rattle.std.specs.Prelude.{ℕ, cond, not, ◌&&◌, List, [], ◌∷◌, ℤ, is_some, Some, None, Option, ◌==◌, nat_le}
use Rattle.std.specs.Option.{option_map}
use Rattle.refusal.specs.Refusals.{Check, ◌then◌, when, fault}
use Rattle.section.specs.Limits.{numbers, temperature, weight}
use Rattle.section.specs.Plan.{Cell, free, held, void, Plan, plan_of, at, size, is_free_at}
use Rattle.section.specs.declared.types.HeldRecord.{HeldRecord}
use Rattle.refusal.specs.declared.types.Level.TheVariants.{Call, Table}
use Rattle.layers.specs.Tables.{lookup, used}
use Rattle.layers.specs.declared.table.Entry.{Entry}
use Rattle.layers.specs.declared.table.Loss.{Loss}

-- a plan with something laid on its cells
abbrev pub laid_plan : (ℕ → Cell → Cell) → Plan → Plan
laid_plan laying p = plan_of p.wide p.high (λ i. laying i (at p i))

-- The pin layer: the ground below with the listed cells held at their temperatures.
abbrev pub Pins : Type 0
Pins = List (Option (Entry HeldRecord))

abbrev pub pinned_at : Pins → ℕ → Option ℤ
pinned_at places i = option_map (λ h. h.temperature) (lookup places i)

abbrev pub over : Option ℤ → Cell → Cell
over None c = c
over (Some t) c = held t

-- a plan with some cells held
abbrev pub holding : Plan → (ℕ → Option ℤ) → Plan
holding p pins = plan_of p.wide p.high (λ i. over (pins i) (at p i))

abbrev pub pin_plan : Pins → Plan → Plan
pin_plan places p = holding p (pinned_at places)

-- the pins, and how many there are
abbrev pub pin_checks : Plan → (ℕ → Option ℤ) → ℕ → ℕ → ℤ → Check
pin_checks p pins count i t =
    when (nat_le (size p) i) (fault Call 1 i)
    then numbers 2 (temperature t ∷ [])
    then when (is_some (pins i)) (fault Table 3 i)
    then when (not (is_free_at p i)) (fault Call 2 i)
    then when (nat_le 32 count) (fault Table 5 i)

abbrev pub pin_check : Plan → Pins → ℕ → ℤ → Check
pin_check p places i t = pin_checks p (pinned_at places) (used places) i t

abbrev pub release_checks : Plan → (ℕ → Option ℤ) → ℕ → Check
release_checks p pins i =
    when (nat_le (size p) i) (fault Call 1 i)
    then when (not (is_some (pins i))) (fault Table 4 i)

abbrev pub release_check : Plan → Pins → ℕ → Check
release_check p places i = release_checks p (pinned_at places) i

-- The loss layer: the ground below with the loss weights of the listed free cells replaced.
abbrev pub Losses : Type 0
Losses = List (Option (Entry Loss))

abbrev pub loss_at : Losses → ℕ → Option ℕ
loss_at places i = option_map (λ l. l.weight) (lookup places i)

abbrev pub losing : Option ℕ → Cell → Cell
losing (Some c) (free n w e s l q) = free n w e s c q
losing (Some c) (held t) = held t
losing (Some c) void = void
losing None c = c

abbrev pub loss_plan : Losses → Plan → Plan
loss_plan places p = plan_of p.wide p.high (λ i. losing (loss_at places i) (at p i))

abbrev pub loss_check : Plan → Losses → ℕ → ℤ → Check
loss_check p places i c =
    when (nat_le (size p) i) (fault Call 1 i)
    then numbers 2 (weight c ∷ [])
    then when (not (is_some (loss_at places i)) && nat_le 16 (used places)) (fault Table 5 i)

-- a function of the cell with another value at one cell
abbrev pub altered : {X : Type 0} → (ℕ → X) → ℕ → X → ℕ → X
altered f i x j = cond (j == i) x (f j)
