-- The limits that numbers keep, and the check of a call's numbers in their order.
use Rattle.std.specs.Prelude.{◌≡◌, ℕ, ◌+◌, Bool, true, false, ◌||◌, List, [], ◌∷◌, ℤ, pos, negsuc, int_lt, Result, MatchResult}
use Rattle.refusal.specs.Refusals.{Check, clear, ◌then◌, when, fault}
use Rattle.refusal.specs.declared.types.Refusal.{Refusal}
use Rattle.refusal.specs.declared.types.Refusal.TheVariants.{OutsideLimits}
use Rattle.refusal.specs.declared.types.Level.TheVariants.{Call}

abbrev pub outside : ℤ → ℤ → ℤ → Bool
outside least most z = int_lt z least || int_lt most z

-- a number at a position of a call gives what holds of the result, or is refused as outside its limits
abbrev pub KeepsLimits : {X : Type 0} → Result X Refusal → ℕ → ℤ → ℤ → ℤ → (X → Type 0) → Type 0
KeepsLimits r position least most z P =
    MatchResult r (λ x. (outside least most z ≡ false) × P x) (λ e. (e ≡ OutsideLimits position) × (outside least most z ≡ true))

-- a number that a call is passed, with its limits
pub record Number : Type 0 where
  pub value : ℤ
  pub least : ℤ
  pub most : ℤ

abbrev pub number : ℤ → ℤ → ℤ → Number
number z least most = record { value = z; least = least; most = most }

-- the first number outside its limits is refused at its position, the first of the list having position k
abbrev pub numbers : ℕ → List Number → Check
numbers k [] = clear
numbers k (x ∷ xs) = when (outside x.least x.most x.value) (fault Call 6 k) then numbers (k + 1) xs

-- millionths of a degree
abbrev pub temperature : ℤ → Number
temperature t = number t (negsuc 999999999) (pos 1000000000)

abbrev pub weight : ℤ → Number
weight c = number c (pos 0) (pos 1000)

abbrev pub heating : ℤ → Number
heating q = number q (negsuc 999999999999) (pos 1000000000000)

abbrev pub bracket_end : ℤ → Number
bracket_end t = number t (negsuc 1999999999) (pos 2000000000)

abbrev pub shape_check : ℤ → ℤ → Check
shape_check w h = numbers 1 (number w (pos 1) (pos 64) ∷ number h (pos 1) (pos 64) ∷ [])

abbrev pub free_check : ℤ → ℤ → ℤ → ℤ → ℤ → ℤ → Check
free_check n w e s l q = numbers 1 (weight n ∷ weight w ∷ weight e ∷ weight s ∷ weight l ∷ heating q ∷ [])

abbrev pub held_check : ℤ → Check
held_check t = numbers 1 (temperature t ∷ [])

abbrev pub tolerance_check : ℤ → Check
tolerance_check t = numbers 1 (number t (pos 0) (pos 1000000000) ∷ [])

abbrev pub bracket_check : ℤ → ℤ → Check
bracket_check lo hi = numbers 1 (bracket_end lo ∷ bracket_end hi ∷ []) then when (int_lt hi lo) (fault Call 6 2)
