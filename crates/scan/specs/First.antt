-- The first index below n that passes a test.
use Rattle.std.specs.Prelude.{◌≡◌, ℕ, zero, suc, ◌<◌, Bool, cond, Some, None, Option}

abbrev pub or_here : Option ℕ → Bool → ℕ → Option ℕ
or_here (Some i) b n = Some i
or_here None b n = cond b (Some n) None

abbrev pub first : (ℕ → Bool) → ℕ → Option ℕ
first test zero = None
first test (suc n) = or_here (first test n) (test n) n

-- what is answered at each index below n is what the test says
abbrev pub Tests : (ℕ → Bool → Type 0) → (ℕ → Bool) → ℕ → Type 0
Tests answered test n = (k : ℕ) (b : Bool) → k < n → answered k b → b ≡ test k
