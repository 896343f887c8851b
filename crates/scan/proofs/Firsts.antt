-- Finding the first index that passes a test.
use Rattle.std.proofs.Common.{◌≡◌, ℕ, zero, suc, ◌+◌, ◌*◌, ◌<◌, ◌≤◌, Bool, true, false, Some, None, Option, refl, subst, mul-le-mul_right, suc-mul, add-one, mul_comm, arith}
use native.Mathlib.Decide.{ℕ_discrete}
use Rattle.scan.specs.First.{first, or_here}

pub first_past : (test : ℕ → Bool) (k : ℕ) → first test k ≡ None → test k ≡ false → first test (k + 1) ≡ None
first_past test k e f = rw (add-one, e, f) refl

pub first_found : (test : ℕ → Bool) (k n : ℕ) → first test k ≡ None → test k ≡ true → k < n → first test n ≡ Some k
first_found test k zero e t l = absurd (omega arith)
first_found test k (suc n) e t l = elim (ℕ_discrete k n) [
  | yes q ↦ subst (λ (m : ℕ). first test (suc m) ≡ Some k) q (rw (e, t) refl)
  | no d ↦ rw (first_found test k n e t (omega arith)) refl
]

-- tests that agree below n have the same first index
pub first-same : (s t : ℕ → Bool) (n : ℕ) → ((k : ℕ) → k < n → s k ≡ t k) → first s n ≡ first t n
first-same s t zero h = refl
first-same s t (suc n) h = rw (first-same s t n (λ k l. h k (omega arith)), h n (omega arith)) refl

-- what no index is found by fails everywhere
pub first-none : (test : ℕ → Bool) (n : ℕ) → first test n ≡ None → (k : ℕ) → k < n → test k ≡ false
first-none test zero e k l = absurd (omega arith)
first-none test (suc n) e k l = by (first test n) (test n) refl refl e (λ p. first-none test n p k)
  where
    by : (o : Option ℕ) (b : Bool) → first test n ≡ o → test n ≡ b → or_here o b n ≡ None → (first test n ≡ None → k < n → test k ≡ false) → test k ≡ false
    by (Some i) b p q r ih = let z : ◌≡◌ {A = ℕ} 0 1 = cc in absurd (omega arith)
    by None true p q r ih = let z : ◌≡◌ {A = ℕ} 0 1 = cc in absurd (omega arith)
    by None false p q r ih = elim (ℕ_discrete k n) [ yes s ↦ rw s q | no d ↦ ih p (omega arith) ]

-- a cell's index lies on the plan
pub within : (i j w h : ℕ) → i < h → j < w → i * w + j < w * h
within i j w h hi hj =
    let m : suc i * w ≤ h * w = mul-le-mul_right w hi in omega (arith, m, suc-mul i w, mul_comm h w)

-- the next row begins where this one ends
pub next_row : (i w : ℕ) → (i + 1) * w ≡ i * w + w
next_row i w = omega (arith, suc-mul i w)
