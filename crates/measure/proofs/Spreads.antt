-- Spreads: rest * w over the margin, rounded up.
use Rattle.std.proofs.Common.{◌≡◌, ℕ, ◌+◌, ◌*◌, ◌<◌, ◌≤◌, ltb, sym, ◌∙◌, inl, inr, arith}
use native.Mathlib.Nat.{lt_of_mul-lt-mul_left}
use Rattle.std.proofs.lemmas.Bool.{cases_lt, lt-ltb, le-ltb}
use Rattle.number.specs.Rounding.{ceil}

-- rounded up, m times the quotient is at least a and less than m more
least : (a m : ℕ) → 1 ≤ m → a ≤ m * ceil a m
least a m some = omega arith

most : (a m : ℕ) → 1 ≤ m → m * ceil a m < a + m
most a m some = omega arith

-- so it is above k where a is above k * m
module _ (k a m : ℕ) (some : 1 ≤ m) where
  over : k * m < a → k < ceil a m
  over h = lt_of_mul-lt-mul_left m {m = k} {n = ceil a m} (omega (arith, h, least a m some))

  under : a ≤ k * m → ceil a m < k + 1
  under h = lt_of_mul-lt-mul_left m {m = ceil a m} {n = k + 1} (omega (arith, h, most a m some))

  pub above : ltb (k * m) a ≡ ltb k (ceil a m)
  above = elim (cases_lt (k * m) a) [
    | inl h ↦ lt-ltb (k * m) a h ∙ sym (lt-ltb k (ceil a m) (over h))
    | inr h ↦ le-ltb (k * m) a h ∙ sym (le-ltb k (ceil a m) (omega (arith, under h)))
  ]
