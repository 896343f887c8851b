-- The heat of a cell, which grows with its place.
use Rattle.std.proofs.Common.{◌≡◌, ℕ, zero, suc, ◌*◌, ◌≤◌, ℤ, pos, negsuc, ◌*ℤ◌, neg_ℤ, nat_abs, ◌≤ℤ◌, refl, mul-le-mul, arith, w64, SFits}
use Rattle.std.proofs.lemmas.Int.{ints}

abs_neg : (n : ℕ) → nat_abs (neg_ℤ (pos n)) ≡ n
abs_neg zero = refl
abs_neg (suc n) = refl

times_abs : (a : ℤ) (b : ℕ) → nat_abs (a *ℤ pos b) ≡ nat_abs a * b
times_abs (pos a) b = refl
times_abs (negsuc a) b = abs_neg (suc a * b)

small : (q : ℤ) → negsuc 999999999 ≤ℤ q → q ≤ℤ pos 1000000000 → nat_abs q ≤ 1000000000
small q lo hi = omega (arith, ints)

pub heat-size : (q : ℤ) (part : ℕ) → negsuc 999999999 ≤ℤ q → q ≤ℤ pos 1000000000 → part ≤ 1000 → nat_abs (q *ℤ pos part) ≤ 1000000000000
heat-size q part lo hi most = omega (arith, times_abs q part, mul-le-mul (small q lo hi) most)

pub within-heat : (z : ℤ) → nat_abs z ≤ 1000000000000 → (SFits w64 z) × (negsuc 999999999999 ≤ℤ z) × (z ≤ℤ pos 1000000000000)
within-heat z h = (omega (arith, ints), omega (arith, ints), omega (arith, ints))
