-- Sums and products of 64-bit numbers that do not overflow, whatever casts lie between.
use Rattle.std.proofs.Common.{◌≡◌, ℕ, zero, suc, ◌+◌, ◌*◌, ◌^◌, ◌<◌, ◌≤◌, ℤ, pos, negsuc, ◌+ℤ◌, ◌*ℤ◌, neg_ℤ, nat_abs, refl, arith, w64, SFits, to_z, of_z}
use Rattle.std.proofs.lemmas.Int.{ints, to_z-of_z}

abs_neg : (n : ℕ) → nat_abs (neg_ℤ (pos n)) ≡ n
abs_neg zero = refl
abs_neg (suc n) = refl

pub times_abs : (a b : ℤ) → nat_abs (a *ℤ b) ≡ nat_abs a * nat_abs b
times_abs (pos a) (pos b) = refl
times_abs (pos a) (negsuc b) = abs_neg (a * suc b)
times_abs (negsuc a) (pos b) = abs_neg (suc a * b)
times_abs (negsuc a) (negsuc b) = refl

pub plus_abs : (a b : ℤ) → nat_abs (a +ℤ b) ≤ nat_abs a + nat_abs b
plus_abs a b = omega (arith, ints)

pub fits_abs : (z : ℤ) → nat_abs z < 2 ^ 63 → SFits w64 z
fits_abs z h = omega (arith, ints)

pub word_abs : (z : ℤ) → SFits w64 z → nat_abs z ≤ 2 ^ 63
word_abs z h = omega (arith, ints)

-- to its bits and back
abbrev pub word : ℤ → ℤ
word z = to_z w64 (of_z w64 z)

pub back : (z : ℤ) → nat_abs z < 2 ^ 63 → word z ≡ z
back z h = to_z-of_z w64 z (fits_abs z h)

module _ (x y a b : ℤ) (ea : word x ≡ a) (eb : word y ≡ b) where
  pub sum_fits : nat_abs a + nat_abs b < 2 ^ 63 → SFits w64 (word x +ℤ word y)
  sum_fits h = rw (ea, eb) (fits_abs (a +ℤ b) (omega (arith, plus_abs a b)))

  pub sum_back : nat_abs a + nat_abs b < 2 ^ 63 → word (word x +ℤ word y) ≡ a +ℤ b
  sum_back h = rw (ea, eb) (back (a +ℤ b) (omega (arith, plus_abs a b)))

  pub product_fits : nat_abs a * nat_abs b < 2 ^ 63 → SFits w64 (word x *ℤ word y)
  product_fits h = rw (ea, eb) (fits_abs (a *ℤ b) (omega (arith, times_abs a b)))

  pub product_back : nat_abs a * nat_abs b < 2 ^ 63 → word (word x *ℤ word y) ≡ a *ℤ b
  product_back h = rw (ea, eb) (back (a *ℤ b) (omega (arith, times_abs a b)))
