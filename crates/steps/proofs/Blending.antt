-- The sums and products of relaxing do not overflow.
use Rattle.std.proofs.Common.{◌≡◌, ◌+◌, ◌*◌, ◌≤◌, ℤ, pos, ◌+ℤ◌, ◌-ℤ◌, ◌*ℤ◌, nat_abs, refl, arith, w64, SFits}
use Rattle.std.proofs.lemmas.Nat.{mul-le}
use Rattle.std.proofs.lemmas.Int.{ints}
use Rattle.number.specs.Rounding.{nearest}
use Rattle.steps.specs.declared.rules.Balance.{Balance}
use Rattle.steps.specs.declared.rules.Relax.{Relax}
use Rattle.number.proofs.Words.{word, back, times_abs, plus_abs, sum_fits, sum_back, product_fits, product_back}

factor_abs : (f : Relax) → nat_abs f.factor ≤ 199
factor_abs f = omega (arith, ints, f.factor_least, f.factor_most)

gap_abs : (f : Relax) → nat_abs (pos 100 -ℤ f.factor) ≤ 100
gap_abs f = omega (arith, ints, f.factor_least, f.factor_most)

-- x is the diagonal as a signed number
module _ (f : Relax) (c : Balance) (x : ℤ) (ex : x ≡ pos c.diagonal) where
  kb : word f.factor ≡ f.factor
  kb = back f.factor (omega (arith, factor_abs f))

  xb : word x ≡ pos c.diagonal
  xb = rw ex (back (pos c.diagonal) (omega (arith, c.few)))

  sb : word c.sum ≡ c.sum
  sb = back c.sum (omega (arith, c.sum_most))

  ob : word c.old ≡ c.old
  ob = back c.old (omega (arith, c.old_most))

  gb : word (pos 100 -ℤ word f.factor) ≡ pos 100 -ℤ f.factor
  gb = rw kb (back (pos 100 -ℤ f.factor) (omega (arith, gap_abs f)))

  first-size : nat_abs f.factor * nat_abs c.sum ≤ 2587000000000000
  first-size = mul-le (nat_abs f.factor) (nat_abs c.sum) 199 13000000000000 (factor_abs f) c.sum_most

  own-size : c.diagonal * nat_abs c.old ≤ 5000000000000
  own-size = mul-le c.diagonal (nat_abs c.old) 5000 1000000000 c.few c.old_most

  rest-size : nat_abs (pos 100 -ℤ f.factor) * nat_abs (pos c.diagonal *ℤ c.old) ≤ 500000000000000
  rest-size = mul-le (nat_abs (pos 100 -ℤ f.factor)) (nat_abs (pos c.diagonal *ℤ c.old)) 100 5000000000000 (gap_abs f) (omega (arith, own-size, times_abs (pos c.diagonal) c.old))

  first : word (word f.factor *ℤ word c.sum) ≡ f.factor *ℤ c.sum
  first = product_back f.factor c.sum f.factor c.sum kb sb (omega (arith, first-size))

  own : word (word x *ℤ word c.old) ≡ pos c.diagonal *ℤ c.old
  own = product_back x c.old (pos c.diagonal) c.old xb ob (omega (arith, own-size))

  pub rest-fits : SFits w64 (word (pos 100 -ℤ word f.factor) *ℤ word (word x *ℤ word c.old))
  rest-fits = product_fits (pos 100 -ℤ word f.factor) (word x *ℤ word c.old) (pos 100 -ℤ f.factor) (pos c.diagonal *ℤ c.old) gb own (omega (arith, rest-size))

  rest : word (word (pos 100 -ℤ word f.factor) *ℤ word (word x *ℤ word c.old)) ≡ (pos 100 -ℤ f.factor) *ℤ (pos c.diagonal *ℤ c.old)
  rest = product_back (pos 100 -ℤ word f.factor) (word x *ℤ word c.old) (pos 100 -ℤ f.factor) (pos c.diagonal *ℤ c.old) gb own (omega (arith, rest-size))

  sizes : nat_abs (f.factor *ℤ c.sum) + nat_abs ((pos 100 -ℤ f.factor) *ℤ (pos c.diagonal *ℤ c.old)) ≤ 4000000000000000
  sizes = omega (arith, first-size, rest-size, times_abs f.factor c.sum, times_abs (pos 100 -ℤ f.factor) (pos c.diagonal *ℤ c.old))

  pub blend_fits : SFits w64 (word (word f.factor *ℤ word c.sum) +ℤ word (word (pos 100 -ℤ word f.factor) *ℤ word (word x *ℤ word c.old)))
  blend_fits =
      sum_fits (word f.factor *ℤ word c.sum) (word (pos 100 -ℤ word f.factor) *ℤ word (word x *ℤ word c.old)) (f.factor *ℤ c.sum) ((pos 100 -ℤ f.factor) *ℤ (pos c.diagonal *ℤ c.old)) first rest (omega (arith, sizes))

  whole : word (word (word f.factor *ℤ word c.sum) +ℤ word (word (pos 100 -ℤ word f.factor) *ℤ word (word x *ℤ word c.old))) ≡ f.factor *ℤ c.sum +ℤ (pos 100 -ℤ f.factor) *ℤ (pos c.diagonal *ℤ c.old)
  whole =
      sum_back (word f.factor *ℤ word c.sum) (word (pos 100 -ℤ word f.factor) *ℤ word (word x *ℤ word c.old)) (f.factor *ℤ c.sum) ((pos 100 -ℤ f.factor) *ℤ (pos c.diagonal *ℤ c.old)) first rest (omega (arith, sizes))

  divisor : word (pos 100 *ℤ word x) ≡ pos (100 * c.diagonal)
  divisor = rw xb (back (pos (100 * c.diagonal)) (omega (arith, c.few)))

  pub blend_small : nat_abs (word (word (word f.factor *ℤ word c.sum) +ℤ word (word (pos 100 -ℤ word f.factor) *ℤ word (word x *ℤ word c.old)))) ≤ 4000000000000000000
  blend_small = rw whole (omega (arith, sizes, plus_abs (f.factor *ℤ c.sum) ((pos 100 -ℤ f.factor) *ℤ (pos c.diagonal *ℤ c.old))))

  pub blend_is :
      nearest (word (word (word f.factor *ℤ word c.sum) +ℤ word (word (pos 100 -ℤ word f.factor) *ℤ word (word x *ℤ word c.old)))) (nat_abs (word (pos 100 *ℤ word x)))
      ≡ nearest (f.factor *ℤ c.sum +ℤ (pos 100 -ℤ f.factor) *ℤ (pos c.diagonal *ℤ c.old)) (100 * c.diagonal)
  blend_is = rw (whole, divisor) refl
