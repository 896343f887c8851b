use Rattle.std.proofs.Common.{◌≡◌, ◌+◌, ◌≤◌, ℤ, ◌+ℤ◌, nat_abs, arith, w64, SFits}
use Rattle.std.proofs.lemmas.Int.{ints}
use Rattle.number.proofs.Words.{word}
use Rattle.number.proofs.sum_of_five.Goals as goal

module _ (a b c d e : ℤ) (few : nat_abs a + (nat_abs b + (nat_abs c + (nat_abs d + nat_abs e))) ≤ 1000000000000000000) where
  inner : word (word c +ℤ word (word d +ℤ word e)) ≡ c +ℤ (d +ℤ e)
  inner = omega (arith, ints)

  fits : SFits w64 (word a +ℤ word (word b +ℤ word (word c +ℤ word (word d +ℤ word e))))
  fits = rw inner (omega (arith, ints))

  value_is : word (word a +ℤ word (word b +ℤ word (word c +ℤ word (word d +ℤ word e)))) ≡ a +ℤ (b +ℤ (c +ℤ (d +ℤ e)))
  value_is = rw inner (omega (arith, ints))

pub overflow_add-result-4 : goal.overflow_add-result-4
overflow_add-result-4 c = fits c.args.a c.args.b c.args.c c.args.d c.args.e c.requires

pub returns : goal.returns
returns c =
    let v = value_is c.args.a c.args.b c.args.c c.args.d c.args.e c.requires in
    record { value = v; size = rw v (omega (arith, ints)) }
