-- What a clear check says.
use Rattle.std.proofs.Common.{◌≡◌, ℕ, ◌≤◌, Bool, true, false, not, eqb, ℤ, pos, nat_abs, refl, arith}
use Rattle.std.proofs.lemmas.Bool.Decides.{nat_tests}
use Rattle.std.proofs.lemmas.Int.{ints}
use Rattle.refusal.specs.Refusals.{Fault, fault, clear, when}
use Rattle.refusal.specs.declared.types.Level.TheVariants.{Call}
use Rattle.section.specs.Limits.{outside}
use Rattle.section.specs.Plan.{Plan, size}
use Rattle.study.specs.Calls.{length_check}

when-clear : (b : Bool) (f : Fault) → when b f ≡ clear → b ≡ false
when-clear false f e = refl
when-clear true f e = cc

pub length_is : (p : Plan) (n : ℕ) → length_check p n ≡ clear → n ≡ size p
length_is p n e = let right = when-clear (not (eqb n (size p))) (fault Call 7 n) e in grind (arith, nat_tests)

-- a number that is not refused is at least 1
pub some_is : (z most : ℤ) (f : Fault) → when (outside (pos 1) most z) f ≡ clear → 1 ≤ nat_abs z
some_is z most f e = let inside = when-clear (outside (pos 1) most z) f e in grind (arith, ints)
