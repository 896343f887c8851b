-- The equations of a plan, in naturals: an integer z is up z - down z.
use Rattle.std.proofs.Common.{◌≡◌, ℕ, ◌+◌, ◌*◌, ℤ, arith}
use borrow.Author.Differences.{up, down, ints}
use Rattle.section.specs.Plan.{Plan, Free, links, dot_n, diag, heat, entry, pull}
use Rattle.laws.specs.Exact.{Exact}
use Rattle.laws.proofs.Sums.{dot_is}

pub pull_is :
    (p : Plan) (u : ℕ → ℤ) (i : ℕ) →
    up (pull p u i) + down (heat p i) + dot_n (links p i) (λ j. down (entry p u j)) ≡ down (pull p u i) + up (heat p i) + dot_n (links p i) (λ j. up (entry p u j))
unfolding pull
pull_is p u i = omega (arith, ints, dot_is (links p i) (entry p u))

pub equation_is :
    (p : Plan) (D : ℕ) (v : ℕ → ℤ) → Exact p D v → (i : ℕ) → Free p i →
    diag p i * up (v i) + D * down (heat p i) + dot_n (links p i) (λ j. down (v j)) ≡ diag p i * down (v i) + D * up (heat p i) + dot_n (links p i) (λ j. up (v j))
equation_is p D v exact i f = omega (arith, ints, dot_is (links p i) v, exact.at_free i f)
