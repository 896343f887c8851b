-- Quotients that are rounded, against what they divide.
use Rattle.std.proofs.Common.{ℕ, ◌+◌, ◌*◌, ◌<◌, ◌≤◌, ℤ, pos, negsuc, arith}
use borrow.Author.Differences.{up, down}
use Rattle.number.specs.Rounding.{floor, ceil}

-- rounded up, d times the quotient is at least a and less than d more
pub ceil_is : (a d : ℕ) → 1 ≤ d → (a ≤ d * ceil a d) × (d * ceil a d < a + d)
ceil_is a d one = omega arith

-- rounded down, d times the quotient is at most z
pub floor-le : (z : ℤ) (d : ℕ) → 1 ≤ d → d * up (floor z d) + down z ≤ up z + d * down (floor z d)
floor-le (pos a) d one = omega arith
floor-le (negsuc a) d one = omega arith
