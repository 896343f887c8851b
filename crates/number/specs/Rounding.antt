-- Quotients of whole numbers, rounded.
use Rattle.std.specs.Prelude.{ℕ, ◌+◌, ◌-◌, ◌*◌, ◌/◌, ℤ, pos, negsuc, ◌+ℤ◌, ◌*ℤ◌, neg_ℤ}

-- rounded down: -1 over 4 is -1
abbrev pub floor : ℤ → ℕ → ℤ
floor (pos a) d = pos (a / d)
floor (negsuc a) d = negsuc (a / d)

-- to the nearest, a half upward
abbrev pub nearest : ℤ → ℕ → ℤ
nearest a d = floor (pos 2 *ℤ a +ℤ pos d) (2 * d)

-- rounded up: -1 over 4 is 0
abbrev pub ceiling : ℤ → ℕ → ℤ
ceiling z d = neg_ℤ (floor (neg_ℤ z) d)

-- the same of a natural number
abbrev pub ceil : ℕ → ℕ → ℕ
ceil a d = (a + (d - 1)) / d
