-- Sums over links.
use Rattle.std.proofs.Common.{◌≡◌, ℕ, ◌+◌, ◌*◌, ◌≤◌, List, [], ◌∷◌, ℤ, refl, mul-le-mul_left, arith}
use borrow.Author.Differences.{up, down, ints}
use Rattle.std.specs.List.{AllByRecursion as All}
use Rattle.section.specs.Plan.{Link, dot, dot_n}

pub dot_n-le : (ls : List Link) (f g : ℕ → ℕ) → All (λ l. f l.cell ≤ g l.cell) ls → dot_n ls f ≤ dot_n ls g
dot_n-le [] f g h = omega arith
dot_n-le (l ∷ ls) f g h = omega (arith, dot_n-le ls f g h.1, mul-le-mul_left l.weight h.0)

pub dot_n-add : (ls : List Link) (f g : ℕ → ℕ) → dot_n ls (λ j. f j + g j) ≡ dot_n ls f + dot_n ls g
dot_n-add [] f g = refl
dot_n-add (l ∷ ls) f g = omega (arith, dot_n-add ls f g)

pub dot_n-scale : (ls : List Link) (k : ℕ) (f : ℕ → ℕ) → dot_n ls (λ j. k * f j) ≡ k * dot_n ls f
dot_n-scale [] k f = omega arith
dot_n-scale (l ∷ ls) k f = omega (arith, dot_n-scale ls k f)

-- a sum of integers as a difference of naturals
pub dot_is : (ls : List Link) (f : ℕ → ℤ) → up (dot ls f) + dot_n ls (λ j. down (f j)) ≡ down (dot ls f) + dot_n ls (λ j. up (f j))
dot_is [] f = refl
dot_is (l ∷ ls) f = omega (arith, ints, dot_is ls f)
