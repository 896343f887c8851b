-- How brackets read, and what narrowing them keeps.
use Rattle.std.proofs.Common.{◌≡◌, ℕ, true, false, cond, ℤ, pos, negsuc, ◌*ℤ◌, ◌≤ℤ◌, arith}
use borrow.Author.Differences.{ints}
use lib.Signed.{lt_z}
use Rattle.std.specs.Int.{int_max, int_min}
use Rattle.std.proofs.lemmas.Int.{clamps}
use Rattle.section.specs.Reading.{row_bracket}
use Rattle.section.specs.declared.rows.BracketRow.{BracketRow}

pub max-below : (D : ℕ) (a b z : ℤ) → (pos D *ℤ a) ≤ℤ z → (pos D *ℤ b) ≤ℤ z → (pos D *ℤ int_max a b) ≤ℤ z
max-below D a b z h k = elim (lt_z b a) as (λ t. (pos D *ℤ cond t a b) ≤ℤ z) [ true ↦ h | false ↦ k ]

pub min-above : (D : ℕ) (a b z : ℤ) → z ≤ℤ (pos D *ℤ a) → z ≤ℤ (pos D *ℤ b) → z ≤ℤ (pos D *ℤ int_min a b)
min-above D a b z h k = elim (lt_z b a) as (λ t. z ≤ℤ (pos D *ℤ cond t b a)) [ true ↦ k | false ↦ h ]

pub max_from : (a b z : ℤ) → z ≤ℤ a → z ≤ℤ int_max a b
max_from a b z h = omega (arith, ints, clamps)

pub min_to : (a b z : ℤ) → a ≤ℤ z → int_min a b ≤ℤ z
min_to a b z h = omega (arith, ints, clamps)

pub max-over : (a b : ℤ) → b ≤ℤ int_max a b
max-over a b = omega (arith, ints, clamps)

pub min-under : (a b : ℤ) → int_min a b ≤ℤ b
min-under a b = omega (arith, ints, clamps)

-- what a row reads as keeps the limits, and one that keeps them reads as itself
pub row_limits : (r : BracketRow) → (negsuc 1999999999 ≤ℤ (row_bracket r).lo) × ((row_bracket r).hi ≤ℤ pos 2000000000)
row_limits r = grind (arith, ints)

pub row_reads : (r : BracketRow) → negsuc 1999999999 ≤ℤ r.lo → r.hi ≤ℤ pos 2000000000 → r.lo ≤ℤ r.hi → row_bracket r ≡ r
row_reads r lo hi ordered = grind (arith, ints)
