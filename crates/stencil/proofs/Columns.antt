-- The column of a cell, counted from cell to cell.
use Rattle.std.proofs.Common.{◌≡◌, ℕ, ◌+◌, ◌%◌, ◌<◌, ◌≤◌, sym, ◌∙◌, ap, arith}
use Rattle.std.proofs.Math.Nat.{mod-add-mod, mod_self, mod-eq_of_lt, mod-le}

pub column_in : (c i w : ℕ) → c ≡ i % w → c ≤ i
column_in c i w e = omega (arith, mod-le i w)

pub column_on : (c i w : ℕ) → c ≡ i % w → c + 1 < w → c + 1 ≡ (i + 1) % w
column_on c i w e l = sym (mod-eq_of_lt l) ∙ ap (λ (n : ℕ). (n + 1) % w) e ∙ mod-add-mod i w 1

pub column_over : (c i w : ℕ) → c ≡ i % w → c + 1 ≡ w → 0 ≡ (i + 1) % w
column_over c i w e last = sym (mod_self w) ∙ ap (λ (n : ℕ). n % w) (sym last) ∙ ap (λ (n : ℕ). (n + 1) % w) e ∙ mod-add-mod i w 1
