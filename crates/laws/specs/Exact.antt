-- Exact solutions of a plan's equations, as whole numbers over a common divisor.
use Rattle.std.specs.Prelude.{◌≡◌, ℕ, ◌≤◌, ℤ, pos, ◌-ℤ◌, ◌*ℤ◌, ◌≤ℤ◌}
use Rattle.section.specs.Plan.{Plan, held, at, Free, links, dot, diag, heat}
use Rattle.section.specs.declared.rows.BracketRow.{BracketRow}

-- cell i has the temperature v i over D
pub record Exact (p : Plan) (D : ℕ) (v : ℕ → ℤ) : Type 0 where
  pub positive : 1 ≤ D
  pub at_held : (i : ℕ) (t : ℤ) → at p i ≡ held t → v i ≡ pos D *ℤ t
  pub at_free : (i : ℕ) → Free p i → pos (diag p i) *ℤ v i -ℤ dot (links p i) v ≡ pos D *ℤ heat p i

-- v over D lies from lo to hi
abbrev pub Within : ℕ → ℤ → ℤ → ℤ → Type 0
Within D lo hi v = ((pos D *ℤ lo) ≤ℤ v) × (v ≤ℤ (pos D *ℤ hi))

-- every exact solution lies within the brackets at each free cell
abbrev pub Bracketed : Plan → (ℕ → BracketRow) → Type 0
Bracketed p b = (D : ℕ) (v : ℕ → ℤ) → Exact p D v → (i : ℕ) → Free p i → Within D (b i).lo (b i).hi (v i)
