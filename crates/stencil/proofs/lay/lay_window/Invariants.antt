use Rattle.std.proofs.Common.{◌≡◌, ℕ, ◌%◌, ◌<◌, ◌≤◌, get_or, None, vec_items, vec_len, vec_capacity}
use Rattle.stencil.specs.Laying.{ArmsNear}
use Rattle.stencil.specs.Stencils.{RowOf}
use Rattle.stencil.proofs.lay.lay_window.Given as goal

abbrev pub invariant-loop-index : goal.invariant-loop-index
invariant-loop-index g l =
    ((k : ℕ) → l.first ≤ k → k < l.index → RowOf (g.G.Ground.plan l.ground) k (get_or (vec_items l.rows) k None) × ArmsNear (g.G.Ground.plan l.ground) k (get_or (vec_items l.rows) k None))
    × ((k : ℕ) → k < l.first → get_or (vec_items l.rows) k None ≡ get_or (vec_items l.initial.rows) k None)
    × ((k : ℕ) → l.index ≤ k → get_or (vec_items l.rows) k None ≡ get_or (vec_items l.initial.rows) k None)
    × (vec_len l.rows ≡ vec_len l.initial.rows)
    × (vec_capacity l.rows ≡ vec_capacity l.initial.rows)
    × (l.column ≡ l.index % l.shape.wide)
