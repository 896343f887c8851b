use Rattle.std.proofs.Common.{◌≡◌, ℕ, ◌%◌, ◌<◌, get_or, None, vec_items, vec_len, vec_capacity}
use Rattle.stencil.specs.Laying.{ArmsNear}
use Rattle.stencil.specs.Stencils.{RowOf}
use Rattle.stencil.proofs.lay.lay_rows.Given as goal

abbrev pub invariant-loop-index : goal.invariant-loop-index
invariant-loop-index g l =
    (vec_len l.rows ≡ l.index)
    × (vec_capacity l.rows ≡ vec_capacity l.initial.rows)
    × ((k : ℕ) → k < l.index → RowOf (g.G.Ground.plan l.ground) k (get_or (vec_items l.rows) k None) × ArmsNear (g.G.Ground.plan l.ground) k (get_or (vec_items l.rows) k None))
    × (l.column ≡ l.index % l.shape.wide)
