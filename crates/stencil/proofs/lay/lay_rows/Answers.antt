use Rattle.std.proofs.Common.{ℕ, ◌+◌, ◌<◌, List, get_or, Option, None, vec_items, sym, ◌∙◌, subst, arith}
use Rattle.stencil.specs.Laying.{ArmsNear}
use Rattle.stencil.specs.Stencils.{RowOf}
use Rattle.stencil.specs.declared.types.Stencil.{Stencil}
use Rattle.stencil.proofs.Rows.{pushed}
use Rattle.stencil.proofs.lay.lay_rows.Goals as goal

pub loop-index-preserved : goal.loop-index-preserved
loop-index-preserved g c =
    let p = g.G.Ground.plan c.args.ground.now in
    let P = λ (k : ℕ) (x : Option Stencil). RowOf p k x × ArmsNear p k x in
    let i = c.loop-index.index in
    let Q = λ (xs : List (Option Stencil)). (k : ℕ) → k < i + 1 → P k (get_or xs k None) in (
      omega (arith, c.push_reserved.ensures.len, c.loop-index.invariant.0),
      c.push_reserved.ensures.capacity ∙ c.loop-index.invariant.1,
      subst Q (sym c.push_reserved.ensures.items) (pushed P (vec_items c.loop-index.rows) i c.row.result None (sym c.loop-index.rows.ok.0 ∙ c.loop-index.invariant.0) c.loop-index.invariant.2 (c.row.ensures.row, c.row.ensures.near)),
      c.next_column-column.ensures,
    )
