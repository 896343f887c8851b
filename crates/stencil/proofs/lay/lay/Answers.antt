use Rattle.std.proofs.Common.{◌≡◌, List, vec_items, Option, ap, ◌∙◌, subst}
use Rattle.section.specs.Plan.{Plan}
use Rattle.stencil.specs.Laying.{AllNear}
use Rattle.stencil.specs.Stencils.{Stands}
use Rattle.stencil.specs.Keeping.{kept_plan}
use Rattle.stencil.specs.declared.types.Stencil.{Stencil}
use Rattle.stencil.proofs.Keeping.{plan_kept}
use Rattle.stencil.proofs.lay.lay.Goals as goal

pub returns : goal.returns
returns g c =
    let p = g.G.Ground.plan c.args.ground.now in
    let s = c.shape-shape.result in
    let rows : List (Option Stencil) = vec_items c.lay_rows.new.rows in
    let read : kept_plan s c.as_slice-records.result.now ≡ p =
    ap (kept_plan s) c.as_slice-records.ensures.value ∙ plan_kept p s (vec_items c.keep.new.records) c.shape-shape.ensures.wide c.shape-shape.ensures.high c.keep.ensures.kept.cells in
    let stands = subst (λ (q : Plan). Stands q rows) read c.lay_rows.ensures.stands in
    record {
      stands = stands;
      whole = record { kept = c.keep.ensures.kept; stands = stands; near = subst (λ (q : Plan). AllNear q rows) read c.lay_rows.ensures.near };
      kept = c.keep.ensures.capacity;
      laid = c.lay_rows.ensures.capacity;
    }
