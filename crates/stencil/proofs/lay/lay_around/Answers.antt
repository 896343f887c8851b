use Rattle.std.proofs.Common.{◌≡◌, ℕ, ◌+◌, ◌-◌, ◌<◌, ◌≤◌, min, List, get_or, set, Option, None, vec_items, ap, sym, ◌∙◌, subst, arith}
use Rattle.section.specs.Plan.{Plan, size}
use Rattle.section.proofs.Cells.{shape_size}
use Rattle.section.specs.declared.types.Record.{Record}
use Rattle.stencil.specs.Keeping.{kept_plan}
use Rattle.stencil.specs.Laying.{ArmsNear, LaidOf}
use Rattle.stencil.specs.Stencils.{RowOf}
use Rattle.stencil.specs.declared.types.Stencil.{Stencil}
use Rattle.stencil.proofs.Keeping.{plan_kept}
use Rattle.stencil.proofs.Places.{stays, records_set, size-same, either, laid_around}
use Rattle.stencil.proofs.lay.lay_around.Goals as goal

pub returns-then-cell-cells-clause-whole : goal.returns-then-cell-cells-clause-whole
returns-then-cell-cells-clause-whole g c =
    let p = c.requires.0 in
    let q = g.G.Ground.plan c.args.ground.now in
    let cells = shape_size q c.shape-shape.result c.cells.result c.shape-shape.ensures.wide c.shape-shape.ensures.high c.cells.ensures in
    let past : size q ≤ c.args.cell = omega (arith, cells, c.if-cell-cells.true) in
    subst (λ (x : Plan). LaidOf x c.args.records.now.items c.args.rows.now.items) (stays p q c.args.cell c.requires.2 past) c.requires.1

pub lay_window-requires-clause-count : goal.lay_window-requires-clause-count
lay_window-requires-clause-count g c =
    let p = c.requires.0 in
    let q = g.G.Ground.plan c.args.ground.now in
    let s = c.shape-shape.result in
    let cells = shape_size q s c.cells.result c.shape-shape.ensures.wide c.shape-shape.ensures.high c.cells.ensures in
    let inside : c.args.cell < size q = omega (arith, cells, c.if-cell-cells.false) in
    let records : List Record = set c.args.records.now.items c.args.cell c.record.result in
    let kept = records_set p q c.args.cell c.args.records.now.items c.record.result c.requires.2 c.requires.1.kept inside c.record.ensures in
    let read : kept_plan s c.as_slice-records.result.now ≡ q = ap (kept_plan s) c.as_slice-records.ensures.value ∙ plan_kept q s records c.shape-shape.ensures.wide c.shape-shape.ensures.high kept.cells in
    c.args.rows.now.ok.0 ∙ c.requires.1.stands.count ∙ sym (size-same c.args.cell p q c.requires.2) ∙ ap size (sym read)

pub lay_window-requires-clause-inside : goal.lay_window-requires-clause-inside
lay_window-requires-clause-inside g c =
    let s = c.shape-shape.result in
    let q = kept_plan s c.as_slice-records.result.now in
    let cells : c.cells-2.result ≡ size q = c.cells-2.ensures ∙ sym q.full in
    omega (arith, cells, c.min-end.ensures)

pub returns-clause-whole : goal.returns-clause-whole
returns-clause-whole g c =
    let p = c.requires.0 in
    let q = g.G.Ground.plan c.args.ground.now in
    let s = c.shape-shape.result in
    let i = c.args.cell in
    let change = c.requires.2 in
    let wide : s.wide ≡ p.wide = c.shape-shape.ensures.wide ∙ change.wide in
    let cells = shape_size q s c.cells.result c.shape-shape.ensures.wide c.shape-shape.ensures.high c.cells.ensures in
    let all = shape_size q s c.cells-2.result c.shape-shape.ensures.wide c.shape-shape.ensures.high c.cells-2.ensures in
    let inside : i < size q = omega (arith, cells, c.if-cell-cells.false) in
    let records : List Record = set c.args.records.now.items i c.record.result in
    let kept = records_set p q i c.args.records.now.items c.record.result change c.requires.1.kept inside c.record.ensures in
    let read : kept_plan s c.as_slice-records.result.now ≡ q = ap (kept_plan s) c.as_slice-records.ensures.value ∙ plan_kept q s records c.shape-shape.ensures.wide c.shape-shape.ensures.high kept.cells in
    let first = c.saturating_sub-first.result in
    let end = c.min-end.result in
    let rows : List (Option Stencil) = vec_items c.lay_window.new.rows in
    let ends : end ≡ min (size q) (i + p.wide + 1) = c.min-end.ensures ∙ ap (λ n. min n (i + s.wide + 1)) all ∙ ap (λ w. min (size q) (i + w + 1)) wide in
    laid_around p q i first end c.args.records.now.items records c.args.rows.now.items rows change (omega (arith, wide, s.wide_least)) c.requires.1
    (c.saturating_sub-first.ensures ∙ ap (λ w. i - w) wide) (either (size q) (i + p.wide + 1) end ends) c.lay_window.ensures.before c.lay_window.ensures.after
    kept
    (subst (λ (x : Plan). (k : ℕ) → first ≤ k → k < end → RowOf x k (get_or rows k None)) read c.lay_window.ensures.row)
    (subst (λ (x : Plan). (k : ℕ) → first ≤ k → k < end → ArmsNear x k (get_or rows k None)) read c.lay_window.ensures.near)
    (sym c.lay_window.new.rows.ok.0 ∙ c.lay_window.ensures.count ∙ c.args.rows.now.ok.0)
