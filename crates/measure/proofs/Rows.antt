-- A free cell of a table of equations, and the site that code reads there.
use Rattle.std.proofs.Common.{◌≡◌, ℕ, ◌<◌, List, length, get_or, Some, None, Option, sym, ◌∙◌, arith}
use Rattle.section.specs.Plan.{Plan, Free, size}
use Rattle.section.proofs.Cells.{free-inside}
use Rattle.stencil.specs.Sides.{OnSides}
use Rattle.stencil.specs.Stencils.{Equation, RowOf, Stands}
use Rattle.stencil.specs.declared.types.Stencil.{Stencil}
use Rattle.walk.specs.Sites.{Shows, FairSite, WalkableOver}
use Rattle.walk.specs.declared.types.Site.{Site}
use Rattle.walk.proofs.Walking.{row-free, inside, arms_inside, fair_site}
use Rattle.measure.specs.AtRows.{EquationOver}

-- what one plan says of a cell, another says too that the same rows stand for
module _ (p q : Plan) (rows : List (Option Stencil)) (sp : Stands p rows) (sq : Stands q rows) where
  -- a free cell has a row, the equation of both
  row_of : (i : ℕ) → Free p i → (r : Stencil) × (Equation p i r × Equation q i r)
  row_of i f = by (get_or rows i None) (sp.row i on) (sq.row i (omega (arith, on, sp.count, sq.count)))
    where
      on : i < size p
      on = free-inside p i f

      by : (o : Option Stencil) → RowOf p i o → RowOf q i o → (r : Stencil) × (Equation p i r × Equation q i r)
      by (Some r) a b = (r, (a, b))
      by None n m = absurd (n f)

  pub same_equation : (i : ℕ) (s : Stencil) → Equation p i s → Equation q i s
  same_equation i s e =
      let r = row_of i e.free in
      let a = r.1.0 in
      let b = r.1.1 in
      let free = λ (k : ℕ) (f : Free p k). (row_of k f).1.1.free in
      record {
        free = b.free;
        diagonal = e.diagonal ∙ sym a.diagonal ∙ b.diagonal;
        pulls = λ u. e.pulls u ∙ sym (a.pulls u) ∙ b.pulls u;
        loads = λ w. e.loads w ∙ sym (a.loads w) ∙ b.loads w;
        reads = record {
          north = free s.arms.north.cell e.reads.north;
          west = free s.arms.west.cell e.reads.west;
          east = free s.arms.east.cell e.reads.east;
          south = free s.arms.south.cell e.reads.south;
        };
      }

pub equation_at : (rows : List (Option Stencil)) (i : ℕ) (st : Stencil) → EquationOver rows i st → (p : Plan) → Stands p rows → Equation p i st
equation_at rows i st here p s = same_equation here.plan p rows here.stands s i st here.equation

module _ {E : Type 0} (fair : E → Type 0) (rows : List (Option Stencil)) (xs : List E) (w : WalkableOver fair rows xs) (i : ℕ) (st : Stencil) (here : EquationOver rows i st) where
  -- the cell and its arms lie in the grid
  pub within : record { on : i < length xs; around : OnSides (λ a. a.cell < length xs) st.arms }
  within =
      let q = equation_at rows i st here w.plan w.stands in
      record { on = inside fair w.plan xs w.walkable i q.free; around = arms_inside fair w.plan xs w.walkable i st q }

  pub site_fair : (s : Site E) → Shows xs i st s → FairSite fair s
  site_fair s h = fair_site fair w.plan xs w.walkable i st s (equation_at rows i st here w.plan w.stands) h

-- the row that a loop reads is an equation over the rows
pub row_over : {E : Type 0} {fair : E → Type 0} (rows : List (Option Stencil)) (xs : List E) (i : ℕ) (s : Stencil) → WalkableOver fair rows xs → i < length rows → get_or rows i None ≡ Some s → EquationOver rows i s
row_over rows xs i s w l e = record { plan = w.plan; stands = w.stands; equation = row-free w.plan rows i s w.stands l e }
