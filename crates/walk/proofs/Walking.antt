-- One cell of a walk.
use Rattle.std.proofs.Common.{◌≡◌, ℕ, zero, suc, ◌+◌, ◌<◌, ◌≤◌, Bool, true, false, T, List, length, get_or, set, Some, None, Option, sym, refl, ap, ◌∙◌, subst, add-one, arith, length-set, get_or-set_other, get_or-set_same}
use native.Mathlib.Decide.{ℕ_discrete}
use Rattle.std.proofs.lemmas.List.{get_or_default}
use Rattle.section.specs.Plan.{Plan, size, is_free_at, Free}
use Rattle.section.proofs.Cells.{free-inside}
use Rattle.stencil.specs.Sides.{OnSides}
use Rattle.stencil.specs.Stencils.{Equation, RowOf, Stands}
use Rattle.stencil.specs.declared.types.Stencil.{Stencil}
use Rattle.walk.specs.Sites.{Shows, Sees, FairSite, Walkable}
use Rattle.walk.specs.Walks.{Walk, turned, visited, walk}
use Rattle.walk.specs.declared.types.Site.{Site}
use Rattle.walk.specs.declared.types.Turn.{Turn}
use Rattle.walk.specs.declared.types.Turn.TheVariants.{Stop}

-- an element that was read is the element at any default
pub read : {E : Type 0} (xs : List E) (i : ℕ) (x d : E) → i < length xs → x ≡ get_or xs i x → x ≡ get_or xs i d
read xs i x d l e = e ∙ get_or_default xs i x d l

-- the row that a loop reads
pub row_is : {X : Type 0} (rows : List (Option X)) (i : ℕ) (r x : Option X) → i < length rows → r ≡ get_or rows i r → r ≡ x → get_or rows i None ≡ x
row_is rows i r x l e q = sym (read rows i r None l e) ∙ q

-- what a row of a table that stands is
pub row-free : (p : Plan) (rows : List (Option Stencil)) (i : ℕ) (s : Stencil) → Stands p rows → i < length rows → get_or rows i None ≡ Some s → Equation p i s
row-free p rows i s st l e = subst (RowOf p i) e (st.row i (omega (arith, st.count)))

pub row-none : (p : Plan) (rows : List (Option Stencil)) (i : ℕ) → Stands p rows → i < length rows → get_or rows i None ≡ None → is_free_at p i ≡ false
row-none p rows i st l e = by (is_free_at p i) (subst (RowOf p i) e (st.row i (omega (arith, st.count))))
  where
    by : (b : Bool) → (T b → ⊥) → b ≡ false
    by true n = absurd (n tt)
    by false n = refl

pub free_true : (p : Plan) (i : ℕ) → Free p i → is_free_at p i ≡ true
free_true p i f = by (is_free_at p i) f
  where
    by : (b : Bool) → T b → b ≡ true
    by true t = refl
    by false t = absurd t

module _ {E : Type 0} (fair : E → Type 0) (p : Plan) (xs : List E) (w : Walkable fair p xs) where
  pub inside : (i : ℕ) → Free p i → i < length xs
  inside i f = omega (arith, free-inside p i f, w.count)

  pub fair_site : (i : ℕ) (st : Stencil) (s : Site E) → Equation p i st → Shows xs i st s → FairSite fair s
  fair_site i st s q h = record {
    old = subst fair (sym (h.old s.old)) (w.entries i q.free s.old);
    around = subst (OnSides fair) (sym (h.around s.old)) (record {
      north = w.entries st.arms.north.cell q.reads.north s.old;
      west = w.entries st.arms.west.cell q.reads.west s.old;
      east = w.entries st.arms.east.cell q.reads.east s.old;
      south = w.entries st.arms.south.cell q.reads.south s.old;
    });
  }

  -- the arms lie in the grid
  pub arms_inside : (i : ℕ) (st : Stencil) → Equation p i st → OnSides (λ a. a.cell < length xs) st.arms
  arms_inside i st q = record {
    north = inside st.arms.north.cell q.reads.north;
    west = inside st.arms.west.cell q.reads.west;
    east = inside st.arms.east.cell q.reads.east;
    south = inside st.arms.south.cell q.reads.south;
  }

  -- a fair entry put anywhere keeps the grid walkable
  pub put_walkable : (i : ℕ) (e : E) → i < length xs → fair e → Walkable fair p (set xs i e)
  put_walkable i e l f = record {
    count = simp length-set w.count;
    entries = λ j fj d. elim (ℕ_discrete j i) [
      | yes q ↦ rw (q, get_or-set_same xs i e d l) f
      | no n ↦ rw (get_or-set_other xs i j e d n) (w.entries j fj d)
    ];
  }

module _ {E : Type 0} (step : List E → ℕ → Turn E) (free : ℕ → Bool) (xs₀ xs : List E) (i m : ℕ)
    (so_far : walk step free i xs₀ ≡ record { grid = xs; changed = m; stopped = None }) where
  -- a cell that is not free has no turn
  pub walk_past : free i ≡ false → walk step free (i + 1) xs₀ ≡ record { grid = xs; changed = m; stopped = None }
  walk_past n = rw (add-one, so_far, n) refl

  -- a free cell has the turn that the step says
  pub walk_turn : (t : Turn E) → free i ≡ true → step xs i ≡ t → walk step free (i + 1) xs₀ ≡ turned step free (record { grid = xs; changed = m; stopped = None }) i t
  walk_turn t y e = rw (add-one, so_far, y, e) refl

-- a stopped walk visits no further cell
pub walk-stopped :
    {E : Type 0} (step : List E → ℕ → Turn E) (free : ℕ → Bool) (xs₀ : List E) (w : Walk E) (k i n : ℕ) →
    walk step free i xs₀ ≡ w → w.stopped ≡ Some k → i ≤ n → walk step free n xs₀ ≡ w
walk-stopped step free xs₀ w k i zero e s l = let z : i ≡ 0 = omega arith in subst (λ (j : ℕ). walk step free j xs₀ ≡ w) z e
walk-stopped {E} step free xs₀ w k i (suc n) e s l = elim (ℕ_discrete i (suc n)) [
  | yes q ↦ subst (λ (j : ℕ). walk step free j xs₀ ≡ w) q e
  | no d ↦
      let ih = walk-stopped step free xs₀ w k i n e s (omega arith) in
      let P : Walk E → Type 0 = λ v. visited step free v n v.stopped ≡ v in
      subst P (sym ih) (ap (visited step free w n) s) ∙ ih
]

-- one row of the table
module _
    {E : Type 0}
    (p : Plan)
    (step : List E → ℕ → Turn E)
    (rows : List (Option Stencil))
    (stands : Stands p rows)
    (xs₀ xs : List E)
    (i m : ℕ)
    (lt : i < length rows)
    (so_far : walk step (is_free_at p) i xs₀ ≡ record { grid = xs; changed = m; stopped = None })
  where
    pub visit_none : get_or rows i None ≡ None → walk step (is_free_at p) (i + 1) xs₀ ≡ record { grid = xs; changed = m; stopped = None }
    visit_none e = walk_past step (is_free_at p) xs₀ xs i m so_far (row-none p rows i stands lt e)

    module _
        (st : Stencil)
        (s : Site E)
        (t : Turn E)
        (e : get_or rows i None ≡ Some st)
        (h : Shows xs i st s)
        (said : (j : ℕ) → Sees p xs j s → t ≡ step xs j)
      where
        pub visit_some : (x : Turn E) → t ≡ x → walk step (is_free_at p) (i + 1) xs₀ ≡ turned step (is_free_at p) (record { grid = xs; changed = m; stopped = None }) i x
        visit_some x same =
            let q = row-free p rows i st stands lt e in
            let sees : Sees p xs i s = record {
              equation = subst (Equation p i) (sym h.stencil) q;
              shows = subst (λ (y : Stencil). Shows xs i y s) (sym h.stencil) h;
            } in
            walk_turn step (is_free_at p) xs₀ xs i m so_far x (free_true p i q.free) (sym (said i sees) ∙ same)

        pub visit_stop : t ≡ Stop → walk step (is_free_at p) (size p) xs₀ ≡ record { grid = xs; changed = m; stopped = Some i }
        visit_stop same =
            walk-stopped step (is_free_at p) xs₀ (record { grid = xs; changed = m; stopped = Some i }) i (i + 1) (size p) (visit_some Stop same) refl (omega (arith, stands.count))
