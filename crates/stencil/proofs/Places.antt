-- A row tells of the cells near it alone, so a change elsewhere leaves it as it was.
use Rattle.std.proofs.Common.{◌≡◌, ℕ, ◌+◌, ◌-◌, ◌*◌, ◌<◌, ◌≤◌, ◌≢◌, ◌⊎◌, inl, inr, min, Bool, true, false, cond, T, List, [], ◌∷◌, length, get_or, set, ℤ, pos, ◌+ℤ◌, ◌*ℤ◌, Some, None, Option, sym, refl, ap, ◌∙◌, subst, ⊎_elim, arith, length-set}
use Rattle.std.proofs.lemmas.Bool.{cases_eq, cases_lt}
use Rattle.std.proofs.lemmas.List.{ext_get_or, get_or-set_other, get_or-set_same}
use Rattle.section.specs.Plan.{Plan, Cell, free, held, void, meant, at, size, is_free, is_solid, Free, link, counted, has_north, has_west, has_east, links_of, links, dot, dot_n, entry, mass, diag, heat, pull, load}
use Rattle.section.proofs.Cells.{dot-append, dot_n-append}
use Rattle.section.specs.declared.types.Record.{Record}
use Rattle.section.specs.declared.types.Record.TheVariants.{Void}
use Rattle.stencil.specs.Laying.{Near, ArmsNear, RecordsOf, LaidOf, ChangedAt}
use Rattle.stencil.specs.Stencils.{RowOf}
use Rattle.stencil.specs.declared.types.Stencil.{Stencil}
use Rattle.stencil.proofs.Keeping.{plan-same}

-- a link's part of a sum asks what lies at its own cell
dot-counted : (p : Plan) (b : Bool) (c j : ℕ) (f g : ℕ → ℤ) → f j ≡ g j → dot (counted p b c j) f ≡ dot (counted p b c j) g
dot-counted p false c j f g e = refl
dot-counted p true c j f g e =
    elim (is_solid (at p j)) as (λ s. dot (cond s (link c j ∷ []) []) f ≡ dot (cond s (link c j ∷ []) []) g) [
      | true ↦ ap (λ x. pos c *ℤ x +ℤ pos 0) e
      | false ↦ refl
    ]

dot_n-counted : (p : Plan) (b : Bool) (c j : ℕ) (f g : ℕ → ℕ) → f j ≡ g j → dot_n (counted p b c j) f ≡ dot_n (counted p b c j) g
dot_n-counted p false c j f g e = refl
dot_n-counted p true c j f g e =
    elim (is_solid (at p j)) as (λ s. dot_n (cond s (link c j ∷ []) []) f ≡ dot_n (cond s (link c j ∷ []) []) g) [
      | true ↦ ap (λ x. c * x + 0) e
      | false ↦ refl
    ]

far-ne : (w c k j : ℕ) → (k + w < c) ⊎ (c + w < k) → k ≤ j + w → j ≤ k + w → j ≢ c
far-ne w c k j far lo hi e = ⊎_elim (λ (l : k + w < c). absurd (omega arith)) (λ (l : c + w < k). absurd (omega arith)) far

pub size-same : (c : ℕ) (p q : Plan) → ChangedAt c p q → size q ≡ size p
size-same c p q change = q.full ∙ ap (λ x. x * q.high) change.wide ∙ ap (λ x. p.wide * x) change.high ∙ sym p.full

pub near_same : (c : ℕ) (p q : Plan) (k : ℕ) (row : Option Stencil) → ChangedAt c p q → ArmsNear p k row → ArmsNear q k row
near_same c p q k (Some s) change near =
    let w = change.wide in
    record { north = rw w near.north; west = rw w near.west; east = rw w near.east; south = rw w near.south }
near_same c p q k None change near = tt

module _ (p q : Plan) (c k : ℕ) (change : ChangedAt c p q) (some : 1 ≤ p.wide) (far : (k + p.wide < c) ⊎ (c + p.wide < k)) where
  same : (j : ℕ) → Near p k j → at q j ≡ at p j
  same j near = change.others j (far-ne p.wide c k j far near.0 near.1)

  here : at q k ≡ at p k
  here = same k (omega arith, omega arith)

  north : at q (k - p.wide) ≡ at p (k - p.wide)
  north = same (k - p.wide) (omega arith, omega arith)

  west : at q (k - 1) ≡ at p (k - 1)
  west = same (k - 1) (omega arith, omega arith)

  east : at q (k + 1) ≡ at p (k + 1)
  east = same (k + 1) (omega arith, omega arith)

  south : at q (k + p.wide) ≡ at p (k + p.wide)
  south = same (k + p.wide) (omega arith, omega arith)

  links_by : (x : Cell) → links_of q k x ≡ links_of p k x
  links_by (free n w e s l h) = rw (change.wide, north, west, east, south)
  links_by (held t) = refl
  links_by void = refl

  links_same : links q k ≡ links p k
  unfolding links
  links_same = rw here (links_by (at p k))

  diag_same : diag q k ≡ diag p k
  unfolding diag
  diag_same = rw (here, links_same)

  heat_same : heat q k ≡ heat p k
  unfolding heat
  heat_same = rw here

  entry_same : (u : ℕ → ℤ) (j : ℕ) → at q j ≡ at p j → entry q u j ≡ entry p u j
  unfolding entry
  entry_same u j e = rw e

  mass_same : (w : ℕ → ℕ) (j : ℕ) → at q j ≡ at p j → mass q w j ≡ mass p w j
  unfolding mass
  mass_same w j e = rw e

  dot_by : (u : ℕ → ℤ) (x : Cell) → dot (links_of p k x) (entry q u) ≡ dot (links_of p k x) (entry p u)
  dot_by u (free n w e s l h) =
      simp dot-append (cc (
        dot-counted p (has_north p k) n (k - p.wide) (entry q u) (entry p u) (entry_same u (k - p.wide) north),
        dot-counted p (has_west p k) w (k - 1) (entry q u) (entry p u) (entry_same u (k - 1) west),
        dot-counted p (has_east p k) e (k + 1) (entry q u) (entry p u) (entry_same u (k + 1) east),
        dot-counted p true s (k + p.wide) (entry q u) (entry p u) (entry_same u (k + p.wide) south),
      ))
  dot_by u (held t) = refl
  dot_by u void = refl

  dot_n_by : (v : ℕ → ℕ) (x : Cell) → dot_n (links_of p k x) (mass q v) ≡ dot_n (links_of p k x) (mass p v)
  dot_n_by v (free n w e s l h) =
      simp dot_n-append (cc (
        dot_n-counted p (has_north p k) n (k - p.wide) (mass q v) (mass p v) (mass_same v (k - p.wide) north),
        dot_n-counted p (has_west p k) w (k - 1) (mass q v) (mass p v) (mass_same v (k - 1) west),
        dot_n-counted p (has_east p k) e (k + 1) (mass q v) (mass p v) (mass_same v (k + 1) east),
        dot_n-counted p true s (k + p.wide) (mass q v) (mass p v) (mass_same v (k + p.wide) south),
      ))
  dot_n_by v (held t) = refl
  dot_n_by v void = refl

  pull_same : (u : ℕ → ℤ) → pull q u k ≡ pull p u k
  unfolding pull links
  pull_same u = let e = dot_by u (at p k) in rw (heat_same, links_same) (ap (λ x. heat p k +ℤ x) e)

  load_same : (v : ℕ → ℕ) → load q v k ≡ load p v k
  unfolding load links
  load_same v = rw links_same (dot_n_by v (at p k))

  moved : (j : ℕ) → Near p k j → Free p j → Free q j
  moved j near f = subst (λ (x : Cell). T (is_free x)) (sym (same j near)) f

  pub row_same : (row : Option Stencil) → ArmsNear p k row → RowOf p k row → RowOf q k row
  row_same (Some s) near e = record {
    free = moved k (omega arith, omega arith) e.free;
    diagonal = e.diagonal ∙ sym diag_same;
    pulls = λ u. e.pulls u ∙ sym (pull_same u);
    loads = λ v. e.loads v ∙ sym (load_same v);
    reads = record {
      north = moved s.arms.north.cell near.north e.reads.north;
      west = moved s.arms.west.cell near.west e.reads.west;
      east = moved s.arms.east.cell near.east e.reads.east;
      south = moved s.arms.south.cell near.south e.reads.south;
    };
  }
  row_same None near none = λ f. none (subst (λ (x : Cell). T (is_free x)) here f)

-- the record that was read anew
pub records_set : (p q : Plan) (c : ℕ) (records : List Record) (r : Record) → ChangedAt c p q → RecordsOf p records → c < size q → meant r ≡ at q c → RecordsOf q (set records c r)
records_set p q c records r change kept l e =
    let n = size-same c p q change in
    let inside : c < length records = omega (arith, kept.count) in
    record {
      count = length-set records c r ∙ kept.count ∙ sym n;
      cells = λ k b.
          ⊎_elim
          (λ (i : k ≡ c). ap (λ x. meant (get_or (set records c r) x Void)) i ∙ ap meant (get_or-set_same records c r Void inside) ∙ e ∙ ap (at q) (sym i))
          (λ (ne : k ≢ c). ap meant (get_or-set_other records c k r Void ne) ∙ kept.cells k (omega arith) ∙ sym (change.others k ne))
          (cases_eq k c);
    }

-- past the last cell nothing changes
pub stays : (p q : Plan) (c : ℕ) → ChangedAt c p q → size q ≤ c → p ≡ q
stays p q c change past =
    sym (plan-same q p change.wide change.high (ext_get_or void q.cells p.cells (size-same c p q change) (λ i l. change.others i (λ (e : i ≡ c). absurd (omega arith)))))

pub either : (a b e : ℕ) → e ≡ min a b → (e ≡ a) ⊎ (e ≡ b)
either a b e is = ⊎_elim (λ (l : a < b). inl (omega arith)) (λ (l : b ≤ a). inr (omega arith)) (cases_lt a b)

-- the rows of a window round the cell are laid out anew, and the others stay
module _
    (p q : Plan) (c first end : ℕ) (records read : List Record) (rows rows' : List (Option Stencil)) (change : ChangedAt c p q) (some : 1 ≤ p.wide) (laid : LaidOf p records rows)
    (least : first ≡ c - p.wide) (most : (end ≡ size q) ⊎ (end ≡ c + p.wide + 1))
    (before : (k : ℕ) → k < first → get_or rows' k None ≡ get_or rows k None) (after : (k : ℕ) → end ≤ k → get_or rows' k None ≡ get_or rows k None)
  where
    abbrev Within : ℕ → Type 0
    Within k = (first ≤ k) × (k < end)

    abbrev Without : ℕ → Type 0
    Without k = (get_or rows' k None ≡ get_or rows k None) × ((k + p.wide < c) ⊎ (c + p.wide < k))

    above : (k : ℕ) → k < size q → end ≤ k → c + p.wide < k
    above k l e = ⊎_elim (λ (m : end ≡ size q). absurd (omega arith)) (λ (m : end ≡ c + p.wide + 1). omega arith) most

    sort : (k : ℕ) → k < size q → Within k ⊎ Without k
    sort k l =
        ⊎_elim
        (λ (b : k < first). inr (before k b, inl (omega arith)))
        (λ (b : first ≤ k). ⊎_elim (λ (e : k < end). inl (b, e)) (λ (e : end ≤ k). inr (after k e, inr (above k l e))) (cases_lt k end))
        (cases_lt k first)

    pub laid_around :
        RecordsOf q read → ((k : ℕ) → first ≤ k → k < end → RowOf q k (get_or rows' k None)) → ((k : ℕ) → first ≤ k → k < end → ArmsNear q k (get_or rows' k None)) →
        length rows' ≡ length rows → LaidOf q read rows'
    laid_around kept row near long =
        let n = size-same c p q change in
        record {
          kept = kept;
          stands = record {
            count = long ∙ laid.stands.count ∙ sym n;
            row = λ k l.
                ⊎_elim
                (λ (w : Within k). row k w.0 w.1)
                (λ (w : Without k). subst (RowOf q k) (sym w.0) (row_same p q c k change some w.1 (get_or rows k None) (laid.near k (omega arith)) (laid.stands.row k (omega arith))))
                (sort k l);
          };
          near = λ k l.
              ⊎_elim
              (λ (w : Within k). near k w.0 w.1)
              (λ (w : Without k). subst (ArmsNear q k) (sym w.0) (near_same c p q k (get_or rows k None) change (laid.near k (omega arith))))
              (sort k l);
        }
