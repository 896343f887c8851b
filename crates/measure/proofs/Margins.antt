-- Margins: the difference that code computes, and the smallest so far.
use Rattle.std.proofs.Common.{◌≡◌, ℕ, ◌+◌, ◌*◌, ◌<◌, ◌≤◌, List, length, get_or, ℤ, pos, ◌-ℤ◌, nat_abs, Some, None, Option, sym, refl, ap, ◌∙◌, subst, add-one, arith, w64, to_z}
use Rattle.std.proofs.lemmas.Nat.{mul-le}
use Rattle.std.proofs.lemmas.Int.{ints, clamps, to_z_pos}
use Rattle.std.specs.Int.{int_min}
use Rattle.number.proofs.Words.{word, back}
use Rattle.section.specs.Plan.{Plan}
use Rattle.section.specs.declared.rows.Majorant.{Majorant}
use Rattle.stencil.specs.Stencils.{Equation, Stands}
use Rattle.stencil.specs.declared.types.Stencil.{Stencil}
use Rattle.walk.specs.Sites.{Shows}
use Rattle.walk.specs.declared.types.Site.{Site}
use Rattle.walk.proofs.Walking.{row-free, row-none, free_true}
use Rattle.steps.specs.AtSites.{site_load}
use Rattle.steps.specs.Steps.{heights}
use Rattle.measure.specs.Measures.{cell_margin, lesser, margin_to, or0}

pub margin-back : (z : ℤ) → nat_abs z ≤ 2500000000 → word z ≡ z
margin-back z h = back z (omega arith)

-- d is the diagonal, w the cell's entry and s the sum around it
pub gap-small : (d w : ℕ) → d ≤ 5000 → w ≤ 500000 → (s : ℕ) → s ≤ 2000000000 → nat_abs (word (to_z w64 (d * w) -ℤ to_z w64 s)) ≤ 2500000000
gap-small d w few low s small =
    let own : d * w ≤ 2500000000 = mul-le d w 5000 500000 few low in
    let gap : nat_abs (pos (d * w) -ℤ pos s) ≤ 2500000000 = omega (arith, ints, own, small) in
    let signed : to_z w64 (d * w) -ℤ to_z w64 s ≡ pos (d * w) -ℤ pos s =
    rw (to_z_pos w64 (d * w) (omega (arith, own)), to_z_pos w64 s (omega (arith, small))) refl in
    rw (signed, margin-back (pos (d * w) -ℤ pos s) gap) gap

-- the margin at a site is that of the plan which it shows
pub shown :
    (p : Plan) (ws : List Majorant) (i : ℕ) (st : Stencil) (s : Site Majorant) → Equation p i st → Shows ws i st s →
    pos (s.stencil.diagonal * nat_abs s.old.value) -ℤ pos (site_load s) ≡ cell_margin p ws i
shown p ws i st s q h =
    rw (h.stencil, h.old (record { value = pos 0 }), h.around (record { value = pos 0 }))
    (rw (q.diagonal, q.loads (heights ws)) refl)

min_abs : (y z : ℤ) → nat_abs y ≤ 2500000000 → nat_abs z ≤ 2500000000 → nat_abs (int_min y z) ≤ 2500000000
min_abs y z a b = omega (arith, ints, clamps)

lesser-small : (o : Option ℤ) (z : ℤ) → ((m : ℤ) → o ≡ Some m → nat_abs m ≤ 2500000000) → nat_abs z ≤ 2500000000 → nat_abs (lesser o z) ≤ 2500000000
lesser-small None z h small = small
lesser-small (Some y) z h small = min_abs y z (h y refl) small

-- the smaller of the least so far and a margin, as code keeps it
module _
    (least : Option ℤ)
    (m x : ℤ)
    (so_far : (z : ℤ) → least ≡ Some z → nat_abs z ≤ 2500000000)
    (small : nat_abs m ≤ 2500000000)
    (e : x ≡ lesser least (word m))
  where
    x_is : x ≡ lesser least m
    x_is = e ∙ ap (lesser least) (margin-back m small)

    x_small : nat_abs x ≤ 2500000000
    x_small = rw x_is (lesser-small least m so_far small)

    pub kept_is : Some (word x) ≡ Some (lesser least m)
    kept_is = ap Some (margin-back x x_small ∙ x_is)

    pub kept_small : (z : ℤ) → Some (word x) ≡ Some z → nat_abs z ≤ 2500000000
    kept_small z q = subst (λ (y : ℤ). nat_abs y ≤ 2500000000) (sym (margin-back x x_small) ∙ ap or0 q) x_small

-- one row of the table
module _
    (p : Plan)
    (rows : List (Option Stencil))
    (stands : Stands p rows)
    (ws : List Majorant)
    (i : ℕ)
    (least : Option ℤ)
    (lt : i < length rows)
    (so_far : least ≡ margin_to p ws i)
  where
    pub margin_past : get_or rows i None ≡ None → least ≡ margin_to p ws (i + 1)
    margin_past e = rw (add-one, row-none p rows i stands lt e) so_far

    pub margin-here : (st : Stencil) (m : ℤ) → get_or rows i None ≡ Some st → m ≡ cell_margin p ws i → Some (lesser least m) ≡ margin_to p ws (i + 1)
    margin-here st m e is =
        let q = row-free p rows i st stands lt e in
        rw (add-one, free_true p i q.free) (rw (so_far, is) refl)
