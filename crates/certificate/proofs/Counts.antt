-- Counting the open cells by their rows.
use Rattle.std.proofs.Common.{◌≡◌, ℕ, ◌+◌, ◌^◌, ◌<◌, Bool, cond, List, length, get_or, ℤ, ◌-ℤ◌, nat_abs, Some, None, Option, sym, ap, ◌∙◌, add-one, arith}
use lib.Signed.{lt_z}
use Rattle.std.proofs.lemmas.List.{get_or_default}
use Rattle.std.proofs.lemmas.Int.{ints}
use Rattle.number.proofs.Words.{word, back}
use Rattle.section.specs.Plan.{Plan, count_to}
use Rattle.section.specs.Reading.{plain, row_bracket, brackets, widest}
use Rattle.section.specs.declared.rows.BracketRow.{BracketRow}
use Rattle.section.specs.declared.types.Bracket.{Bracket}
use Rattle.section.specs.declared.types.Tolerance.{Tolerance}
use Rattle.stencil.specs.Stencils.{Stands}
use Rattle.stencil.specs.declared.types.Stencil.{Stencil}
use Rattle.walk.proofs.Walking.{free_true, row-free, row-none}
use Rattle.certificate.specs.Counting.{is_open, open_count, width}

-- the width of a bracket as code has it
pub width_back : (b : Bracket) (r : BracketRow) → plain b ≡ r → word (word b.hi -ℤ word b.lo) ≡ width r
width_back b r e = rw (back b.hi high, back b.lo low) (back (b.hi -ℤ b.lo) small ∙ ap width e)
  where
    low : nat_abs b.lo < 2 ^ 63
    low = omega (arith, ints, b.lo_least, b.hi_most, b.ordered)

    high : nat_abs b.hi < 2 ^ 63
    high = omega (arith, ints, b.lo_least, b.hi_most, b.ordered)

    small : nat_abs (b.hi -ℤ b.lo) < 2 ^ 63
    small = omega (arith, ints, b.lo_least, b.hi_most, b.ordered)

pub tolerance-back : (t : Tolerance) → word t.width ≡ t.width
tolerance-back t = back t.width small
  where
    small : nat_abs t.width < 2 ^ 63
    small = omega (arith, ints, t.width_least, t.width_most)

-- one row more
module _ (p : Plan) (rows : List (Option Stencil)) (t : ℤ) (bs : List BracketRow) (i n : ℕ) (st : Stands p rows) (lt : i < length rows) (so_far : n ≡ count_to (is_open p t bs) i) where
  pub count_none : get_or rows i None ≡ None → n ≡ count_to (is_open p t bs) (i + 1)
  count_none e = rw (add-one, row-none p rows i st lt e) so_far

  pub count-some : (s : Stencil) (b : Bool) (d : BracketRow) → length bs ≡ length rows → get_or rows i None ≡ Some s → b ≡ lt_z t (width (row_bracket (get_or bs i d))) → cond b (n + 1) n ≡ count_to (is_open p t bs) (i + 1)
  count-some s b d len e o =
      let more = count_to (is_open p t bs) i in
      let open_is : b ≡ lt_z t (width (brackets bs i)) = o ∙ ap (λ r. lt_z t (width (row_bracket r))) (get_or_default bs i d widest (omega (arith, len))) in
      ap (λ k. cond b (k + 1) k) so_far ∙ sym (rw (add-one i, free_true p i (row-free p rows i s st lt e).free) (ap (λ x. cond x (more + 1) more) (sym open_is)))

-- the count passes every row
pub whole-count : (p : Plan) (rows : List (Option Stencil)) (t : ℤ) (bs : List BracketRow) (i n : ℕ) → Stands p rows → length rows ≡ i → n ≡ count_to (is_open p t bs) i → n ≡ open_count p t bs
whole-count p rows t bs i n st e c = c ∙ ap (count_to (is_open p t bs)) (sym e ∙ st.count)
