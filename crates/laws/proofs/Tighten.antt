-- Tightening keeps every exact solution and widens no bracket.
use Rattle.std.proofs.Common.{◌≡◌, ℕ, zero, suc, ◌+◌, ◌*◌, ◌≤◌, Bool, cond, ◌&&◌, eqb, List, get_or, set, ℤ, pos, negsuc, ◌*ℤ◌, neg_ℤ, ◌≤ℤ◌, sym, ap, ◌∙◌, mul-le-mul_left, arith}
use native.Mathlib.Nat.{le_of_mul-le-mul_left}
use borrow.Author.Differences.{up, down, ints, neg_is}
use lib.Signed.{lt_z}
use Rattle.std.specs.List.{AllByRecursion as All}
use Rattle.number.specs.Rounding.{floor, ceiling}
use Rattle.section.specs.Plan.{Plan, size, is_free_at, Free, Link, links, dot_n, diag, heat, entry, pull}
use Rattle.section.specs.Reading.{widest, row_bracket, brackets}
use Rattle.section.specs.declared.rows.BracketRow.{BracketRow}
use Rattle.section.proofs.Cells.{entry_free, entry-held}
use Rattle.walk.specs.declared.types.Turn.TheVariants.{Stay, Put, Stop}
use Rattle.steps.specs.Steps.{same}
use Rattle.laws.specs.Exact.{Exact, Within, Bracketed}
use Rattle.steps.specs.Tightening.{lows, highs, tighter, tightening}
use Rattle.laws.specs.Tightening.{Tightened, TighteningLaw}
use Rattle.laws.proofs.Narrowing.{max-below, min-above, max_from, min_to, row_limits, row_reads}
use Rattle.laws.proofs.Equations.{pull_is, equation_is}
use Rattle.laws.proofs.Links.{at-links}
use Rattle.laws.proofs.Rounds.{floor-le}
use Rattle.laws.proofs.Runs.{at_set, run_says}
use Rattle.laws.proofs.Sums.{dot_n-le, dot_n-add, dot_n-scale}

-- Where D lo ≤ v at each link, D times the floor of S / d is at most v: lo is x - y, v is a - b, the heat hu - hd, S su - sd, the floor fu - fd.
quotient_below :
    (ls : List Link) (x y a b : ℕ → ℕ) (D d i hu hd su sd fu fd : ℕ) → 1 ≤ d → All (λ l. D * x l.cell + b l.cell ≤ a l.cell + D * y l.cell) ls →
    d * a i + D * hd + dot_n ls b ≡ d * b i + D * hu + dot_n ls a → su + hd + dot_n ls y ≡ sd + hu + dot_n ls x → d * fu + sd ≤ su + d * fd →
    D * fu + b i ≤ a i + D * fd
quotient_below ls x y a b D d i hu hd su sd fu fd one low equation sum quotient =
    le_of_mul-le-mul_left {k = d}
    (omega (
      arith,
      dot_n-le ls (λ j. D * x j + b j) (λ j. a j + D * y j) low,
      dot_n-add ls (λ j. D * x j) b,
      dot_n-add ls a (λ j. D * y j),
      dot_n-scale ls D x,
      dot_n-scale ls D y,
      ap (λ (n : ℕ). D * n) sum,
      mul-le-mul_left D quotient,
    ))
    one

module _ (p : Plan) (D : ℕ) (v u : ℕ → ℤ) (exact : Exact p D v) (i : ℕ) (f : Free p i) (one : 1 ≤ diag p i) where
  abbrev S : ℤ
  S = pull p u i

  floor-below : ((j : ℕ) → Free p j → (pos D *ℤ u j) ≤ℤ v j) → (pos D *ℤ floor S (diag p i)) ≤ℤ v i
  floor-below h =
      let q = floor S (diag p i) in
      let low =
      at-links p (λ j. D * up (entry p u j) + down (v j) ≤ up (v j) + D * down (entry p u j))
      (λ j g. rw (entry_free p u j g) (omega (arith, ints, h j g)))
      (λ j t g. rw (entry-held p u j t g) (omega (arith, ints, exact.at_held j t g))) i in
      let below =
      quotient_below (links p i) (λ j. up (entry p u j)) (λ j. down (entry p u j)) (λ j. up (v j)) (λ j. down (v j)) D (diag p i) i
      (up (heat p i)) (down (heat p i)) (up S) (down S) (up q) (down q) one low (equation_is p D v exact i f) (pull_is p u i) (floor-le S (diag p i) one) in
      omega (arith, ints)

  ceiling-above : ((j : ℕ) → Free p j → v j ≤ℤ (pos D *ℤ u j)) → v i ≤ℤ (pos D *ℤ ceiling S (diag p i))
  ceiling-above h =
      let q = floor (neg_ℤ S) (diag p i) in
      let high =
      at-links p (λ j. D * down (entry p u j) + up (v j) ≤ down (v j) + D * up (entry p u j))
      (λ j g. rw (entry_free p u j g) (omega (arith, ints, h j g)))
      (λ j t g. rw (entry-held p u j t g) (omega (arith, ints, exact.at_held j t g))) i in
      let above =
      quotient_below (links p i) (λ j. down (entry p u j)) (λ j. up (entry p u j)) (λ j. down (v j)) (λ j. up (v j)) D (diag p i) i
      (down (heat p i)) (up (heat p i)) (down S) (up S) (up q) (down q) one high (sym (equation_is p D v exact i f)) (sym (pull_is p u i))
      (omega (arith, neg_is S, floor-le (neg_ℤ S) (diag p i) one)) in
      omega (arith, ints, ap (λ (n : ℕ). D * n) (neg_is q).0, ap (λ (n : ℕ). D * n) (neg_is q).1)

-- what a turn that puts a row tells
put_is :
    (d : ℕ) (stays : Bool) (new b : BracketRow) → cond (eqb d 0) Stay (cond (lt_z new.hi new.lo) Stop (cond stays Stay (Put new))) ≡ Put b →
    (1 ≤ d) × (b ≡ new) × (new.lo ≤ℤ new.hi)
put_is d stays new b t = grind (arith, ints)

-- a bracket that is tightened, and whose ends do not cross, reads as itself
tighter-reads : (b : BracketRow) (low high : ℤ) (d : ℕ) → (tighter (row_bracket b) low high d).lo ≤ℤ (tighter (row_bracket b) low high d).hi → row_bracket (tighter (row_bracket b) low high d) ≡ tighter (row_bracket b) low high d
tighter-reads b low high d ordered =
    let l = row_limits b in
    row_reads (tighter (row_bracket b) low high d) (max_from (row_bracket b).lo (floor low d) (negsuc 1999999999) l.0) (min_to (row_bracket b).hi (ceiling high d) (pos 2000000000) l.1) ordered

module _ (p : Plan) where
  abbrev tighter_at : List BracketRow → ℕ → BracketRow
  tighter_at ys i = tighter (brackets ys i) (pull p (lows ys) i) (pull p (highs ys) i) (diag p i)

  -- the row that is put reads as the tighter bracket
  put_reads : (ys : List BracketRow) (i : ℕ) (b : BracketRow) → tightening p ys i ≡ Put b → (1 ≤ diag p i) × (row_bracket b ≡ tighter_at ys i)
  put_reads ys i b t =
      let new = tighter_at ys i in
      let turn = put_is (diag p i) (same new.lo (lows ys i) && same new.hi (highs ys i)) new b t in
      (turn.0, ap row_bracket turn.1 ∙ tighter-reads (get_or ys i widest) (pull p (lows ys) i) (pull p (highs ys) i) (diag p i) turn.2)

  -- a row that is put keeps what tightening is to keep
  module _ (xs ys : List BracketRow) (i : ℕ) (b : BracketRow) (f : Free p i) (so : Tightened p xs ys) (t : tightening p ys i ≡ Put b) where
    keeps_put : Bracketed p (brackets xs) → Bracketed p (brackets (set ys i b))
    keeps_put start D v exact j g =
        let inside = so.keeps start D v exact in
        let put = put_reads ys i b t in
        at_set ys i b widest j (λ k r. Within D (row_bracket r).lo (row_bracket r).hi (v k)) (inside j g)
        (rw put.1 (
          max-below D (lows ys i) (floor (pull p (lows ys) i) (diag p i)) (v i) (inside i f).0 (floor-below p D v (lows ys) exact i f put.0 (λ k h. (inside k h).0)),
          min-above D (highs ys i) (ceiling (pull p (highs ys) i) (diag p i)) (v i) (inside i f).1 (ceiling-above p D v (highs ys) exact i f put.0 (λ k h. (inside k h).1)),
        ))

    lower_put : (j : ℕ) → Free p j → lows xs j ≤ℤ lows (set ys i b) j
    lower_put j g =
        at_set ys i b widest j (λ k r. lows xs k ≤ℤ (row_bracket r).lo) (so.lower j g)
        (rw (put_reads ys i b t).1 (max_from (lows ys i) (floor (pull p (lows ys) i) (diag p i)) (lows xs i) (so.lower i f)))

    upper_put : (j : ℕ) → Free p j → highs (set ys i b) j ≤ℤ highs xs j
    upper_put j g =
        at_set ys i b widest j (λ k r. (row_bracket r).hi ≤ℤ highs xs k) (so.upper j g)
        (rw (put_reads ys i b t).1 (min_to (highs ys i) (ceiling (pull p (highs ys) i) (diag p i)) (highs xs i) (so.upper i f)))

  tightened_put : (xs ys : List BracketRow) (i : ℕ) (b : BracketRow) → Free p i → Tightened p xs ys → tightening p ys i ≡ Put b → Tightened p xs (set ys i b)
  tightened_put xs ys i b f so t = record { keeps = keeps_put xs ys i b f so t; lower = lower_put xs ys i b f so t; upper = upper_put xs ys i b f so t }

  pub untouched : (xs : List BracketRow) → Tightened p xs xs
  untouched xs = record { keeps = λ start. start; lower = λ i f. omega (arith, ints); upper = λ i f. omega (arith, ints) }

pub tightening_law : TighteningLaw
tightening_law p zero xs = untouched p xs
tightening_law p (suc n) xs =
    (run_says (tightening p) (is_free_at p) (Tightened p xs) (tightened_put p xs) (size p) (suc n) xs (untouched p xs) (omega arith)).0
