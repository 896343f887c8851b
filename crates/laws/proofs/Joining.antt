-- An accepted certificate's brackets hold every exact solution, and joined to others they lose none.
use Rattle.std.proofs.Common.{◌≡◌, ℕ, zero, suc, ◌<◌, Bool, true, false, cond, ◌&&◌, T, ltb, List, length, get_or, set, ℤ, pos, negsuc, ◌≤ℤ◌, Some, None, Option, sym, refl, ap, ◌∙◌, subst, arith, length-set, get_or-set_other, get_or-set_same}
use native.Mathlib.Decide.{ℕ_discrete}
use borrow.Author.Differences.{ints}
use lib.Signed.{lt_z}
use Rattle.refusal.specs.Refusals.{Check, clear, refuse, ◌then◌, Fault, at_first, fault}
use Rattle.refusal.specs.declared.types.Level.TheVariants.{Call}
use Rattle.scan.specs.First.{first}
use Rattle.scan.proofs.Firsts.{first-none}
use Rattle.section.specs.Limits.{outside}
use Rattle.section.specs.Plan.{Plan, size, is_free_at, Free}
use Rattle.section.specs.Reading.{temperatures, brackets, row_bracket, widest}
use Rattle.section.specs.declared.rows.BracketRow.{BracketRow}
use Rattle.section.specs.declared.rows.Temperature.{Temperature}
use Rattle.section.specs.declared.rows.Majorant.{Majorant}
use Rattle.section.proofs.Cells.{free-inside}
use Rattle.walk.proofs.Walking.{free_true}
use Rattle.steps.specs.Steps.{same}
use Rattle.steps.specs.Tightening.{lows, highs}
use Rattle.measure.specs.Measures.{cell_margin, spread, around, certified}
use Rattle.certificate.specs.Certifying.{free_check, temperature_check, majorant_check, margin_check, spread_check, common, crossed, meeting_check, proposal_check, joined, row_for, settled, written_to, written}
use Rattle.certificate.specs.declared.basis.Basis.{Basis}
use Rattle.certificate.specs.declared.basis.Basis.TheVariants.{Alone, Joined}
use Rattle.laws.specs.Exact.{Within, Bracketed}
use Rattle.laws.specs.Certifying.{CertificateLaw}
use Rattle.laws.specs.Tightening.{Tightened}
use Rattle.laws.proofs.Narrowing.{max-below, min-above, max_from, min_to, max-over, min-under, row_reads}
use Rattle.laws.proofs.Certificate.{certified-holds}

-- checks that are clear one after the other are each clear
pub both_clear : (a b : Check) → (a then b) ≡ clear → (a ≡ clear) × (b ≡ clear)
both_clear clear b e = (refl, e)
both_clear (refuse f) b e = (cc, cc)

none_found : (o : Option ℕ) (f : ℕ → Fault) → at_first o f ≡ clear → o ≡ None
none_found None f e = refl
none_found (Some i) f e = cc

second_fails : (a b : Bool) → T a → (a && b) ≡ false → b ≡ false
second_fails true b t e = e
second_fails false b t e = absurd t

-- what a clear check found at no free cell fails at each
fails_at : (p : Plan) (k : ℕ) (test : ℕ → Bool) → free_check p k test ≡ clear → (i : ℕ) → Free p i → test i ≡ false
fails_at p k test e i f =
    let here = λ (j : ℕ). is_free_at p j && test j in
    second_fails (is_free_at p i) (test i) f (first-none here (size p) (none_found (first here (size p)) (fault Call k) e) i (free-inside p i f))

not_less : (a b : ℤ) → lt_z a b ≡ false → b ≤ℤ a
not_less a b e = grind (arith, ints)

same_bracket : (a b : BracketRow) → (same a.lo b.lo && same a.hi b.hi) ≡ true → b ≡ a
same_bracket a b e = grind (arith, ints)

-- a row that stays reads as the bracket that it is left for
row_for_reads : (new row : BracketRow) → row_bracket new ≡ new → row_bracket (row_for new row) ≡ new
row_for_reads new row e = by (same new.lo (row_bracket row).lo && same new.hi (row_bracket row).hi) refl
  where
    by : (t : Bool) → (same new.lo (row_bracket row).lo && same new.hi (row_bracket row).hi) ≡ t → row_bracket (cond t row new) ≡ new
    by true h = same_bracket new (row_bracket row) h
    by false h = e

-- a temperature and a spread within their limits keep those of rows
around-limits :
    (u : ℤ) (e : ℕ) → outside (negsuc 999999999) (pos 1000000000) u ≡ false → ltb 1000000000 e ≡ false →
    (negsuc 1999999999 ≤ℤ (around u e).lo) × ((around u e).hi ≤ℤ pos 2000000000) × ((around u e).lo ≤ℤ (around u e).hi)
around-limits u e h k = grind (arith, ints)

-- what a certified bracket leaves reads as itself where its ends do not cross
joined-reads :
    (b : Basis) (new old : BracketRow) → negsuc 1999999999 ≤ℤ new.lo → new.hi ≤ℤ pos 2000000000 → (joined b new old).lo ≤ℤ (joined b new old).hi →
    row_bracket (joined b new old) ≡ joined b new old
joined-reads Alone new old lo hi ordered = row_reads new lo hi ordered
joined-reads Joined new old lo hi ordered =
    row_reads (common new old) (max_from new.lo old.lo (negsuc 1999999999) lo) (min_to new.hi old.hi (pos 2000000000) hi) ordered

module _ (p : Plan) (b : Basis) (us : List Temperature) (ws : List Majorant) (bs : List BracketRow) where
  -- the row that a free cell is left with
  abbrev row : ℕ → BracketRow
  row i = settled b (certified p us ws i) (get_or bs i widest)

  length-written : (n : ℕ) → length (written_to p b us ws n bs) ≡ length bs
  length-written zero = refl
  length-written (suc n) =
      let xs = written_to p b us ws n bs in
      let ih = length-written n in
      elim (is_free_at p n) as (λ t. length (cond t (set xs n (row n)) xs) ≡ length bs) [ true ↦ simp length-set ih | false ↦ ih ]

  -- every free cell that was passed has its row
  written_at : (n i : ℕ) → i < n → i < length bs → Free p i → get_or (written_to p b us ws n bs) i widest ≡ row i
  written_at zero i l in-bs f = absurd (omega arith)
  written_at (suc n) i l in-bs f =
      let xs = written_to p b us ws n bs in
      elim (ℕ_discrete i n) [
        | yes q ↦
            let here : is_free_at p n ≡ true = rw q at (free_true p i f) in
            rw here (rw q (get_or-set_same xs n (row n) widest (omega (arith, length-written n))))
        | no k ↦
            let ih = written_at n i (omega arith) in-bs f in
            elim (is_free_at p n) as (λ t. get_or (cond t (set xs n (row n)) xs) i widest ≡ row i)
            [ true ↦ get_or-set_other xs n i (row n) widest k ∙ ih | false ↦ ih ]
      ]

-- what an accepted proposal tells of its free cells
module _ (p : Plan) (us : List Temperature) (ws : List Majorant) (e : proposal_check p us ws ≡ clear) where
  checks : (temperature_check p us ≡ clear) × (margin_check p ws ≡ clear) × (spread_check p us ws ≡ clear)
  checks =
      let t = both_clear (temperature_check p us) (majorant_check p ws then margin_check p ws then spread_check p us ws) e in
      let m = both_clear (majorant_check p ws) (margin_check p ws then spread_check p us ws) t.1 in
      let s = both_clear (margin_check p ws) (spread_check p us ws) m.1 in
      (t.0, s.0, s.1)

  margins : (i : ℕ) → Free p i → pos 1 ≤ℤ cell_margin p ws i
  margins i f = not_less (cell_margin p ws i) (pos 1) (fails_at p 12 (λ j. lt_z (cell_margin p ws j) (pos 1)) checks.1 i f)

  limits :
      (i : ℕ) → Free p i →
      (negsuc 1999999999 ≤ℤ (certified p us ws i).lo) × ((certified p us ws i).hi ≤ℤ pos 2000000000) × ((certified p us ws i).lo ≤ℤ (certified p us ws i).hi)
  limits i f =
      around-limits (temperatures us i) (spread p us ws i)
      (fails_at p 10 (λ j. outside (negsuc 999999999) (pos 1000000000) (temperatures us j)) checks.0 i f)
      (fails_at p 13 (λ j. ltb 1000000000 (spread p us ws j)) checks.2 i f)

  -- what is left of a bracket does not cross
  ordered :
      (b : Basis) (bs : List BracketRow) → meeting_check p b us ws bs ≡ clear → (i : ℕ) → Free p i →
      (joined b (certified p us ws i) (brackets bs i)).lo ≤ℤ (joined b (certified p us ws i) (brackets bs i)).hi
  ordered Alone bs m i f = (limits i f).2
  ordered Joined bs m i f =
      let left = λ (j : ℕ). common (certified p us ws j) (brackets bs j) in
      not_less (left i).hi (left i).lo (fails_at p 9 (λ j. crossed (left j)) m i f)

  -- the bracket that each free cell is left with
  left-reads :
      (b : Basis) (bs : List BracketRow) → length bs ≡ size p → meeting_check p b us ws bs ≡ clear → (i : ℕ) → Free p i →
      brackets (written p b us ws bs) i ≡ joined b (certified p us ws i) (brackets bs i)
  left-reads b bs count m i f =
      let new = certified p us ws i in
      let old = get_or bs i widest in
      let l = limits i f in
      let inside = free-inside p i f in
      ap row_bracket (written_at p b us ws bs (size p) i inside (omega (arith, count)) f) ∙
      row_for_reads (joined b new (row_bracket old)) old (joined-reads b new (row_bracket old) l.0 l.1 (ordered b bs m i f))

-- joined to brackets that are proved already
module _
    (p : Plan)
    (us : List Temperature)
    (ws : List Majorant)
    (bs : List BracketRow)
    (count : length bs ≡ size p)
    (e : proposal_check p us ws ≡ clear)
    (m : meeting_check p Joined us ws bs ≡ clear)
  where
    abbrev new : ℕ → BracketRow
    new i = certified p us ws i

    -- what holds of what the two brackets of a free cell have in common holds of the bracket that is left
    at_left : (P : BracketRow → Type 0) (i : ℕ) → Free p i → P (common (new i) (brackets bs i)) → P (brackets (written p Joined us ws bs) i)
    at_left P i f h = subst P (sym (left-reads p us ws e Joined bs count m i f)) h

    keeps-common : Bracketed p (brackets bs) → Bracketed p (brackets (written p Joined us ws bs))
    keeps-common start D v exact i f =
        let a = certified-holds p us ws (margins p us ws e) D v exact i f in
        let b = start D v exact i f in
        at_left (λ x. Within D x.lo x.hi (v i)) i f
        (max-below D (new i).lo (lows bs i) (v i) a.0 b.0, min-above D (new i).hi (highs bs i) (v i) a.1 b.1)

    together : Tightened p bs (written p Joined us ws bs)
    together = record {
      keeps = keeps-common;
      lower = λ i f. at_left (λ x. lows bs i ≤ℤ x.lo) i f (max-over (new i).lo (lows bs i));
      upper = λ i f. at_left (λ x. x.hi ≤ℤ highs bs i) i f (min-under (new i).hi (highs bs i));
    }

pub certificate_law : CertificateLaw
certificate_law p Alone us ws bs count e =
    let h = both_clear (proposal_check p us ws) (meeting_check p Alone us ws bs) e in
    λ D v exact i f. rw (left-reads p us ws h.0 Alone bs count h.1 i f) (certified-holds p us ws (margins p us ws h.0) D v exact i f)
certificate_law p Joined us ws bs count e =
    let h = both_clear (proposal_check p us ws) (meeting_check p Joined us ws bs) e in together p us ws bs count h.0 h.1
