-- The brackets that a certificate leaves, cell by cell.
use Rattle.std.proofs.Common.{◌≡◌, ℕ, zero, suc, ◌+◌, ◌<◌, ◌≤◌, Bool, true, false, cond, List, length, get_or, set, refl, ap, ◌∙◌, add-one, arith, get_or-set_other}
use Rattle.std.proofs.lemmas.List.{get_or_default}
use Rattle.section.specs.Plan.{Plan, is_free_at}
use Rattle.section.specs.Reading.{widest}
use Rattle.section.specs.declared.rows.BracketRow.{BracketRow}
use Rattle.section.specs.declared.rows.Temperature.{Temperature}
use Rattle.section.specs.declared.rows.Majorant.{Majorant}
use Rattle.measure.specs.Measures.{certified}
use Rattle.certificate.specs.Certifying.{settled, written_to}
use Rattle.certificate.specs.declared.basis.Basis.{Basis}

module _ (p : Plan) (b : Basis) (us : List Temperature) (ws : List Majorant) (bs : List BracketRow) where
  -- a cell that was not passed yet has its row
  ahead : (n i : ℕ) (d : BracketRow) → n ≤ i → get_or (written_to p b us ws n bs) i d ≡ get_or bs i d
  ahead zero i d l = refl
  ahead (suc n) i d l =
      let ih = ahead n i d (omega arith) in
      let row = settled b (certified p us ws n) (get_or bs n widest) in
      by (is_free_at p n) (get_or-set_other (written_to p b us ws n bs) n i row d (λ e. absurd (omega (arith, e))) ∙ ih) ih
    where
      by : (f : Bool) → get_or (set (written_to p b us ws n bs) n (settled b (certified p us ws n) (get_or bs n widest))) i d ≡ get_or bs i d → get_or (written_to p b us ws n bs) i d ≡ get_or bs i d → get_or (cond f (set (written_to p b us ws n bs) n (settled b (certified p us ws n) (get_or bs n widest))) (written_to p b us ws n bs)) i d ≡ get_or bs i d
      by true s t = s
      by false s t = t

  module _ (i : ℕ) (xs : List BracketRow) (so_far : xs ≡ written_to p b us ws i bs) where
    pub write_past : is_free_at p i ≡ false → xs ≡ written_to p b us ws (i + 1) bs
    write_past n = rw (add-one, n) so_far

    pub write_here : (own row d : BracketRow) → is_free_at p i ≡ true → i < length xs → own ≡ certified p us ws i → row ≡ settled b own (get_or xs i d) → set xs i row ≡ written_to p b us ws (i + 1) bs
    write_here own row d f l o r =
        let read : get_or xs i d ≡ get_or bs i widest = get_or_default xs i d widest l ∙ ap (λ ys. get_or ys i widest) so_far ∙ ahead i i widest (omega arith) in
        let row_is : row ≡ settled b (certified p us ws i) (get_or bs i widest) = r ∙ ap (λ x. settled b x (get_or xs i d)) o ∙ ap (settled b (certified p us ws i)) read in
        rw (add-one i, f) (ap (λ ys. set ys i row) so_far ∙ ap (set (written_to p b us ws i bs) i) row_is)
