-- What each call leaves and answers, by the laws of the runs.
use Rattle.std.proofs.Common.{◌≡◌, List, [], ◌∷◌, length, ℤ, pos, nat_abs, ap}
use Rattle.refusal.specs.Refusals.{clear, ◌then◌, when, fault, accepted}
use Rattle.refusal.specs.declared.types.Level.TheVariants.{Call}
use Rattle.section.specs.Limits.{numbers, outside}
use Rattle.section.specs.Plan.{Plan}
use Rattle.section.specs.declared.rows.BracketRow.{BracketRow}
use Rattle.section.specs.declared.rows.Temperature.{Temperature}
use Rattle.section.specs.declared.rows.Majorant.{Majorant}
use Rattle.steps.specs.declared.report.Raised.{Raised}
use Rattle.certificate.specs.Certifying.{certificate_check, written}
use Rattle.certificate.specs.Counting.{open_count}
use Rattle.laws.specs.Certifying.{Leaves}
use Rattle.laws.specs.Raising.{Told}
use Rattle.laws.proofs.Joining.{both_clear, certificate_law}
use Rattle.laws.proofs.Raise.{raising_law}
use Rattle.study.specs.Calls.{length_check, walks, margin, raise_check, raise_answer, raise_grid, basis_of, certify_check, certify_answer, certify_grid}
use Rattle.study.specs.declared.types.Certificate.{Certificate}
use Rattle.study.specs.declared.types.State.{State}
use Rattle.study.proofs.Checks.{accepted_is}
use Rattle.history.proofs.Checks.{length_is, some_is}

-- a certificate whose checks are clear
pub certify_leaves :
    (p : Plan) (s : State) (us : List Temperature) (ws : List Majorant) (before : List BracketRow) → certify_check p s us ws before ≡ clear →
    Leaves p (basis_of s) before (written p (basis_of s) us ws before)
certify_leaves p s us ws before e =
    let accepting = certificate_check p (basis_of s) us ws before in
    let a = both_clear (length_check p (length us)) (length_check p (length ws) then length_check p (length before) then accepting) e in
    let b = both_clear (length_check p (length ws)) (length_check p (length before) then accepting) a.1 in
    let d = both_clear (length_check p (length before)) accepting b.1 in
    certificate_law p (basis_of s) us ws before (length_is p (length before) d.0) d.1

-- an accepted certificate
module _
    (p : Plan)
    (tolerance : ℤ)
    (s : State)
    (us : List Temperature)
    (ws : List Majorant)
    (before : List BracketRow)
    (c : Certificate)
    (e : accepted c ≡ certify_answer p tolerance s us ws before)
  where
    clears : certify_check p s us ws before ≡ clear
    clears = (accepted_is (certify_check p s us ws before) e).0

    pub accepted_leaves : Leaves p (basis_of s) before (certify_grid p s us ws before)
    accepted_leaves = rw clears (certify_leaves p s us ws before clears)

    pub accepted-counts : c.«open» ≡ open_count p tolerance (certify_grid p s us ws before)
    accepted-counts = rw clears (ap (λ x. x.«open») (accepted_is (certify_check p s us ws before) e).1)

-- an accepted raising
pub raise_tells : (p : Plan) (ws : List Majorant) (g n : ℤ) (r : Raised) → accepted r ≡ raise_answer p ws g n → Told p (nat_abs g) (raise_grid p ws g n) r.report
raise_tells p ws g n r e =
    let k = accepted_is (raise_check p ws g n) e in
    let a = both_clear (length_check p (length ws)) (numbers 1 (margin g ∷ walks n ∷ [])) k.0 in
    let b = both_clear (when (outside (pos 1) (pos 10000) g) (fault Call 6 1)) (numbers 2 (walks n ∷ [])) a.1 in
    let d = both_clear (when (outside (pos 1) (pos 1000000) n) (fault Call 6 2)) clear b.1 in
    rw (k.0, k.1) (raising_law p (nat_abs g) (nat_abs n) ws (some_is g (pos 10000) (fault Call 6 1) b.0) (some_is n (pos 1000000) (fault Call 6 2) d.0))
