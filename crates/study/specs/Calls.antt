-- What the calls of a study answer and leave behind, by the plan of its equations.
use Rattle.std.specs.Prelude.{ℕ, ◌+◌, ◌-◌, Bool, true, false, not, ◌&&◌, List, [], ◌∷◌, length, ℤ, pos, Some, None, Option, ◌==◌, nat_le, unsigned_abs}
use Rattle.refusal.specs.Refusals.{Check, clear, refuse, ◌then◌, when, fault, at_first, Answer, answer, unless_refused}
use Rattle.refusal.specs.declared.types.Level.TheVariants.{Call, Walk}
use Rattle.section.specs.Limits.{Number, number, numbers}
use Rattle.section.specs.Plan.{Plan, size, is_free_at, free_count}
use Rattle.section.specs.declared.rows.BracketRow.{BracketRow}
use Rattle.section.specs.declared.rows.Temperature.{Temperature}
use Rattle.section.specs.declared.rows.Majorant.{Majorant}
use Rattle.layers.specs.Layers.{altered, holding, pin_checks, release_checks}
use Rattle.steps.specs.Steps.{relax_run, raise_run, counts_of, raised_of}
use Rattle.steps.specs.Tightening.{tighten_run}
use Rattle.steps.specs.declared.report.Raised.{Raised}
use Rattle.measure.specs.Measures.{rest, margin as least_margin}
use Rattle.certificate.specs.Certifying.{temperature_check, certificate_check, written}
use Rattle.certificate.specs.Counting.{open_count}
use Rattle.certificate.specs.declared.basis.Basis.{Basis}
use Rattle.certificate.specs.declared.basis.Basis.TheVariants.{Alone, Joined}
use Rattle.study.specs.declared.types.Certificate.{Certificate}
use Rattle.study.specs.declared.types.State.{State}
use Rattle.study.specs.declared.types.State.TheVariants.{Unproved, Proved}

-- a grid has one entry for each cell
abbrev pub length_check : Plan → ℕ → Check
length_check p n = when (not (n == size p)) (fault Call 7 n)

-- at most a million walks
abbrev pub walks : ℤ → Number
walks n = number n (pos 1) (pos 1000000)

-- what a run with a number of its own is checked for first: its grid, that number between its limits, and its walks
abbrev pub run_check : Plan → ℕ → Number → ℤ → Check
run_check p entries x n = length_check p entries then numbers 1 (x ∷ number n (pos 1) (pos 1000000) ∷ [])

abbrev pub factor : ℤ → Number
factor k = number k (pos 1) (pos 199)

abbrev pub margin : ℤ → Number
margin g = number g (pos 1) (pos 10000)

-- Relaxing by k hundredths, at most n walks.
abbrev pub relax_check : Plan → List Temperature → ℤ → ℤ → Check
relax_check p us k n = run_check p (length us) (factor k) n then temperature_check p us

abbrev pub relax_answer : Plan → List Temperature → ℤ → ℤ → Answer (ℕ × ℕ)
relax_answer p us k n = answer (relax_check p us k n) (counts_of (relax_run p k (unsigned_abs n) us))

abbrev pub relax_grid : Plan → List Temperature → ℤ → ℤ → List Temperature
relax_grid p us k n = unless_refused (relax_check p us k n) us (relax_run p k (unsigned_abs n) us).grid

-- Raising to the margin g, at most n walks.
abbrev pub raise_check : Plan → List Majorant → ℤ → ℤ → Check
raise_check p ws g n = run_check p (length ws) (margin g) n

abbrev pub raise_answer : Plan → List Majorant → ℤ → ℤ → Answer Raised
raise_answer p ws g n = answer (raise_check p ws g n) (raised_of (raise_run p (unsigned_abs g) (unsigned_abs n) ws))

abbrev pub raise_grid : Plan → List Majorant → ℤ → ℤ → List Majorant
raise_grid p ws g n = unless_refused (raise_check p ws g n) ws (raise_run p (unsigned_abs g) (unsigned_abs n) ws).grid

-- What a study keeps of its brackets: whether they are proved, and how many cells are open.
pub record Standing : Type 0 where
  pub state : State
  pub count : ℕ

abbrev pub standing : State → ℕ → Standing
standing s n = record { state = s; count = n }

-- a certificate joins the brackets of a study that is proved already
abbrev pub basis_of : State → Basis
basis_of Unproved = Alone
basis_of Proved = Joined

-- Certifying.
abbrev pub certify_check : Plan → State → List Temperature → List Majorant → List BracketRow → Check
certify_check p s us ws bs =
    length_check p (length us) then length_check p (length ws) then length_check p (length bs) then certificate_check p (basis_of s) us ws bs

abbrev pub certificate_of : Plan → ℤ → Basis → List Temperature → List Majorant → List BracketRow → Certificate
certificate_of p tolerance b us ws bs = record { rest = rest p us; margin = unsigned_abs (least_margin p ws); «open» = open_count p tolerance (written p b us ws bs) }

abbrev pub certify_answer : Plan → ℤ → State → List Temperature → List Majorant → List BracketRow → Answer Certificate
certify_answer p tolerance s us ws bs = answer (certify_check p s us ws bs) (certificate_of p tolerance (basis_of s) us ws bs)

abbrev pub certify_grid : Plan → State → List Temperature → List Majorant → List BracketRow → List BracketRow
certify_grid p s us ws bs = unless_refused (certify_check p s us ws bs) bs (written p (basis_of s) us ws bs)

abbrev pub certify_standing : Plan → ℤ → Standing → List Temperature → List Majorant → List BracketRow → Standing
certify_standing p tolerance k us ws bs =
    unless_refused (certify_check p k.state us ws bs) k (standing Proved (open_count p tolerance (written p (basis_of k.state) us ws bs)))

abbrev pub proved_check : State → Check
proved_check Unproved = refuse (fault Call 8 0)
proved_check Proved = clear

-- Tightening by at most n walks. A crossing refuses it on the walk, and what was written before stays.
abbrev pub tighten_check : Plan → State → List BracketRow → ℤ → Check
tighten_check p s bs n = length_check p (length bs) then proved_check s then numbers 1 (walks n ∷ [])

abbrev pub tighten_answer : Plan → State → List BracketRow → ℤ → Answer (ℕ × ℕ)
tighten_answer p s bs n =
    answer (tighten_check p s bs n then at_first (tighten_run p (unsigned_abs n) bs).stopped (fault Walk 9)) (counts_of (tighten_run p (unsigned_abs n) bs))

abbrev pub tighten_grid : Plan → State → List BracketRow → ℤ → List BracketRow
tighten_grid p s bs n = unless_refused (tighten_check p s bs n) bs (tighten_run p (unsigned_abs n) bs).grid

abbrev pub tighten_standing : Plan → ℤ → Standing → List BracketRow → ℤ → Standing
tighten_standing p tolerance k bs n =
    unless_refused (tighten_check p k.state bs n) k (standing k.state (open_count p tolerance (tighten_run p (unsigned_abs n) bs).grid))

-- Asking for the bracket of a cell, with so many entries in the grid.
abbrev pub ask_check : Plan → State → ℕ → ℕ → Check
ask_check p s entries i =
    length_check p entries then proved_check s then when (nat_le (size p) i) (fault Call 1 i) then when (not (is_free_at p i)) (fault Call 2 i)

-- What pinning and releasing leave: other pins, one more or less, nothing proved, and every free cell of the new equations open.
pub record Pinning : Type 0 where
  pub pins : ℕ → Option ℤ
  pub count : ℕ
  pub stands : Standing

abbrev pub pinning : (ℕ → Option ℤ) → ℕ → Standing → Pinning
pinning pins n k = record { pins = pins; count = n; stands = k }

-- all free cells are open, and nothing is proved
abbrev pub anew : Plan → (ℕ → Option ℤ) → ℕ → Pinning
anew base pins n = pinning pins n (standing Unproved (free_count (holding base pins)))

-- Pinning the cell i at t.
abbrev pub pin_leaves : Plan → Pinning → ℕ → ℤ → Pinning
pin_leaves base x i t = unless_refused (pin_checks base x.pins x.count i t) x (anew base (altered x.pins i (Some t)) (x.count + 1))

-- Releasing the cell i.
abbrev pub release_leaves : Plan → Pinning → ℕ → Pinning
release_leaves base x i = unless_refused (release_checks base x.pins i) x (anew base (altered x.pins i None) (x.count - 1))

-- Finished: proved, and no cell open.
abbrev pub is_proved : State → Bool
is_proved Unproved = false
is_proved Proved = true

abbrev pub is_finished : Standing → Bool
is_finished k = is_proved k.state && k.count == 0
