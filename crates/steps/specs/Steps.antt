-- What relaxing and raising do at a cell.
use Rattle.std.specs.Prelude.{ℕ, zero, suc, ◌+◌, ◌*◌, Bool, true, false, cond, List, ℤ, pos, negsuc, ◌+ℤ◌, ◌-ℤ◌, ◌*ℤ◌, ◌≤ℤ◌, Some, None, Option, ◌==◌, int_lt, nat_lt, slice_set, unsigned_abs}
use Rattle.std.specs.Int.{int_max, int_min}
use Rattle.number.specs.Rounding.{nearest, ceil}
use Rattle.section.specs.Plan.{Plan, size, is_free_at, diag, pull, load}
use Rattle.section.specs.Reading.{temperatures, majorants}
use Rattle.section.specs.declared.rows.BracketRow.{BracketRow}
use Rattle.section.specs.declared.rows.Temperature.{Temperature}
use Rattle.section.specs.declared.rows.Majorant.{Majorant}
use Rattle.walk.specs.Walks.{Run, run}
use Rattle.walk.specs.declared.types.Turn.{Turn}
use Rattle.walk.specs.declared.types.Turn.TheVariants.{Stay, Put, Stop}
use Rattle.steps.specs.declared.report.Raised.{Raised}
use Rattle.steps.specs.declared.report.Report.{Report}
use Rattle.steps.specs.declared.report.Report.TheVariants.{Settled, Moving, NoneAt}

abbrev pub same : ℤ → ℤ → Bool
same a b = cond (int_lt a b) false (cond (int_lt b a) false true)

-- temperatures stay within 1,000 degrees
abbrev pub limited : ℤ → ℤ
limited t = int_max (negsuc 999999999) (int_min t (pos 1000000000))

-- Over-relaxing by k hundredths: (k * S + (100 - k) * d * old) over 100 * d, to the nearest, limited.
abbrev pub relaxed_to : ℤ → ℕ → ℤ → ℤ → ℤ
relaxed_to k d sum old = limited (nearest (k *ℤ sum +ℤ (pos 100 -ℤ k) *ℤ (pos d *ℤ old)) (100 * d))

abbrev move_to : ℤ → ℤ → Turn Temperature
move_to new old = cond (same new old) Stay (Put (record { value = new }))

abbrev pub relax_turn : ℤ → ℕ → ℤ → ℤ → Turn Temperature
relax_turn k d sum old = cond (d == 0) Stay (move_to (relaxed_to k d sum old) old)

-- a cell with no link and no loss stays as it is
abbrev pub relaxing : ℤ → Plan → List Temperature → ℕ → Turn Temperature
relaxing k p us i = relax_turn k (diag p i) (pull p (temperatures us) i) (temperatures us i)

-- Raising: (g + the sum over the free neighbours) over d, rounded up; none where d is 0 or the limit is passed.
abbrev pub limit : ℕ
limit = 500000

abbrev raise_to : ℕ → ℕ → Turn Majorant
raise_to new old = cond (nat_lt limit new) Stop (cond (new == old) Stay (Put (record { value = pos new })))

abbrev pub raise_turn : ℕ → ℕ → ℕ → ℕ → Turn Majorant
raise_turn g d sum old = cond (d == 0) Stop (raise_to (ceil (g + sum) d) old)

abbrev pub heights : List Majorant → ℕ → ℕ
heights ws j = unsigned_abs (majorants ws j)

abbrev pub raising : ℕ → Plan → List Majorant → ℕ → Turn Majorant
raising g p ws i = raise_turn g (diag p i) (load p (heights ws) i) (heights ws i)

-- raising begins with 0 at every free cell
abbrev pub clear_to : Plan → ℕ → List Majorant → List Majorant
clear_to p zero ws = ws
clear_to p (suc n) ws = cond (is_free_at p n) (slice_set (clear_to p n ws) n (record { value = pos 0 })) (clear_to p n ws)

abbrev pub cleared : Plan → List Majorant → List Majorant
cleared p ws = clear_to p (size p) ws

-- runs of at most n walks
abbrev pub relax_run : Plan → ℤ → ℕ → List Temperature → Run Temperature
relax_run p k n us = run (relaxing k p) (is_free_at p) (size p) n us

abbrev pub raise_run : Plan → ℕ → ℕ → List Majorant → Run Majorant
raise_run p g n ws = run (raising g p) (is_free_at p) (size p) n (cleared p ws)

-- settled if the last walk changed nothing, moving if every walk changed something, none at the cell that stopped it
abbrev reported : Option ℕ → ℕ → Report
reported (Some i) c = NoneAt i
reported None c = cond (c == 0) Settled Moving

abbrev pub report_of : {E : Type 0} → Run E → Report
report_of r = reported r.stopped r.changed

-- the two numbers that a run answers
abbrev pub counts_of : {E : Type 0} → Run E → ℕ × ℕ
counts_of r = (r.walks, r.changed)

abbrev pub raised_of : {E : Type 0} → Run E → Raised
raised_of r = record { report = report_of r; counts = counts_of r }

-- the entries at which a step can be taken
pub record FairTemperature (t : Temperature) : Type 0 where
  pub least : negsuc 999999999 ≤ℤ t.value
  pub most : t.value ≤ℤ pos 1000000000

pub record FairMajorant (w : Majorant) : Type 0 where
  pub least : pos 0 ≤ℤ w.value
  pub most : w.value ≤ℤ pos 500000

-- any row of a bracket grid can be read
abbrev pub AnyRow : BracketRow → Type 0
AnyRow b = Unit {0}
