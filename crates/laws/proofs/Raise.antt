-- Raising stays below every majorant, and settles at one.
use Rattle.std.proofs.Common.{◌≡◌, ℕ, zero, suc, ◌+◌, ◌*◌, ◌<◌, ◌≤◌, Bool, true, false, cond, T, eqb, List, length, get_or, set, pos, nat_abs, Some, None, Option, refl, ap, arith, eqb-true}
use native.Mathlib.Nat.{lt_of_mul-lt-mul_left}
use native.Mathlib.Decide.{dec_le}
use Rattle.number.specs.Rounding.{ceil}
use Rattle.section.specs.Plan.{Plan, Cell, free, held, void, at, size, is_free, is_free_at, Free, link, links, diag, mass, mass_of, load, IsMajorant}
use Rattle.section.specs.declared.rows.Majorant.{Majorant}
use Rattle.section.proofs.Cells.{free-inside}
use Rattle.std.proofs.ByRecursion.{All-from_get_or}
use Rattle.std.proofs.lemmas.List.{get_or_past}
use Rattle.steps.proofs.Clearing.{cleared_zero, length-clear}
use Rattle.walk.specs.declared.types.Turn.TheVariants.{Stay, Put, Stop}
use Rattle.steps.specs.Steps.{limit, heights, raising, cleared, raise_run, report_of}
use Rattle.steps.specs.declared.report.Report.TheVariants.{Settled, Moving}
use Rattle.laws.specs.Raising.{Told, RaisingLaw}
use Rattle.laws.proofs.Rounds.{ceil_is}
use Rattle.laws.proofs.Runs.{at_set, Says, run_says}
use Rattle.laws.proofs.Sums.{dot_n-le}

ceil-le : (a d m : ℕ) → 1 ≤ d → a ≤ d * m → ceil a d ≤ m
ceil-le a d m one h =
    let k : d * ceil a d < d * suc m = omega (arith, (ceil_is a d one).1) in
    omega (arith, lt_of_mul-lt-mul_left d k)

-- the greater entries have the greater sum
module _ (p : Plan) (w M : ℕ → ℕ) (below : (j : ℕ) → Free p j → w j ≤ M j) where
  mass-le : (j : ℕ) → mass p w j ≤ mass p M j
  unfolding mass
  mass-le j = by (at p j) (below j)
    where
      by : (c : Cell) → (T (is_free c) → w j ≤ M j) → mass_of c (w j) ≤ mass_of c (M j)
      by (free n w e s l q) h = h tt
      by (held t) h = omega arith
      by void h = omega arith

  load-le : (i : ℕ) → load p w i ≤ load p M i
  unfolding load
  load-le i =
      let ls = links p i in
      dot_n-le ls (mass p w) (mass p M) (All-from_get_or (λ l. mass p w l.cell ≤ mass p M l.cell) ls (link 0 0) (λ k inside. mass-le (get_or ls k (link 0 0)).cell))

abbrev nought : Majorant
nought = record { value = pos 0 }

-- past the end the entry reads as 0 too
clear_at : (p : Plan) (ws : List Majorant) (j : ℕ) → Free p j → get_or (cleared p ws) j nought ≡ nought
clear_at p ws j f = elim (dec_le (suc j) (length ws)) [
  | yes l ↦ cleared_zero p ws j nought l f
  | no k ↦ get_or_past (cleared p ws) j nought (omega (arith, length-clear p (size p) ws))
]

module _ (p : Plan) (g : ℕ) where
  abbrev raised : List Majorant → ℕ → ℕ
  raised ws i = ceil (g + load p (heights ws) i) (diag p i)

  -- what each turn tells
  put_is : (ws : List Majorant) (i : ℕ) (e : Majorant) → raising g p ws i ≡ Put e → e ≡ record { value = pos (raised ws i) }
  put_is ws i e t = grind arith

  stay_is : (ws : List Majorant) (i : ℕ) → raising g p ws i ≡ Stay → (1 ≤ diag p i) × (raised ws i ≡ heights ws i)
  stay_is ws i t = grind arith

  stop_is : (ws : List Majorant) (i : ℕ) → 1 ≤ diag p i → raising g p ws i ≡ Stop → limit < raised ws i
  stop_is ws i one t = grind arith

  -- an entry that is not negative, nor above any majorant
  abbrev Low : ℕ → Majorant → Type 0
  Low i w = (w.value ≡ pos (nat_abs w.value)) × ((M : ℕ → ℕ) → IsMajorant p g M → nat_abs w.value ≤ M i)

  abbrev AllLow : List Majorant → Type 0
  AllLow ws = (i : ℕ) → Free p i → Low i (get_or ws i nought)

  low-cleared : (ws : List Majorant) → AllLow (cleared p ws)
  low-cleared ws i f = rw (clear_at p ws i f) (refl, λ M major. omega arith)

  module _ (one : 1 ≤ g) where
    -- a cell with no link and no loss has no majorant
    diag-positive : (M : ℕ → ℕ) → IsMajorant p g M → (i : ℕ) → Free p i → 1 ≤ diag p i
    diag-positive M major i f = by (diag p i) (major.margin i f)
      where
        by : (d : ℕ) → g + load p M i ≤ d * M i → 1 ≤ d
        by zero h = omega arith
        by (suc d) h = omega arith

    -- from entries below a majorant a cell is raised to no more than it
    raised-le : (ws : List Majorant) → AllLow ws → (i : ℕ) → Free p i → (M : ℕ → ℕ) → IsMajorant p g M → raised ws i ≤ M i
    raised-le ws low i f M major =
        ceil-le (g + load p (heights ws) i) (diag p i) (M i) (diag-positive M major i f)
        (omega (arith, load-le p (heights ws) M (λ j fj. (low j fj).1 M major) i, major.margin i f))

    low-raised : (ws : List Majorant) (i : ℕ) (e : Majorant) → Free p i → AllLow ws → raising g p ws i ≡ Put e → AllLow (set ws i e)
    low-raised ws i e f low t j fj = at_set ws i e nought j Low (low j fj) (rw (put_is ws i e t) (refl, raised-le ws low i f))

    -- a step that stops leaves no room for a majorant; if all stay, the grid is one
    told :
        (ws : List Majorant) (k c : ℕ) (o : Option ℕ) → Says (raising g p) (is_free_at p) AllLow (size p) ws c o →
        Told p g ws (report_of (record { grid = ws; walks = k; changed = c; stopped = o }))
    told ws k c (Some i) (low, (f, t)) = λ M major within.
        omega (arith, stop_is ws i (diag-positive M major i f) t, raised-le ws low i f M major, within i f)
    told ws k c None (low, still) = by (eqb c 0) refl
      where
        margin : c ≡ 0 → (i : ℕ) → Free p i → g + load p (heights ws) i ≤ diag p i * heights ws i
        margin z i f =
            let t = stay_is ws i (still z i (free-inside p i f) f) in
            omega (arith, (ceil_is (g + load p (heights ws) i) (diag p i) t.0).0, ap (λ (x : ℕ). diag p i * x) t.1)

        by : (b : Bool) → eqb c 0 ≡ b → Told p g ws (cond b Settled Moving)
        by true e = record {
          natural = λ i f. (low i f).0;
          majorant = record { margin = margin (eqb-true c 0 e) };
          least = λ M major i f. (low i f).1 M major;
        }
        by false e = tt

pub raising_law : RaisingLaw
raising_law p g n ws one some =
    let r = raise_run p g n ws in
    told p g one r.grid r.walks r.changed r.stopped
    (run_says (raising g p) (is_free_at p) (AllLow p g) (low-raised p g one) (size p) n (cleared p ws) (low-cleared p g ws) some)
