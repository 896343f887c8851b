-- A host at work: what lies on its desk, what it can do, what it is told and what lies there afterwards.
use Rattle.std.specs.Prelude.{ℕ, Bool, List, [], ◌∷◌, length, replicate, ℤ, pos, None, slice_index_or, slice_set}
use Rattle.refusal.specs.Refusals.{Answer, answer}
use Rattle.refusal.specs.declared.types.Level.{Level}
use Rattle.section.specs.Plan.{Plan, Cell, free, held, void, size, at, diag}
use Rattle.section.specs.Reading.{temperatures, majorants, brackets, widest}
use Rattle.section.specs.declared.rows.BracketRow.{BracketRow}
use Rattle.section.specs.declared.rows.Temperature.{Temperature}
use Rattle.section.specs.declared.rows.Majorant.{Majorant}
use Rattle.layers.specs.Layers.{holding, pin_checks, release_checks}
use Rattle.steps.specs.declared.report.Report.{Report}
use Rattle.study.specs.Calls.{Standing, Pinning, anew, pin_leaves, release_leaves, is_finished, relax_answer, relax_grid, raise_answer, raise_grid, certify_answer, certify_grid, certify_standing, tighten_answer, tighten_grid, tighten_standing, ask_check}

-- a study of a ground at a tolerance, with its pins and how it stands, and the host's three grids
pub record Desk : Type 0 where
  pub base : Plan
  pub tolerance : ℤ
  pub pinned : Pinning
  pub us : List Temperature
  pub ws : List Majorant
  pub bs : List BracketRow

-- a new study has no pin and is unproved, with all its free cells open; the grids have an entry 0 for each cell
abbrev pub opened : Plan → ℤ → Desk
opened p t =
    record {
      base = p;
      tolerance = t;
      pinned = anew p (λ i. None) 0;
      us = replicate (size p) (record { value = pos 0 });
      ws = replicate (size p) (record { value = pos 0 });
      bs = replicate (size p) (record { lo = pos 0; hi = pos 0 });
    }

-- the equations, and how they stand
abbrev plan : Desk → Plan
plan d = holding d.base d.pinned.pins

abbrev stands : Desk → Standing
stands d = d.pinned.stands

-- What a host does.
pub data Act : Type 0 where
  -- it calls the study: relaxing by k, raising to g, tightening, by at most n walks; a pin and its release; the bracket of a cell; the open count; whether it is finished
  relax : (k n : ℕ) → Act
  raise : (g n : ℕ) → Act
  certify : Act
  tighten : (n : ℕ) → Act
  ask : (cell : ℕ) → Act
  pin : (cell : ℕ) → ℤ → Act
  release : (cell : ℕ) → Act
  ask_open_count : Act
  ask_finished : Act
  -- it writes an entry of a grid
  put_temperature : (cell : ℕ) → ℤ → Act
  put_majorant : (cell : ℕ) → ℤ → Act
  put_bracket : (cell : ℕ) (lo hi : ℤ) → Act
  -- it looks at an entry as it lies, and at a cell
  temperature_at : (cell : ℕ) → Act
  majorant_at : (cell : ℕ) → Act
  bracket_at : (cell : ℕ) → Act
  weights_at : (cell : ℕ) → Act

-- What it is told.
pub data Reply : Type 0 where
  counts : (walks changed : ℕ) → Reply
  raised : Report → (walks changed : ℕ) → Reply
  certificate : (rest margin open_cells : ℕ) → Reply
  bracket : (lo hi : ℤ) → Reply
  number : ℤ → Reply
  said : Bool → Reply
  weights : (north west east south d : ℕ) → Reply
  refused : Level → (fault place : ℕ) → Reply
  done : Reply

-- an accepted answer in its own words, or the refusal
abbrev told : {X : Type 0} → (X → Reply) → Answer X → Reply
told f (Answer.accepted x) = f x
told f (Answer.refused e) = refused e.level e.number e.place

abbrev row : BracketRow → Reply
row b = bracket b.lo b.hi

-- the weights of a record, whatever they lead to, with the d of its equation
abbrev weighed : Cell → ℕ → Reply
weighed (free n w e s l q) d = weights n w e s d
weighed (held t) d = weights 0 0 0 0 d
weighed void d = weights 0 0 0 0 d

abbrev pub reply : Desk → Act → Reply
reply d (relax k n) = told (λ c. counts c.0 c.1) (relax_answer (plan d) d.us (pos k) (pos n))
reply d (raise g n) = told (λ r. raised r.report r.counts.0 r.counts.1) (raise_answer (plan d) d.ws (pos g) (pos n))
reply d certify =
    told (λ c. certificate c.rest c.margin c.«open») (certify_answer (plan d) d.tolerance (stands d).state d.us d.ws d.bs)
reply d (tighten n) = told (λ c. counts c.0 c.1) (tighten_answer (plan d) (stands d).state d.bs (pos n))
reply d (ask i) = told row (answer (ask_check (plan d) (stands d).state (length d.bs) i) (brackets d.bs i))
reply d (pin i t) = told (λ x. done) (answer (pin_checks d.base d.pinned.pins d.pinned.count i t) (tt {0}))
reply d (release i) = told (λ x. done) (answer (release_checks d.base d.pinned.pins i) (tt {0}))
reply d ask_open_count = number (pos (stands d).count)
reply d ask_finished = said (is_finished (stands d))
reply d (put_temperature i t) = done
reply d (put_majorant i w) = done
reply d (put_bracket i lo hi) = done
reply d (temperature_at i) = number (temperatures d.us i)
reply d (majorant_at i) = number (majorants d.ws i)
reply d (bracket_at i) = row (slice_index_or d.bs i widest)
reply d (weights_at i) = weighed (at (plan d) i) (diag (plan d) i)

-- brackets as they are left, and how they stand
abbrev with_bs : Desk → Standing → List BracketRow → Desk
with_bs d k bs = record d { pinned = record d.pinned { stands = k }; bs = bs }

-- what an act leaves behind; a question leaves all as it was
abbrev pub after : Desk → Act → Desk
after d (relax k n) = record d { us = relax_grid (plan d) d.us (pos k) (pos n) }
after d (raise g n) = record d { ws = raise_grid (plan d) d.ws (pos g) (pos n) }
after d certify =
    with_bs d (certify_standing (plan d) d.tolerance (stands d) d.us d.ws d.bs) (certify_grid (plan d) (stands d).state d.us d.ws d.bs)
after d (tighten n) =
    with_bs d (tighten_standing (plan d) d.tolerance (stands d) d.bs (pos n)) (tighten_grid (plan d) (stands d).state d.bs (pos n))
after d (pin i t) = record d { pinned = pin_leaves d.base d.pinned i t }
after d (release i) = record d { pinned = release_leaves d.base d.pinned i }
after d (put_temperature i t) = record d { us = slice_set d.us i (record { value = t }) }
after d (put_majorant i w) = record d { ws = slice_set d.ws i (record { value = w }) }
after d (put_bracket i lo hi) = record d { bs = slice_set d.bs i (record { lo = lo; hi = hi }) }
after d _ = d

infix 70 ◌gives◌
abbrev pub ◌gives◌ : Act → Reply → Act × Reply
a gives r = (a, r)

-- what a host is told that does one act after the other
abbrev pub replies : Desk → List (Act × Reply) → List Reply
replies d [] = []
replies d (x ∷ xs) = reply d x.0 ∷ replies (after d x.0) xs
