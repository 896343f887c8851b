-- One walk and one run for every kind of grid. A step says what a cell does at its turn, given the grid and the index.
use Rattle.std.specs.Prelude.{ℕ, zero, suc, ◌+◌, Bool, cond, not, ◌&&◌, ◌||◌, List, is_some, Some, None, Ok, Err, Option, Result, ◌==◌, slice_set}
use Rattle.walk.specs.declared.types.Turn.{Turn}
use Rattle.walk.specs.declared.types.Turn.TheVariants.{Stay, Put, Stop}
use Rattle.walk.specs.declared.types.Halted.{Halted}
use Rattle.walk.specs.declared.types.Stopped.{Stopped}

-- the grid so far, the cells changed, and the cell at which a step stopped
pub record Walk (E : Type 0) : Type 0 where
  pub grid : List E
  pub changed : ℕ
  pub stopped : Option ℕ

module _ {E : Type 0} (step : List E → ℕ → Turn E) (free : ℕ → Bool) where
  abbrev pub turned : Walk E → ℕ → Turn E → Walk E
  turned w i Stay = w
  turned w i (Put e) = record { grid = slice_set w.grid i e; changed = w.changed + 1; stopped = None }
  turned w i Stop = record { grid = w.grid; changed = w.changed; stopped = Some i }

  -- a free cell has its turn, with the newest entries, unless a step has stopped the walk
  abbrev pub visited : Walk E → ℕ → Option ℕ → Walk E
  visited w i None = cond (free i) (turned w i (step w.grid i)) w
  visited w i (Some k) = w

  -- the cells below n, in index order
  abbrev pub walk : ℕ → List E → Walk E
  walk zero xs = record { grid = xs; changed = 0; stopped = None }
  walk (suc n) xs = visited (walk n xs) n (walk n xs).stopped

-- the grid, the walks begun, the cells changed in the last, and the cell at which a step stopped
pub record Run (E : Type 0) : Type 0 where
  pub grid : List E
  pub walks : ℕ
  pub changed : ℕ
  pub stopped : Option ℕ

-- a run has ended where a step stopped it or a walk changed nothing
abbrev pub ended : {E : Type 0} → Run E → Bool
ended r = is_some r.stopped || (r.changed == 0 && not (r.walks == 0))

module _ {E : Type 0} (step : List E → ℕ → Turn E) (free : ℕ → Bool) (size : ℕ) where
  abbrev pub onward : Run E → Walk E → Run E
  onward r w = record { grid = w.grid; walks = r.walks + 1; changed = w.changed; stopped = w.stopped }

  -- at most n walks
  abbrev pub run : ℕ → List E → Run E
  run zero xs = record { grid = xs; walks = 0; changed = 0; stopped = None }
  run (suc n) xs = cond (ended (run n xs)) (run n xs) (onward (run n xs) (walk step free size (run n xs).grid))

-- what the code answers beside its grid
abbrev pub walked_as : {E : Type 0} → List E → Result ℕ Halted → Walk E
walked_as xs (Ok n) = record { grid = xs; changed = n; stopped = None }
walked_as xs (Err h) = record { grid = xs; changed = h.changed; stopped = Some h.cell }

abbrev pub ran_as : {E : Type 0} → List E → Result (ℕ × ℕ) Stopped → Run E
ran_as xs (Ok r) = record { grid = xs; walks = r.0; changed = r.1; stopped = None }
ran_as xs (Err r) = record { grid = xs; walks = r.counts.0; changed = r.counts.1; stopped = Some r.cell }
