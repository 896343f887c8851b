-- What walks and runs keep and how they end, for every kind of grid and every step.
use Rattle.std.proofs.Common.{◌≡◌, ℕ, zero, suc, ◌<◌, ◌≤◌, Bool, true, false, cond, T, List, length, get_or, set, Some, None, Option, sym, refl, subst, arith, get_or-set_other, get_or-set_same, below_more}
use native.Mathlib.Decide.{dec_le, ℕ_discrete}
use Rattle.std.proofs.lemmas.List.{set_past}
use Rattle.walk.specs.Walks.{Walk, turned, visited, walk, Run, ended, onward, run}
use Rattle.walk.specs.declared.types.Turn.{Turn}
use Rattle.walk.specs.declared.types.Turn.TheVariants.{Stay, Put, Stop}

-- what holds of each entry still does after a write, past the end too, where nothing is written
pub at_set : {X : Type 0} (xs : List X) (i : ℕ) (x d : X) (j : ℕ) (P : ℕ → X → Type 0) → P j (get_or xs j d) → P i x → P j (get_or (set xs i x) j d)
at_set xs i x d j P old new = elim (ℕ_discrete j i) [
  | yes e ↦ elim (dec_le (suc i) (length xs)) [
    | yes l ↦ rw e (rw (get_or-set_same xs i x d l) new)
    | no k ↦ let past : length xs ≤ i = omega arith in rw (set_past xs i x past) old
  ]
  | no n ↦ rw (get_or-set_other xs i j x d n) old
]

module _ {E : Type 0} (step : List E → ℕ → Turn E) (free : ℕ → Bool) where
  -- how a walk over the cells below n ends: if it changed none, each of them stays; if it was stopped, the step stops at the grid left
  abbrev pub Ends : ℕ → List E → ℕ → Option ℕ → Type 0
  Ends n xs changed None = changed ≡ 0 → (i : ℕ) → i < n → T (free i) → step xs i ≡ Stay
  Ends n xs changed (Some i) = T (free i) × (step xs i ≡ Stop)

  more : (n : ℕ) (xs : List E) (c : ℕ) → Ends n xs c None → (T (free n) → step xs n ≡ Stay) → Ends (suc n) xs c None
  more n xs c before here z i l = below_more (λ (k : ℕ). T (free k) → step xs k ≡ Stay) n (before z) here i (omega arith)

  abbrev left : List E → ℕ → Option ℕ → Walk E
  left xs c o = record { grid = xs; changed = c; stopped = o }

  module _ (I : List E → Type 0) where
    abbrev pub Says : ℕ → List E → ℕ → Option ℕ → Type 0
    Says n xs changed stopped = I xs × Ends n xs changed stopped

    abbrev pub WalkSays : ℕ → Walk E → Type 0
    WalkSays n w = Says n w.grid w.changed w.stopped

    abbrev pub RunSays : ℕ → Run E → Type 0
    RunSays n r = Says n r.grid r.changed r.stopped

    -- what every entry put at a free cell keeps, the grid has at the end
    module _ (keeps : (xs : List E) (i : ℕ) (e : E) → T (free i) → I xs → step xs i ≡ Put e → I (set xs i e)) where
      turned_says : (n : ℕ) (xs : List E) (c : ℕ) (t : Turn E) → Says n xs c None → T (free n) → step xs n ≡ t → WalkSays (suc n) (turned step free (left xs c None) n t)
      turned_says n xs c Stay s f e = (s.0, more n xs c s.1 (λ _. e))
      turned_says n xs c (Put x) s f e = (keeps xs n x f s.0 e, λ z. absurd (omega arith))
      turned_says n xs c Stop s f e = (s.0, (f, e))

      visited_says : (n : ℕ) (xs : List E) (c : ℕ) (o : Option ℕ) → Says n xs c o → WalkSays (suc n) (visited step free (left xs c o) n o)
      visited_says n xs c (Some i) s = s
      visited_says n xs c None s = by (free n) refl
        where
          by : (b : Bool) → free n ≡ b → WalkSays (suc n) (cond b (turned step free (left xs c None) n (step xs n)) (left xs c None))
          by true e = turned_says n xs c (step xs n) s (subst T (sym e) tt) refl
          by false e = (s.0, more n xs c s.1 (λ f. absurd (subst T e f)))

      walk_says : (n : ℕ) (xs : List E) → I xs → WalkSays n (walk step free n xs)
      walk_says zero xs h = (h, λ z i l. absurd (omega arith))
      walk_says (suc n) xs h = let w = walk step free n xs in visited_says n w.grid w.changed w.stopped (walk_says n xs h)

      -- a run ends as its last walk does, so it needs one
      pub run_says : (size n : ℕ) (xs : List E) → I xs → 1 ≤ n → RunSays size (run step free size n xs)
      run_says size zero xs h one = absurd (omega arith)
      run_says size (suc zero) xs h one = walk_says size xs h
      run_says size (suc (suc n)) xs h one = by (run step free size (suc n) xs) (run_says size (suc n) xs h (omega arith))
        where
          by : (r : Run E) → RunSays size r → RunSays size (cond (ended r) r (onward step free size r (walk step free size r.grid)))
          by r s =
              elim (ended r) as (λ b. RunSays size (cond b r (onward step free size r (walk step free size r.grid))))
              [ true ↦ s | false ↦ walk_says size r.grid s.0 ]
