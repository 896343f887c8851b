-- At every point of a history.
use Rattle.std.proofs.Common.{Bool, true, false, ◌&&◌, T, List, [], ◌∷◌, ◌++◌, ℤ, sym, subst, arith}
use Rattle.std.proofs.lemmas.Int.{ints}
use Rattle.section.specs.Plan.{Plan}
use Rattle.section.specs.Reading.{brackets}
use Rattle.section.specs.declared.rows.BracketRow.{BracketRow}
use Rattle.laws.specs.Exact.{Bracketed}
use Rattle.history.specs.Events.{History, equations, proved_by, grid_by}
use Rattle.history.specs.Doing.{Done}
use Rattle.history.specs.Law.{proved_through, NoWider, NewestTrue, Lawful, HistoryLaw}
use Rattle.history.proofs.Steps.{still-holds, no_wider, step, answers}

both_true : (a b : Bool) → T (a && b) → T a × T b
both_true true b t = (tt, t)
both_true false b t = absurd t

-- the study is proved after the newest of the recent events
proved_now : (recent past : History) → T (proved_through recent past) → T (proved_by (recent ++ past))
proved_now [] past t = t
proved_now (e ∷ recent) past t = (both_true (proved_by (e ∷ recent ++ past)) (proved_through recent past) t).0

module _ (p : Plan) where
  as_wide : (xs : List BracketRow) → NoWider p xs xs
  as_wide xs = record { lower = λ i f. omega (arith, ints); upper = λ i f. omega (arith, ints) }

  wide_through : (xs ys zs : List BracketRow) → NoWider p xs ys → NoWider p ys zs → NoWider p xs zs
  wide_through xs ys zs a b = record {
    lower = λ i f. omega (arith, ints, a.lower i f, b.lower i f);
    upper = λ i f. omega (arith, ints, a.upper i f, b.upper i f);
  }

module _ (ground : Plan) (tolerance : ℤ) (bs : List BracketRow) where
  -- what has been done up to now has been done up to any point before
  done_past : (recent past : History) → Done ground tolerance bs (recent ++ past) → Done ground tolerance bs past
  done_past [] past d = d
  done_past (e ∷ recent) past d = done_past recent past d.1

  holds_at : (h : History) → Done ground tolerance bs h → T (proved_by h) → Bracketed (equations ground h) (brackets (grid_by bs h))
  holds_at [] d t = absurd t
  holds_at (e ∷ h) d t =
      let s = step ground tolerance bs e h d.0 t in
      subst (λ p. Bracketed p (brackets (grid_by bs (e ∷ h)))) (sym s.0)
      (still-holds (equations ground h) (grid_by bs h) (grid_by bs (e ∷ h)) (proved_by h) (holds_at h d.1) s.1)

  narrows-over :
      (recent past : History) → Done ground tolerance bs (recent ++ past) → T (proved_through recent past) →
      NoWider (equations ground (recent ++ past)) (grid_by bs past) (grid_by bs (recent ++ past))
  narrows-over [] past d t = as_wide (equations ground past) (grid_by bs past)
  narrows-over (e ∷ recent) past d t =
      let h = recent ++ past in
      let p = equations ground h in
      let b = both_true (proved_by (e ∷ h)) (proved_through recent past) t in
      let s = step ground tolerance bs e h d.0 b.0 in
      let last = no_wider p (grid_by bs h) (grid_by bs (e ∷ h)) (proved_by h) (proved_now recent past b.1) s.1 in
      rw s.0 (wide_through p (grid_by bs past) (grid_by bs h) (grid_by bs (e ∷ h)) (narrows-over recent past d.1 b.1) last)

  newest-at : (h : History) → Done ground tolerance bs h → NewestTrue ground tolerance bs h
  newest-at [] d = tt
  newest-at (e ∷ h) d = answers ground tolerance bs e h d.0

  -- every point, with its whole past behind it
  lawful : (h : History) → Done ground tolerance bs h → Lawful ground tolerance bs h
  lawful h d = record {
    holds = λ t. holds_at h d (subst T (sym t) tt);
    narrows = λ recent past e t.
        subst (λ x. NoWider (equations ground x) (grid_by bs past) (grid_by bs x)) (sym e)
        (narrows-over recent past (subst (Done ground tolerance bs) e d) (subst T (sym t) tt));
    newest = newest-at h d;
  }

pub history_law : HistoryLaw
history_law ground tolerance bs h d recent past e =
    lawful ground tolerance bs past (done_past ground tolerance bs recent past (subst (Done ground tolerance bs) e d))
