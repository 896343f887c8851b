-- A list of calls, one more at a time.
use Rattle.std.proofs.Common.{◌≡◌, List, [], ◌∷◌, ◌++◌, ℤ, sym, refl, ◌∙◌, subst}
use Rattle.section.specs.Plan.{Plan}
use Rattle.section.specs.declared.rows.BracketRow.{BracketRow}
use Rattle.section.specs.declared.types.Tolerance.{Tolerance}
use Rattle.study.specs.declared.types.Study.{Study}
use Rattle.history.specs.Doing.{Does, Done}
use Rattle.history.specs.Events.{History}
use Rattle.history.proofs.Points.{history_law}
use Rattle.replay.specs.Calls.{Handed, AllHanded, passed, happened, history}
use Rattle.replay.specs.Replays.{Led, Made, Replayed}
use Rattle.replay.specs.declared.types.Call.{Call}
use Rattle.replay.specs.declared.types.Event.{Event}

-- one call more, with its event
handed-more : (cs : List Call) (es : List Event) (c : Call) (e : Event) → AllHanded cs es → Handed c e → AllHanded (cs ++ (c ∷ [])) (es ++ (e ∷ []))
handed-more [] [] c e all one = (one, tt)
handed-more [] (f ∷ es) c e all one = absurd all
handed-more (d ∷ cs) [] c e all one = absurd all
handed-more (d ∷ cs) (f ∷ es) c e all one = (all.0, handed-more cs es c e all.1 one)

module _ (ground : Plan) (start : List BracketRow) where
  history-more :
      (cs : List Call) (es : List Event) (c : Call) (e : Event) (h : History) → AllHanded cs es →
      history ground start (cs ++ (c ∷ [])) (es ++ (e ∷ [])) h
      ≡ happened ground start (history ground start cs es h) (passed c) (passed e.call) e.answer ∷ history ground start cs es h
  history-more [] [] c e h all = refl
  history-more [] (f ∷ es) c e h all = absurd all
  history-more (d ∷ cs) [] c e h all = absurd all
  history-more (d ∷ cs) (f ∷ es) c e h all = history-more cs es c e (happened ground start h (passed d) (passed f.call) f.answer ∷ h) all.1

module _ {G : Type 0} (ground : Plan) (s : Study G) (bs : List BracketRow) where
  abbrev tolerance : ℤ
  tolerance = s.tolerance.width

  pub none_made : Replayed ground s bs [] [] s bs
  none_made = record {
    below = refl;
    tolerance = refl;
    handed = tt;
    does = λ start h led done. done;
    law = λ start h led done. history_law ground tolerance start h done;
    led = λ start h led done. led;
  }

  pub one_more :
      (cs : List Call) (es : List Event) (s' : Study G) (bs' : List BracketRow) (c : Call) (e : Event) (s'' : Study G) (bs'' : List BracketRow) →
      Replayed ground s bs cs es s' bs' → Made ground s' bs' c e s'' bs'' → Replayed ground s bs (cs ++ (c ∷ [])) (es ++ (e ∷ [])) s'' bs''
  one_more cs es s' bs' c e s'' bs'' so made = record {
    below = made.below ∙ so.below;
    tolerance = made.tolerance ∙ so.tolerance;
    handed = handed-more cs es c e so.handed made.handed;
    does = done;
    law = λ start h led d. history_law ground tolerance start (history ground start (cs ++ (c ∷ [])) (es ++ (e ∷ [])) h) (done start h led d);
    led = λ start h led d.
        subst (λ x. Led ground s'' start x bs'') (sym (history-more ground start cs es c e h so.handed))
        (made.does start (history ground start cs es h) (so.led start h led d)).1;
  }
    where
      done :
          (start : List BracketRow) (h : History) → Led ground s start h bs → Done ground tolerance start h →
          Done ground tolerance start (history ground start (cs ++ (c ∷ [])) (es ++ (e ∷ [])) h)
      done start h led d =
          let past = history ground start cs es h in
          let event = happened ground start past (passed c) (passed e.call) e.answer in
          let P : Tolerance → Type 0 = λ t. Does ground t.width start event past in
          let newest = subst P so.tolerance (made.does start past (so.led start h led d)).0 in
          subst (Done ground tolerance start) (sym (history-more ground start cs es c e h so.handed)) (newest, so.does start h led d)
