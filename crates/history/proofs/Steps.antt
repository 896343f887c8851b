-- From one point of a history to the next.
use Rattle.std.proofs.Common.{◌≡◌, Bool, true, false, cond, T, List, ◌∷◌, ℤ, nat_abs, refl}
use Rattle.refusal.specs.Refusals.{Check, clear, refuse, unless_refused, accepted, refused}
use Rattle.section.specs.Plan.{Plan}
use Rattle.section.specs.Reading.{brackets}
use Rattle.section.specs.declared.rows.BracketRow.{BracketRow}
use Rattle.steps.specs.Tightening.{tighten_run}
use Rattle.certificate.specs.Certifying.{written}
use Rattle.laws.specs.Certifying.{Leaves}
use Rattle.laws.specs.Exact.{Bracketed}
use Rattle.laws.specs.Tightening.{Tightened}
use Rattle.laws.proofs.Tighten.{untouched, tightening_law}
use Rattle.study.specs.Calls.{basis_of, certify_check, tighten_check}
use Rattle.study.specs.declared.types.State.TheVariants.{Unproved, Proved}
use Rattle.history.specs.Events.{Event, raised, certified, tightened, pinned, released, History, equations, proved_by, grid_by}
use Rattle.history.specs.Doing.{state_by, Does}
use Rattle.history.specs.Law.{NoWider, AnswersTruly}
use Rattle.history.proofs.Calls.{certify_leaves, accepted_leaves, accepted-counts, raise_tells}

-- what a call leaves of brackets that are proved or not
abbrev pub Passes : Plan → Bool → List BracketRow → List BracketRow → Type 0
Passes p proved before after = Leaves p (basis_of (cond proved Proved Unproved)) before after

module _ (p : Plan) (before after : List BracketRow) where
  -- over proved brackets it tightens them
  passes : (proved : Bool) → T proved → Tightened p before after → Passes p proved before after
  passes true t so = so
  passes false t so = absurd t

  pub still-holds : (proved : Bool) → (T proved → Bracketed p (brackets before)) → Passes p proved before after → Bracketed p (brackets after)
  still-holds true start so = so.keeps (start tt)
  still-holds false start so = so

  pub no_wider : (proved : Bool) → T proved → Passes p proved before after → NoWider p before after
  no_wider true t so = record { lower = so.lower; upper = so.upper }
  no_wider false t so = absurd t

-- a grid that is left as it was
still : (p : Plan) (before : List BracketRow) (proved : Bool) → T proved → Passes p proved before before
still p before proved t = passes p before before proved t (untouched p before)

-- a refused call alters nothing
unless :
    (p : Plan) (before after : List BracketRow) (proved : Bool) (k : Check) → T proved → (k ≡ clear → Passes p proved before after) →
    Passes p proved before (unless_refused k before after)
unless p before after proved clear t so = so refl
unless p before after proved (refuse f) t so = still p before proved t

module _ (ground : Plan) (tolerance : ℤ) (bs : List BracketRow) where
  -- the equations stay, and so does what is proved
  abbrev Step : History → Plan → List BracketRow → Type 0
  Step h p after = (p ≡ equations ground h) × Passes (equations ground h) (proved_by h) (grid_by bs h) after

  same : (h : History) → T (proved_by h) → Step h (equations ground h) (grid_by bs h)
  same h t = (refl, still (equations ground h) (grid_by bs h) (proved_by h) t)

  -- an event after which the study is proved
  pub step : (e : Event) (h : History) → Does ground tolerance bs e h → T (proved_by (e ∷ h)) → Step h (equations ground (e ∷ h)) (grid_by bs (e ∷ h))
  step (certified us ws (accepted c) after) h d t =
      (refl, rw d.1 (accepted_leaves (equations ground h) tolerance (state_by h) us ws (grid_by bs h) c d.0))
  step (certified us ws (refused f) after) h d t =
      let p = equations ground h in
      let before = grid_by bs h in (
        refl,
        rw d.1 (
            unless p before (written p (basis_of (state_by h)) us ws before) (proved_by h) (certify_check p (state_by h) us ws before) t
            (certify_leaves p (state_by h) us ws before)),
      )
  step (tightened n a after) h d t =
      let p = equations ground h in
      let before = grid_by bs h in
      let ran = (tighten_run p (nat_abs n) before).grid in (
        refl,
        rw d.1 (
            unless p before ran (proved_by h) (tighten_check p (state_by h) before n) t
            (λ e. passes p before ran (proved_by h) t (tightening_law p (nat_abs n) before))),
      )
  step (pinned i x (accepted y)) h d t = absurd t
  step (released i (accepted y)) h d t = absurd t
  step _ h d t = same h t

  -- every answer is true
  pub answers : (e : Event) (h : History) → Does ground tolerance bs e h → AnswersTruly ground tolerance bs e h
  answers (certified us ws (accepted c) after) h d =
      rw d.1 (accepted-counts (equations ground h) tolerance (state_by h) us ws (grid_by bs h) c d.0)
  answers (raised ws g n (accepted r) after) h d = rw d.1 (raise_tells (equations ground h) ws g n r d.0)
  answers _ h d = tt
