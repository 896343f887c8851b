-- The law over any list of calls.
use Rattle.std.specs.Prelude.{◌≡◌, ℕ, Bool, ◌&&◌, IsTrue, List, [], ◌∷◌, ◌++◌, ℤ, ◌≤ℤ◌, unsigned_abs, ⊤}
use Rattle.refusal.specs.Refusals.{accepted}
use Rattle.section.specs.Plan.{Plan, Free}
use Rattle.section.specs.Reading.{brackets}
use Rattle.section.specs.declared.rows.BracketRow.{BracketRow}
use Rattle.laws.specs.Exact.{Bracketed}
use Rattle.laws.specs.Raising.{Told}
use Rattle.history.specs.Events.{Event, raised, certified, History, equations, proved_by, grid_by, open_by}
use Rattle.history.specs.Doing.{Done}

-- proved before the recent events, and after each of them
abbrev pub proved_through : History → History → Bool
proved_through [] past = proved_by past
proved_through (e ∷ recent) past = proved_by (e ∷ recent ++ past) && proved_through recent past

-- no free cell's bracket is wider after than before
pub record NoWider (p : Plan) (before after : List BracketRow) : Type 0 where
  pub lower : (i : ℕ) → Free p i → (brackets before i).lo ≤ℤ (brackets after i).lo
  pub upper : (i : ℕ) → Free p i → (brackets after i).hi ≤ℤ (brackets before i).hi

module _ (base : Plan) (tolerance : ℤ) (bs : List BracketRow) where
  -- what the newest event answered is true: an open count is the number of open cells, a settled majorant is least, and none means that there is none within the limit
  abbrev pub AnswersTruly : Event → History → Type 0
  AnswersTruly (certified us ws (accepted c) after) h = c.«open» ≡ open_by base tolerance bs (certified us ws (accepted c) after ∷ h)
  AnswersTruly (raised ws g n (accepted r) after) h = Told (equations base h) (unsigned_abs g) after r.report
  AnswersTruly _ h = ⊤

  abbrev pub NewestTrue : History → Type 0
  NewestTrue [] = ⊤
  NewestTrue (e ∷ h) = AnswersTruly e h

  -- at a point of the history: while the study is proved every exact solution of the equations lies within the brackets, and over any stretch through which it stays proved no bracket widens
  pub record Lawful (h : History) : Type 0 where
    pub holds : IsTrue (proved_by h) → Bracketed (equations base h) (brackets (grid_by bs h))
    pub narrows : (recent past : History) → h ≡ recent ++ past → IsTrue (proved_through recent past) → NoWider (equations base h) (grid_by bs past) (grid_by bs h)
    pub newest : NewestTrue h

-- At every point of every history, for any ground, tolerance and bracket grid at the start.
abbrev pub HistoryLaw : Type 0
HistoryLaw =
    (base : Plan) (tolerance : ℤ) (bs : List BracketRow) (h : History) → Done base tolerance bs h →
    (recent past : History) → h ≡ recent ++ past → Lawful base tolerance bs past
