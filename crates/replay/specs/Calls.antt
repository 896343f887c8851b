-- What a call is passed, and the event of a history that it makes with what came of it.
use Rattle.std.specs.Prelude.{◌≡◌, ℕ, List, [], ◌∷◌, ℤ, pos, Ok, Err, vec_items, Result, ⊤}
use Rattle.refusal.specs.Refusals.{Answer, accepted, refused, answer_of, fault_of}
use Rattle.refusal.specs.declared.types.Refusal.{Refusal}
use Rattle.section.specs.Plan.{Plan}
use Rattle.section.specs.Reading.{plain}
use Rattle.section.specs.declared.rows.BracketRow.{BracketRow}
use Rattle.section.specs.declared.rows.Temperature.{Temperature}
use Rattle.section.specs.declared.rows.Majorant.{Majorant}
use Rattle.section.specs.declared.types.Bracket.{Bracket}
use Rattle.study.specs.Calls.{certify_grid, tighten_grid}
use Rattle.history.specs.Doing.{state_by}
use Rattle.history.specs.Events.{relaxed, raised, certified, tightened, pinned, released, asked, counted, finished, History, equations, grid_by}
use Rattle.history.specs.Events.{Event as Happened}
use Rattle.replay.specs.declared.types.Call.{Call}
use Rattle.replay.specs.declared.types.Call.TheVariants.{Relax, Raise, Certify, Tighten, Pin, Release, Bracket as Ask, OpenCount, Finished}
use Rattle.replay.specs.declared.types.Answer.{Answer as Told}
use Rattle.replay.specs.declared.types.Answer.TheVariants.{Relaxed, Raised, Certified, Tightened, Pinned, Released, Bracket as Asked, OpenCount as Counted, Finished as SaidFinished}
use Rattle.replay.specs.declared.types.Event.{Event}

-- what a call is passed, with 0 and no entries for what it has not
pub record Passed : Type 0 where
  pub temperatures : List Temperature
  pub majorant : List Majorant
  pub cell : ℕ
  pub number : ℤ
  pub walks : ℤ

abbrev nothing : Passed
nothing = record { temperatures = []; majorant = []; cell = 0; number = pos 0; walks = pos 0 }

abbrev pub passed : Call → Passed
passed (Relax us k n) = record nothing { temperatures = vec_items us; number = k; walks = n }
passed (Raise ws g n) = record nothing { majorant = vec_items ws; number = g; walks = n }
passed (Certify us ws) = record nothing { temperatures = vec_items us; majorant = vec_items ws }
passed (Tighten n) = record nothing { walks = n }
passed (Pin i t) = record nothing { cell = i; number = t }
passed (Release i) = record nothing { cell = i }
passed (Ask i) = record nothing { cell = i }
passed OpenCount = nothing
passed Finished = nothing

-- A call that comes back with an answer of its kind. Relaxing and raising alone alter a grid of their own.
abbrev pub ComesBack : Call → Call → Told → Type 0
ComesBack (Relax us k n) (Relax vs k' n') (Relaxed r) = (k' ≡ k) × (n' ≡ n)
ComesBack (Raise ws g n) (Raise vs g' n') (Raised r) = (g' ≡ g) × (n' ≡ n)
ComesBack (Certify us ws) (Certify us' ws') (Certified r) = (vec_items us' ≡ vec_items us) × (vec_items ws' ≡ vec_items ws)
ComesBack (Tighten n) (Tighten n') (Tightened r) = n' ≡ n
ComesBack (Pin i t) (Pin i' t') (Pinned r) = (i' ≡ i) × (t' ≡ t)
ComesBack (Release i) (Release i') (Released r) = i' ≡ i
ComesBack (Ask i) (Ask i') (Asked r) = i' ≡ i
ComesBack OpenCount OpenCount (Counted n) = ⊤
ComesBack Finished Finished (SaidFinished b) = ⊤
ComesBack _ _ _ = ⊥

-- an event hands its call back
abbrev pub Handed : Call → Event → Type 0
Handed c e = ComesBack c e.call e.answer

-- one event for each call, in order
abbrev pub AllHanded : List Call → List Event → Type 0
AllHanded [] [] = ⊤
AllHanded (c ∷ cs) (e ∷ es) = Handed c e × AllHanded cs es
AllHanded _ _ = ⊥

abbrev pub bracket_answer : Result Bracket Refusal → Answer BracketRow
bracket_answer (Ok b) = accepted (plain b)
bracket_answer (Err e) = refused (fault_of e)

-- what has happened when a call was passed x, came back with y and was answered; the bracket grid after it is the one that is defined
module _ (base : Plan) (bs : List BracketRow) where
  abbrev pub happened : History → Passed → Passed → Told → Happened
  happened h x y (Relaxed r) = relaxed x.temperatures x.number x.walks (answer_of r) y.temperatures
  happened h x y (Raised r) = raised x.majorant x.number x.walks (answer_of r) y.majorant
  happened h x y (Certified r) =
      certified x.temperatures x.majorant (answer_of r) (certify_grid (equations base h) (state_by h) x.temperatures x.majorant (grid_by bs h))
  happened h x y (Tightened r) = tightened x.walks (answer_of r) (tighten_grid (equations base h) (state_by h) (grid_by bs h) x.walks)
  happened h x y (Pinned r) = pinned x.cell x.number (answer_of r)
  happened h x y (Released r) = released x.cell (answer_of r)
  happened h x y (Asked r) = asked x.cell (bracket_answer r)
  happened h x y (Counted n) = counted n
  happened h x y (SaidFinished b) = finished b

  -- the history that a list of calls adds to, with their events
  abbrev pub history : List Call → List Event → History → History
  history [] es h = h
  history (c ∷ cs) [] h = h
  history (c ∷ cs) (e ∷ es) h = history cs es (happened h (passed c) (passed e.call) e.answer ∷ h)
