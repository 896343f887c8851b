-- What an event needs and leaves proved.
use Rattle.std.specs.Prelude.{Ok, Err, Result}
use Rattle.refusal.specs.Refusals.{Check, clear, Answer, accepted, refused, fault_of}
use Rattle.refusal.specs.declared.types.Refusal.TheVariants.{Walk}
use Rattle.refusal.specs.declared.types.WalkFault.{WalkFault}
use Rattle.study.specs.Calls.{proved_check}
use Rattle.study.specs.declared.event.Event.{Event}
use Rattle.study.specs.declared.event.Event.TheVariants.{Certificate, Tightening, Pin, Release}
use Rattle.study.specs.declared.types.State.{State}
use Rattle.study.specs.declared.types.State.TheVariants.{Unproved, Proved}

abbrev pub event_check : State → Event → Check
event_check s Certificate = clear
event_check s Tightening = proved_check s
event_check s Pin = clear
event_check s Release = clear

abbrev pub after_event : Event → State
after_event Certificate = Proved
after_event Tightening = Proved
after_event Pin = Unproved
after_event Release = Unproved

-- what a walk's result says as an answer
abbrev pub walk_answer_of : {X : Type 0} → Result X WalkFault → Answer X
walk_answer_of (Ok x) = accepted x
walk_answer_of (Err e) = refused (fault_of (Walk e))
