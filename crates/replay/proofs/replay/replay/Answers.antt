use Rattle.std.proofs.Common.{List, [], ◌∷◌, ◌++◌, length, vec_items, sym, refl, ap, ◌∙◌, subst, arith}
use Rattle.std.proofs.lemmas.List.{append_assoc, length_push}
use Rattle.section.specs.Plan.{Plan}
use Rattle.replay.specs.Replays.{Made, Replayed}
use Rattle.replay.specs.declared.types.Call.{Call}
use Rattle.replay.specs.declared.types.Event.{Event}
use Rattle.replay.proofs.Replaying.{none_made, one_more}
use Rattle.replay.proofs.replay.replay.Goals as goal

pub loop-call-init : goal.loop-call-init
loop-call-init g c =
    let made = c.in-Ok.ensures in
    let s = c.args.study.now in
    let bs = c.args.brackets.now in
    let p : Plan = g.G.Ground.plan s.layer.below in
    let P : List Event → Type 0 = λ es. Replayed p s bs [] es s bs in
    (refl, c.in-Ok.events.ok.0 ∙ ap length made.items, refl, subst P (sym made.items) (none_made p s bs))

pub loop-call-preserved : goal.loop-call-preserved
loop-call-preserved g c =
    let inv = c.loop-call.invariant in
    let pushed = c.push_reserved.ensures in
    let done = c.loop-call.yielded in
    let call = c.in-Some.call in
    let s = c.args.study.now in
    let bs = c.args.brackets.now in
    let p : Plan = g.G.Ground.plan s.layer.below in
    let M : Plan → Type 0 = λ x. Made x c.loop-call.study c.loop-call.brackets call c.make.result c.make.new.study c.make.new.brackets in
    let R : List Event → Type 0 = λ es. Replayed p s bs (done ++ (call ∷ [])) es c.make.new.study c.make.new.brackets in (
      append_assoc done (call ∷ []) c.next.new.self.rest.items ∙ sym (ap (λ (l : List Call). done ++ l) c.in-Some.ensures.steps.0) ∙ inv.0,
      omega (arith, pushed.len, inv.1, length_push done call),
      pushed.capacity ∙ inv.2,
      subst R (sym pushed.items) (
          one_more p s bs done (vec_items c.loop-call.events) c.loop-call.study c.loop-call.brackets call c.make.result c.make.new.study c.make.new.brackets
          inv.3 (subst M (ap g.G.Ground.plan inv.3.below) c.make.ensures)),
    )
