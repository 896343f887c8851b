use Rattle.std.proofs.Common.{refl, ap, ◌∙◌, subst, arith}
use Rattle.number.proofs.Words.{back}
use Rattle.stencil.specs.Laying.{NearIf}
use Rattle.stencil.proofs.Nearness.{near_at}
use Rattle.stencil.proofs.Toward.{side_free, side_held, side_void, temperature_abs, given_small}
use Rattle.stencil.proofs.side.look_toward.Goals as goal
use Rattle.stencil.proofs.side.look_toward.Goals.{in-Free, in-Held, in-Void}

pub returns-clause-side : goal.returns-clause-side
returns-clause-side g c =
    let p = g.G.Ground.plan c.args.ground.now in
    let free = c.requires.on.free in
    elim c.match-record.branch [
      | in-Free w ↦
          side_free p c.args.index c.args.weight c.in-Some.cell c.args.to c.in-Some.is _ _ w.in-Free.ensures refl refl
          (ap (λ r. r.0) w.result-is) (ap (λ r. r.1.0.weight) w.result-is) (ap (λ r. r.1.0.cell) w.result-is) (ap (λ r. r.1.1.0) w.result-is)
      | in-Held w ↦
          let t = w.in-Held.held.temperature in
          let b = temperature_abs t w.in-Held.held.coldest w.in-Held.held.hottest in
          let et = back t (omega (arith, b)) in
          let given = w.weighed.result in
          let small = given_small c.args.weight t given (rw et at w.weighed.ensures.size) c.requires.light b in
          side_held p c.args.index c.args.weight c.in-Some.cell c.args.to c.in-Some.is _ free
          (ap (λ r. r.1.0.weight) w.result-is) (ap (λ r. r.1.0.cell) w.result-is) t w.in-Held.ensures (ap (λ r. r.0) w.result-is)
          (ap (λ r. r.1.1.0) w.result-is ∙ back given (omega (arith, small)) ∙ rw et at w.weighed.ensures.value)
      | in-Void w ↦
          side_void p c.args.index c.args.weight c.in-Some.cell c.args.to c.in-Some.is _ free
          (ap (λ r. r.1.0.weight) w.result-is) (ap (λ r. r.1.0.cell) w.result-is) w.in-Void.ensures (ap (λ r. r.0) w.result-is) (ap (λ r. r.1.1.0) w.result-is)
    ]

pub returns-clause-near : goal.returns-clause-near
returns-clause-near g c =
    let p = g.G.Ground.plan c.args.ground.now in
    let i = c.args.index in
    λ near.
    elim c.match-record.branch [
      | in-Free w ↦ near_at p i _ c.in-Some.cell (ap (λ r. r.1.0.cell) w.result-is) (subst (NearIf p i) c.in-Some.is near)
      | in-Held w ↦ near_at p i _ i (ap (λ r. r.1.0.cell) w.result-is) (omega arith, omega arith)
      | in-Void w ↦ near_at p i _ i (ap (λ r. r.1.0.cell) w.result-is) (omega arith, omega arith)
    ]
