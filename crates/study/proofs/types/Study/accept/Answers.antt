use Rattle.std.proofs.Common.{◌≡◌, ℕ, nat_abs, refl, subst}
use Rattle.refusal.specs.Refusals.{accepted, answer, unless_refused}
use Rattle.section.specs.Plan.{Plan}
use Rattle.measure.specs.Measures.{rest, margin}
use Rattle.certificate.specs.Certifying.{certificate_check, written}
use Rattle.certificate.specs.declared.basis.Basis.{Basis}
use Rattle.study.specs.Calls.{basis_of}
use Rattle.study.specs.Studies.{equations_of, standing_of}
use Rattle.study.proofs.Checks.{accept_is}
use Rattle.study.proofs.types.Study.accept.Goals as goal

pub returns : goal.returns
returns g c =
    let s = c.args.self.now in
    let p : Plan = equations_of g.G.Ground.plan s in
    let us = c.args.temperatures.now in
    let ws = c.args.majorant.now in
    let bs = c.args.brackets.now in
    let b = basis_of s.state in
    let numbers : ℕ × ℕ = (rest p us, nat_abs (margin p ws)) in
    let grid = subst (λ (j : Basis). c.certify.new.brackets ≡ unless_refused (certificate_check p j us ws bs) bs (written p j us ws bs)) c.basis.ensures (c.certify.ensures.grid p c.rows.ensures) in
    let told = subst (λ (j : Basis). accepted (c.in_ok-rest.rest, c.in_ok-rest.margin) ≡ answer (certificate_check p j us ws bs) numbers) c.basis.ensures (c.in_ok-rest.ensures.answer p c.rows.ensures) in
    let leaves =
    accept_is p s.tolerance.width (certificate_check p b us ws bs) c.args.state (standing_of s) numbers c.in_ok-rest.rest c.in_ok-rest.margin c.count_open-self.result bs (written p b us ws bs) c.certify.new.brackets
    told grid (c.count_open-self.ensures p c.rows-2.ensures) in
    record { answer = leaves.0; grid = grid; study = record { layer = refl; tolerance = refl; stands = leaves.1 } }
