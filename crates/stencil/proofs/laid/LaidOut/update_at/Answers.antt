use Rattle.std.proofs.Common.{◌≡◌, Result, Ok, Err, is_err, MatchResult, true, false, sym, refl, ap, ◌∙◌, subst}
use Rattle.std.specs.Fn.{FnOnceReturnsAtMut}
use Rattle.section.specs.Plan.{Plan}
use Rattle.stencil.specs.Laying.{LaidOf}
use Rattle.stencil.proofs.laid.LaidOut.update_at.Goals as goal

-- what is said of a result, by what it is
refused : {R E : Type 0} (A B : Type 0) (r : Result R E) → MatchResult r (λ _. A) (λ _. B) → is_err r ≡ true → B
refused A B (Ok x) h e = cc
refused A B (Err x) h e = h

taken : {R E : Type 0} (A B : Type 0) (r : Result R E) → MatchResult r (λ _. A) (λ _. B) → is_err r ≡ false → A
taken A B (Ok x) h e = h
taken A B (Err x) h e = cc

pub invariant_of-self : goal.invariant_of-self
invariant_of-self g c =
    let plan = g.G.Ground.plan in
    let after = c.change-answer.new.arg2 in
    let gave : FnOnceReturnsAtMut g.F.FnOnce c.args.change c.args.self.now c.change-answer.result after = record { shown = _; shows = c.self.view_is; left = _; met = c.change-answer.ensures; leaves = refl } in
    let same : plan after ≡ plan c.args.self.now = refused _ _ c.change-answer.result (c.requires.alone c.change-answer.result after gave) (sym c.is_err.ensures.value ∙ c.if-is_err.true) in
    (c.self.invariant.0, c.self.invariant.1, subst (λ (x : Plan). LaidOf x c.self.inside.records.items c.self.inside.rows.items) (ap plan c.self.view_is ∙ sym same) c.self.invariant.2)

pub lay_around-requires : goal.lay_around-requires
lay_around-requires g c =
    let plan = g.G.Ground.plan in
    let after = c.change-answer.new.arg2 in
    let gave : FnOnceReturnsAtMut g.F.FnOnce c.args.change c.args.self.now c.change-answer.result after = record { shown = _; shows = c.self.view_is; left = _; met = c.change-answer.ensures; leaves = refl } in (
      plan c.args.self.now,
      subst (λ (x : Plan). LaidOf x c.self.inside.records.items c.self.inside.rows.items) (ap plan c.self.view_is) c.self.invariant.2,
      taken _ _ c.change-answer.result (c.requires.alone c.change-answer.result after gave) (sym c.is_err.ensures.value ∙ c.if-is_err.false),
    )
