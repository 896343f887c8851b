-- A call that may change the pins leaves the plan of the equations, or changes it at its cell alone.
use Rattle.std.proofs.Common.{◌≡◌, ℕ, ◌*◌, ◌<◌, ◌≤◌, ◌≢◌, ℤ, Option, Result, Ok, Err, MatchResult, sym, refl, ap, ◌∙◌}
use Rattle.std.proofs.lemmas.Bool.{ne_eqb, cond-false}
use mathlib.Core.Path.{fun_ext}
use Rattle.refusal.specs.Refusals.{Check, Answer, answer, answer_of, unless_refused, fault_of}
use Rattle.refusal.specs.declared.types.Refusal.{Refusal}
use Rattle.section.specs.Plan.{Plan, Cell, at}
use Rattle.ground.proofs.Plans.{cells_is, cells_in, cells_out}
use Rattle.layers.specs.Layers.{altered, over, holding}
use Rattle.stencil.specs.Laying.{ChangedAt}
use Rattle.study.specs.Pins.{PinLayer, pins_in, plan_through, ChangesPins}
use Rattle.study.proofs.Checks.{refused_is, accepted_is}

-- a cell is held as its own pin says
held-same : (p : Plan) (x y : ℕ → Option ℤ) (j : ℕ) → x j ≡ y j → at (holding p x) j ≡ at (holding p y) j
held-same p x y j e =
    let n = p.wide * p.high in
    let f : ℕ → Cell = λ i. over (x i) (at p i) in
    let h : ℕ → Cell = λ i. over (y i) (at p i) in
    sym (cells_is n j f (at (holding p y) j)
    (λ (l : j < n). sym (cells_in n j h (h j) l refl) ∙ ap (λ o. over o (at p j)) (sym e))
    (λ (l : n ≤ j). sym (cells_out n j h l)))

elsewhere : {X : Type 0} (f : ℕ → X) (i : ℕ) (x : X) (j : ℕ) → j ≢ i → altered f i x j ≡ f j
elsewhere f i x j ne = cond-false _ x (f j) (ne_eqb j i ne)

module _ {G : Type 0} (plan : G → Plan) (before after : PinLayer G) (i : ℕ) (x : Option ℤ) (n : ℕ) where
  pub changes-one :
      (k : Check) (r : Result (Unit {0}) Refusal) → ChangesPins before after k (altered (pins_in before) i x) n → ◌≡◌ {A = Answer (Unit {0})} (answer_of r) (answer k tt) →
      MatchResult r (λ _. ChangedAt i (plan_through plan before) (plan_through plan after)) (λ _. plan_through plan after ≡ plan_through plan before)
  changes-one k (Ok u) changes e =
      let clear_is = (accepted_is k e).0 in
      let below = changes.below in
      record {
        wide = ap (λ b. (plan b).wide) below;
        high = ap (λ b. (plan b).high) below;
        others = λ j ne.
            ap (λ b. at (holding (plan b) (pins_in after)) j) below
            ∙ held-same (plan before.below) (pins_in after) (pins_in before) j
            (changes.pins_are j ∙ ap (λ z. unless_refused z (pins_in before j) (altered (pins_in before) i x j)) clear_is ∙ elsewhere (pins_in before) i x j ne);
      }
  changes-one k (Err f) changes e =
      let refusal = refused_is k (fault_of f) tt e in
      let pins : pins_in after ≡ pins_in before = fun_ext (λ j. changes.pins_are j ∙ ap (λ z. unless_refused z (pins_in before j) (altered (pins_in before) i x j)) refusal) in
      ap (λ b. holding (plan b) (pins_in after)) changes.below ∙ ap (holding (plan before.below)) pins
