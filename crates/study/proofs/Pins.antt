-- What pinning and releasing leave of a study whose layer becomes another.
use Rattle.std.proofs.Common.{◌≡◌, ℕ, ℤ, Option, sym, refl, ap, ◌∙◌}
use mathlib.Core.Path.{fun_ext}
use Rattle.refusal.specs.Refusals.{Check, clear, refuse, Fault, Answer, refused, accepted, answer, unless_refused}
use Rattle.section.specs.Plan.{Plan, free_count}
use Rattle.layers.specs.Layers.{holding}
use Rattle.study.specs.Calls.{standing, Pinning, anew}
use Rattle.study.specs.Pins.{PinLayer, pins_in, pin_count, plan_through, ChangesPins}
use Rattle.study.specs.Studies.{standing_of, pinning_of, Repinned}
use Rattle.study.specs.declared.types.State.TheVariants.{Unproved}
use Rattle.study.specs.declared.types.Study.{Study}
use Rattle.study.proofs.Checks.{refused_is, accepted_is}

-- a part of what is left
unless_part : {X Y : Type 0} (f : X → Y) (k : Check) (x y : X) → unless_refused k (f x) (f y) ≡ f (unless_refused k x y)
unless_part f clear x y = refl
unless_part f (refuse e) x y = refl

module _ {G : Type 0} (plan : G → Plan) (s s' : Study G) (layer : PinLayer G) (k : Check) (pins : ℕ → Option ℤ) (n : ℕ) where
  -- what an accepted call leaves
  abbrev altogether : Pinning
  altogether = anew (plan s.layer.below) pins n

  module _ (changes : ChangesPins s.layer layer k pins n) (same : s'.layer ≡ layer) (tolerance : s'.tolerance ≡ s.tolerance) where
    repinned : standing_of s' ≡ (unless_refused k (pinning_of s) altogether).stands → Repinned s s' (unless_refused k (pinning_of s) altogether)
    repinned stands = record {
      below = ap (λ l. l.below) same ∙ changes.below;
      tolerance = tolerance;
      pins = λ i. ap (λ l. pins_in l i) same ∙ changes.pins_are i ∙ unless_part (λ (x : Pinning). x.pins i) k (pinning_of s) altogether;
      count = ap pin_count same ∙ changes.count_is ∙ unless_part (λ (x : Pinning). x.count) k (pinning_of s) altogether;
      stands = stands;
    }

    -- refused, all stands as it did
    pub refused-leaves :
        (f : Fault) → ◌≡◌ {A = Answer (Unit {0})} (refused f) (answer k tt) → standing_of s' ≡ standing_of s → Repinned s s' (unless_refused k (pinning_of s) altogether)
    refused-leaves f e stands = repinned (stands ∙ sym (ap (λ j. (unless_refused j (pinning_of s) altogether).stands) (refused_is k f tt e)))

    -- accepted, nothing is proved and every free cell of the new equations is open
    pub accepted-leaves :
        ◌≡◌ {A = Answer (Unit {0})} (accepted tt) (answer k tt) → standing_of s' ≡ standing Unproved (free_count (plan_through plan layer)) →
        Repinned s s' (unless_refused k (pinning_of s) altogether)
    accepted-leaves e stands =
        let c = (accepted_is k e).0 in
        let new : pins_in layer ≡ pins = fun_ext (λ i. changes.pins_are i ∙ ap (λ j. unless_refused j (pins_in s.layer i) (pins i)) c) in
        repinned (
        stands
        ∙ ap (λ g. standing Unproved (free_count (holding (plan g) (pins_in layer)))) changes.below
        ∙ ap (λ z. standing Unproved (free_count (holding (plan s.layer.below) z))) new
        ∙ sym (ap (λ j. (unless_refused j (pinning_of s) altogether).stands) c)
        )
