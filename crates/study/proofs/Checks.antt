-- What an answer tells of the check behind it.
use Rattle.std.proofs.Common.{◌≡◌, ℕ, List, ℤ, sym, refl, ap, ◌∙◌}
use Rattle.refusal.specs.Refusals.{Fault, Check, clear, refuse, accepted, refused, answer, unless_refused}
use Rattle.section.specs.Plan.{Plan}
use Rattle.section.specs.declared.rows.BracketRow.{BracketRow}
use Rattle.certificate.specs.Counting.{open_count}
use Rattle.study.specs.Calls.{Standing, standing}
use Rattle.study.specs.declared.types.Certificate.{Certificate}
use Rattle.study.specs.declared.types.State.{State}

module _ {X : Type 0} where
  pub refused_is : (k : Check) (f : Fault) (x : X) → refused f ≡ answer k x → k ≡ refuse f
  refused_is clear f x e = cc
  refused_is (refuse g) f x e = cc

  -- an accepted call was checked clear, and answers what is defined
  pub accepted_is : (k : Check) {x y : X} → accepted x ≡ answer k y → (k ≡ clear) × (x ≡ y)
  accepted_is clear e = (refl, cc)
  accepted_is (refuse f) e = (cc, cc)

abbrev told_as : ℕ × ℕ → ℕ → Certificate
told_as x n = record { rest = x.0; margin = x.1; «open» = n }

-- what an accepted certificate answers and leaves: the numbers measured, and the open cells of the grid as it is left
pub accept_is :
    (p : Plan) (t : ℤ) (k : Check) (s : State) (before : Standing) (x : ℕ × ℕ) (r m n : ℕ) (bs left grid : List BracketRow) →
    accepted (r, m) ≡ answer k x → grid ≡ unless_refused k bs left → n ≡ open_count p t grid →
    (accepted (told_as (r, m) n) ≡ answer k (told_as x (open_count p t left))) × (standing s n ≡ unless_refused k before (standing s (open_count p t left)))
accept_is p t k s before x r m n bs left grid told g c =
    let q = accepted_is k told in
    let count : n ≡ open_count p t left = c ∙ ap (open_count p t) (g ∙ ap (λ j. unless_refused j bs left) q.0) in (
      ap (λ y. accepted (told_as y n)) q.1 ∙ ap (λ z. accepted (told_as x z)) count ∙ sym (ap (λ j. answer j (told_as x (open_count p t left))) q.0),
      ap (standing s) count ∙ sym (ap (λ j. unless_refused j before (standing s (open_count p t left))) q.0),
    )
