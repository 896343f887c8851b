-- The cell that a layer shows.
use Rattle.std.proofs.Common.{◌≡◌, ℕ, ◌*◌, ◌<◌, ◌≤◌, refl, ap, ◌∙◌, arith}
use Rattle.section.specs.Plan.{Cell, void, Plan, at}
use Rattle.layers.specs.Layers.{laid_plan}
use Rattle.ground.proofs.Plans.{cells_is}

module _ (laying : ℕ → Cell → Cell) (p : Plan) (i n w h : ℕ) (wide : w ≡ p.wide) (high : h ≡ p.high) (count : n ≡ w * h) where
  size_is : n ≡ p.wide * p.high
  size_is = cc

  pub laid_in : i < n → (below c : Cell) → below ≡ at p i → c ≡ laying i below → c ≡ at (laid_plan laying p) i
  laid_in l below c was is = cells_is _ i _ c (λ inside. is ∙ ap (laying i) was) (λ out. absurd (omega (arith, size_is)))

  pub laid_out : n ≤ i → void ≡ at (laid_plan laying p) i
  laid_out out = cells_is _ i _ void (λ l. absurd (omega (arith, size_is))) (λ l. refl)
