-- Grids that pass their checks can be certified.
use Rattle.std.proofs.Common.{◌≡◌, ℕ, ◌≤◌, false, ltb, List, ℤ, pos, nat_abs, ◌≤ℤ◌, arith}
use lib.Signed.{lt_z}
use Rattle.std.proofs.lemmas.Int.{ints}
use Rattle.refusal.specs.Refusals.{clear}
use Rattle.section.specs.Plan.{Plan, Free}
use Rattle.section.specs.declared.rows.Temperature.{Temperature}
use Rattle.section.specs.declared.rows.Majorant.{Majorant}
use Rattle.walk.specs.Sites.{Walkable}
use Rattle.steps.specs.Steps.{FairTemperature, FairMajorant}
use Rattle.measure.specs.Measures.{cell_margin, margin, spread}
use Rattle.measure.specs.declared.measure.Measure.{Measure}
use Rattle.certificate.specs.Proposals.{MeasureOf, Certifiable}
use Rattle.certificate.specs.Certifying.{margin_check, spread_check}
use Rattle.certificate.proofs.Clears.{clear_at}
use Rattle.certificate.proofs.Margins.{margin_is}

module _ (p : Plan) (us : List Temperature) (ws : List Majorant) (m : Measure) (of : MeasureOf p us ws m) (enough : margin_check p ws ≡ clear) where
  -- margins that are enough make the measure useful
  pub useful_of : (k : ℕ) → Free p k → 1 ≤ m.margin
  useful_of k f =
      let ones = λ (i : ℕ) (g : Free p i). one (cell_margin p ws i) (clear_at p 12 (λ (j : ℕ). lt_z (cell_margin p ws j) (pos 1)) enough i g) in
      rw of.margin_is (some (margin p ws) (margin_is p ws ones k f).0)
    where
      one : (z : ℤ) → lt_z z (pos 1) ≡ false → pos 1 ≤ℤ z
      one z h = grind (arith, ints)

      some : (z : ℤ) → pos 1 ≤ℤ z → 1 ≤ nat_abs z
      some z h = omega (arith, ints)

  -- and with spreads that are near, the grids can be certified
  pub certifiable_of : Walkable FairTemperature p us → Walkable FairMajorant p ws → spread_check p us ws ≡ clear → Certifiable p us ws m
  certifiable_of mild fair near = record {
    mild = mild;
    fair = fair;
    measured = of;
    useful = useful_of;
    near = λ k f. most (spread p us ws k) (clear_at p 13 (λ (j : ℕ). ltb 1000000000 (spread p us ws j)) near k f);
  }
    where
      most : (n : ℕ) → ltb 1000000000 n ≡ false → n ≤ 1000000000
      most n h = grind arith
