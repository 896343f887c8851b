-- What is certified holds every exact solution.
use Rattle.std.proofs.Common.{◌≡◌, ℕ, zero, suc, ◌+◌, ◌*◌, ◌<◌, ◌≤◌, max, Bool, true, false, cond, T, List, ℤ, pos, ◌+ℤ◌, ◌-ℤ◌, ◌*ℤ◌, neg_ℤ, nat_abs, ◌≤ℤ◌, sym, refl, ap, subst, mul-le-mul_left, arith, below_more}
use native.Mathlib.Nat.{le_of_mul-le-mul_left}
use borrow.Author.Differences.{up, down, ints, sum_is_lem, neg_is}
use Rattle.section.specs.Plan.{Plan, held, at, size, is_free_at, Free, links, dot_n, diag, heat, entry, mass, pull, IsMajorant}
use Rattle.section.specs.Reading.{temperatures}
use Rattle.section.specs.declared.rows.Temperature.{Temperature}
use Rattle.section.specs.declared.rows.Majorant.{Majorant}
use Rattle.section.proofs.Cells.{free-inside, mass-free, mass-held, entry_free, entry-held}
use Rattle.steps.specs.Steps.{heights}
use Rattle.laws.specs.Exact.{Exact, Bracketed}
use Rattle.certificate.proofs.Margins.{margin_is}
use Rattle.measure.specs.Measures.{residual, rest_to, rest, cell_margin, margin, spread, certified}
use Rattle.laws.proofs.Equations.{pull_is, equation_is}
use Rattle.laws.proofs.Peak.{large, principle}
use Rattle.laws.proofs.Rounds.{ceil_is}
use Rattle.laws.proofs.Sums.{dot_n-add, dot_n-scale}

-- an error a - b that is 0 at held cells and has d e less the sum of c e at most K is at most K w / m
module _
    (p : Plan)
    (m : ℕ)
    (w : ℕ → ℕ)
    (one : 1 ≤ m)
    (major : IsMajorant p m w)
    (a b : ℕ → ℕ)
    (K : ℕ)
    (level : (j : ℕ) (t : ℤ) → at p j ≡ held t → a j ≡ b j)
    (small : (i : ℕ) → Free p i → diag p i * a i + dot_n (links p i) b ≤ diag p i * b i + dot_n (links p i) a + K)
  where
    abbrev P : ℕ → ℕ
    P j = m * a j

    abbrev Q : ℕ → ℕ
    Q j = m * b j + K * mass p w j

    level_there : (j : ℕ) (t : ℤ) → at p j ≡ held t → P j ≡ Q j
    level_there j t h = omega (arith, ap (λ (x : ℕ). m * x) (level j t h), ap (λ (x : ℕ). K * x) (mass-held p w j t h))

    small_there : (i : ℕ) → Free p i → diag p i * P i + dot_n (links p i) Q ≤ diag p i * Q i + dot_n (links p i) P
    small_there i f =
        let ls = links p i in
        omega (
          arith,
          dot_n-add ls (λ j. m * b j) (λ j. K * mass p w j),
          dot_n-scale ls m a,
          dot_n-scale ls m b,
          dot_n-scale ls K (mass p w),
          mul-le-mul_left m (small i f),
          mul-le-mul_left K (large p m w one major i f),
        )

    error_below : (i : ℕ) → Free p i → m * a i ≤ m * b i + K * w i
    error_below i f = rw (mass-free p w i f) at (principle p m w one major P Q level_there small_there i f)

-- m a ≤ m b + D R w and R w ≤ m E give a ≤ b + D E
freed : (m a b D R w E : ℕ) → 1 ≤ m → m * a ≤ m * b + D * R * w → R * w ≤ m * E → a ≤ b + D * E
freed m a b D R w E one h k = le_of_mul-le-mul_left {k = m} (omega (arith, mul-le-mul_left D k)) one

below-bracket : (D E : ℕ) (x z : ℤ) → up z + D * down x ≤ down z + D * up x + D * E → z ≤ℤ (pos D *ℤ (x +ℤ pos E))
below-bracket D E x z h = omega (arith, ints, ap (λ (n : ℕ). D * n) (sum_is_lem x (pos E)))

above-bracket : (D E : ℕ) (x z : ℤ) → down z + D * up x ≤ up z + D * down x + D * E → (pos D *ℤ (x -ℤ pos E)) ≤ℤ z
above-bracket D E x z h =
    omega (arith, ints, ap (λ (n : ℕ). D * n) (sum_is_lem x (neg_ℤ (pos E))), ap (λ (n : ℕ). D * n) (neg_is (pos E)).0, ap (λ (n : ℕ). D * n) (neg_is (pos E)).1)

-- v - D u, as a difference
module _ (p : Plan) (u v : ℕ → ℤ) (D R : ℕ) (exact : Exact p D v) (near : (i : ℕ) → Free p i → nat_abs (pull p u i -ℤ pos (diag p i) *ℤ u i) ≤ R) where
  abbrev over : ℕ → ℕ
  over j = up (v j) + D * down (entry p u j)

  abbrev under : ℕ → ℕ
  under j = down (v j) + D * up (entry p u j)

  same : (j : ℕ) (t : ℤ) → at p j ≡ held t → over j ≡ under j
  same j t h = rw (entry-held p u j t h) (let e = exact.at_held j t h in omega (arith, ints))

  -- |S - d u| ≤ R, in naturals
  near_is :
      (i : ℕ) → Free p i →
      (up (heat p i) + dot_n (links p i) (λ j. up (entry p u j)) + diag p i * down (u i) ≤ R + down (heat p i) + dot_n (links p i) (λ j. down (entry p u j)) + diag p i * up (u i)) ×
      (down (heat p i) + dot_n (links p i) (λ j. down (entry p u j)) + diag p i * up (u i) ≤ R + up (heat p i) + dot_n (links p i) (λ j. up (entry p u j)) + diag p i * down (u i))
  near_is i f = omega (arith, ints, pull_is p u i, near i f)

  both :
      (i : ℕ) → Free p i →
      (diag p i * over i + dot_n (links p i) under ≤ diag p i * under i + dot_n (links p i) over + D * R) ×
      (diag p i * under i + dot_n (links p i) over ≤ diag p i * over i + dot_n (links p i) under + D * R)
  both i f =
      let ls = links p i in
      rw (entry_free p u i f)
      (omega (
        arith,
        equation_is p D v exact i f,
        mul-le-mul_left D (near_is i f).0,
        mul-le-mul_left D (near_is i f).1,
        dot_n-add ls (λ j. up (v j)) (λ j. D * down (entry p u j)),
        dot_n-add ls (λ j. down (v j)) (λ j. D * up (entry p u j)),
        dot_n-scale ls D (λ j. up (entry p u j)),
        dot_n-scale ls D (λ j. down (entry p u j)),
      ))

  module _ (m : ℕ) (w : ℕ → ℕ) (one : 1 ≤ m) (major : IsMajorant p m w) (i : ℕ) (f : Free p i) (E : ℕ) (wide : R * w i ≤ m * E) where
    lo_holds : (pos D *ℤ (u i -ℤ pos E)) ≤ℤ v i
    lo_holds =
        let gap = error_below p m w one major under over (D * R) (λ j t h. sym (same j t h)) (λ k g. (both k g).1) i f in
        above-bracket D E (u i) (v i) (rw (entry_free p u i f) at (freed m (under i) (over i) D R (w i) E one gap wide))

    hi_holds : v i ≤ℤ (pos D *ℤ (u i +ℤ pos E))
    hi_holds =
        let gap = error_below p m w one major over under (D * R) same (λ k g. (both k g).0) i f in
        below-bracket D E (u i) (v i) (rw (entry_free p u i f) at (freed m (over i) (under i) D R (w i) E one gap wide))

-- the rest is at least each free cell's absolute residual
rest_bounds : (p : Plan) (us : List Temperature) (n i : ℕ) → i < n → Free p i → nat_abs (residual p us i) ≤ rest_to p us n
rest_bounds p us zero i l f = absurd (omega arith)
rest_bounds p us (suc n) i l f = by (is_free_at p n) refl (rest_bounds p us n)
  where
    by :
        (b : Bool) → is_free_at p n ≡ b → ((k : ℕ) → k < n → Free p k → nat_abs (residual p us k) ≤ rest_to p us n) →
        nat_abs (residual p us i) ≤ cond b (max (rest_to p us n) (nat_abs (residual p us n))) (rest_to p us n)
    by true e before =
        below_more (λ (k : ℕ). Free p k → nat_abs (residual p us k) ≤ max (rest_to p us n) (nat_abs (residual p us n))) n
        (λ k lk g. omega (arith, before k lk g)) (λ g. omega arith) i (omega arith) f
    by false e before =
        below_more (λ (k : ℕ). Free p k → nat_abs (residual p us k) ≤ rest_to p us n) n before (λ g. absurd (subst T e g)) i (omega arith) f

module _ (p : Plan) (ws : List Majorant) (ones : (i : ℕ) → Free p i → pos 1 ≤ℤ cell_margin p ws i) where
  majorant_is : IsMajorant p (nat_abs (margin p ws)) (heights ws)
  majorant_is = record { margin = λ i f. omega (arith, ints, (margin_is p ws ones i f).0, (margin_is p ws ones i f).1) }

-- where the margin of every free cell is at least 1, the certified brackets hold every exact solution
pub certified-holds : (p : Plan) (us : List Temperature) (ws : List Majorant) → ((i : ℕ) → Free p i → pos 1 ≤ℤ cell_margin p ws i) → Bracketed p (certified p us ws)
certified-holds p us ws ones D v exact i f =
    let u = temperatures us in
    let w = heights ws in
    let m = nat_abs (margin p ws) in
    let E = spread p us ws i in
    let one : 1 ≤ m = omega (arith, ints, (margin_is p ws ones i f).0) in
    let near = λ (k : ℕ) (g : Free p k). rest_bounds p us (size p) k (free-inside p k g) g in
    let wide = (ceil_is (rest p us * w i) m one).0 in (
      lo_holds p u v D (rest p us) exact near m w one (majorant_is p ws ones) i f E wide,
      hi_holds p u v D (rest p us) exact near m w one (majorant_is p ws ones) i f E wide,
    )
