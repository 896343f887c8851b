-- The maximum principle, over naturals: an integer f is a difference P - Q.
use Rattle.std.proofs.Common.{◌≡◌, ℕ, zero, suc, ◌+◌, ◌-◌, ◌*◌, ◌<◌, ◌≤◌, Bool, true, false, T, ◌⊎◌, List, ℤ, sym, refl, ap, subst, inl, inr, mul-le-mul_right, mul-le-mul_left, le_of_mul-le-mul_right, arith, below_more}
use native.Mathlib.Decide.{dec_le}
use Rattle.std.specs.List.{AllByRecursion as All}
use Rattle.section.specs.Plan.{Plan, held, at, size, is_free_at, Free, Link, links, dot_n, diag, mass, load, IsMajorant}
use Rattle.section.proofs.Cells.{free-inside, mass-free, mass-held}
use Rattle.laws.proofs.Links.{at-links}
use Rattle.laws.proofs.Sums.{dot_n-le, dot_n-add, dot_n-scale}

-- f j / w j is at most f i / w i
abbrev Under : (P Q w : ℕ → ℕ) → ℕ → ℕ → Type 0
Under P Q w j i = w i * P j + Q i * w j ≤ P i * w j + w i * Q j

under_trans : (P Q w : ℕ → ℕ) (j i k : ℕ) → 1 ≤ w i → Under P Q w j i → Under P Q w i k → Under P Q w j k
under_trans P Q w j i k some a b =
    let c : (w k * P j + Q k * w j) * w i ≤ (P k * w j + w k * Q j) * w i = omega (arith, mul-le-mul_right (w k) a, mul-le-mul_right (w j) b) in
    le_of_mul-le-mul_right c some

module _ (P Q w : ℕ → ℕ) (F : ℕ → Bool) (some : (i : ℕ) → T (F i) → 1 ≤ w i) where
  abbrev Top : ℕ → ℕ → Type 0
  Top n i = (j : ℕ) → j < n → T (F j) → Under P Q w j i

  -- among the indices below n, none is in F, or one of F has the greatest f / w
  abbrev Peak : ℕ → Type 0
  Peak n = ((j : ℕ) → j < n → T (F j) → ⊥) ⊎ ((i : ℕ) × T (F i) × Top n i)

  more : (n i : ℕ) → Top n i → (T (F n) → Under P Q w n i) → Top (suc n) i
  more n i below here j l = below_more (λ (k : ℕ). T (F k) → Under P Q w k i) n below here j (omega arith)

  step : (n : ℕ) (b : Bool) → F n ≡ b → Peak n → Peak (suc n)
  step n false e (inl none) = inl (λ j l. below_more (λ (k : ℕ). T (F k) → ⊥) n none (λ f. subst T e f) j (omega arith))
  step n false e (inr (i, f, top)) = inr (i, f, more n i top (λ g. absurd (subst T e g)))
  step n true e (inl none) = inr (n, subst T (sym e) tt, more n n (λ j l f. absurd (none j l f)) (λ f. omega arith))
  step n true e (inr (i, f, top)) = elim (dec_le (w i * P n + Q i * w n) (P i * w n + w i * Q n)) [
    | yes u ↦ inr (i, f, more n i top (λ g. u))
    | no k ↦ inr (n, subst T (sym e) tt, more n n (λ j l g. under_trans P Q w j i n (some i f) (top j l g) (omega arith)) (λ g. omega arith))
  ]

  peak : (n : ℕ) → Peak n
  peak zero = inl (λ j l f. omega arith)
  peak (suc n) = step n (F n) refl (peak n)

-- A, B and C stand for the sums of c P, c Q and c w, z for w; f, which is suc k, cannot be above 0
clash : (A B C d y k z m : ℕ) → 1 ≤ m → z * A + y * C ≤ (y + suc k) * C + z * B → d * (y + suc k) + B ≤ d * y + A → m + C ≤ d * z → ⊥
clash A B C d y k z m one under small large = omega (arith, mul-le-mul_right z small, mul-le-mul_left (suc k) large)

-- where f / w is at least that of every neighbour, f is at most 0
at-peak :
    (P Q w : ℕ → ℕ) (m d i : ℕ) (ls : List Link) → 1 ≤ m → All (λ l. Under P Q w l.cell i) ls → m + dot_n ls w ≤ d * w i →
    d * P i + dot_n ls Q ≤ d * Q i + dot_n ls P → P i ≤ Q i
at-peak P Q w m d i ls one under large small = elim (dec_le (P i) (Q i)) [
  | yes l ↦ l
  | no k ↦
      let e : P i ≡ Q i + suc (P i - suc (Q i)) = omega arith in
      absurd
      (clash (dot_n ls P) (dot_n ls Q) (dot_n ls w) d (Q i) (P i - suc (Q i)) (w i) m one
      (subst (λ (x : ℕ). w i * dot_n ls P + Q i * dot_n ls w ≤ x * dot_n ls w + w i * dot_n ls Q) e sums)
      (subst (λ (x : ℕ). d * x + dot_n ls Q ≤ d * Q i + dot_n ls P) e small) large)
]
  where
    sums : w i * dot_n ls P + Q i * dot_n ls w ≤ P i * dot_n ls w + w i * dot_n ls Q
    sums =
        omega (
          arith,
          dot_n-le ls (λ j. w i * P j + Q i * w j) (λ j. P i * w j + w i * Q j) under,
          dot_n-add ls (λ j. w i * P j) (λ j. Q i * w j),
          dot_n-add ls (λ j. P i * w j) (λ j. w i * Q j),
          dot_n-scale ls (w i) P,
          dot_n-scale ls (w i) Q,
          dot_n-scale ls (P i) w,
          dot_n-scale ls (Q i) w,
        )

factor-positive : (d w : ℕ) → 1 ≤ d * w → 1 ≤ w
factor-positive d zero h = omega arith
factor-positive d (suc w) h = omega arith

-- f is 0 at held cells and d f less the sum of c f is at most 0 at free ones; then f is at most 0
module _ (p : Plan) (m : ℕ) (w : ℕ → ℕ) (one : 1 ≤ m) (major : IsMajorant p m w) where
  abbrev W : ℕ → ℕ
  W = mass p w

  pub large : (i : ℕ) → Free p i → m + dot_n (links p i) W ≤ diag p i * W i
  unfolding load
  large i f = rw (mass-free p w i f) (major.margin i f)

  some : (i : ℕ) → Free p i → 1 ≤ W i
  some i f = factor-positive (diag p i) (W i) (omega (arith, large i f))

  module _
      (P Q : ℕ → ℕ)
      (level : (j : ℕ) (t : ℤ) → at p j ≡ held t → P j ≡ Q j)
      (small : (i : ℕ) → Free p i → diag p i * P i + dot_n (links p i) Q ≤ diag p i * Q i + dot_n (links p i) P)
    where
      held-under : (i j : ℕ) (t : ℤ) → at p j ≡ held t → Under P Q W j i
      held-under i j t h =
          let z = mass-held p w j t h in
          omega (arith, ap (λ (x : ℕ). Q i * x) z, ap (λ (x : ℕ). P i * x) z, ap (λ (x : ℕ). W i * x) (level j t h))

      pub principle : (j : ℕ) → Free p j → P j ≤ Q j
      principle j f = by (peak P Q W (is_free_at p) some (size p))
        where
          by : Peak P Q W (is_free_at p) some (size p) → P j ≤ Q j
          by (inl none) = absurd (none j (free-inside p j f) f)
          by (inr (i, fi, top)) =
              let under = λ (k : ℕ) (fk : Free p k). top k (free-inside p k fk) fk in
              let low = at-peak P Q W m (diag p i) i (links p i) one (at-links p (λ k. Under P Q W k i) under (held-under i) i) (large i fi) (small i fi) in
              let c : P j * W i ≤ Q j * W i = omega (arith, mul-le-mul_right (W j) low, under j f) in
              le_of_mul-le-mul_right c (some i fi)
