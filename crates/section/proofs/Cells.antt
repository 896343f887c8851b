-- What cells stand for, by their kind.
use Rattle.std.proofs.Common.{◌≡◌, ℕ, suc, ◌+◌, ◌*◌, ◌<◌, ◌≤◌, true, false, cond, T, List, [], ◌∷◌, ◌++◌, ℤ, ◌+ℤ◌, sym, refl, ap, ◌∙◌, subst, arith}
use native.Mathlib.Decide.{dec_le}
use borrow.Author.Differences.{ints}
use Rattle.std.proofs.lemmas.Nat.{mul-le}
use Rattle.std.proofs.lemmas.List.{get_or_past}
use Rattle.section.specs.declared.types.Shape.{Shape}
use Rattle.section.specs.Plan.{Plan, Cell, free, held, void, at, size, is_free, is_solid, Free, Link, link, counted, dot, dot_n, weights, entry, entry_of, mass, mass_of}

pub free-inside : (p : Plan) (i : ℕ) → Free p i → i < size p
free-inside p i f =
    elim (dec_le (suc i) (size p)) [
      | yes l ↦ l
      | no k ↦ absurd (subst (λ (c : Cell). T (is_free c)) (get_or_past p.cells i void (omega arith)) f)
    ]

pub mass-free : (p : Plan) (w : ℕ → ℕ) (i : ℕ) → Free p i → mass p w i ≡ w i
unfolding mass
mass-free p w i f = by (at p i) f
  where
    by : (c : Cell) → T (is_free c) → mass_of c (w i) ≡ w i
    by (free n w e s l q) t = refl
    by (held t) o = absurd o
    by void o = absurd o

pub mass-held : (p : Plan) (w : ℕ → ℕ) (i : ℕ) (t : ℤ) → at p i ≡ held t → mass p w i ≡ 0
unfolding mass
mass-held p w i t e = ap (λ (c : Cell). mass_of c (w i)) e

pub entry_free : (p : Plan) (u : ℕ → ℤ) (i : ℕ) → Free p i → entry p u i ≡ u i
unfolding entry
entry_free p u i f = by (at p i) f
  where
    by : (c : Cell) → T (is_free c) → entry_of c (u i) ≡ u i
    by (free n w e s l q) t = refl
    by (held t) o = absurd o
    by void o = absurd o

pub entry-held : (p : Plan) (u : ℕ → ℤ) (i : ℕ) (t : ℤ) → at p i ≡ held t → entry p u i ≡ t
unfolding entry
entry-held p u i t e = ap (λ (c : Cell). entry_of c (u i)) e

-- sums over links that are taken one after another
pub dot-append : (xs ys : List Link) (f : ℕ → ℤ) → dot (xs ++ ys) f ≡ dot xs f +ℤ dot ys f
dot-append [] ys f = omega (arith, ints)
dot-append (l ∷ xs) ys f = let ih = dot-append xs ys f in omega (arith, ints)

pub dot_n-append : (xs ys : List Link) (f : ℕ → ℕ) → dot_n (xs ++ ys) f ≡ dot_n xs f + dot_n ys f
dot_n-append [] ys f = omega arith
dot_n-append (l ∷ xs) ys f = omega (arith, dot_n-append xs ys f)

pub weights-append : (xs ys : List Link) → weights (xs ++ ys) ≡ weights xs + weights ys
weights-append [] ys = omega arith
weights-append (l ∷ xs) ys = omega (arith, weights-append xs ys)

-- a link toward a cell that is not void counts
pub counted_solid : (p : Plan) (c j : ℕ) (k : Cell) → k ≡ at p j → is_solid k ≡ true → counted p true c j ≡ link c j ∷ []
counted_solid p c j k e s =
    let P : Cell → Type 0 = λ x. cond (is_solid x) (link c j ∷ []) [] ≡ link c j ∷ [] in
    subst P e (rw s refl)

-- a plan of a shape has at most 64 by 64 cells
pub few-cells : (p : Plan) (s : Shape) → s.wide ≡ p.wide → s.high ≡ p.high → size p ≤ 4096
few-cells p s w h = omega (arith, p.full, mul-le p.wide p.high 64 64 (omega (arith, s.wide_most)) (omega (arith, s.high_most)))

pub not_free : (p : Plan) (i : ℕ) (k : Cell) → k ≡ at p i → is_free k ≡ false → Free p i → ⊥
not_free p i k e n f = subst T n (subst (λ (x : Cell). T (is_free x)) (sym e) f)

-- the number of cells that a shape answers is that of the plan
pub shape_size : (p : Plan) (s : Shape) (n : ℕ) → s.wide ≡ p.wide → s.high ≡ p.high → n ≡ s.wide * s.high → n ≡ size p
shape_size p s n w h e = e ∙ ap (λ x. x * s.high) w ∙ ap (λ x. p.wide * x) h ∙ sym p.full
