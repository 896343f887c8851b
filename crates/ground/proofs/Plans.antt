-- Reading a plan: at an index of one that a function gives, and counting over its cells.
use Rattle.std.proofs.Common.{◌≡◌, ℕ, zero, suc, ◌+◌, ◌<◌, ◌≤◌, Bool, true, false, cond, get_or, sym, refl, ap, ◌∙◌, ⊎_elim, add-one, count_by, arith}
use Rattle.std.specs.List.{range_with_len}
use Rattle.std.proofs.lemmas.List.FromFn.{get_or-map-range_with_len}
use Rattle.std.proofs.lemmas.List.{get_or_past}
use Rattle.std.proofs.lemmas.List.Sums.{sum_by-cons}
use Rattle.std.proofs.lemmas.Bool.{cases_lt}
use Rattle.section.specs.Plan.{Cell, void, Plan, at, cells_of, length_cells_of, count_to, is_free, is_free_at, meant}
use Rattle.section.specs.declared.types.FreeRecord.{FreeRecord}
use Rattle.section.specs.declared.types.Record.{Record}
use Rattle.section.specs.declared.types.Record.TheVariants.{Free, Held, Void}

-- what is the function's cell inside and void outside is the plan's cell
pub cells_is : (n i : ℕ) (f : ℕ → Cell) (c : Cell) → (i < n → c ≡ f i) → (n ≤ i → c ≡ void) → c ≡ get_or (cells_of n f) i void
unfolding cells_of
cells_is n i f c inner outer =
    ⊎_elim (λ l. inner l ∙ sym (get_or-map-range_with_len f 0 n i i void l (omega arith)))
    (λ l. outer l ∙ sym (get_or_past (cells_of n f) i void (omega (arith, length_cells_of n f))))
    (cases_lt i n)

pub cells_in : (n i : ℕ) (f : ℕ → Cell) (c : Cell) → i < n → c ≡ f i → c ≡ get_or (cells_of n f) i void
cells_in n i f c l is = cells_is n i f c (λ k. is) (λ k. absurd (omega arith))

pub cells_out : (n i : ℕ) (f : ℕ → Cell) → n ≤ i → void ≡ get_or (cells_of n f) i void
cells_out n i f l = cells_is n i f void (λ k. absurd (omega arith)) (λ k. refl)

pub count_most : (test : ℕ → Bool) (n : ℕ) → count_to test n ≤ n
count_most test zero = omega arith
count_most test (suc n) =
    elim (test n) as (λ b. cond b (count_to test n + 1) (count_to test n) ≤ suc n) [
      | true ↦ omega (arith, count_most test n)
      | false ↦ omega (arith, count_most test n)
    ]

-- the count after one more cell
pub count-more :
    (p : Plan) (i k : ℕ) (c : Cell) (b : Bool) → k ≡ count_to (is_free_at p) i → c ≡ at p i → is_free c ≡ b → cond b (k + 1) k ≡ count_to (is_free_at p) (i + 1)
count-more p i k c b e is free =
    let more = count_to (is_free_at p) i in
    let same : is_free_at p i ≡ b = sym (ap is_free is) ∙ free in
    ap (λ n. cond b (n + 1) n) e ∙ sym (rw (add-one i) (ap (λ b. cond b (more + 1) more) same))

pub not_free : (r : Record) → ((f : FreeRecord) → r ≡ Free f → ⊥) → is_free (meant r) ≡ false
not_free (Free f) never = absurd (never f refl)
not_free (Held h) never = refl
not_free Void never = refl

counted_on : (test : ℕ → Bool) (i n : ℕ) → count_to test i + count_by test (range_with_len i n) ≡ count_to test (i + n)
counted_on test i zero = let none : i + 0 ≡ i = omega arith in rw none (omega arith)
counted_on test i (suc n) =
    let here : count_to test (i + 1) ≡ count_to test i + cond (test i) 1 0 =
    rw (add-one i) (elim (test i) as (λ b. cond b (count_to test i + 1) (count_to test i) ≡ count_to test i + cond b 1 0) [ true ↦ refl | false ↦ omega arith ]) in
    let next : i + suc n ≡ i + 1 + n = omega arith in
    rw next (omega (arith, here, sum_by-cons (λ k. cond (test k) 1 0) i (range_with_len (i + 1) n), counted_on test (i + 1) n))

-- counting over the indices in their order
pub count_range : (test : ℕ → Bool) (n : ℕ) → count_by test (range_with_len 0 n) ≡ count_to test n
count_range test n = let same : 0 + n ≡ n = omega arith in let told = rw same at (counted_on test 0 n) in omega (arith, told)
