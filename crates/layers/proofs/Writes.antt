-- A layer's table after one of its places is written.
use Rattle.std.proofs.Common.{◌≡◌, ℕ, zero, suc, ◌+◌, ◌<◌, ◌≤◌, Bool, true, false, cond, not, ◌&&◌, eqb, leb, ◌⊎◌, List, [], ◌∷◌, length, get_or, set, is_some, Some, None, Option, sym, refl, ap, ◌∙◌, ⊎_elim, arith, length-set}
use Rattle.std.proofs.lemmas.List.{get_or-set_same, set-set}
use Rattle.std.proofs.lemmas.Bool.{eq-eqb, ne_eqb, cond-true, cond-false, cases_eq}
use Rattle.std.proofs.lemmas.Bool.Decides.{nat_tests}
use Rattle.layers.specs.Tables.{lookup, used, apart, listing}
use Rattle.layers.specs.Layers.{altered}
use Rattle.layers.specs.Changes.{Entered, Removed}
use Rattle.layers.specs.declared.table.Entry.{Entry}

-- two answers in a row may change places, where their tests do not both hold
swap : {A : Type 0} (a b : Bool) (x y z : A) → (a ≡ true → b ≡ true → ⊥) → cond a x (cond b y z) ≡ cond b y (cond a x z)
swap true true x y z never = absurd (never refl refl)
swap true false x y z never = refl
swap false true x y z never = refl
swap false false x y z never = refl

again : {A : Type 0} (b : Bool) (x y z : A) → cond b x (cond b y z) ≡ cond b x z
again true x y z = refl
again false x y z = refl

none_past : {A : Type 0} (b : Bool) (x : A) (o : Option A) → cond b (Some x) o ≡ None → (b ≡ false) × (o ≡ None)
none_past true x o e = let z : ◌≡◌ {A = ℕ} 0 1 = cc in absurd (omega arith)
none_past false x o e = (refl, e)

none_of : {A : Type 0} (o : Option A) → is_some o ≡ false → o ≡ None
none_of None e = refl
none_of (Some x) e = let z : ◌≡◌ {A = ℕ} 0 1 = cc in absurd (omega arith)

still-none : {A : Type 0} (b : Bool) (o : Option A) → is_some o ≡ false → is_some (cond b None o) ≡ false
still-none true o e = refl
still-none false o e = e

-- the two halves of `apart` at a place that lists a cell
halves : (b c : Bool) → (not b && c) ≡ true → (b ≡ false) × (c ≡ true)
halves true c e = let z : ◌≡◌ {A = ℕ} 0 1 = cc in absurd (omega arith)
halves false c e = (refl, e)

joined : (b c : Bool) → b ≡ false → c ≡ true → (not b && c) ≡ true
joined b c e f = cc

-- where a place lists a cell, the cell is listed
listed_at : {X : Type 0} (places : List (Option (Entry X))) (k cell : ℕ) → listing (get_or places k None) ≡ Some cell → is_some (lookup places cell) ≡ true
listed_at [] k cell e = let z : ◌≡◌ {A = ℕ} 0 1 = cc in absurd (omega arith)
listed_at (None ∷ places) zero cell e = let z : ◌≡◌ {A = ℕ} 0 1 = cc in absurd (omega arith)
listed_at (Some x ∷ places) zero cell e =
    let same : x.cell ≡ cell = cc in
    ap is_some (cond-true (eqb x.cell cell) (Some x.laid) (lookup places cell) (eq-eqb x.cell cell same))
listed_at (None ∷ places) (suc k) cell e = listed_at places k cell e
listed_at (Some x ∷ places) (suc k) cell e =
    elim (eqb x.cell cell) as (λ b. is_some (cond b (Some x.laid) (lookup places cell)) ≡ true) [ true ↦ refl | false ↦ listed_at places k cell e ]

-- a place that lists a cell is emptied
cleared-lookup :
    {X : Type 0} (places : List (Option (Entry X))) (k cell j : ℕ) → listing (get_or places k None) ≡ Some cell → apart places ≡ true →
    lookup (set places k None) j ≡ altered (lookup places) cell None j
cleared-lookup [] k cell j e once = let z : ◌≡◌ {A = ℕ} 0 1 = cc in absurd (omega arith)
cleared-lookup (None ∷ places) zero cell j e once = let z : ◌≡◌ {A = ℕ} 0 1 = cc in absurd (omega arith)
cleared-lookup (Some x ∷ places) zero cell j e once =
    let same : x.cell ≡ cell = cc in
    let rest = cond (eqb x.cell j) (Some x.laid) (lookup places j) in
    ⊎_elim
    (λ (here : j ≡ cell).
    let gone : lookup places x.cell ≡ None = none_of (lookup places x.cell) (halves _ _ once).0 in
    ap (lookup places) (here ∙ sym same) ∙ gone ∙ sym (cond-true (eqb j cell) None rest (eq-eqb j cell here)))
    (λ other.
    sym (cond-false (eqb j cell) None rest (ne_eqb j cell other) ∙ cond-false (eqb x.cell j) (Some x.laid) (lookup places j) (ne_eqb x.cell j (λ f. other (sym f ∙ same)))))
    (cases_eq j cell)
cleared-lookup (None ∷ places) (suc k) cell j e once = cleared-lookup places k cell j e once
cleared-lookup (Some x ∷ places) (suc k) cell j e once =
    ap (λ o. cond (eqb x.cell j) (Some x.laid) o) (cleared-lookup places k cell j e (halves _ _ once).1)
    ∙ swap (eqb x.cell j) (eqb j cell) (Some x.laid) None (lookup places j) (λ a b.
    let there = listed_at places k cell e in
    let alone = (halves (is_some (lookup places x.cell)) (apart places) once).0 in
    let same : x.cell ≡ cell = grind (arith, nat_tests) in
    let z : ◌≡◌ {A = ℕ} 0 1 = cc in absurd (omega arith))

cleared-used : {X : Type 0} (places : List (Option (Entry X))) (k cell : ℕ) → listing (get_or places k None) ≡ Some cell → used (set places k None) + 1 ≡ used places
cleared-used [] k cell e = let z : ◌≡◌ {A = ℕ} 0 1 = cc in absurd (omega arith)
cleared-used (None ∷ places) zero cell e = let z : ◌≡◌ {A = ℕ} 0 1 = cc in absurd (omega arith)
cleared-used (Some x ∷ places) zero cell e = refl
cleared-used (None ∷ places) (suc k) cell e = cleared-used places k cell e
cleared-used (Some x ∷ places) (suc k) cell e = ap (λ n. n + 1) (cleared-used places k cell e)

pub cleared-apart : {X : Type 0} (places : List (Option (Entry X))) (k cell : ℕ) → listing (get_or places k None) ≡ Some cell → apart places ≡ true → apart (set places k None) ≡ true
cleared-apart [] k cell e once = let z : ◌≡◌ {A = ℕ} 0 1 = cc in absurd (omega arith)
cleared-apart (None ∷ places) zero cell e once = let z : ◌≡◌ {A = ℕ} 0 1 = cc in absurd (omega arith)
cleared-apart (Some x ∷ places) zero cell e once = (halves _ _ once).1
cleared-apart (None ∷ places) (suc k) cell e once = cleared-apart places k cell e once
cleared-apart (Some x ∷ places) (suc k) cell e once =
    let parts = halves (is_some (lookup places x.cell)) (apart places) once in
    joined _ _
    (ap is_some (cleared-lookup places k cell x.cell e parts.1) ∙ still-none (eqb x.cell cell) (lookup places x.cell) parts.0)
    (cleared-apart places k cell e parts.1)

pub removed :
    {X : Type 0} (places : List (Option (Entry X))) (k cell : ℕ) → listing (get_or places k None) ≡ Some cell → apart places ≡ true →
    Removed places cell (set places k None)
removed places k cell e once =
    record { was = listed_at places k cell e; found = λ j. cleared-lookup places k cell j e once; count = cleared-used places k cell e }

-- an empty place is filled
filled_lookup :
    {X : Type 0} (places : List (Option (Entry X))) (k j : ℕ) (new : Entry X) → k < length places → listing (get_or places k None) ≡ None →
    lookup places new.cell ≡ None → lookup (set places k (Some new)) j ≡ altered (lookup places) new.cell (Some new.laid) j
filled_lookup [] k j new l e gone = absurd (omega arith)
filled_lookup (None ∷ places) zero j new l e gone =
    let same : eqb new.cell j ≡ eqb j new.cell = grind (arith, nat_tests) in
    ap (λ b. cond b (Some new.laid) (lookup places j)) same
filled_lookup (Some x ∷ places) zero j new l e gone = let z : ◌≡◌ {A = ℕ} 0 1 = cc in absurd (omega arith)
filled_lookup (None ∷ places) (suc k) j new l e gone = filled_lookup places k j new (omega arith) e gone
filled_lookup (Some x ∷ places) (suc k) j new l e gone =
    let parts = none_past (eqb x.cell new.cell) x.laid (lookup places new.cell) gone in
    ap (λ o. cond (eqb x.cell j) (Some x.laid) o) (filled_lookup places k j new (omega arith) e parts.1)
    ∙ swap (eqb x.cell j) (eqb j new.cell) (Some x.laid) (Some new.laid) (lookup places j) (λ a b. let f = parts.0 in grind (arith, nat_tests))

filled_used : {X : Type 0} (places : List (Option (Entry X))) (k : ℕ) (new : Entry X) → k < length places → listing (get_or places k None) ≡ None → used (set places k (Some new)) ≡ used places + 1
filled_used [] k new l e = absurd (omega arith)
filled_used (None ∷ places) zero new l e = refl
filled_used (Some x ∷ places) zero new l e = let z : ◌≡◌ {A = ℕ} 0 1 = cc in absurd (omega arith)
filled_used (None ∷ places) (suc k) new l e = filled_used places k new (omega arith) e
filled_used (Some x ∷ places) (suc k) new l e = ap (λ n. n + 1) (filled_used places k new (omega arith) e)

filled_apart :
    {X : Type 0} (places : List (Option (Entry X))) (k : ℕ) (new : Entry X) → k < length places → listing (get_or places k None) ≡ None →
    lookup places new.cell ≡ None → apart places ≡ true → apart (set places k (Some new)) ≡ true
filled_apart [] k new l e gone once = absurd (omega arith)
filled_apart (None ∷ places) zero new l e gone once = joined _ _ (ap is_some gone) once
filled_apart (Some x ∷ places) zero new l e gone once = let z : ◌≡◌ {A = ℕ} 0 1 = cc in absurd (omega arith)
filled_apart (None ∷ places) (suc k) new l e gone once = filled_apart places k new (omega arith) e gone once
filled_apart (Some x ∷ places) (suc k) new l e gone once =
    let parts = none_past (eqb x.cell new.cell) x.laid (lookup places new.cell) gone in
    let alone = halves (is_some (lookup places x.cell)) (apart places) once in
    joined _ _
    (ap is_some (filled_lookup places k x.cell new (omega arith) e parts.1 ∙ cond-false (eqb x.cell new.cell) (Some new.laid) (lookup places x.cell) parts.0) ∙ alone.0)
    (filled_apart places k new (omega arith) e parts.1 alone.1)

used-most : {X : Type 0} (places : List (Option (Entry X))) → used places ≤ length places
used-most [] = omega arith
used-most (None ∷ places) = omega (arith, used-most places)
used-most (Some x ∷ places) = omega (arith, used-most places)

-- where a cell is to be listed: its place lists it, or it is listed nowhere and its place is empty
abbrev pub Suits : {X : Type 0} → List (Option (Entry X)) → ℕ → ℕ → Type 0
Suits places k cell = (listing (get_or places k None) ≡ Some cell) ⊎ ((listing (get_or places k None) ≡ None) × (lookup places cell ≡ None))

module _ {X : Type 0} (n : ℕ) (places : List (Option (Entry X))) (k : ℕ) (new : Entry X) (long : length places ≡ n) (once : apart places ≡ true) (l : k < length places) where
  -- a place that lists the cell is emptied and then filled
  module _ (e : listing (get_or places k None) ≡ Some new.cell) where
    inside : k < length (set places k None)
    inside = omega (arith, length-set places k None)

    vacant : listing (get_or (set places k None) k None) ≡ None
    vacant = ap listing (get_or-set_same places k None None l)

    gone : lookup (set places k None) new.cell ≡ None
    gone =
        cleared-lookup places k new.cell new.cell e once
        ∙ cond-true (eqb new.cell new.cell) None (lookup places new.cell) (eq-eqb new.cell new.cell refl)

    replaced : Entered n places new.cell new.laid (set places k (Some new))
    replaced = record {
      room = ap (λ b. not b && leb n (used places)) (listed_at places k new.cell e);
      found = λ j.
          ap (λ s. lookup s j) (sym (set-set places k None (Some new)))
          ∙ filled_lookup (set places k None) k j new inside vacant gone
          ∙ ap (λ o. cond (eqb j new.cell) (Some new.laid) o) (cleared-lookup places k new.cell j e once)
          ∙ again (eqb j new.cell) (Some new.laid) None (lookup places j);
      count =
          ap used (sym (set-set places k None (Some new)))
          ∙ filled_used (set places k None) k new inside vacant
          ∙ cleared-used places k new.cell e
          ∙ sym (cond-true _ (used places) (used places + 1) (listed_at places k new.cell e));
    }

    replaced-apart : apart (set places k (Some new)) ≡ true
    replaced-apart =
        ap apart (sym (set-set places k None (Some new)))
        ∙ filled_apart (set places k None) k new inside vacant gone (cleared-apart places k new.cell e once)

  added : listing (get_or places k None) ≡ None → lookup places new.cell ≡ None → Entered n places new.cell new.laid (set places k (Some new))
  added e gone =
      let more = filled_used places k new l e in
      let less : leb n (used places) ≡ false =
      let most = used-most (set places k (Some new)) in
      let same = length-set places k (Some new) in grind (arith, nat_tests) in
      record {
        room = ap (λ o. not (is_some o) && leb n (used places)) gone ∙ less;
        found = λ j. filled_lookup places k j new l e gone;
        count = more ∙ sym (cond-false _ (used places) (used places + 1) (ap is_some gone));
      }

  pub entered : Suits places k new.cell → Entered n places new.cell new.laid (set places k (Some new))
  entered s = ⊎_elim replaced (λ h. added h.0 h.1) s

  pub entered-apart : Suits places k new.cell → apart (set places k (Some new)) ≡ true
  entered-apart s = ⊎_elim replaced-apart (λ h. filled_apart places k new l h.0 h.1 once) s
