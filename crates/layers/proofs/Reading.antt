-- What a search of a layer's table tells, and an empty table.
use Rattle.std.proofs.Common.{◌≡◌, ℕ, zero, suc, ◌+◌, ◌<◌, ◌≤◌, Bool, true, false, not, cond, eqb, List, [], ◌∷◌, length, get_or, replicate, is_none, Some, None, Option, sym, refl, ap, ◌∙◌, inl, inr, position, count_by, is_some, arith}
use Rattle.std.specs.List.{position_or_len}
use Rattle.std.specs.Option.{option_map, option_or}
use Rattle.std.proofs.lemmas.List.{get_or_default}
use Rattle.std.proofs.lemmas.List.Sums.{sum_by-cons}
use Rattle.std.proofs.lemmas.List.Quantifiers.{position-Some}
use Rattle.std.proofs.lemmas.Bool.Decides.{nat_tests}
use Rattle.layers.specs.Tables.{lookup, used, apart, lists, listing}
use Rattle.layers.specs.declared.table.Entry.{Entry}
use Rattle.layers.proofs.Writes.{Suits}

pub lookup_empty : (X : Type 0) (n j : ℕ) → lookup {X = X} (replicate n None) j ≡ None
lookup_empty X zero j = refl
lookup_empty X (suc n) j = lookup_empty X n j

pub used_empty : (X : Type 0) (n : ℕ) → used {X = X} (replicate n None) ≡ 0
used_empty X zero = refl
used_empty X (suc n) = used_empty X n

pub apart_empty : (X : Type 0) (n : ℕ) → apart {X = X} (replicate n None) ≡ true
apart_empty X zero = refl
apart_empty X (suc n) = apart_empty X n

-- the places that list a cell are as many as the cells listed
pub counted : {X : Type 0} (places : List (Option (Entry X))) → count_by (λ o. is_some o) places ≡ used places
counted [] = refl
counted (None ∷ places) = omega (arith, sum_by-cons (λ o. cond (is_some o) 1 0) None places, counted places)
counted (Some e ∷ places) = omega (arith, sum_by-cons (λ o. cond (is_some o) 1 0) (Some e) places, counted places)

-- where none is listed, the cell is not
pub none_listed : {X : Type 0} (places : List (Option (Entry X))) (i : ℕ) → used places ≡ 0 → lookup places i ≡ None
none_listed [] i e = refl
none_listed (None ∷ places) i e = none_listed places i e
none_listed (Some x ∷ places) i e = absurd (omega arith)

position-None : {X : Type 0} (p : X → Bool) (xs : List X) → position p xs ≡ None → length xs ≤ position_or_len p xs
position-None p xs e = grind (arith, nat_tests)

position-first : {X : Type 0} (p : X → Bool) (xs : List X) (k : ℕ) → position p xs ≡ Some k → (k < length xs) × (k ≡ position_or_len p xs)
position-first p xs k e = grind (arith, nat_tests)

-- past the last place the cell is listed nowhere, and at the first that lists it as that place says
past : {X : Type 0} (places : List (Option (Entry X))) (i : ℕ) → length places ≤ position_or_len (λ o. lists o i) places → lookup places i ≡ None
past [] i h = refl
past (None ∷ places) i h = past places i (omega arith)
past (Some e ∷ places) i h =
    elim (eqb e.cell i) as (λ b. suc (length places) ≤ cond (not b) (1 + position_or_len (λ o. lists o i) places) 0 → cond b (Some e.laid) (lookup places i) ≡ None) [
      | true ↦ λ l. absurd (omega arith)
      | false ↦ λ l. past places i (omega arith)
    ] h

abbrev shown : {X : Type 0} → List (Option (Entry X)) → ℕ → Option X
shown places k = option_map (λ e. e.laid) (get_or places k None)

at_first : {X : Type 0} (places : List (Option (Entry X))) (i k : ℕ) → k ≡ position_or_len (λ o. lists o i) places → k < length places → lookup places i ≡ shown places k
at_first [] i k is l = absurd (omega arith)
at_first (None ∷ places) i zero is l = absurd (omega arith)
at_first (None ∷ places) i (suc k) is l = at_first places i k (omega arith) (omega arith)
at_first (Some e ∷ places) i zero is l =
    elim (eqb e.cell i) as (λ b. 0 ≡ cond (not b) (1 + position_or_len (λ o. lists o i) places) 0 → cond b (Some e.laid) (lookup places i) ≡ Some e.laid) [
      | true ↦ λ here. refl
      | false ↦ λ further. absurd (omega arith)
    ] is
at_first (Some e ∷ places) i (suc k) is l =
    elim (eqb e.cell i) as (λ b. suc k ≡ cond (not b) (1 + position_or_len (λ o. lists o i) places) 0 → cond b (Some e.laid) (lookup places i) ≡ shown places k) [
      | true ↦ λ here. absurd (omega arith)
      | false ↦ λ further. at_first places i k (omega arith) (omega arith)
    ] is

all_used : {X : Type 0} (places : List (Option (Entry X))) → length places ≤ position_or_len (λ o. is_none o) places → used places ≡ length places
all_used [] h = refl
all_used (None ∷ places) h = absurd (omega arith)
all_used (Some e ∷ places) h = omega (arith, all_used places (omega arith))

listing-lists : {X : Type 0} (o : Option (Entry X)) (i : ℕ) → lists o i ≡ true → listing o ≡ Some i
listing-lists None i e = cc
listing-lists (Some x) i e = let same : x.cell ≡ i = grind (arith, nat_tests) in ap Some same

listing-none : {X : Type 0} (o : Option (Entry X)) → is_none o ≡ true → listing o ≡ None
listing-none None e = refl
listing-none (Some x) e = cc

module _ {X : Type 0} (places : List (Option (Entry X))) (i : ℕ) where
  abbrev of_cell : Option ℕ
  of_cell = position (λ (o : Option (Entry X)). lists o i) places

  abbrev vacant : Option ℕ
  vacant = position (λ (o : Option (Entry X)). is_none o) places

  -- what a search for the place of the cell tells
  pub lookup_missed : None ≡ of_cell → lookup places i ≡ None
  lookup_missed is = past places i (position-None _ places (sym is))

  pub lookup_met : (k : ℕ) (o : Option (Entry X)) → Some k ≡ of_cell → o ≡ get_or places k o → option_map (λ (e : Entry X). e.laid) o ≡ lookup places i
  lookup_met k o is here =
      let told = position-first (λ (o : Option (Entry X)). lists o i) places k (sym is) in
      ap (option_map (λ (e : Entry X). e.laid)) (here ∙ get_or_default places k o None told.0) ∙ sym (at_first places i k told.1 told.0)

  pub place_lists : (k : ℕ) → Some k ≡ of_cell → (k < length places) × (listing (get_or places k None) ≡ Some i)
  place_lists k is =
      let told = position-Some (λ (o : Option (Entry X)). lists o i) places k None (sym is) in
      (told.0, listing-lists _ i told.1)

  -- where the cell is to be listed
  pub suits : (k : ℕ) → Some k ≡ option_or of_cell vacant → (k < length places) × Suits places k i
  suits k is = by of_cell refl is
    where
      by : (a : Option ℕ) → a ≡ of_cell → Some k ≡ option_or a vacant → (k < length places) × Suits places k i
      by (Some j) at e = let told = place_lists k (e ∙ at) in (told.0, inl told.1)
      by None at e =
          let told = position-Some (λ (o : Option (Entry X)). is_none o) places k None (sym e) in
          (told.0, inr (listing-none _ told.1, lookup_missed at))

  pub none_left : None ≡ option_or of_cell vacant → (lookup places i ≡ None) × (used places ≡ length places)
  none_left is = by of_cell refl is
    where
      by : (a : Option ℕ) → a ≡ of_cell → None ≡ option_or a vacant → (lookup places i ≡ None) × (used places ≡ length places)
      by (Some j) at e = cc
      by None at e = (lookup_missed at, all_used places (position-None _ places (sym e)))
