-- A table that is filled row by row.
use Rattle.std.proofs.Common.{◌≡◌, ℕ, ◌+◌, ◌<◌, List, [], ◌∷◌, ◌++◌, length, get_or, arith, below_more}
use Rattle.std.proofs.lemmas.List.{get_or_append_left, get_or_push}

-- what holds of each row below i, and of the one that is pushed, holds of each below i + 1
pub pushed :
    {X : Type 0} (P : ℕ → X → Type 0) (xs : List X) (i : ℕ) (x d : X) → length xs ≡ i → ((k : ℕ) → k < i → P k (get_or xs k d)) → P i x →
    (k : ℕ) → k < i + 1 → P k (get_or (xs ++ x ∷ []) k d)
pushed P xs i x d n below here =
    below_more (λ k. P k (get_or (xs ++ x ∷ []) k d)) i
    (λ k h. rw (get_or_append_left xs (x ∷ []) d k (omega arith)) (below k h))
    (rw (get_or_push xs x d i n) here)
