-- A majorant that raising begins with.
use Rattle.std.proofs.Common.{◌≡◌, ℕ, zero, suc, ◌<◌, Bool, true, false, cond, List, length, get_or, set, pos, refl, ◌∙◌, arith, length-set, get_or-set_other, get_or-set_same}
use native.Mathlib.Decide.{ℕ_discrete}
use Rattle.std.proofs.lemmas.Int.{ints}
use Rattle.section.specs.Plan.{Plan, size, is_free_at, Free}
use Rattle.section.specs.declared.rows.Majorant.{Majorant}
use Rattle.section.proofs.Cells.{free-inside}
use Rattle.walk.specs.Sites.{Walkable}
use Rattle.walk.proofs.Walking.{free_true}
use Rattle.steps.specs.Steps.{clear_to, cleared, FairMajorant}

length-cond : (b : Bool) (n : ℕ) (xs ys : List Majorant) → length xs ≡ n → length ys ≡ n → length (cond b xs ys) ≡ n
length-cond true n xs ys p q = p
length-cond false n xs ys p q = q

pub length-clear : (p : Plan) (n : ℕ) (ws : List Majorant) → length (clear_to p n ws) ≡ length ws
length-clear p zero ws = refl
length-clear p (suc n) ws = let ih = length-clear p n ws in length-cond (is_free_at p n) (length ws) (set (clear_to p n ws) n (record { value = pos 0 })) (clear_to p n ws) (simp length-set ih) ih

-- every free cell that was passed has 0
clear_at : (p : Plan) (n : ℕ) (ws : List Majorant) (i : ℕ) (d : Majorant) → i < n → i < length ws → Free p i → get_or (clear_to p n ws) i d ≡ record { value = pos 0 }
clear_at p zero ws i d l in-ws f = absurd (omega arith)
clear_at p (suc n) ws i d l in-ws f = elim (ℕ_discrete i n) [
  | yes q ↦
      let here : is_free_at p n ≡ true = rw q at (free_true p i f) in
      rw here (rw q (get_or-set_same (clear_to p n ws) n (record { value = pos 0 }) d (omega (arith, length-clear p n ws))))
  | no k ↦
      let ih = clear_at p n ws i d (omega arith) in-ws f in
      by (is_free_at p n) (get_or-set_other (clear_to p n ws) n i (record { value = pos 0 }) d k ∙ ih) ih
]
  where
    by : (b : Bool) → get_or (set (clear_to p n ws) n (record { value = pos 0 })) i d ≡ record { value = pos 0 } → get_or (clear_to p n ws) i d ≡ record { value = pos 0 } → get_or (cond b (set (clear_to p n ws) n (record { value = pos 0 })) (clear_to p n ws)) i d ≡ record { value = pos 0 }
    by true s t = s
    by false s t = t

pub cleared_zero : (p : Plan) (ws : List Majorant) (i : ℕ) (d : Majorant) → i < length ws → Free p i → get_or (cleared p ws) i d ≡ record { value = pos 0 }
cleared_zero p ws i d l f = clear_at p (size p) ws i d (free-inside p i f) l f

pub cleared_walkable : (p : Plan) (ws : List Majorant) → length ws ≡ size p → Walkable FairMajorant p (cleared p ws)
cleared_walkable p ws n = record {
  count = length-clear p (size p) ws ∙ n;
  entries = λ i f d. rw (cleared_zero p ws i d (omega (arith, free-inside p i f, n)) f) (record { least = omega (arith, ints); most = omega (arith, ints) });
}
