-- The plan of the records that were read is the ground's.
use Rattle.std.proofs.Common.{◌≡◌, ℕ, ◌*◌, ◌<◌, List, length, get_or, sym, ◌∙◌, arith}
use mathlib.Core.Path.{PathP, to_path_p}
use native.Mathlib.Nat.{ℕ_set}
use Rattle.std.proofs.lemmas.List.FromFn.{get_or-map-range_with_len}
use Rattle.std.proofs.lemmas.List.{ext_get_or}
use Rattle.section.specs.Plan.{Plan, Cell, void, meant, at, size, cells_of, length_cells_of}
use Rattle.section.specs.declared.types.Record.{Record}
use Rattle.section.specs.declared.types.Record.TheVariants.{Void}
use Rattle.section.specs.declared.types.Shape.{Shape}
use Rattle.stencil.specs.Keeping.{kept_plan}

-- plans of one shape with the same cells are one plan
pub plan-same : (p q : Plan) → p.wide ≡ q.wide → p.high ≡ q.high → p.cells ≡ q.cells → p ≡ q
plan-same p q w h c =
    let full : PathP (λ i. length (c i) ≡ w i * h i) p.full q.full = to_path_p (λ i. length (c i) ≡ w i * h i) (ℕ_set _ _ _ _) in
    λ i. record { wide = w i; high = h i; cells = c i; full = full i }

pub plan_kept :
    (p : Plan) (s : Shape) (records : List Record) → s.wide ≡ p.wide → s.high ≡ p.high →
    ((k : ℕ) → k < size p → meant (get_or records k Void) ≡ at p k) → kept_plan s records ≡ p
unfolding cells_of
plan_kept p s records w h same =
    let f : ℕ → Cell = λ i. meant (get_or records i Void) in
    let n : s.wide * s.high ≡ size p = rw (w, h) (sym p.full) in
    plan-same (kept_plan s records) p w h
    (ext_get_or void (cells_of (s.wide * s.high) f) p.cells (length_cells_of (s.wide * s.high) f ∙ n)
    (λ i l. get_or-map-range_with_len f 0 (s.wide * s.high) i i void (omega (arith, length_cells_of (s.wide * s.high) f)) (omega arith) ∙ same i (omega (arith, length_cells_of (s.wide * s.high) f, n))))
