use Rattle.std.proofs.Common.{◌≡◌, ℕ, ◌<◌, get_or, vec_items, vec_len, vec_capacity}
use Rattle.section.specs.Plan.{meant, at}
use Rattle.section.specs.declared.types.Record.TheVariants.{Void}
use Rattle.stencil.proofs.kept.keep.Given as goal

abbrev pub invariant-loop-index : goal.invariant-loop-index
invariant-loop-index g l =
    (vec_len l.records ≡ l.index)
    × (vec_capacity l.records ≡ vec_capacity l.initial.records)
    × ((k : ℕ) → k < l.index → meant (get_or (vec_items l.records) k Void) ≡ at (g.G.Ground.plan l.ground) k)
