use Rattle.std.proofs.Common.{◌≡◌, ◌++◌, length, vec_items, vec_len, vec_capacity}
use Rattle.replay.specs.Replays.{Replayed}
use Rattle.replay.proofs.replay.replay.Given as goal

abbrev pub invariant-loop-call : goal.invariant-loop-call
invariant-loop-call g l =
    (l.yielded ++ l.call-iterator.rest.items ≡ l.initial.call-iterator.rest.items)
    × (vec_len l.events ≡ length l.yielded)
    × (vec_capacity l.events ≡ vec_capacity l.initial.events)
    × Replayed (g.G.Ground.plan l.initial.study.layer.below) l.initial.study l.initial.brackets l.yielded (vec_items l.events) l.study l.brackets
