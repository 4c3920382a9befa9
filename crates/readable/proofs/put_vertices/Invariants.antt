-- A vertex takes at most 12 bytes. Assumes nothing.
use Rattle.std.proofs.Common.{◌≡◌, ◌+◌, ◌*◌, ◌/◌, ◌≤◌, length}
use Rattle.std.specs.Slice.Iter.{chunks_exact_rest, chunks_exact_size}
use Rattle.readable.proofs.put_vertices.Given as goal

abbrev pub invariant-loop-v : goal.invariant-loop-v
invariant-loop-v l =
    (goal.iterator-loop-v).can_next l.v-iterator × (goal.iterator-loop-v).is_finite l.v-iterator ×
    (chunks_exact_size l.v-iterator ≡ 2) ×
    (l.to + 12 * (length (chunks_exact_rest l.v-iterator) / 2) ≤ l.at + 12 * (length l.vertices / 2))
