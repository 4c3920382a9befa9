-- The records of a chain, as a list and as a relation: where the chain ends within the room of the list, the list holds the
-- records that the chain holds. Both go on by the same step from a record to the next.
-- Assumes nothing.
use mathlib.Core.Path.{◌≡◌}
use mathlib.Core.Bool.{true}
use mathlib.Core.List.{List}
use Prim.Native.Nat.{ℕ, zero, suc, ◌<◌}
use native.Mathlib.Omega.{arith}
use native.Mathlib.Nat.{zero-lt-suc}
use native.Mathlib.Decide.{ℕ_discrete}
use Rattle.defs.specs.Meaning.Strip.{next_of, Chained, here, further, Ends, zero_ends, goes_on}
use Rattle.defs.specs.Computing.Test.{chain_by, ends_by}
use Rattle.defs.specs.Computing.Words.{occurrences}
use Rattle.laws.proofs.Walks.{chain_step, ends_step, no_room}
use Rattle.laws.proofs.Occurs.{occurs_here, occurs_there, occurs_later}

pub ends_of : (s : List ℕ) (Q n r : ℕ) → ends_by (next_of s) Q n r ≡ true → Ends s Q r
ends_of s Q zero zero e = zero_ends
ends_of s Q zero (suc r) e = absurd (no_room (next_of s) Q (suc r) (zero-lt-suc r) e)
ends_of s Q (suc n) zero e = zero_ends
ends_of s Q (suc n) (suc r) e =
    let t = (ends_step (next_of s) Q n (suc r) (zero-lt-suc r)).0 e in
    goes_on (zero-lt-suc r) t.0 (ends_of s Q n (next_of s (suc r)) t.1)

pub occurs_of : (s : List ℕ) (Q x n r : ℕ) → ends_by (next_of s) Q n r ≡ true → Chained s x r →
    0 < occurrences x (chain_by (next_of s) n r)
occurs_of s Q x zero r e (here h) = absurd (no_room (next_of s) Q x h e)
occurs_of s Q x zero r e (further h c) = absurd (no_room (next_of s) Q r h e)
occurs_of s Q x (suc n) r e (here h) = rw (chain_step (next_of s) n x h) (occurs_here x _)
occurs_of s Q x (suc n) r e (further h c) =
    rw (chain_step (next_of s) n r h)
    (occurs_there x r _ (occurs_of s Q x n (next_of s r) ((ends_step (next_of s) Q n r h).0 e).1 c))

pub chained_of : (s : List ℕ) (x n r : ℕ) → 0 < occurrences x (chain_by (next_of s) n r) → Chained s x r
unfolding chain_by occurrences
chained_of s x zero r h = absurd (omega arith)
chained_of s x (suc n) zero h = absurd (omega arith)
chained_of s x (suc n) (suc r) h = go (ℕ_discrete (suc r) x) (chained_of s x n (next_of s (suc r)))
  where
    rest : List ℕ
    rest = chain_by (next_of s) n (next_of s (suc r))

    go : Dec (suc r ≡ x) → (0 < occurrences x rest → Chained s x (next_of s (suc r))) → Chained s x (suc r)
    go (yes q) k = rw q (here (omega arith))
    go (no q) k = further (zero-lt-suc r) (k (rw (chain_step (next_of s) n (suc r) (zero-lt-suc r), occurs_later x (suc r) rest q) at h))
