-- Free records in order: none, and one more. Assumes nothing.
use mathlib.Core.List.{List}
use Prim.Native.Nat.{ℕ, ◌+◌, ◌<◌}
use native.Mathlib.Omega.{arith}
use borrow.Author.Count.{below_more}
use Rattle.striprecords.specs.Free.{LeadsOn, InOrder}

-- records in order: none, and one more
pub order_none : (s : List ℕ) (Q r : ℕ) → InOrder s Q r r
order_none s Q r =
    record {
      from = omega arith;
      first = λ l. absurd (omega arith);
      last = λ l. absurd (omega arith);
      each = λ i l m. absurd (omega arith);
    }

pub order_more : {s : List ℕ} {Q r e : ℕ} → InOrder s Q r e → 0 < r → e < Q → LeadsOn s e → InOrder s Q r (e + 1)
order_more o p l x =
    record {
      from = omega (arith, o.from);
      first = λ m. p;
      last = λ m. omega arith;
      each = below_more _ _ o.each (λ m. x);
    }
