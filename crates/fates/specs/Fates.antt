-- A piece's right edge, and the tally of a job after it. Assumes nothing.
use Rattle.std.specs.Prelude.{Bool, not, cond, List, ℕ, ◌+◌, ◌≤◌, max, eqb, Result, Ok, Err}
use Rattle.defs.specs.declared.Position.{Position}
use Rattle.defs.specs.declared.Refusal.{Refusal}
use Rattle.defs.specs.Meaning.Placing.{right_edge}
use Rattle.fates.specs.declared.Tally.{Tally}

-- the right edge of a piece that is placed
abbrev pub edge_of : ℕ → List ℕ → Result Position Refusal → ℕ
edge_of R o (Ok p) = right_edge R o p
edge_of R o (Err r) = 0

-- which of two tables is current after an answer
abbrev pub turned : Bool → Result Position Refusal → Bool
turned second (Ok p) = not second
turned second (Err r) = second

abbrev pub one_if : Result Position Refusal → ℕ
one_if (Ok p) = 1
one_if (Err r) = 0

-- before which right edge a copy has no free position, after an answer: after 13 before any
abbrev pub lower_by : Result Position Refusal → ℕ → ℕ
lower_by (Ok p) right = right
lower_by (Err r) right = cond (eqb r.number 13) 4294967295 0

-- the next piece's ordinal, the pieces placed and the length used so far, which table is current, and what is known of a copy, after an
-- answer
abbrev pub tallied : Tally → Result Position Refusal → ℕ → Tally
tallied t a right =
    record {
      ordinal = t.ordinal + 1;
      placed = t.placed + one_if a;
      used = max t.used right;
      second = turned t.second a;
      lower = lower_by a right;
    }

-- no number of a tally leaves its 16 bits
pub record Few (t : Tally) : Type 0 where
  pub ordinal : t.ordinal ≤ 200
  pub placed : t.placed ≤ 200
  pub first : 1 ≤ t.ordinal
