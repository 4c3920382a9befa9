-- The better of two positions, by rank. Assumes nothing.
use Rattle.std.specs.Prelude.{Bool, cond, ◌&&◌, ◌||◌, ℕ, ◌+◌, max, ltb, eqb, Option, Some, None}
use Rattle.ranks.specs.declared.Ranked.{Ranked}
use Rattle.ranks.specs.declared.Tried.{Tried}

-- `beats` and `better` of the definitions, by rank
abbrev pub beats_by : Ranked → Ranked → Bool
beats_by q p = ltb q.right p.right || (eqb q.right p.right && ltb q.top p.top)

abbrev pub better_by : Option Ranked → Option Ranked → Option Ranked
better_by a None = a
better_by None (Some q) = Some q
better_by (Some p) (Some q) = cond (beats_by q p) (Some q) (Some p)

abbrev pub merged : Tried → Tried → Tried
merged s x =
    record {
      most = max s.most x.most;
      best = better_by s.best x.best;
      tries = s.tries + x.tries;
      stands = x.stands;
    }

-- a position with a greater right edge does not win against the choice
abbrev pub limit_of : Option Ranked → ℕ
limit_of (Some b) = b.right
limit_of None = 4294967295
