-- One run rises to its least free height: it jumps onto the lowest run that it meets, and the next that it can meet is the one above.
-- Assumes nothing.
use mathlib.Core.Path.{◌≡◌}
use mathlib.Core.List.{List}
use mathlib.Core.Logic.{⊎_elim}
use Prim.Native.Nat.{ℕ, ◌+◌, ◌-◌, ◌≤◌, ◌<◌}
use native.Mathlib.Omega.{arith}
use native.Mathlib.Decide.{dec_lt}
use lib.ListN.{get_or}
use Rattle.geom.proofs.Strip.{lt_or_le}
use Rattle.runs.specs.Runs.{Passes, Holds, Apart}
use Rattle.tries.specs.Tries.{Column}
use Rattle.tries.proofs.Tries.{clear_to, lands}
use Rattle.heights.specs.Rounds.{Skipped, Settled}

-- a run ends in the rows of its column
pub high_most : {l h : List ℕ} {b n i W : ℕ} → Apart l h b n → ((x : ℕ) → Holds l h b n x → x < W) → b ≤ i → i < n →
    get_or h i 0 ≤ W
high_most {h = h} {i = i} a rows from to =
    let full = a.full i from to in
    omega (
      arith,
      full,
      rows (get_or h i 0 - 1) (record { which = i; from = from; among = to; low = omega (arith, full); high = omega (arith, full) }),
    )

-- the rows, raised from y to z, can meet no run before run i of the column
pub record Rising (f l h : List ℕ) (c lo hi y i z : ℕ) : Type 0 where
  pub up : y ≤ z
  pub most : z ≤ 16000
  pub passes : Passes h (get_or f c 0) (get_or f (c + 1) 0) (z + lo) i
  pub skipped : (u : ℕ) → y ≤ u → u < z → Skipped f l h c lo hi u

pub rise_start : {f l h : List ℕ} {c lo hi y i : ℕ} → y ≤ 16000 → Passes h (get_or f c 0) (get_or f (c + 1) 0) (y + lo) i →
    Rising f l h c lo hi y i y
rise_start m p = record { up = omega arith; most = m; passes = p; skipped = λ u a b. absurd (omega arith) }

module _ {f l h : List ℕ} {c lo hi y i z : ℕ} (k : Column f l h c) (g : Rising f l h c lo hi y i z) where
  pub rise_next : i < get_or f (c + 1) 0 → get_or h i 0 ≤ 16000 → get_or l i 0 < z + hi → Rising f l h c lo hi y (i + 1) (get_or h i 0 - lo)
  rise_next a top meets =
      let from = g.passes.from in
      let over = g.passes.found a in
      record {
        up = omega (arith, g.up, over);
        most = omega arith;
        passes =
            record {
              from = omega (arith, from);
              most = omega arith;
              within = λ m b e. passed m e (dec_lt m i) b;
              found = λ b. omega (arith, over, k.runs.apart i (i + 1) from (omega arith) b, k.runs.full (i + 1) (omega (arith, from)) b);
            };
        skipped =
            λ u b e.
            ⊎_elim (g.skipped u b)
            (λ v.
            record { start = z; end = get_or h i 0 - lo; jump = lands k g.passes a meets (omega (arith, over)); low = v; high = e })
            (lt_or_le u z);
      }
    where
      passed : (m : ℕ) → get_or f c 0 ≤ m → Dec (m < i) → m < i + 1 → get_or h m 0 ≤ get_or h i 0 - lo + lo
      passed m e (yes b) v = omega (arith, g.passes.found a, g.passes.within m b e)
      passed m e (no b) v = let x : m ≡ i = omega arith in rw x (omega (arith, g.passes.found a))

  pub rise_end : (i < get_or f (c + 1) 0 → z + hi ≤ get_or l i 0) → Settled f l h c lo hi y z
  rise_end a = record { up = g.up; free = clear_to k g.passes (omega arith) (omega arith) a; skipped = g.skipped }
