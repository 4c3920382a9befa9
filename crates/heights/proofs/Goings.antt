-- Round the piece's runs: a run that rises leaves all others to be tried again; once all are free at one height, it is the least.
-- Assumes nothing.
use mathlib.Core.Path.{◌≡◌}
use mathlib.Core.List.{List}
use mathlib.Core.Logic.{⊎_elim}
use Prim.Native.Nat.{ℕ, ◌+◌, ◌-◌, ◌*◌, ◌≤◌, ◌<◌}
use native.Mathlib.Omega.{arith}
use native.Mathlib.Nat.{mul-le-mul_right}
use native.Mathlib.Decide.{dec_lt}
use lib.ListN.{length}
use Rattle.geom.proofs.Strip.{lt_or_le}
use Rattle.tables.specs.Flat.{Occupied}
use Rattle.tables.specs.Piece.{run_column, run_low, run_high}
use Rattle.tries.specs.Tries.{Column, ClearTo}
use Rattle.tries.proofs.Parts.{part_from, column_part, occupied_whole, clear_whole, lands_whole}
use Rattle.walk.specs.Free.{Frame, Before, FreeTo, Least, NoHeight}
use Rattle.walk.proofs.Jumps.{Below, below_none, run_column_lem, taken}
use Rattle.heights.specs.Rounds.{Settled, NextRun, RunsLeft}

-- run m is free at c, y
abbrev RunFree : List ℕ → List ℕ → List ℕ → List ℕ → ℕ → ℕ → ℕ → Type 0
RunFree f l h r c y m = ClearTo f l h (c + run_column r m) (run_low r m) (run_high r m) y y y

-- no height below y is free; of the p runs all are free at y but `left` of them, from run k on, going round
pub record Going (f l h r : List ℕ) (N p c top y k left : ℕ) : Type 0 where
  pub few : left ≤ p
  pub among : k ≤ p - 1
  pub low : y ≤ top
  pub before : (m : ℕ) → m < k → k + left ≤ m + p → RunFree f l h r c y m
  pub after : (m : ℕ) → m < p → k + left ≤ m → RunFree f l h r c y m
  pub below : Below f l h r N p c y

pub going_start : {f l h r : List ℕ} {N p c top k : ℕ} → k ≤ p - 1 → Going f l h r N p c top 0 k p
going_start a =
    record {
      few = omega arith;
      among = a;
      low = omega arith;
      before = λ m b e. absurd (omega arith);
      after = λ m b e. absurd (omega arith);
      below = below_none _ _ _ _ _ _ _;
    }

pub run_left : {f l h r : List ℕ} {N p c top y k left : ℕ} → Going f l h r N p c top y k left → 0 < left → k < p
run_left g some = omega (arith, g.few, g.among)

-- every run is free
pub going_end : {f l h r : List ℕ} {N p c top y k left W t : ℕ} → Going f l h r N p c top y k left → ¬ (0 < left) → top + t ≤ W →
    Least f l h r N W p t c y
going_end {f} {l} {h} {r} {N} {p} {c} {top} {y} {k} {left} g z a =
    record {
      fits = omega (arith, g.low);
      free = record { clear = λ m b here j u v. (clear m b).clear y (omega arith) (omega arith) (y + j) (omega arith) (omega arith) };
      least = g.below.none;
    }
  where
    clear : (m : ℕ) → m < p → RunFree f l h r c y m
    clear m b =
        ⊎_elim (λ u. g.before m u (omega (arith, g.among))) (λ u. g.after m b (omega arith)) (lt_or_le m k)

-- what `settle` asks
-- of a table handed over from column c on: what one run asks of it, and what it says of the whole
pub asks_part : (f l h : List ℕ) (c x : ℕ) {lo hi y : ℕ} → c + x + 1 < length f →
    Column f l h (c + x) × (((lo < hi) × (hi ≤ 16400) × (y ≤ 16000)) × ((z : ℕ) → Occupied f l h (c + x) z → z < 16000)) →
    Column (part_from f c) l h x
    × (((lo < hi) × (hi ≤ 16400) × (y ≤ 16000)) × ((z : ℕ) → Occupied (part_from f c) l h x z → z < 16000))
asks_part f l h c x within a = (column_part f l h c x within a.0, (a.1.0, λ z o. a.1.1 z (occupied_whole f l h c x within o)))

pub settled_whole : (f l h : List ℕ) (c x : ℕ) {lo hi y z : ℕ} → c + x + 1 < length f → Settled (part_from f c) l h x lo hi y z →
    Settled f l h (c + x) lo hi y z
settled_whole f l h c x within d =
    record {
      up = d.up;
      free = clear_whole f l h c x within d.free;
      skipped =
          λ u a b.
          let s = d.skipped u a b in
          record { start = s.start; end = s.end; jump = lands_whole f l h c x within s.jump; low = s.low; high = s.high };
    }

pub asks : {f l h r : List ℕ} {N W p w t q c top y k left : ℕ} → Frame f l h r N W p w t → Before r p (N - c) q →
    Going f l h r N q c top y k left → c ≤ N → k < q → top + t ≤ W → W ≤ 16000 →
    Column f l h (c + run_column r k)
    × (((run_low r k < run_high r k) × (run_high r k ≤ 16400) × (y ≤ 16000))
    × ((x : ℕ) → Occupied f l h (c + run_column r k) x → x < 16000))
asks {k = k} fr b g fits among top most = (
  run_column_lem fr _ fits b among,
  (
    (fr.some k (omega (arith, b.few)), omega (arith, fr.tall k (omega (arith, b.few))), omega (arith, g.low)),
    λ x o. omega (arith, fr.table.within _ x (omega (arith, b.inside k among)) o),
  ),
)

module _ {f l h r : List ℕ} {N W p w t q c top y k left z : ℕ} (fr : Frame f l h r N W p w t) (fits : c ≤ N) (b : Before r p (N - c) q)
    (among : k < q) (g : Going f l h r N q c top y k left)
    (d : Settled f l h (c + run_column r k) (run_low r k) (run_high r k) y z) where
  -- no height that the run rose past is free
  past : Below f l h r N q c z
  past = record { none = λ u a free. ⊎_elim (λ v. g.below.none u v free) (λ v. jumped u a v free) (lt_or_le u y) }
    where
      jumped : (u : ℕ) → u < z → y ≤ u → ¬ FreeTo f l h r N c u q
      jumped u a v =
          let s = d.skipped u v a in
          let low = s.jump.lowest in
          taken u among (omega (arith, b.inside k among)) (fr.some k (omega (arith, b.few)))
          ((run_column_lem fr c fits b among).runs.full s.jump.which low.from low.to) low s.low (omega (arith, s.high, s.jump.on))

  pub going_stop : top < z → W ≤ top + t → NoHeight f l h r N W q t c
  going_stop a e = record { none = λ u v. past.none u (omega arith) }

  pub going_next : {m n : ℕ} → 0 < left → z ≤ top → RunsLeft y z q left n → NextRun k q m → Going f l h r N q c top z m n
  going_next {m} {n} some low e x = go (dec_lt y z) (dec_lt (k + 1) q)
    where
      -- this run, and one that was free where this one stayed
      here : (i : ℕ) → i ≡ k → RunFree f l h r c z i
      here i v = rw v d.free

      kept : z ≤ y → (i : ℕ) → RunFree f l h r c y i → RunFree f l h r c z i
      kept u i v = let s : z ≡ y = omega (arith, d.up) in rw s v

      go : Dec (y < z) → Dec (k + 1 < q) → Going f l h r N q c top z m n
      go (yes u) (yes v) =
          record {
            few = omega (arith, e.rose u);
            among = omega (arith, x.next v);
            low = low;
            before = λ i a b. here i (omega (arith, e.rose u, x.next v));
            after = λ i a b. absurd (omega (arith, e.rose u, x.next v));
            below = past;
          }
      go (yes u) (no v) =
          let again : m ≡ 0 = x.again (omega arith) in
          record {
            few = omega (arith, e.rose u);
            among = omega arith;
            low = low;
            before = λ i a b. absurd (omega arith);
            after = λ i a b. here i (omega (arith, e.rose u));
            below = past;
          }
      go (no u) (yes v) =
          let fewer : n + 1 ≡ left = e.stayed (omega arith) in
          let next : m ≡ k + 1 = x.next v in
          record {
            few = omega (arith, g.few);
            among = omega arith;
            low = low;
            before =
                λ i a b.
                ⊎_elim (λ w. kept (omega arith) i (g.before i w (omega arith))) (λ w. here i (omega arith)) (lt_or_le i k);
            after = λ i a b. kept (omega arith) i (g.after i a (omega arith));
            below = past;
          }
      go (no u) (no v) =
          let fewer : n + 1 ≡ left = e.stayed (omega arith) in
          let again : m ≡ 0 = x.again (omega arith) in
          record {
            few = omega (arith, g.few);
            among = omega arith;
            low = low;
            before = λ i a b. absurd (omega arith);
            after =
                λ i a b.
                ⊎_elim (λ w. kept (omega arith) i (g.before i w (omega arith))) (λ w. here i (omega arith)) (lt_or_le i k);
            below = past;
          }

-- fewer runs are left, or the height rises
pub falls : (top y z p left n : ℕ) → y ≤ z → z ≤ top → 0 < left → left ≤ p → RunsLeft y z p left n →
    (top - z) * p + n < (top - y) * p + left
falls top y z p left n up low some few e = go (dec_lt y z)
  where
    go : Dec (y < z) → (top - z) * p + n < (top - y) * p + left
    go (no u) = let s : z ≡ y = omega arith in rw s (omega (arith, e.stayed (omega arith)))
    go (yes u) = over (top - z) (top - y) (omega arith)
      where
        over : (a b : ℕ) → a + 1 ≤ b → a * p + n < b * p + left
        over a b v = omega (arith, mul-le-mul_right p v, e.rose u)
