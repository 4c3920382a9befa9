-- The piece's runs of a column, added one by one.
-- Assumes nothing.
use mathlib.Core.Path.{◌≡◌, ap}
use mathlib.Core.List.{List}
use mathlib.Core.Logic.{inl, inr, ⊎_elim, ⊎_map}
use Prim.Native.Nat.{ℕ, ◌+◌, ◌*◌, ◌≤◌, ◌<◌, min}
use native.Mathlib.Omega.{arith}
use native.Mathlib.Decide.{dec_lt}
use lib.ListN.{length}
use Rattle.runs.specs.Runs.{Holds, Joined}
use Rattle.runs.proofs.Few.{few_runs}
use Rattle.tables.specs.Piece.{run_column, run_low, run_high}
use Rattle.columnentry.specs.declared.Entry.{Entry}
use Rattle.columnentry.specs.Columns.{Fits, Split, Room, OfRuns, Added}
use Rattle.columnentry.proofs.Copying.{kept_none, kept_more}

-- a row and a gap for each run: 8000 runs at most behind a base that is at most 16000
pub room_left : {l h : List ℕ} {b t : ℕ} → Room l h b t → t ≤ 24000
room_left r = omega (arith, few_runs r.runs r.rows, r.base)

-- run m of the piece begins on the table
pub run_fits : {r : List ℕ} {g : Entry} → Fits r g → (m : ℕ) → m < g.runs →
    (3 * m + 2 < length r) × (run_low r m < run_high r m) × (g.height + run_low r m < g.width) × (g.height + run_high r m ≤ 32400) ×
    (g.width ≤ 16000) × (g.column ≤ 4096)
run_fits f m l =
    omega (
      arith,
      f.width,
      f.columns,
      f.piece.long,
      f.piece.some m l,
      f.piece.tall m l,
      f.right,
      f.height,
      f.rows,
      f.feet m l,
    )

pub added_none : {l h : List ℕ} {b t : ℕ} (r : List ℕ) (W y a : ℕ) → Room l h b t → Added l h l h r b t t W y a a
added_none r W y a room =
    record {
      room = room;
      held = λ x p. p;
      added = λ x p. absurd (omega (arith, p.from, p.to));
      only = λ x p. inl p;
      lows = kept_none _ _;
      highs = kept_none _ _;
    }

pub added_more : {l h l₁ h₁ l₂ h₂ r : List ℕ} {b t u v W y a i hi : ℕ} → Added l h l₁ h₁ r b t u W y a i → a ≤ i →
    Joined l₁ h₁ l₂ h₂ b u v (y + run_low r i) hi → hi ≡ min (y + run_high r i) W → length l₂ ≡ length l₁ → length h₂ ≡ length h₁ →
    W ≤ 16000 → Added l h l₂ h₂ r b t v W y a (i + 1)
added_more {l} {h} {l₁} {h₁} {l₂} {h₂} {r} {b} {t} {u} {v} {W} {y} {a} {i} {hi} d ai j cut el eh top =
    record {
      room =
          record {
            runs = j.runs;
            start = omega (arith, j.some);
            rows = λ x p. ⊎_elim (λ q. d.room.rows x q) (λ q. omega (arith, q.1)) (j.only x p);
            base = d.room.base;
            lows = omega (arith, d.room.lows);
            highs = omega (arith, d.room.highs);
          };
      held = λ x p. j.kept x (d.held x p);
      added = λ x p. added x p (dec_lt p.which i);
      only = λ x p.
          ⊎_elim (λ q. ⊎_map (λ o. o) (later x) (d.only x q))
          (λ q. inr (record { which = i; from = ai; to = omega arith; low = q.0; high = omega (arith, q.1); top = omega (arith, q.1) })) (j.only x p);
      lows = kept_more d.lows (record { long = el; before = j.lows_before }) (omega arith);
      highs = kept_more d.highs (record { long = eh; before = j.highs_before }) (omega arith);
    }
  where
    later : (x : ℕ) → OfRuns r W y a i x → OfRuns r W y a (i + 1) x
    later x o = record { which = o.which; from = o.from; to = omega (arith, o.to); low = o.low; high = o.high; top = o.top }

    added : (x : ℕ) (p : OfRuns r W y a (i + 1) x) → Dec (p.which < i) → Holds l₂ h₂ b v x
    added x p (yes q) = j.kept x (d.added x (record { which = p.which; from = p.from; to = q; low = p.low; high = p.high; top = p.top }))
    added x p (no q) =
        let e : p.which ≡ i = omega (arith, p.to) in
        j.added x (omega (arith, p.low, ap (run_low r) e)) (omega (arith, p.high, p.top, ap (run_high r) e))

-- the runs of column k end where the next one is in a later column: the piece's runs stand by column
