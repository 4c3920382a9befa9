-- One column entered: the old column's runs are few, the copied runs have room for the piece's runs, and what is added to them makes the
-- column.
-- Assumes nothing.
use mathlib.Core.List.{List}
use mathlib.Core.Logic.{⊎_elim, ⊎_map}
use Prim.Native.Nat.{ℕ, ◌+◌, ◌-◌, ◌≤◌, ◌<◌}
use native.Mathlib.Omega.{arith}
use lib.ListN.{length, get_or}
use Rattle.geom.proofs.Strip.{lt_or_le}
use Rattle.runs.specs.Runs.{Holds}
use Rattle.runs.proofs.Few.{few_runs}
use Rattle.tables.specs.Flat.{Occupied, Laid}
use Rattle.tables.proofs.Flats.{firsts_most}
use Rattle.columnentry.specs.declared.Entry.{Entry}
use Rattle.columnentry.specs.declared.Built.{Built}
use Rattle.columnentry.specs.Columns.{Copied, Split, Room, Added, Next, EntersColumn}
use Rattle.columnentry.proofs.Copying.{kept_more, copied_holds, holds_copied, copied_apart}

-- the runs of a column begin no later than they end
pub split_rise : {r : List ℕ} {g : Entry} {k a e : ℕ} → Split r g k a → Split r g (k + 1) e → a ≤ e
split_rise {a = a} {e = e} s t =
    ⊎_elim (λ l. absurd (omega (arith, s.before e l, t.others e (omega arith) (omega (arith, s.among))))) (λ l. l) (lt_or_le e a)

module _ {f l h r : List ℕ} {g : Entry} {k : ℕ} {b : Built} (n : Next f l h r g k b) where
  abbrev laid : Laid f l h g.width g.columns n.old.count
  laid = n.old.laid

  abbrev from : ℕ
  from = get_or f k 0

  abbrev to : ℕ
  to = get_or f (k + 1) 0

  -- column k lies in the arrays, and has at most 8000 runs
  pub old_column : (k + 1 < length f) × (from ≤ to) × (to ≤ length l) × (to ≤ length h) × (to ≤ from + 8000)
  old_column =
      let flat = laid.flat in
      let here = n.here in
      omega (
        arith,
        flat.firsts,
        flat.rise k here,
        flat.lows,
        flat.highs,
        firsts_most flat (k + 1) (omega arith),
        n.fits.width,
        few_runs (laid.runs k here) (λ y. laid.within k y here),
      )

  module _ {l₀ h₀ l₁ h₁ : List ℕ} (lows : Copied l l₀ l₁ from to b.runs) (highs : Copied h h₀ h₁ from to b.runs) where
    back : (x : ℕ) → Holds l₁ h₁ b.runs (b.runs + (to - from)) x → Occupied f l h k x
    back = holds_copied lows highs old_column.1

    pub room_copied : 24001 ≤ length l₀ → 24001 ≤ length h₀ → Room l₁ h₁ b.runs (b.runs + (to - from))
    room_copied u v =
        record {
          runs = copied_apart lows highs old_column.1 (laid.runs k n.here);
          start = omega arith;
          rows = λ x p. omega (arith, n.fits.width, laid.within k x n.here (back x p));
          base = n.base;
          lows = omega (arith, lows.kept.long);
          highs = omega (arith, highs.kept.long);
        }

    pub column_done : {l₂ h₂ : List ℕ} {e u : ℕ} → Split r g (k + 1) e →
        Added l₁ h₁ l₂ h₂ r b.runs (b.runs + (to - from)) u g.width g.height b.used e →
        EntersColumn f l h r l₀ h₀ l₂ h₂ g k b (record { runs = u; used = e })
    column_done s d =
        record {
          room = d.room;
          column =
              record {
                a = _;
                e = _;
                from = n.split;
                to = s;
                runs = d.room.runs;
                held = λ x p. d.held x (copied_holds lows highs old_column.1 x p);
                added = d.added;
                only = λ x p. ⊎_map (back x) (λ q. q) (d.only x p);
              };
          split = s;
          lows = kept_more lows.kept d.lows (omega arith);
          highs = kept_more highs.kept d.highs (omega arith);
        }
