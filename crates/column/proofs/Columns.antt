-- The runs of a column, begun with none, and the slab that is kept over columns.
-- Assumes nothing.
use mathlib.Core.Path.{◌≡◌, ◌∙◌}
use mathlib.Core.Logic.{⊎_elim}
use mathlib.Core.List.{List}
use Prim.Native.Nat.{ℕ, ◌<◌}
use native.Mathlib.Omega.{arith}
use lib.ListN.{length}
use Rattle.defs.specs.Meaning.Outline.{sides}
use Rattle.defs.specs.Meaning.Turn.{turned}
use Rattle.geom.proofs.Extent.{sides_turned}
use Rattle.outline.specs.Vertex.{Lent}
use Rattle.geom.specs.Units.{InUnits}
use Rattle.entries.specs.Edges.{AllFit, NextAt}
use Rattle.entries.proofs.Entries.{all_fit}
use Rattle.join.specs.Runs.{Apart}
use Rattle.section.specs.Slabs.{Kept, Stock, HeldAt}
use Rattle.gaps.specs.Gaps.{Adds, Room}
use Rattle.column.specs.Rows.{Buffers, Working, ColumnOf}
use Rattle.gaps.proofs.Adding.{room_adds, room_more}

no_runs : (l h : List ℕ) → Apart l h 0
no_runs l h = record { full = λ i s. absurd (omega arith); apart = λ i j s t. absurd (omega arith) }

pub no_room : {h0 h1 w l h : List ℕ} → Buffers h0 h1 w l h → Room l h 0
no_room {l = l} {h = h} b =
    record { runs = no_runs l h; rows = λ y z. absurd (omega (arith, z.among)); long = b.lows; high_long = b.highs }

pub column_of_lem : {v : List ℕ} {from to : ℕ} {h0 h1 w l h k0 k1 x l' h' : List ℕ} {r a b m c : ℕ} → Buffers h0 h1 w l h →
    Adds (InUnits v from to) l h l' h' 0 r → ((y : ℕ) → InUnits v from to y → y < 16000) → length l' ≡ length l →
    length h' ≡ length h → (a < b → Kept v a b m k0 k1 x) → NextAt v b (sides v) c → ColumnOf v from to k0 k1 x l' h' r a b m c
column_of_lem b a f el eh k n =
    record {
      runs = a.runs;
      rows = λ y. (λ z. ⊎_elim (λ n. absurd (omega (arith, n.among))) (λ u. u) (a.only y z), a.added y);
      few = room_more (room_adds (no_room b) a f el eh);
      kept = k;
      next = n;
    }

pub stock_of : {v : List ℕ} {a b m c : ℕ} {h0 h1 w g0 g1 l h : List ℕ} → Working v a b m c h0 h1 w g0 g1 l h → Stock v a b m c h0 h1 w
stock_of u = record { left = u.buffers.left; right = u.buffers.right; wide = u.buffers.wide; kept = u.kept; next = u.next }

-- the slab that is looked at now takes the place of the one before
pub working_on : {v : List ℕ} {a b m c x a' b' m' c' : ℕ} {h0 h1 w g0 g1 l h k0 k1 u f0 f1 l' h' : List ℕ} → Working v a b m c h0 h1 w g0 g1 l h → HeldAt v x a' b' m' c' k0 k1 u →
    length k0 ≡ length h0 → length k1 ≡ length h1 → length u ≡ length w → length f0 ≡ length g0 → length f1 ≡ length g1 → length l' ≡ length l →
    length h' ≡ length h → Working v a' b' m' c' k0 k1 u f0 f1 l' h'
working_on s k e0 e1 ew f0 f1 el eh =
    record {
      buffers =
          record {
            left = e0 ∙ s.buffers.left;
            right = e1 ∙ s.buffers.right;
            wide = ew ∙ s.buffers.wide;
            lows = omega (arith, s.buffers.lows);
            highs = omega (arith, s.buffers.highs);
          };
      part_left = f0 ∙ s.part_left;
      part_right = f1 ∙ s.part_right;
      kept = λ l. k.kept;
      next = k.next;
    }

pub held_fit : (o : List ℕ) (t : ℕ) {x a b m c : ℕ} {h0 h1 w : List ℕ} → Lent o → HeldAt (turned o t) x a b m c h0 h1 w → length h0 ≡ 64 → length h1 ≡ 64 → length w ≡ 64 →
    AllFit h0 h1 w m
held_fit o t k h e f g = all_fit h.kept.loaded (omega (arith, sides_turned o t, k.few)) e f g
