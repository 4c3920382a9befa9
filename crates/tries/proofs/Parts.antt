-- A table handed over from column c on: what is said of its column x is said of column c + x of the whole. Assumes nothing.
use mathlib.Core.Path.{◌≡◌, ap, ◌∙◌}
use mathlib.Core.List.{List}
use Prim.Native.Nat.{ℕ, ◌+◌, ◌-◌, ◌<◌}
use native.Mathlib.Omega.{arith}
use lib.ListN.{length, get_or, take, drop, length-drop}
use lib.Seq.{get_or-take, get_or-drop, take_all}
use Rattle.tables.specs.Flat.{Occupied}
use Rattle.tries.specs.Tries.{Column, ClearTo, Lands}

-- the part of a slice from c on
abbrev pub part_from : List ℕ → ℕ → List ℕ
part_from f c = take (length f - c) (drop c f)

module _ (f l h : List ℕ) (c x : ℕ) (within : c + x + 1 < length f) where
  at_first : get_or (part_from f c) x 0 ≡ get_or f (c + x) 0
  at_first = get_or-take (length f - c) (drop c f) x 0 (omega arith) ∙ get_or-drop c f x 0

  at_next : get_or (part_from f c) (x + 1) 0 ≡ get_or f (c + x + 1) 0
  at_next =
      let e : c + (x + 1) ≡ c + x + 1 = omega arith in
      get_or-take (length f - c) (drop c f) (x + 1) 0 (omega arith) ∙ get_or-drop c f (x + 1) 0 ∙ ap (λ (k : ℕ). get_or f k 0) e

  long : length (part_from f c) ≡ length f - c
  long = ap length (take_all (length f - c) (drop c f) (omega (arith, length-drop c f))) ∙ length-drop c f

  pub column_part : Column f l h (c + x) → Column (part_from f c) l h x
  column_part k =
      record {
        here = omega (arith, long);
        order = rw (at_first, at_next) k.order;
        lows = rw at_next k.lows;
        highs = rw at_next k.highs;
        runs = rw (at_first, at_next) k.runs;
      }

  pub occupied_whole : {y : ℕ} → Occupied (part_from f c) l h x y → Occupied f l h (c + x) y
  occupied_whole o = rw (at_first, at_next) at o

  pub clear_whole : {lo hi y most z : ℕ} → ClearTo (part_from f c) l h x lo hi y most z → ClearTo f l h (c + x) lo hi y most z
  clear_whole r =
      record { low = r.low; high = r.high; clear = λ u a b v p q o. r.clear u a b v p q (rw (at_first, at_next) o) }

  pub lands_whole : {lo hi y z : ℕ} → Lands (part_from f c) l h x lo hi y z → Lands f l h (c + x) lo hi y z
  lands_whole r =
      record {
        which = r.which;
        lowest =
            record {
              from = omega (arith, at_first, r.lowest.from);
              to = omega (arith, at_next, r.lowest.to);
              over = r.lowest.over;
              under = r.lowest.under;
              below = λ m a b. r.lowest.below m a (omega (arith, at_first, b));
            };
        on = r.on;
      }
