-- The empty table can be written.
-- Assumes nothing.
use mathlib.Core.Path.{◌≡◌, refl, sym, subst}
use mathlib.Core.List.{List, []}
use Prim.Native.Nat.{ℕ, zero, suc, ◌<◌}
use native.Mathlib.Omega.{arith}
use lib.ListN.{get_or, replicate, length-replicate, get_or-replicate}
use Rattle.defs.specs.Computing.Cells.{Rows, count_runs}
use Rattle.geom.proofs.Stretches.{no_rows}
use Rattle.geom.proofs.RunLists.{ApartFrom, Apart}
use Rattle.tables.proofs.Written.{Writable}

no_runs : (n : ℕ) → count_runs (replicate n []) ≡ 0
unfolding count_runs
no_runs zero = refl
no_runs (suc n) = omega (arith, no_runs n)

pub column_none : (N k : ℕ) → k < N → ◌≡◌ {A = List Rows} (get_or (replicate N []) k []) []
column_none N k b = get_or-replicate N k [] [] b

pub empty_writable : (W N Q : ℕ) → Writable W N Q (replicate N [])
unfolding ApartFrom
empty_writable W N Q =
    record {
      long = length-replicate N [];
      apart = λ k b. subst Apart (sym (column_none N k b)) tt;
      below = λ k j b e. absurd (no_rows j (rw (column_none N k b) at e));
      fits = omega (arith, no_runs N);
    }
