-- Run by run: the runs before k are free, and one that meets an occupied run is not. Runs past the last column count for nothing.
-- Assumes nothing.
use mathlib.Core.Path.{◌≡◌, refl, subst}
use mathlib.Core.Bool.{Bool, true, false, false≢true}
use mathlib.Core.List.{List}
use Prim.Native.Nat.{ℕ, ◌+◌, ◌-◌, ◌≤◌, ◌<◌}
use native.Mathlib.Omega.{arith}
use borrow.Author.Count.{below_more}
use Rattle.laws.proofs.Tests.{decides_by}
use Rattle.tables.specs.Piece.{run_column, run_low, run_high}
use Rattle.tries.specs.Tries.{ClearTo, Lands}
use Rattle.walk.specs.Free.{Frame, Before, FreeTo}
use Rattle.walk.proofs.Jumps.{taken, run_column_lem, free_all}
use Rattle.spot.specs.Spot.{FreeThere, FitsThere}

-- the first k of q runs are free
pub record Clear (f l h r : List ℕ) (N q c y k : ℕ) : Type 0 where
  pub among : k ≤ q
  pub free : FreeTo f l h r N c y k

pub clear_none : (f l h r : List ℕ) (N q c y : ℕ) → Clear f l h r N q c y 0
clear_none f l h r N q c y = record { among = omega arith; free = record { clear = λ m a. absurd (omega arith) } }

module _ {f l h r : List ℕ} {N q c y k : ℕ} (so_far : Clear f l h r N q c y k) where
  pub clear_more : {z : ℕ} → k < q → ClearTo f l h (c + run_column r k) (run_low r k) (run_high r k) y y z → Clear f l h r N q c y (k + 1)
  clear_more a t =
      record {
        among = omega arith;
        free =
            record {
              clear =
                  below_more _ _ so_far.free.clear
                  (λ here j u v o. t.clear y (omega arith) t.low (y + j) (omega arith) (omega arith) o);
            };
      }

  pub all_clear : {p : ℕ} → c ≤ N → Before r p (N - c) q → ¬ (k < q) → FreeThere f l h r N p c y true
  all_clear fits b a =
      let e : k ≡ q = omega (arith, so_far.among) in
      record { is = (λ _. free_all fits b (subst (FreeTo f l h r N c y) e so_far.free), λ _. refl) }

pub met : {f l h r : List ℕ} {N W p w t q c y k z : ℕ} → Frame f l h r N W p w t → c ≤ N → Before r p (N - c) q → k < q →
    Lands f l h (c + run_column r k) (run_low r k) (run_high r k) y z → FreeThere f l h r N p c y false
met {p = p} {y = y} {k = k} fr fits b among m =
    let one : k < p = omega (arith, b.few) in
    record {
      is = (
        λ e. absurd (false≢true e),
        λ free.
            absurd
            (taken y one (omega (arith, b.inside k among)) (fr.some k one)
            ((run_column_lem fr _ fits b among).runs.full m.which m.lowest.from m.lowest.to) m.lowest (omega arith)
            m.lowest.over free),
      );
    }

pub off : {f l h r : List ℕ} {N W p w t c y : ℕ} → ((c + w ≤ N) × (y + t ≤ W) → ⊥) → FitsThere f l h r N W p w t c y false
off n = record { is = (λ e. absurd (false≢true e), λ q. absurd (n (q.0, q.1))) }

pub on : {f l h r : List ℕ} {N W p w t c y : ℕ} {a : Bool} → c + w ≤ N → y + t ≤ W → FreeThere f l h r N p c y a →
    FitsThere f l h r N W p w t c y a
on u v free = record { is = decides_by (λ q. (u, v, q)) (λ q. q.2) free.is }
