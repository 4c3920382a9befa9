-- The words of a column's runs, stored run by run: what is left to store gives the whole.
-- Assumes nothing.
use mathlib.Core.Path.{◌≡◌, refl, ap, sym, ◌∙◌}
use mathlib.Core.List.{List}
use Prim.Native.Nat.{ℕ, suc, ◌+◌, ◌-◌, ◌*◌, ◌≤◌, ◌<◌}
use native.Mathlib.Omega.{arith}
use native.Mathlib.Numerals.{add-one}
use lib.ListN.{length, get_or, set, length-set}
use lib.Seq.{sets, length-sets}
use Rattle.laws.proofs.Lists.{length-list_from}
use Rattle.defs.specs.Computing.Test.{list_from}
use Rattle.defs.specs.Computing.Calls.{rows_words}
use Rattle.cells.specs.Columns.{pair_at, pairs, PutColumn}

-- j of the n runs of column i are stored, and the next one goes to word p
pub record Storing (l h : List ℕ) (n i : ℕ) (out₀ out : List ℕ) (at j p : ℕ) : Type 0 where
  pub within : j ≤ n
  pub place : p ≡ at + 3 * j
  pub long : length out ≡ length out₀
  pub rest : sets out p (rows_words i (list_from (pair_at l h) j (n - j))) ≡ sets out₀ at (rows_words i (pairs l h n))

pub storing_start : (l h : List ℕ) (n i : ℕ) (out : List ℕ) (at : ℕ) → Storing l h n i out out at 0 at
storing_start l h n i out at =
    let e : n - 0 ≡ n = omega arith in
    record { within = omega arith; place = omega arith; long = refl; rest = rw e }

module _ {l h : List ℕ} {n i : ℕ} {out₀ out : List ℕ} {at j p : ℕ} (s : Storing l h n i out₀ out at j p) where
  pub storing_next : j < n →
      Storing l h n i out₀ (set (set (set out p i) (p + 1) (get_or l j 0)) (p + 2) (get_or h j 0)) at (j + 1) (p + 3)
  unfolding rows_words list_from
  storing_next b =
      record {
        within = omega arith;
        place = omega (arith, s.place);
        long = simp length-set s.long;
        rest = go (n - (j + 1)) (omega arith);
      }
    where
      go : (m : ℕ) → n - j ≡ suc m →
          sets (set (set (set out p i) (p + 1) (get_or l j 0)) (p + 2) (get_or h j 0)) (p + 3) (rows_words i (list_from (pair_at l h) (j + 1) m)) ≡
          sets out₀ at (rows_words i (pairs l h n))
      go m e =
          let f : p + 2 ≡ suc (suc p) = omega arith in
          let g : p + 3 ≡ suc (suc (suc p)) = omega arith in
          rw (f, g, add-one p, add-one j)
          (ap (λ (m : ℕ). sets out p (rows_words i (list_from (pair_at l h) j m))) (sym e) ∙ s.rest)

  pub storing_end : n ≤ j → out ≡ sets out₀ at (rows_words i (pairs l h n))
  unfolding rows_words list_from
  storing_end b =
      let e : n - j ≡ 0 = omega arith in
      ap (λ (m : ℕ). sets out p (rows_words i (list_from (pair_at l h) j m))) (sym e) ∙ s.rest

-- a column's runs, left out or stored
module _ (l h : List ℕ) (n i : ℕ) (out : List ℕ) (k : ℕ) where
  pub put_none : length out < 3 * (k + n) → PutColumn i (pairs l h n) out out k (k + n)
  put_none short =
      record {
        count = ap (λ (m : ℕ). k + m) (sym (length-list_from (pair_at l h) 0 n));
        written = λ fits. absurd (omega arith);
        long = refl;
      }

  pub put_all : {out' : List ℕ} → out' ≡ sets out (3 * k) (rows_words i (pairs l h n)) →
      PutColumn i (pairs l h n) out out' k (k + n)
  put_all e =
      record {
        count = ap (λ (m : ℕ). k + m) (sym (length-list_from (pair_at l h) 0 n));
        written = λ fits. e;
        long = ap length e ∙ length-sets out (3 * k) (rows_words i (pairs l h n));
      }
