-- The runs of a column as the definitions list them, and as they stand in the table.
-- Assumes nothing.
use mathlib.Core.Path.{◌≡◌, ap, sym, ◌∙◌}
use mathlib.Core.List.{List, ◌∷◌}
use Prim.Native.Nat.{ℕ, zero, suc, ◌+◌, ◌≤◌, ◌<◌}
use native.Mathlib.Omega.{arith}
use lib.ListN.{length}
use lib.Seq.{ext_get_or}
use Rattle.defs.specs.Meaning.Strip.{columns_of, next_of}
use Rattle.defs.specs.Computing.Test.{list_from, chain_by}
use Rattle.defs.specs.Computing.Cells.{Rows}
use Rattle.defs.specs.Computing.Words.{records_of, rows_of, runs_of}
use Rattle.laws.proofs.Lists.{list_from_at, length-list_from}
use Rattle.laws.proofs.Walks.{chain_zero, chain_step}
use Rattle.tables.specs.Flat.{row_at, rows_from}
use Rattle.chains.specs.Form.{rec_at, ChainOf}
use Rattle.chains.proofs.Steps.{start, step, chain_most}
use Rattle.decode.specs.Takes.{run_at}

pub list_from_same : {A : Type 0} (d : A) (f g : ℕ → A) (n : ℕ) → ((i : ℕ) → i < n → f i ≡ g i) →
    list_from f 0 n ≡ list_from g 0 n
list_from_same d f g n same =
    ext_get_or d _ _ (length-list_from f 0 n ∙ sym (length-list_from g 0 n))
    (λ i l.
    let h : i < n = rw (length-list_from f 0 n) at l in
    let e : 0 + i ≡ i = omega arith in
    list_from_at f 0 n i d h ∙ ap f e ∙ same i h ∙ sym (list_from_at g 0 n i d h ∙ ap g e))

module _ (l h : List ℕ) {s : List ℕ} {Q c k : ℕ} (d : ChainOf s Q c k) where
  -- from record i on m are left, and they stand from place a on
  rows_left : (m i n a : ℕ) → i + m ≡ k → m ≤ n →
      ((j : ℕ) → j < m → row_at l h (a + j) ≡ run_at s (rec_at s c (i + j))) →
      list_from (row_at l h) a m ≡ rows_of s (chain_by (next_of s) n (rec_at s c i))
  unfolding list_from rows_of
  rows_left zero i n a e f same =
      let z : rec_at s c i ≡ 0 = ap (rec_at s c) (omega arith) ∙ d.ends in
      rw (z, chain_zero (next_of s) n)
  rows_left (suc m) i zero a e f same = absurd (omega arith)
  rows_left (suc m) i (suc n) a e f same =
      rw (chain_step (next_of s) n (rec_at s c i) (d.within.first i (omega arith)))
      (both (moved a i 0 (omega arith) (omega arith) (same 0 (omega arith)))
      (rw (step s c i) at
      (rows_left m (i + 1) n (suc a) (omega arith) (omega arith)
      (λ j b. moved (suc a + j) (i + 1 + j) (suc j) (omega arith) (omega arith) (same (suc j) (omega arith))))))
    where
      both : {x y : Rows} {xs ys : List Rows} → x ≡ y → xs ≡ ys → x ∷ xs ≡ y ∷ ys
      both p q = rw (p, q)

      moved : (x y j : ℕ) → a + j ≡ x → i + j ≡ y → row_at l h (a + j) ≡ run_at s (rec_at s c (i + j)) →
          row_at l h x ≡ run_at s (rec_at s c y)
      moved x y j u v t = rw (u, v) at t

  -- the whole chain
  pub rows_are : (a : ℕ) → ((j : ℕ) → j < k → row_at l h (a + j) ≡ run_at s (rec_at s c j)) →
      Q ≡ records_of (columns_of s) (length s) → rows_from l h a k ≡ runs_of s c
  unfolding rows_from runs_of
  rows_are a same e =
      rows_left k 0 Q a (omega arith) (chain_most d) (λ j b. let z : 0 + j ≡ j = omega arith in rw z (same j b)) ∙
      rw (start s c, e)
