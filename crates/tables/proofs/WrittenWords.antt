-- The words that `written` gives: the records of a table follow each other column by column, and the free records come after them, as if
-- they were the runs of one more column, without rows.
-- Assumes nothing.
use mathlib.Core.Path.{◌≡◌, refl, sym, ap, ◌∙◌}
use mathlib.Core.Bool.{cond}
use mathlib.Core.List.{List, [], ◌∷◌, ◌++◌, append_assoc, append-nil}
use Prim.Native.Nat.{ℕ, zero, suc, ◌+◌, ◌*◌, ◌-◌, ◌≤◌}
use native.Mathlib.Omega.{arith}
use native.Mathlib.Nat.{add-zero}
use native.Mathlib.Numerals.{add-one}
use lib.Dec.{eqb, eqb-suc-zero, ltb}
use lib.ListN.{length, get_or, drop, replicate, length-append, length-replicate}
use lib.Seq.{get_or-drop, drop-drop, drop-append_seam}
use borrow.Author.Tests.{lt-ltb, le-ltb}
use Rattle.defs.specs.Meaning.Limits.{leading_words, record_words}
use Rattle.defs.specs.Meaning.Strip.{columns_of}
use Rattle.defs.specs.Computing.Cells.{Rows, count_runs}
use Rattle.defs.specs.Computing.Words.{heads, column_words, run_words, free_words, written}
use Rattle.geom.proofs.Counting.{none}
use Rattle.tables.proofs.Laid.{head, Laid, LaidFrom, with_free}

length_heads : (r : ℕ) (cs : List (List Rows)) → length (heads r cs) ≡ length cs
unfolding heads
length_heads r [] = refl
length_heads r (c ∷ cs) = ap suc (length_heads (r + length c) cs)

pub length_column : (k r : ℕ) (c : List Rows) → length (column_words k r c) ≡ record_words * length c
unfolding column_words
length_column k r [] = refl
length_column k r (x ∷ xs) = omega (arith, length_column k (r + 1) xs)

pub length_runs : (k r : ℕ) (cs : List (List Rows)) → length (run_words k r cs) ≡ record_words * count_runs cs
unfolding run_words count_runs
length_runs k r [] = refl
length_runs k r (c ∷ cs) =
    omega (
      arith,
      length-append (column_words k r c) (run_words (k + 1) (r + length c) cs),
      length_column k r c,
      length_runs (k + 1) (r + length c) cs,
    )

-- the free records are the runs of a column without rows
free_column : (N r n : ℕ) → free_words N r n ≡ column_words N r (replicate n none)
unfolding free_words column_words
free_column N r zero = refl
free_column N r (suc n) =
    rw (length-replicate n none)
    (ap (λ (l : List ℕ). N ∷ (0 ∷ (0 ∷ (cond (eqb n 0) 0 (r + 1) ∷ l)))) (free_column N (r + 1) n))

pub length_written : (W R N g Q : ℕ) (held : List (List Rows)) → length held ≡ N → count_runs held ≤ Q →
    length (written W R N g Q held) ≡ leading_words + N + record_words * Q
unfolding written
length_written W R N g Q held e h =
    let n = count_runs held in
    omega (
      arith,
      length-append (heads 1 held) (run_words 0 1 held ++ free_words N (n + 1) (Q - n)),
      length-append (run_words 0 1 held) (free_words N (n + 1) (Q - n)),
      length_heads 1 held,
      length_runs 0 1 held,
      ap length (free_column N (n + 1) (Q - n)),
      length_column N (n + 1) (replicate (Q - n) none),
      length-replicate (Q - n) none,
    )

-- the chain's first record, as the words have it and as `head` has it
head_is : (r : ℕ) (c : List Rows) → cond (eqb (length c) 0) 0 r ≡ head r c
head_is r [] = refl
head_is r (x ∷ xs) = rw (eqb-suc-zero (length xs))

-- Where a strip's words from word a on are ws, word a + i is word i of ws; where they are p and then q, those after p are q.
word_at : (s ws : List ℕ) (a i : ℕ) → drop a s ≡ ws → get_or s (a + i) 0 ≡ get_or ws i 0
word_at s ws a i e = sym (get_or-drop a s i 0) ∙ ap (λ (l : List ℕ). get_or l i 0) e

words_after : (s p q : List ℕ) (a b : ℕ) → drop a s ≡ p ++ q → a + length p ≡ b → drop b s ≡ q
words_after s p q a b e h = rw (← h) (sym (drop-drop (length p) a s) ∙ ap (drop (length p)) e ∙ drop-append_seam p q)

module _ (s : List ℕ) where
  -- the first word of record r
  abbrev start_of : ℕ → ℕ
  start_of r = record_words * r + columns_of s + 1

  column_words_lem : (rest : List ℕ) (k r : ℕ) (c : List Rows) → drop (start_of r) s ≡ column_words k r c ++ rest → Laid s k r c
  unfolding column_words Laid
  column_words_lem rest k r [] e = tt
  column_words_lem rest k r (x ∷ xs) e = (
    record {
      column = word_at s _ (start_of r) 0 e;
      low = word_at s _ (start_of r) 1 e;
      high = word_at s _ (start_of r) 2 e;
      goes_to = word_at s _ (start_of r) 3 e ∙ rw (add-one r) (head_is (suc r) xs);
    },
    column_words_lem rest k (suc r) xs
        (rw (add-one r) at (words_after s (k ∷ x.low ∷ x.high ∷ _ ∷ []) _ (start_of r) (start_of (suc r)) e (omega arith))),
  )

  -- There are m free records, from record f on, and `others` are the words after the columns' first records.
  module _ (others : List ℕ) (f m : ℕ) (first_free_lem : get_or s 3 0 ≡ head f (replicate m none)) where
    table_words : (k r : ℕ) (cs : List (List Rows)) → k + length cs ≡ columns_of s → r + count_runs cs ≡ f →
        drop (leading_words + k) s ≡ heads r cs ++ others →
        drop (start_of r) s ≡ run_words k r cs ++ free_words (columns_of s) f m →
        LaidFrom s k r (with_free cs m)
    unfolding count_runs heads run_words LaidFrom
    table_words k r [] e q h w =
        let a : k ≡ columns_of s = omega arith in
        let b : r ≡ f = omega arith in
        rw (a, b) (
          rw (le-ltb (columns_of s) (columns_of s) (omega arith)) first_free_lem,
          column_words_lem [] (columns_of s) f (replicate m none) (rw b at w ∙ free_column (columns_of s) f m ∙ sym (append-nil _)),
          tt,
        )
    table_words k r (c ∷ cs) e q h w =
        let rest = run_words (k + 1) (r + length c) cs ++ free_words (columns_of s) f m in
        let v : drop (start_of r) s ≡ column_words k r c ++ rest = rw append_assoc at w in (
          rw (lt-ltb k (columns_of s) (omega arith))
              (rw (add-zero (leading_words + k)) at (word_at s _ (leading_words + k) 0 h) ∙ head_is r c),
          column_words_lem rest k r c v,
          table_words (suc k) (r + length c) cs (omega arith) (omega arith)
              (words_after s (_ ∷ []) _ (leading_words + k) (leading_words + suc k) h (omega arith))
              (rw (add-one k) at
              (words_after s (column_words k r c) rest (start_of r) (start_of (r + length c)) v (omega (arith, length_column k r c)))),
        )

first_free_lem : (n Q m : ℕ) → m ≡ Q - n → cond (ltb n Q) (n + 1) 0 ≡ head (n + 1) (replicate m none)
first_free_lem n Q zero e = rw (le-ltb n Q (omega arith))
first_free_lem n Q (suc m) e = rw (lt-ltb n Q (omega arith))

-- the records that the table leaves of Q are free
pub written_laid : (W R N g Q : ℕ) (held : List (List Rows)) → length held ≡ N →
    LaidFrom (written W R N g Q held) 0 1 (with_free held (Q - count_runs held))
unfolding written
written_laid W R N g Q held e =
    let n = count_runs held in
    let s = written W R N g Q held in
    let rest = run_words 0 1 held ++ free_words N (n + 1) (Q - n) in
    table_words s rest (n + 1) (Q - n) (first_free_lem n Q (Q - n) refl) 0 1 held (omega arith) (omega arith) refl
    (words_after s (heads 1 held) rest leading_words (start_of s 1) refl (omega (arith, length_heads 1 held)))
