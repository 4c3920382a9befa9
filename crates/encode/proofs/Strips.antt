-- The parts of a strip, stored one after another, are the strip that the table is written as: they have as many words as the strip, so
-- no old word is left.
-- Assumes nothing.
use mathlib.Core.Path.{◌≡◌, refl, ap, ◌∙◌}
use mathlib.Core.List.{List, [], ◌∷◌, ◌++◌}
use Prim.Native.Nat.{ℕ, ◌+◌, ◌-◌, ◌*◌, ◌≤◌}
use native.Mathlib.Omega.{arith}
use lib.ListN.{length, get_or}
use lib.Seq.{sets}
use Rattle.defs.specs.Meaning.Limits.{leading_words, record_words}
use Rattle.defs.specs.Computing.Words.{records_of, run_words, free_words, written}
use Rattle.laws.proofs.Questions.{length_decides}
use Rattle.tables.specs.Flat.{table_of, Flat}
use Rattle.tables.proofs.WrittenWords.{length_written}
use Rattle.encode.specs.Room.{Room}
use Rattle.freerecords.specs.Stored.{link, first_records}
use Rattle.words.proofs.Storing.{storing_start, storing_as, storing_many, sets_whole}
use Rattle.freerecords.proofs.Words.{firsts_length, runs_length, heads_are}
use Rattle.tables.proofs.Flats.{table_length, count_is}

-- the sizes of a strip with room: N columns, t runs, Q records
pub record Sizes (N t Q words : ℕ) : Type 0 where
  pub columns : N ≤ 4096
  pub runs : t ≤ Q
  pub records : Q ≤ 16000
  pub words_are : words ≡ leading_words + N + record_words * Q

pub sizes : {N t words : ℕ} → Room N t words → Sizes N t (records_of N words) words
sizes {N} {words = words} r =
    let l = (length_decides N words).0 r.long in
    record { columns = r.columns; runs = r.fits; records = l.records.at_most; words_are = l.words_are }

-- the number of runs, as the table has it
pub flat_last : {f l h : List ℕ} {N t : ℕ} → Flat f l h N t → Flat f l h N (get_or f N 0)
flat_last flat = rw flat.last flat

module _ {f l h : List ℕ} {N t : ℕ} (flat : Flat f l h N t) where
  -- figures and first free record, the gap, first records, the runs' records, free records
  parts : (W R g Q : ℕ) →
      written W R N g Q (table_of f l h N) ≡
      W ∷ R ∷ N ∷ link t Q ∷ g ∷ (first_records f N ++ (run_words 0 1 (table_of f l h N) ++ free_words N (t + 1) (Q - t)))
  unfolding written
  parts W R g Q = rw (count_is flat, heads_are flat)

  pub strip_written : (s : List ℕ) (W R g : ℕ) {s1 s2 s3 s4 : List ℕ} {Q d : ℕ} → Room N t (length s) → Q ≡ records_of N (length s) →
      d ≡ link t Q → s1 ≡ sets s 0 (W ∷ R ∷ N ∷ d ∷ g ∷ []) → s2 ≡ sets s1 leading_words (first_records f N) →
      s3 ≡ sets s2 (leading_words + N) (run_words 0 1 (table_of f l h N)) →
      s4 ≡ sets s3 (leading_words + N + record_words * t) (free_words N (t + 1) (Q - t)) →
      s4 ≡ written W R N g (records_of N (length s)) (table_of f l h N)
  strip_written s W R g {Q = Q} room eQ ed e1 e2 e3 e4 =
      let ws = written W R N g Q (table_of f l h N) in
      let words = length_written W R N g Q (table_of f l h N) (table_length f l h N) (omega (arith, count_is flat, room.fits)) in
      let long : length ws ≡ length s = omega (arith, words, sizes room) in
      let all = storing_as (parts W R g Q) (storing_start s 0 ws) in
      let leading = storing_many (W ∷ R ∷ N ∷ link t Q ∷ g ∷ []) (rw ed at e1) refl all in
      let firsts = storing_many (first_records f N) {q = leading_words + N} e2 (omega (arith, firsts_length f N)) leading in
      let runs = storing_many (run_words 0 1 (table_of f l h N)) {q = leading_words + N + record_words * t} e3 (omega (arith, runs_length flat)) firsts in
      e4 ∙ runs.whole ∙ sets_whole s ws long ∙ ap (λ (q : ℕ). written W R N g q (table_of f l h N)) eQ
