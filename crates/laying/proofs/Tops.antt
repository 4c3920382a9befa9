-- From the answers to the questions of lay to its step. Assumes nothing.
use mathlib.Core.Path.{◌≡◌, refl, sym, ap, ◌∙◌}
use mathlib.Core.List.{List, [], ◌++◌, map}
use Prim.Native.Nat.{ℕ, ◌*◌, ◌≤◌, ◌<◌}
use native.Mathlib.Omega.{arith}
use native.Mathlib.Nat.{zero-add}
use lib.Dec.{leb}
use lib.ListN.{length, drop, replicate, length-map}
use lib.Seq.{sets-eq}
use borrow.Author.Tests.{lt-leb, le-leb}
use Rattle.std.specs.Prelude.{Option, Some, None, Result, Ok, Err}
use Rattle.defs.specs.declared.Refusal.{Refusal}
use Rattle.defs.specs.declared.Totals.{Totals}
use Rattle.defs.specs.Meaning.Sheet.{sheet_w, sheet_r, sheet_n}
use Rattle.defs.specs.Computing.Test.{ask}
use Rattle.defs.specs.Computing.Words.{gapb, lengthb, records_of}
use Rattle.defs.specs.Computing.Calls.{refusal, cleared}
use Rattle.defs.specs.Computing.Sheets.{piece_of, piece_records, sheet_pieces, sheet_no}
use Rattle.defs.specs.Computing.Lay.{placed_in, used_in, entries_words, lay_entries, lay_answer, lay_output, LayLeaves, LayStep}
use Rattle.reads.specs.Steps.{JobPasses, JobRefused}
use Rattle.reads.proofs.Outputs.{no_none}
use Rattle.job.specs.Jobs.{JobPassed, JobDone}
use Rattle.laying.specs.Jobs.{LayAnswered}
use Rattle.sequence.proofs.Going.{words_long}

-- the step

totals_by : {t : Totals} {p u : ℕ} → t.placed ≡ p → t.used ≡ u → t ≡ record { placed = p; used = u }
totals_by e f = λ i. record { placed = e i; used = f i }

words_fit : (b : List ℕ) (g n words : ℕ) → length (entries_words (lay_entries b g n words)) ≡ 4 * length (piece_records b)
unfolding lay_entries sheet_pieces
words_fit b g n words =
    let ps = map (piece_of b) (piece_records b) in
    let long = words_long (sheet_w b) (sheet_r b) (sheet_n b) g (records_of (sheet_n b) n) words 1 (replicate (sheet_n b) []) ps in
    omega (arith, long, length-map (piece_records b) (piece_of b))

-- the first "no" decides the answer
abbrev answered : List ℕ → ℕ → ℕ → ℕ → ℕ → Option Refusal → Result Totals Refusal
answered b g strip out work refused =
    elim refused [
      | Some r ↦ Err r
      | None ↦
          ask (leb (4 * length (piece_records b)) out) (Err (refusal 15 0)) λ _.
          let es = lay_entries b g strip work in
          Ok (record { placed = placed_in es; used = used_in (sheet_r b) (sheet_pieces b) es })
    ]

pub lay_refused : {b s out : List ℕ} {g words : ℕ} {a : Result Totals Refusal} {r : Refusal} → a ≡ Err r →
    JobRefused b (gapb g) (lengthb (sheet_n b) (length s)) r → LayAnswered b g s out words a s out
unfolding lay_answer lay_output LayLeaves
lay_refused {b} {s} {out} {g} {words} e f =
    rw e (record { answer = sym (ap (answered b g (length s) (length out) words) f.is); output = refl; strip = refl })

module _ {b : List ℕ} {count : ℕ} (g : ℕ) (s : List ℕ) (j : JobPasses b (gapb g) (lengthb (sheet_n b) (length s)) count) where
  none_no : sheet_no b (gapb g) (lengthb (sheet_n b) (length s)) ≡ None
  none_no = rw (j.gap_fits, j.four) (no_none j.passed)

  count_is_length : length (piece_records b) ≡ count
  count_is_length = j.passed.counted.long

  pub lay_15 : {out : List ℕ} {words : ℕ} {a : Result Totals Refusal} → length out < 4 * count → a ≡ Err (refusal 15 0) →
      LayAnswered b g s out words a s out
  unfolding lay_answer lay_output LayLeaves
  lay_15 {out} {words} h e =
      let z = lt-leb (4 * length (piece_records b)) (length out) (omega (arith, count_is_length)) in
      rw e (record { answer = sym (ap (answered b g (length s) (length out) words) none_no ∙ rw z); output = refl; strip = refl })

  pub job_passed : {n : ℕ} → 4 * count ≤ n → JobPassed b g (length s) n
  job_passed h = record { count = count; passed = j.passed; gap = j.gap_fits; four = j.four; room = omega (arith, count_is_length) }

  pub lay_laid : {out : List ℕ} {words : ℕ} {t : Totals} {s' out' : List ℕ} → 4 * count ≤ length out →
      JobDone b g s out words t s' out' → LayAnswered b g s out words (Ok t) s' out'
  unfolding lay_answer lay_output
  lay_laid {out} {words} h d =
      let z = le-leb (4 * length (piece_records b)) (length out) (omega (arith, count_is_length)) in
      let ws = entries_words (lay_entries b g (length s) words) in
      record {
        answer =
            ap Ok (totals_by d.placed d.used) ∙ sym (ap (answered b g (length s) (length out) words) none_no ∙ rw z);
        output =
            d.output ∙ sets-eq ws out 0 (omega (arith, words_fit b g (length s) words, count_is_length)) ∙
            ap (λ (n : ℕ). ws ++ drop n out) (zero-add (length ws));
        strip = d.strip;
      }

-- with the work buffer cleared, which kept its length
pub lay_step : {b s out work work' s' out' : List ℕ} {g : ℕ} {a : Result Totals Refusal} (used : List ℕ) → LayAnswered b g s out (length work) a s' out' →
    length used ≡ length work → work' ≡ cleared used → LayStep b g s out work a s' out' work'
lay_step used x e z =
    record { answer = x.answer; output = x.output; strip = x.strip; zeros = z ∙ ap (λ (n : ℕ). replicate n 0) e }
