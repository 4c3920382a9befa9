-- From a lay call on local words to one on the bytes of strip and output, and to one with a work buffer of more words.
-- Assumes nothing.
use mathlib.Core.Path.{◌≡◌, refl, sym, ap, ◌∙◌}
use mathlib.Core.List.{List, ◌++◌, append_assoc}
use Prim.Native.Nat.{ℕ, ◌*◌, ◌/◌, ◌≤◌, ◌<◌, min}
use native.Mathlib.Omega.{arith}
use lib.ListN.{length, get_or, take, drop, length-append, length-drop, take-append-drop}
use lib.Seq.{drop-append-le, length-take-le}
use Rattle.std.specs.Prelude.{Result, Ok, Err}
use Rattle.defs.specs.declared.Refusal.{Refusal}
use Rattle.defs.specs.declared.Totals.{Totals}
use Rattle.defs.specs.Computing.Calls.{cleared}
use Rattle.defs.specs.Computing.Lay.{entries_words, lay_entries, lay_answer, lay_output, LayLeaves, LayStep}
use Rattle.defs.specs.Computing.Bytes.{words_in, most_work, work_in, word_bytes, bytes_left, LayBytesStep}
use Rattle.bytewords.proofs.Laws.{words_length, put_first, put_all, bytes_back}
use Rattle.bytecalls.specs.Steps.{LaidBytes}
use Rattle.byteput.proofs.Caps.{uncapped, words_capped, work_long}
use Rattle.byteput.proofs.Strips.{left_short}
use Rattle.byteput.proofs.Halves.{half_serves, half_cleared}
use Rattle.bytecalls.proofs.Jobs.{lay_same, laid_fits}

-- entries put into the first words of an output, and the rest of it
part_of_output : (ws l : List ℕ) (m : ℕ) → m ≤ length l → length ws ≤ m →
    (ws ++ drop (length ws) (take m l)) ++ drop m l ≡ ws ++ drop (length ws) l
part_of_output ws l m h k =
    let fits : length ws ≤ length (take m l) = omega (arith, length-take-le m l h) in
    append_assoc ws (drop (length ws) (take m l)) (drop m l) ∙
    ap (λ (r : List ℕ). ws ++ r)
    (sym (drop-append-le (length ws) (take m l) (drop m l) fits) ∙ ap (drop (length ws)) (take-append-drop m l))

-- s are the words that stand for the strip's, and e the first words of the output, as they are lent to the call on words
pub record Lent (bs os s e : List ℕ) : Type 0 where
  pub long : length s ≡ min (length bs / 2) 68102
  pub count : ℕ
  pub counted : count ≡ min (length os / 2) 800
  pub taken : e ≡ take count (words_in os)

module _ {bs os s e : List ℕ} (l : Lent bs os s e) where
  within : l.count ≤ length (words_in os)
  within = omega (arith, words_length os, l.counted)

  out_long : length e ≡ l.count
  out_long = ap length l.taken ∙ length-take-le l.count (words_in os) within

  answer_as : (b : List ℕ) (g work : ℕ) →
      lay_answer b g (length s) (length e) work ≡ lay_answer b g (length (words_in bs)) (length (words_in os)) work
  answer_as b g work = lay_same b g work (words_capped bs l.long) (words_capped os (out_long ∙ l.counted))

  module _ {b s' e' w w' : List ℕ} {g : ℕ} where
    module _ {t : Totals} (x : LayStep b g s e w (Ok t) s' e' w') where
      same : length s ≡ length (words_in bs)
      unfolding LayLeaves
      same = uncapped (words_capped bs l.long) (left_short x.strip)

      abbrev ws : List ℕ
      ws = entries_words (lay_entries b g (length s) (length w))

      room : length ws ≤ l.count
      room = omega (arith, laid_fits b g (length s) (length e) (length w) x.answer, out_long)

      output_is : e' ≡ ws ++ drop (length ws) (take l.count (words_in os))
      unfolding lay_output
      output_is = x.output ∙ ap (λ (r : List ℕ). ws ++ drop (length ws) r) l.taken

      output_long : length e' ≡ l.count
      unfolding lay_output
      output_long =
          ap length x.output ∙ length-append ws (drop (length ws) e) ∙ omega (arith, length-drop (length ws) e, out_long, room)

      all_output : e' ++ drop (length e') (words_in os) ≡ lay_output b g (words_in os) (length (words_in bs)) (length w) (Ok t)
      unfolding lay_output
      all_output =
          rw (output_long, output_is, part_of_output ws (words_in os) l.count within room)
          (ap (λ (n : ℕ). lay_output b g (words_in os) n (length w) (Ok t)) same)

      pub laid_bytes : {bs' os' : List ℕ} → bs' ≡ word_bytes s' ++ drop (2 * length s') bs →
          os' ≡ word_bytes e' ++ drop (2 * length e') os → ((i : ℕ) → i < length os → get_or os i 0 < 256) →
          LaidBytes b g bs os (length w) (Ok t) bs' os'
      unfolding LayLeaves
      laid_bytes put put-out bytes =
          record {
            words = s';
            answer = x.answer ∙ answer_as b g (length w);
            leaves = rw same at x.strip;
            strip_left = put ∙ put_all bs s' (x.strip.long ∙ same ∙ words_length bs);
            out_left =
                put-out ∙ put_first os e' bytes (omega (arith, output_long, within, words_length os)) ∙ ap (bytes_left os) all_output;
          }

    pub unlaid_bytes : {r : Refusal} → LayStep b g s e w (Err r) s' e' w' → ((i : ℕ) → i < length bs → get_or bs i 0 < 256) →
        ((i : ℕ) → i < length os → get_or os i 0 < 256) → LaidBytes b g bs os (length w) (Err r) bs os
    unfolding LayLeaves lay_output
    unlaid_bytes x bytes out-bytes =
        record {
          words = words_in bs;
          answer = x.answer ∙ answer_as b g (length w);
          leaves = refl;
          strip_left = sym (bytes_back bs bytes);
          out_left = sym (bytes_back os out-bytes);
        }

-- as many words of a work buffer as are used
pub lay_some : {b bs os : List ℕ} {g n m : ℕ} {a : Result Totals Refusal} {bs' os' : List ℕ} → n ≡ m → LaidBytes b g bs os n a bs' os' →
    LaidBytes b g bs os m a bs' os'
lay_some e x = rw e at x

-- the work buffer's words are cleared
pub lay_step : {b bs os work : List ℕ} {g : ℕ} {a : Result Totals Refusal} {bs' os' work' : List ℕ} → LaidBytes b g bs os (min (length work / 2) most_work) a bs' os' →
    work' ≡ bytes_left work (cleared (words_in work)) → LayBytesStep b g bs os work a bs' os' work'
lay_step {b} {bs} {os} {work} {g} {a} {bs'} {os'} x e =
    let y : LaidBytes b g bs os (length (work_in work)) a bs' os' = rw (work_long work) x in
    record {
      words = y.words;
      out_words = lay_output b g (words_in os) (length (words_in bs)) (length (work_in work)) a;
      step = record { answer = y.answer; output = refl; strip = y.leaves; zeros = refl };
      strip_left = y.strip_left;
      out_left = y.out_left;
      work_left = e;
    }

-- half of a work buffer stands for all of it
pub lay_half : {b bs os : List ℕ} {g : ℕ} (work : List ℕ) {front : List ℕ} {a : Result Totals Refusal} {bs' os' work' : List ℕ} →
    3072000 ≤ length work / 2 → LayBytesStep b g bs os (take (length work / 2) work) a bs' os' front →
    work' ≡ bytes_left (front ++ drop (length work / 2) work) (cleared (words_in (front ++ drop (length work / 2) work))) →
    LayBytesStep b g bs os work a bs' os' work'
lay_half {b} {bs} {os} {g} work {a = a} {bs'} {os'} l x e =
    let used = work_long (take (length work / 2) work) ∙ half_serves work l in
    let y : LaidBytes b g bs os (length (work_in (take (length work / 2) work))) a bs' os' =
    record {
      words = x.words;
      answer = x.step.answer;
      leaves = x.step.strip;
      strip_left = x.strip_left;
      out_left = x.out_left ∙ ap (bytes_left os) x.step.output;
    } in
    lay_step (rw used at y) (half_cleared work x.work_left refl e)
