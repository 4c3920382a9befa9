-- Calls on bytes are calls on words: what a buffer is left as has the words left, and its odd last byte.
-- Assumes nothing.
use mathlib.Core.Path.{◌≡◌, sym, ap, subst, ◌∙◌}
use mathlib.Core.List.{List, ◌∷◌}
use Prim.Native.Nat.{ℕ, zero, suc, min}
use native.Mathlib.Omega.{arith}
use lib.ListN.{length, take, replicate, length-take}
use Rattle.defs.specs.Computing.Bytes.{words_in, most_work, work_in, odd_byte, bytes_left}
use Rattle.defs.specs.Computing.Calls.{cleared, place_answer, place_tries, commit_answer, OpenStep}
use Rattle.defs.specs.Computing.Lay.{lay_entries}
use Rattle.mostruns.proofs.Work.{place_work, tries_work, commit_work, lay_work}
use Rattle.bytewords.proofs.Laws.{words_left, odd_left}
use Rattle.control.specs.Lists.{PackedCall, PackedCalls, place_with, ask_with, commit_at_lem, PackedStep, PackedTrace, Packed_demand3}
use Rattle.control.specs.Bytes.{BytesAreWords, BytesStep, BytesTrace, call_in_words, in_words, OddStays, Bytes_demand3}
use Rattle.control.proofs.Lists.{packed_demand3}

-- a buffer after a call, and the words left in it
left_words : (bytes words : List ℕ) {bytes' : List ℕ} → bytes' ≡ bytes_left bytes words → words ≡ words_in bytes'
left_words bytes words e = sym (ap words_in e ∙ words_left bytes words)

odd_stays : (bytes words : List ℕ) {bytes' : List ℕ} → bytes' ≡ bytes_left bytes words → OddStays bytes bytes'
odd_stays bytes words e = ap odd_byte e ∙ odd_left bytes words

-- of a work buffer, the words that are lent
used_words : (work : List ℕ) → length (work_in work) ≡ min (length (words_in work)) most_work
unfolding work_in
used_words work = length-take most_work (words_in work) ∙ omega arith

take_zeros : (m n : ℕ) → take m (replicate {A = ℕ} n 0) ≡ replicate (min m n) 0
take_zeros zero n = let e : min zero n ≡ 0 = omega arith in rw e
take_zeros (suc m) zero = let e : min (suc m) zero ≡ 0 = omega arith in rw e
take_zeros (suc m) (suc n) =
    let e : min (suc m) (suc n) ≡ suc (min m n) = omega arith in
    ap (λ (l : List ℕ). 0 ∷ l) (take_zeros m n) ∙ ap (λ (k : ℕ). replicate k 0) (sym e)

-- by a variable, since the number of words that are lent is large
left_taken : (m : ℕ) (work : List ℕ) {work' : List ℕ} → work' ≡ bytes_left work (cleared (words_in work)) →
    cleared (take m (words_in work)) ≡ take m (words_in work')
left_taken m work e =
    ap (λ (n : ℕ). replicate n 0) (length-take m (words_in work)) ∙ sym (take_zeros m (length (words_in work))) ∙
    ap (take m) (left_words work (cleared (words_in work)) e)

left_work : (work : List ℕ) {work' : List ℕ} → work' ≡ bytes_left work (cleared (words_in work)) → cleared (work_in work) ≡ work_in work'
unfolding work_in
left_work work e = left_taken most_work work e

pub bytes_are_words : BytesAreWords
bytes_are_words =
    record {
      open_words =
          λ {W} {R} {N} {g} {strip} x. (
            record {
              answer = x.answer;
              step = subst (OpenStep W R N g (words_in strip) x.answer) (left_words _ _ x.step.strip_left) x.step.step;
              packs = x.packs;
            },
            odd_stays _ _ x.step.strip_left,
          );
      same_words =
          λ x. (
            rw (← left_words _ _ x.strip_left, ← left_work _ x.work_left) x.step,
            odd_stays _ _ x.strip_left,
            sym (left_words _ _ x.work_left),
            odd_stays _ _ x.work_left,
          );
      lay_words =
          λ {sheet} {g} {strip} {out} {work} x. (
            record {
              answer = x.answer;
              step =
                  rw (← left_words _ _ x.step.strip_left, ← left_words _ _ x.step.out_left, ← left_work _ x.step.work_left)
                  x.step.step;
              packs = x.packs;
            },
            odd_stays _ _ x.step.strip_left,
            odd_stays _ _ x.step.out_left,
            sym (left_words _ _ x.step.work_left),
            odd_stays _ _ x.step.work_left,
          );
      place_work = λ s o mask work e.
          ap (place_answer s o mask) (used_words work) ∙ place_work s o mask (length (words_in work)) e;
      tries_work = λ s o mask work e.
          ap (place_tries s o mask) (used_words work) ∙ tries_work s o mask (length (words_in work)) e;
      commit_work = λ s o p work e.
          ap (commit_answer s o p) (used_words work) ∙ commit_work s o p (length (words_in work)) e;
      lay_work = λ b strip work. ap (lay_entries b 0 strip) (used_words work) ∙ lay_work b strip (length (words_in work));
    }

step_in_words : (c : PackedCall) (s s' : List ℕ) → BytesStep c s s' → PackedStep (call_in_words c) (words_in s) (words_in s')
unfolding BytesStep PackedStep call_in_words
step_in_words (place_with mask tries c) s s' x = (bytes_are_words.same_words x).0
step_in_words (ask_with mask tries c) s s' x = (bytes_are_words.same_words x).0
step_in_words (commit_at_lem p c) s s' x = (bytes_are_words.same_words x).0

in_words_lem : {W R N g : ℕ} {x : PackedCalls} → BytesTrace W R N g x → PackedTrace W R N g (in_words x)
in_words_lem {x = x} t =
    record {
      opened = t.opened;
      is_granted = t.is_granted;
      open_step = (bytes_are_words.open_words t.open_step).0;
      step = λ m h. step_in_words (x.call m) (x.strip m) (x.strip (suc m)) (t.step m h);
    }

pub bytes_demand3 : Bytes_demand3
unfolding Bytes_demand3 Packed_demand3
bytes_demand3 W R N g x t = packed_demand3 W R N g (in_words x) (in_words_lem t)
