-- From a place or commit call on local words to one on the bytes of strip and outline, to one with a work buffer of more words, and to
-- the steps of place, ask and commit. Assumes nothing.
use mathlib.Core.Path.{◌≡◌, refl, sym, ap, ap₂, subst, ◌∙◌}
use mathlib.Core.Logic.{⊎_elim}
use mathlib.Core.Bool.{Bool, true, false, false≢true}
use mathlib.Core.List.{List, ◌++◌}
use Prim.Native.Nat.{ℕ, ◌*◌, ◌/◌, ◌^◌, ◌≤◌, ◌<◌}
use native.Mathlib.Omega.{arith}
use lib.Dec.{leb}
use lib.ListN.{length, get_or, take, drop}
use Rattle.std.specs.Prelude.{Result, Ok, Err, is_ok}
use Rattle.defs.specs.declared.Refusal.{Refusal}
use Rattle.defs.specs.declared.Position.{Position}
use Rattle.defs.specs.Meaning.Limits.{most_turn}
use Rattle.defs.specs.Meaning.Strip.{resolution_of}
use Rattle.defs.specs.Computing.Words.{well_formedb}
use Rattle.defs.specs.Computing.Calls.{refusal, cleared, q7b, q9b, outline_no, place_on, place_answer, tries_on, place_tries, ask_answer, commit_on, commit_answer, EnteredLeaves, PlaceLeaves, CommitLeaves}
use Rattle.defs.specs.Computing.Bytes.{words_in, word_bytes, bytes_left, PlaceBytesStep, AskBytesStep, CommitBytesStep}
use Rattle.laws.proofs.Tests.{refuted}
use Rattle.laws.proofs.Questions.{question_7}
use Rattle.laws.proofs.Granted.{no_grant}
use Rattle.geom.proofs.Strip.{lt_or_le}
use Rattle.bytewords.proofs.Laws.{words_length, put_all, bytes_back}
use Rattle.wanted.specs.declared.Wanted.{Wanted}
use Rattle.wanted.specs.declared.Wanted.TheVariants.{Best, At}
use Rattle.wanted.specs.Answers.{answer_to, count_to, Put}
use Rattle.wanted.proofs.Answered.{ill_refused, ill_untried}
use Rattle.commit.specs.Strip.{as_commit}
use Rattle.commit.proofs.Strip.{commit_answer_lem, commit_leaves}
use Rattle.byteput.specs.Steps.{PutWords, PutCopy, PutBack}
use Rattle.byteput.proofs.Caps.{Cut, uncut, work_long}
use Rattle.byteput.proofs.Strips.{long_ill, left_short}
use Rattle.byteput.proofs.Halves.{half_serves, half_cleared}

-- a strip or an outline that is cut down

-- question 7
long_no : (o : List ℕ) (ninth : Bool) (mask R : ℕ) → 128 < length o → outline_no o ninth mask R ≡ 7
unfolding outline_no
long_no o ninth mask R h = rw (refuted (q7b o) (λ e. omega (arith, ((question_7 o).0 e).words.at_most)))

-- the answer and the tries
told : Wanted → List ℕ → List ℕ → ℕ → (Result Position Refusal) × ℕ
told w s o work = (answer_to w s o work, count_to w s o work)

ill_told : (w : Wanted) (s o : List ℕ) (work : ℕ) → well_formedb s ≡ false → told w s o work ≡ (Err (refusal 5 0), 0)
unfolding told
ill_told w s o work e = ap₂ (λ (a : Result Position Refusal) (n : ℕ). (a, n)) (ill_refused w s o work e) (ill_untried w s o work e)

long_told : (w : Wanted) (s o : List ℕ) (work : ℕ) → well_formedb s ≡ true → 128 < length o → told w s o work ≡ (Err (refusal 7 1), 0)
unfolding told answer_to count_to place_answer place_on place_tries tries_on commit_answer commit_on
long_told (Best mask) s o work e h = rw (e, long_no o (q9b mask) mask (resolution_of s) h)
long_told (At p) s o work e h = rw (e, long_no o (leb p.turn most_turn) (2 ^ p.turn) (resolution_of s) h)

outline_same : (w : Wanted) (s : List ℕ) {o o' : List ℕ} (work : ℕ) → Cut 128 o o' → told w s o' work ≡ told w s o work
outline_same w s {o} {o'} work c =
    ⊎_elim (λ e. ap (λ (v : List ℕ). told w s v work) e) (λ h. either h.0 h.1 (well_formedb s) refl) c
  where
    either : 128 < length o → 128 < length o' → (b : Bool) → well_formedb s ≡ b → told w s o' work ≡ told w s o work
    either h h' true e = long_told w s o' work e h' ∙ sym (long_told w s o work e h)
    either h h' false e = ill_told w s o' work e ∙ sym (ill_told w s o work e)

told_same : (w : Wanted) {s s' o o' : List ℕ} (work : ℕ) → Cut 68101 s s' → Cut 128 o o' → told w s' o' work ≡ told w s o work
told_same w {s} {s'} {o} {o'} work c d =
    ⊎_elim (λ e. ap (λ (l : List ℕ). told w l o' work) e ∙ outline_same w s work d)
    (λ h. ill_told w s' o' work (long_ill s' h.1) ∙ sym (ill_told w s o work (long_ill s h.0))) c

placed_few : (w : Wanted) (s o : List ℕ) (work : ℕ) {p : Position} → Ok p ≡ answer_to w s o work → length o ≤ 128
unfolding told
placed_few w s o work e = ⊎_elim (λ h. absurd (either h (well_formedb s) refl)) (λ l. l) (lt_or_le 128 (length o))
  where
    either : 128 < length o → (b : Bool) → well_formedb s ≡ b → ⊥
    either h true f = no_grant (sym (ap (λ (t : (Result Position Refusal) × ℕ). t.0) (long_told w s o work f h)) ∙ sym e)
    either h false f = no_grant (sym (ill_refused w s o work f) ∙ sym e)

pub put_words_lem : {bs os s o s' : List ℕ} {w : Wanted} {work : ℕ} {a : Result Position Refusal} {n : ℕ} → Cut 68101 (words_in bs) s → Cut 128 (words_in os) o →
    Put s o w work a n s' → PutWords bs os w work a n s'
unfolding PlaceLeaves told
put_words_lem {bs} {os} {s} {o} {s'} {w} {work} {a} c d x =
    record {
      answer = x.answer ∙ ap (λ (t : (Result Position Refusal) × ℕ). t.0) (told_same w work c d);
      counted = x.counted ∙ ap (λ (t : (Result Position Refusal) × ℕ). t.1) (told_same w work c d);
      leaves = λ p e. left p (sym e ∙ x.answer) (subst (λ (b : Result Position Refusal). PlaceLeaves s o b s') e x.leaves);
    }
  where
    left : (p : Position) → Ok p ≡ answer_to w s o work → PlaceLeaves s o (Ok p) s' → EnteredLeaves (words_in bs) (words_in os) p s'
    left p e l =
        let strip : s ≡ words_in bs = uncut c (left_short l) in
        let outline : o ≡ words_in os = uncut d (placed_few w s o work e) in
        rw (strip, outline) at l

-- as many words of a work buffer as are used
pub put_some : {bs os words : List ℕ} {w : Wanted} {n m : ℕ} {a : Result Position Refusal} {k : ℕ} → n ≡ m → PutWords bs os w n a k words → PutWords bs os w m a k words
put_some e x = rw e at x

-- half of a work buffer stands for all of it
pub put_half : {bs os words : List ℕ} {w : Wanted} (work : List ℕ) {front : List ℕ} {a : Result Position Refusal} {n : ℕ} {work' : List ℕ} →
    3072000 ≤ length work / 2 → PutCopy bs os w (take (length work / 2) work) a n words front →
    work' ≡ bytes_left (front ++ drop (length work / 2) work) (cleared (words_in (front ++ drop (length work / 2) work))) →
    PutCopy bs os w work a n words work'
put_half work l x e =
    record {
      done = rw (half_serves work l) at x.done;
      cleared_work = half_cleared work x.cleared_work refl e;
    }

-- the copy put back, or not

pub put_back : {bs os words : List ℕ} {w : Wanted} {work : List ℕ} {a : Result Position Refusal} {n : ℕ} {p : Position} {bs' work' : List ℕ} →
    PutCopy bs os w work a n words work' → a ≡ Ok p → bs' ≡ word_bytes words ++ drop (2 * length words) bs →
    PutBack bs os w work a n bs' work'
unfolding PlaceLeaves
put_back {bs} {os} {words = words} {p = p} x e put =
    let l = x.done.leaves p e in
    record {
      words = words;
      done =
          record {
            answer = x.done.answer;
            counted = x.done.counted;
            leaves = subst (λ (b : Result Position Refusal). PlaceLeaves (words_in bs) (words_in os) b words) (sym e) l;
          };
      strip_left = put ∙ put_all bs words (l.long ∙ words_length bs);
      cleared_work = x.cleared_work;
    }

module _ {bs : List ℕ} (bytes : (i : ℕ) → i < length bs → get_or bs i 0 < 256) where
  pub kept_back : {os words : List ℕ} {w : Wanted} {work : List ℕ} {a : Result Position Refusal} {n : ℕ} {r : Refusal} {work' : List ℕ} →
      PutCopy bs os w work a n words work' → a ≡ Err r → PutBack bs os w work a n bs work'
  unfolding PlaceLeaves
  kept_back {os} x e =
      record {
        words = words_in bs;
        done =
            record {
              answer = x.done.answer;
              counted = x.done.counted;
              leaves = subst (λ (b : Result Position Refusal). PlaceLeaves (words_in bs) (words_in os) b (words_in bs)) (sym e) refl;
            };
        strip_left = sym (bytes_back bs bytes);
        cleared_work = x.cleared_work;
      }

  -- the steps of the three calls
  pub ask_step : {os words work : List ℕ} {mask : ℕ} {a : Result Position Refusal} {n : ℕ} {work' : List ℕ} →
      PutCopy bs os (Best mask) work a n words work' → AskBytesStep bs os mask work a n bs work'
  unfolding answer_to count_to ask_answer
  ask_step {os} {words} {work} {mask} x =
      record {
        words = words_in bs;
        step =
            record {
              answer = x.done.answer ∙ ap (place_answer (words_in bs) (words_in os) mask) (sym (work_long work));
              counted = x.done.counted ∙ ap (place_tries (words_in bs) (words_in os) mask) (sym (work_long work));
              strip = refl;
              zeros = refl;
            };
        strip_left = sym (bytes_back bs bytes);
        work_left = x.cleared_work;
      }

pub place_step : {bs os work : List ℕ} {mask : ℕ} {a : Result Position Refusal} {n : ℕ} {bs' work' : List ℕ} →
    PutBack bs os (Best mask) work a n bs' work' → PlaceBytesStep bs os mask work a n bs' work'
unfolding answer_to count_to
place_step {bs} {os} {work} {mask} x =
    record {
      words = x.words;
      step =
          record {
            answer = x.done.answer ∙ ap (place_answer (words_in bs) (words_in os) mask) (sym (work_long work));
            counted = x.done.counted ∙ ap (place_tries (words_in bs) (words_in os) mask) (sym (work_long work));
            strip = x.done.leaves;
            zeros = refl;
          };
      strip_left = x.strip_left;
      work_left = x.cleared_work;
    }

pub commit_step : {bs os work : List ℕ} {p : Position} {a : Result Position Refusal} {n : ℕ} {r : Result Unit Refusal} {bs' work' : List ℕ} →
    PutBack bs os (At p) work a n bs' work' → r ≡ as_commit a → CommitBytesStep bs os p work r bs' work'
commit_step {bs} {os} {work} {p} x q =
    record {
      words = x.words;
      step =
          record {
            answer = q ∙ commit_answer_lem x.done ∙ ap (commit_answer (words_in bs) (words_in os) p) (sym (work_long work));
            strip =
                subst (λ (b : Result Unit Refusal). CommitLeaves (words_in bs) (words_in os) p b x.words) (sym q) (commit_leaves x.done);
            zeros = refl;
          };
      strip_left = x.strip_left;
      work_left = x.cleared_work;
    }

-- what an answer is by its test
pub was_ok : (a : Result Position Refusal) → is_ok a ≡ true → (p : Position) × (a ≡ Ok p)
was_ok (Ok p) e = (p, refl)
was_ok (Err r) e = absurd (false≢true e)

pub was_err : (a : Result Position Refusal) → is_ok a ≡ false → (r : Refusal) × (a ≡ Err r)
was_err (Ok p) e = absurd (false≢true (sym e))
was_err (Err r) e = (r, refl)
