-- The entries of a job: ordinals 1, 2, 3, and no refused piece has number 0, so that four words tell the fate.
-- Assumes nothing.
use mathlib.Core.Path.{◌≡◌, refl, sym, ap, ◌∙◌}
use mathlib.Core.Bool.{Bool, true, false, cond}
use mathlib.Core.List.{List, [], ◌∷◌, ◌++◌, append_assoc}
use Prim.Native.Nat.{ℕ, ◌+◌, ◌*◌, ◌≤◌}
use native.Mathlib.Omega.{arith}
use lib.Dec.{eqb}
use lib.ListN.{length, get_or, drop, length-append}
use lib.Seq.{get_or-drop, drop-drop}
use borrow.Author.Tests.{eqb-false, ne_eqb}
use Rattle.std.specs.Prelude.{Option, Some, None, Result, Ok, Err}
use Rattle.defs.specs.declared.Refusal.{Refusal}
use Rattle.defs.specs.declared.Position.{Position}
use Rattle.defs.specs.declared.Entry.{Entry}
use Rattle.defs.specs.declared.Fate.TheVariants.{Placed, Refused}
use Rattle.defs.specs.Answer.{fate_words}
use Rattle.defs.specs.Meaning.Sheet.{Piece}
use Rattle.defs.specs.Computing.Test.{ask}
use Rattle.defs.specs.Computing.Cells.{Rows}
use Rattle.defs.specs.Computing.Search.{best_below}
use Rattle.defs.specs.Computing.Calls.{refusal, q9b, q12b, q14b, outline_no, choose, place_on}
use Rattle.defs.specs.Computing.Lay.{fate_of, held_after, entries_from, entries_words}
use Rattle.defs.specs.Computing.Text.{entry_lines}
use Rattle.laws.proofs.Entries.{length-entries_from, length-entries_words}
use Rattle.layout.specs.Lines.{fate_at, entries_lines}

-- a refused piece has a number
abbrev Numbered : Result Position Refusal → Type 0
Numbered (Ok p) = Unit
Numbered (Err r) = ¬ (r.number ≡ 0)

asked_numbered : (t : Bool) (n : ℕ) (rest : Unit {0} → Result Position Refusal) → (t ≡ false → ¬ (n ≡ 0)) → Numbered (rest tt) →
    Numbered (ask t (Err (refusal n 1)) rest)
asked_numbered true n rest h r = r
asked_numbered false n rest h r = h refl

choose_numbered : (W R Q : ℕ) (held : List (List Rows)) (o : List ℕ) (best : Option Position) → Numbered (choose W R 0 Q held o best)
unfolding choose
choose_numbered W R Q held o None = λ e. omega arith
choose_numbered W R Q held o (Some p) = asked_numbered (q14b W R 0 Q held o p) 14 _ (λ _ e. omega arith) tt

place_numbered : (W R N Q : ℕ) (held : List (List Rows)) (o : List ℕ) (mask words : ℕ) → Numbered (place_on W R N 0 Q held o mask words)
unfolding place_on
place_numbered W R N Q held o mask words =
    let no = outline_no o (q9b mask) mask R in
    asked_numbered (eqb no 0) no _ (eqb-false no 0)
    (asked_numbered (q12b o mask R 0 words) 12 _ (λ _ e. omega arith) (choose_numbered W R Q held o (best_below W R N 0 held o mask 4)))

-- entries from ordinal i + 1 on
data InOrder : ℕ → List Entry → Type 0 where
  no_entry : {i : ℕ} → InOrder i []
  an_entry : {i : ℕ} {es : List Entry} (a : Result Position Refusal) → Numbered a → InOrder (i + 1) es →
      InOrder i (record { ordinal = i + 1; fate = fate_of a } ∷ es)

in_order : (W R N Q words i : ℕ) (held : List (List Rows)) (ps : List Piece) → InOrder i (entries_from W R N 0 Q words (i + 1) held ps)
unfolding entries_from
in_order W R N Q words i held [] = no_entry
in_order W R N Q words i held (p ∷ ps) =
    let a = place_on W R N 0 Q held p.outline p.mask words in
    an_entry a (place_numbered W R N Q held p.outline p.mask words)
    (in_order W R N Q words (i + 1) (held_after W R 0 held p.outline a) ps)

-- the fate of one entry, from its words
abbrev word : Result Position Refusal → List ℕ → ℕ → ℕ
word a more i = get_or (fate_words (fate_of a) ++ more) i 0

fate_said : (a : Result Position Refusal) (more : List ℕ) → Numbered a →
    cond (eqb (word a more 0) 0) (Placed (record { turn = word a more 1; column = word a more 2; height = word a more 3 })) (Refused (word a more 0)) ≡
    fate_of a
fate_said (Ok p) more n = refl
fate_said (Err r) more n = rw (ne_eqb r.number 0 n)

fate_is : (ws more : List ℕ) (j : ℕ) (a : Result Position Refusal) → Numbered a → drop j ws ≡ fate_words (fate_of a) ++ more → fate_at ws j ≡ fate_of a
unfolding fate_at
fate_is ws more j a n e =
    let at : (i : ℕ) → get_or ws (j + i) 0 ≡ word a more i = λ i. sym (get_or-drop j ws i 0) ∙ ap (λ (l : List ℕ). get_or l i 0) e in
    let first : get_or ws j 0 ≡ word a more 0 = ap (λ (i : ℕ). get_or ws i 0) (omega arith) ∙ at 0 in
    rw (first, at 1, at 2, at 3) (fate_said a more n)

past : (a : Result Position Refusal) (more : List ℕ) → drop 4 (fate_words (fate_of a) ++ more) ≡ more
past (Ok p) more = refl
past (Err r) more = refl

lines_are : {i : ℕ} {es : List Entry} (ws rest : List ℕ) → InOrder i es → drop (4 * i) ws ≡ entries_words es ++ rest →
    entries_lines ws i (length es) ≡ entry_lines es
unfolding entries_lines entry_lines entries_words
lines_are ws rest no_entry e = refl
lines_are {i} ws rest (an_entry {es = es} a n o) e =
    let f = e ∙ append_assoc (fate_words (fate_of a)) (entries_words es) rest in
    let four : 4 * (i + 1) ≡ 4 * i + 4 = omega arith in
    let next : drop (4 * (i + 1)) ws ≡ entries_words es ++ rest =
    ap (λ (n : ℕ). drop n ws) four ∙ sym (drop-drop 4 (4 * i) ws) ∙ ap (drop 4) f ∙ past a (entries_words es ++ rest) in
    rw (fate_is ws (entries_words es ++ rest) (4 * i) a n f, lines_are ws rest o next)

module _ (W R N Q words : ℕ) (held : List (List Rows)) (ps : List Piece) (ws rest : List ℕ)
    (e : ws ≡ entries_words (entries_from W R N 0 Q words 1 held ps) ++ rest) where
  pub job_words : 4 * length ps ≤ length ws
  job_words =
      let es = entries_from W R N 0 Q words 1 held ps in
      omega (arith, ap length e, length-append (entries_words es) rest, length-entries_words es, length-entries_from W R N 0 Q words 1 held ps)

  pub job_lines : entries_lines ws 0 (length ps) ≡ entry_lines (entries_from W R N 0 Q words 1 held ps)
  job_lines =
      ap (entries_lines ws 0) (sym (length-entries_from W R N 0 Q words 1 held ps)) ∙
      lines_are ws rest (in_order W R N Q words 0 held ps) e
