-- The answers of read and write: what a granted call has passed, and when a call is granted.
-- Assumes nothing.
use mathlib.Core.Path.{◌≡◌, refl, sym, ap, ◌∙◌}
use mathlib.Core.Bool.{true}
use mathlib.Core.List.{List}
use Prim.Native.Nat.{ℕ, ◌≤◌}
use native.Mathlib.Omega.{arith}
use lib.Dec.{leb}
use lib.ListN.{length}
use borrow.Author.Tests.{leb-true, le-leb}
use Rattle.std.specs.Prelude.{Option, Some, None, Ok, Err}
use Rattle.defs.specs.declared.Refusal.{Refusal}
use Rattle.defs.specs.declared.Figures.{Figures}
use Rattle.defs.specs.Meaning.Limits.{most_bytes}
use Rattle.defs.specs.Meaning.Sheet.{sheet_w, sheet_r, sheet_n, list_words}
use Rattle.defs.specs.Computing.Calls.{refusal}
use Rattle.defs.specs.Computing.Sheets.{sheet_no, sheet_pieces, read_answer, size_of, list_pieces, list_no, write_answer}
use Rattle.laws.proofs.Tests.{asked}
use Rattle.laws.proofs.Granted.{no_grant, same_grant}
use Rattle.sheets.proofs.Passing.{Held, none_held}
use Rattle.sheets.proofs.ListBack.{Accepted, accepted}

-- the first "no" decides the answer
abbrev pub said : {A : Type 0} → (Refusal → A) → A → Option Refusal → A
said refused rest o = elim o [ Some r ↦ refused r | None ↦ rest ]

pub not_refused : {A : Type 0} {refused : Refusal → A} {rest ok : A} (o : Option Refusal) → said refused rest o ≡ ok →
    ((r : Refusal) → ¬ (refused r ≡ ok)) → (o ≡ None) × (rest ≡ ok)
not_refused None e n = (refl, e)
not_refused (Some r) e n = absurd (n r e)

pub passed : {A : Type 0} (refused : Refusal → A) {rest : A} {o : Option Refusal} → o ≡ None → said refused rest o ≡ rest
passed refused {rest} e = ap (said refused rest) e

-- read

abbrev pub figures_of : List ℕ → Figures
figures_of b = record { width = sheet_w b; resolution = sheet_r b; columns = sheet_n b }

pub record ReadGranted (b : List ℕ) (words : ℕ) (f : Figures) : Type 0 where
  pub held : Held b
  pub room : length (list_words (sheet_pieces b)) ≤ words
  pub figures : f ≡ figures_of b

pub read_granted : (b : List ℕ) (words : ℕ) (f : Figures) → Ok f ≡ read_answer b words → ReadGranted b words f
unfolding read_answer
read_granted b words f e =
    let h = not_refused (sheet_no b true true) (sym e) (λ r. no_grant) in
    let e15 = asked (leb (length (list_words (sheet_pieces b))) words) _ h.1 (no_grant {r = refusal 15 0}) in
    record {
      held = none_held b h.0;
      room = leb-true (length (list_words (sheet_pieces b))) words e15.0;
      figures = sym (same_grant e15.1);
    }

pub read_grants : (b : List ℕ) (words : ℕ) → sheet_no b true true ≡ None → length (list_words (sheet_pieces b)) ≤ words →
    read_answer b words ≡ Ok (figures_of b)
unfolding read_answer
read_grants b words e l = passed Err e ∙ rw (le-leb (length (list_words (sheet_pieces b))) words l)

-- write

pub record WriteGranted (W R N : ℕ) (ws : List ℕ) (bytes n : ℕ) : Type 0 where
  pub list : Accepted W R N ws
  pub size : n ≡ size_of (list_pieces ws)
  pub small : size_of (list_pieces ws) ≤ most_bytes
  pub room : size_of (list_pieces ws) ≤ bytes

pub write_granted : (W R N : ℕ) (ws : List ℕ) (bytes n : ℕ) → Ok n ≡ write_answer W R N ws bytes → WriteGranted W R N ws bytes n
unfolding write_answer
write_granted W R N ws bytes n e =
    let size = size_of (list_pieces ws) in
    let h = not_refused (list_no W R N ws) (sym e) (λ r. no_grant) in
    let e2 = asked (leb size most_bytes) _ h.1 (no_grant {r = refusal 2 0}) in
    let e15 = asked (leb size bytes) _ e2.1 (no_grant {r = refusal 15 0}) in
    record {
      list = accepted W R N ws h.0;
      size = sym (same_grant e15.1);
      small = leb-true size most_bytes e2.0;
      room = leb-true size bytes e15.0;
    }

pub write_grants : (W R N : ℕ) (ws : List ℕ) (bytes : ℕ) → list_no W R N ws ≡ None → size_of (list_pieces ws) ≤ most_bytes →
    size_of (list_pieces ws) ≤ bytes → write_answer W R N ws bytes ≡ Ok (size_of (list_pieces ws))
unfolding write_answer
write_grants W R N ws bytes e small room =
    let size = size_of (list_pieces ws) in
    passed Err e ∙ rw (le-leb size most_bytes small, le-leb size bytes room)
