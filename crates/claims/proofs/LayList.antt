-- Lay is one list of place calls, and its totals and output are those of the list. So demand 3 holds of every laid job.
-- Assumes nothing.
use mathlib.Core.Path.{◌≡◌, refl, sym, ap, ◌∙◌}
use mathlib.Core.Bool.{Bool, true}
use mathlib.Core.List.{List, []}
use Prim.Native.Nat.{ℕ, ◌+◌, ◌*◌, ◌≤◌, ◌<◌}
use native.Mathlib.Omega.{arith}
use lib.Dec.{leb, eqb}
use lib.ListN.{length, get_or, replicate}
use borrow.Author.Tests.{leb-true}
use Rattle.std.specs.Prelude.{None, Ok, Err}
use Rattle.defs.specs.declared.Refusal.{Refusal}
use Rattle.defs.specs.declared.Fate.{Fate}
use Rattle.defs.specs.declared.Entry.{Entry}
use Rattle.defs.specs.declared.Totals.{Totals}
use Rattle.defs.specs.Answer.{fate_words}
use Rattle.defs.specs.Meaning.Sheet.{Piece, sheet_w, sheet_r, sheet_n}
use Rattle.defs.specs.Meaning.Job.{Used, CountPlaced}
use Rattle.defs.specs.Meaning.Question.{Question21}
use Rattle.defs.specs.Computing.Cells.{Rows}
use Rattle.defs.specs.Computing.Words.{limits_no, figures_no, gapb, lengthb, records_of}
use Rattle.defs.specs.Computing.Calls.{refusal, cleared, place_tries, open_answer, Left, OpenLeaves, OpenStep}
use Rattle.defs.specs.Computing.Sheets.{q1b, q2b, sheet_no, piece_records, sheet_pieces}
use Rattle.defs.specs.Computing.Lay.{fate_of, placed_in, used_in, lay_entries, lay_answer, lay_output, LayLeaves, LayStep}
use Rattle.laws.proofs.Tests.{asked}
use Rattle.laws.proofs.Questions.{question_21, figures_none, length_decides}
use Rattle.laws.proofs.Entries.{length-entries_from}
use Rattle.laws.proofs.Granted.{no_grant, same_grant}
use Rattle.sheets.proofs.Asking.{some_none}
use Rattle.sheets.proofs.Passing.{Held, none_held}
use Rattle.sheets.proofs.Answers.{not_refused}
use Rattle.tables.proofs.Empty.{column_none, empty_writable}
use Rattle.claims.specs.Trace.{PlaceCall}
use Rattle.claims.specs.Places.{PlaceCalls, PlaceTrace, PlaceDemand3_holds}
use Rattle.claims.specs.Laying.{piece_at, LaysList, Lay_is_a_list, Lay_demand3}
use Rattle.claims.proofs.PlaceLists.{place_demand3_holds}
use Rattle.claims.proofs.LayTotals.{fate_at, placed_counted, used_reached, entries_words_lem}
use Rattle.claims.proofs.LayStrips.{answer_at, fates_are, Strips, strips}

-- a granted lay has passed 21 and 4, and the other questions of its sheet
gap_and_length : (b : List ℕ) (gap fourth : Bool) → sheet_no b gap fourth ≡ None → (gap ≡ true) × (fourth ≡ true)
unfolding sheet_no
gap_and_length b gap fourth e =
    let e1 = asked (q1b b) _ e some_none in
    let e2 = asked (q2b b) _ e1.1 some_none in
    let e3 = asked (eqb (limits_no (sheet_w b) (sheet_r b) (sheet_n b)) 0) _ e2.1 some_none in
    let e21 = asked gap _ e3.1 some_none in
    (e21.0, (asked fourth _ e21.1 some_none).0)

pub record LayGranted (b : List ℕ) (g strip out work : ℕ) (t : Totals) : Type 0 where
  pub held : Held b
  pub room : 4 * length (piece_records b) ≤ out
  pub gap : gapb g ≡ true
  pub long : lengthb (sheet_n b) strip ≡ true
  pub totals :
      t ≡
      record {
        placed = placed_in (lay_entries b g strip work);
        used = used_in (sheet_r b) (sheet_pieces b) (lay_entries b g strip work);
      }

pub lay_granted : (b : List ℕ) (g strip out work : ℕ) (t : Totals) → Ok t ≡ lay_answer b g strip out work →
    LayGranted b g strip out work t
unfolding lay_answer
lay_granted b g strip out work t e =
    let h = not_refused (sheet_no b (gapb g) (lengthb (sheet_n b) strip)) (sym e) (λ r. no_grant) in
    let passed = gap_and_length b (gapb g) (lengthb (sheet_n b) strip) h.0 in
    let e15 = asked (leb (4 * length (piece_records b)) out) _ h.1 (no_grant {r = refusal 15 0}) in
    record {
      held = none_held b (rw (passed.0, passed.1) at h.0);
      room = leb-true (4 * length (piece_records b)) out e15.0;
      gap = passed.0;
      long = passed.1;
      totals = sym (same_grant e15.1);
    }

-- an opened strip is one with the empty table
pub opened_step : (W R N g : ℕ) (s s' : List ℕ) → figures_no W R N g ≡ 0 → lengthb N (length s) ≡ true →
    Left W R N g (length s) (λ k. get_or (replicate N []) k []) s' → OpenStep W R N g s (Ok tt) s'
unfolding open_answer OpenLeaves
opened_step W R N g s s' figures four l =
    record {
      answer = rw (figures, four) refl;
      strip =
          record {
            well_formed = l.well_formed;
            long = l.long;
            width = l.width;
            resolution = l.resolution;
            columns = l.columns;
            gap = l.gap;
            holds = λ k h. l.holds k h ∙ column_none N k h;
          };
    }

module _ {b : List ℕ} {g : ℕ} {s out work : List ℕ} {t : Totals} {s' out' work' : List ℕ}
    (x : LayStep b g s out work (Ok t) s' out' work') where
  abbrev W : ℕ
  W = sheet_w b

  abbrev R : ℕ
  R = sheet_r b

  abbrev N : ℕ
  N = sheet_n b

  abbrev Q : ℕ
  Q = records_of N (length s)

  abbrev ps : List Piece
  ps = sheet_pieces b

  abbrev empty : List (List Rows)
  empty = replicate N []

  abbrev entries : List Entry
  entries = lay_entries b g (length s) (length work)

  pub given : LayGranted b g (length s) (length out) (length work) t
  given = lay_granted b g (length s) (length out) (length work) t x.answer

  pub small : Question21 g
  small = (question_21 g).0 given.gap

  pub between : Strips W R N g Q (length s) work empty ps s'
  unfolding LayLeaves
  between =
      strips given.held.holds.limits small ((length_decides N (length s)).0 given.long) work empty ps s'
      (empty_writable W N Q)
      x.strip

  abbrev call : ℕ → PlaceCall
  call m =
      record {
        outline = (piece_at ps m).outline;
        mask = (piece_at ps m).mask;
        work = work;
        answer = answer_at W R N g Q (length work) empty ps m;
        tries = place_tries (between.strip m) (piece_at ps m).outline (piece_at ps m).mask (length work);
        work_after = cleared work;
      }

  abbrev calls : PlaceCalls
  calls = record { lent = s; count = length ps; call = call; strip = between.strip }

  abbrev trace : PlaceTrace W R N g calls
  trace =
      record {
        open_step =
            opened_step W R N g s (between.strip 0) ((figures_none W R N g).1 (given.held.holds.limits, small)) given.long
            between.first;
        place_step = between.step;
      }

  entries_long : length entries ≡ length ps
  unfolding lay_entries
  entries_long = length-entries_from W R N g Q (length work) 1 empty ps

  fates : fate_at entries ≡ λ m. fate_of (call m).answer
  unfolding lay_entries
  fates = λ i m. fates_are W R N g Q (length work) 1 empty ps m i

  pub output : (m i : ℕ) → m < length ps → i < 4 → get_or out' (4 * m + i) 0 ≡ get_or (fate_words (fate_of (call m).answer)) i 0
  unfolding lay_output
  output m i h l =
      ap (λ (w : List ℕ). get_or w (4 * m + i) 0) x.output ∙
      entries_words_lem entries _ m i (omega (arith, entries_long)) l ∙
      ap (λ (f : ℕ → Fate). get_or (fate_words (f m)) i 0) fates

  pub used : Used R (λ m. (call m).outline) (λ m. fate_of (call m).answer) (length ps) t.used
  used = rw (given.totals, ← fates) (used_reached R ps entries entries_long)

  pub placed : CountPlaced (λ m. fate_of (call m).answer) (length ps) t.placed
  placed = rw (given.totals, ← fates, ← entries_long) (placed_counted entries)

  abbrev pub lays_list : LaysList b g s t s' out' work
  lays_list =
      record {
        pieces = ps;
        sheet = given.held.holds;
        list = calls;
        steps = trace;
        opens = refl;
        all_of_them = refl;
        outlines = λ m h. refl;
        masks = λ m h. refl;
        works = λ m h. refl;
        leaves = between.last;
        output = output;
        used = used;
        placed = placed;
      }

pub lay_is_a_list : Lay_is_a_list
unfolding Lay_is_a_list
lay_is_a_list b g s out work t s' out' work' x = lays_list x

pub lay_demand3 : Lay_demand3
unfolding Lay_demand3 PlaceDemand3_holds
lay_demand3 b g s out work t s' out' work' x = (lays_list x, place_demand3_holds _ _ _ _ _ (lays_list x).steps)
