-- Demand 1: "bad input gets its number from document 01". The questions of each call as document 01 lists them, in their order, each
-- with its number and with the ordinal that a "no" gives; the first "no" is the answer, and where there is none the call is granted with
-- the values said last. Assumes nothing.
use Rattle.std.specs.Prelude.{◌≡◌, ◌⊎◌, ◌↔◌, List, [], ◌∷◌, ℕ, zero, suc, ◌+◌, ◌*◌, ◌^◌, ◌≤◌, ◌<◌, length, get_or, drop, Result, Ok}
use Rattle.defs.specs.declared.Figures.{Figures}
use Rattle.defs.specs.declared.Refusal.{Refusal}
use Rattle.defs.specs.declared.Position.{Position}
use Rattle.defs.specs.declared.Totals.{Totals}
use Rattle.defs.specs.Answer.{Outcome, opening, covering, placing, asking, committing, reading, writing, laying}
use Rattle.defs.specs.Meaning.Cell.{Cells, AtMostRuns}
use Rattle.defs.specs.Meaning.Strip.{Length, Holds, width_of, resolution_of, columns_of, gap_of}
use Rattle.defs.specs.Meaning.Placing.{Best, OccupiedBefore, cells_in, cells_at}
use Rattle.defs.specs.Meaning.Sheet.{Piece, Pieces, Question1, Question2, sheet_w, sheet_r, sheet_n, piece_number, vertex_words, list_words, list_piece, after_piece}
use Rattle.defs.specs.Meaning.Job.{Used, CountPlaced}
use Rattle.defs.specs.Meaning.Question.{Question2Size, Question3, Question16, Question17, Question21, Question4, Question5, Question6, Question6List, Question7, Question7Sheet, Question7List, Question8, Question9, Question9Turn, Question10, Question11, Question12, Question13, Question14, Question15, Question18}
use Rattle.defs.specs.Computing.Calls.{OpenStep, CoverStep, PlaceStep, AskStep, CommitStep}
use Rattle.defs.specs.Computing.Sheets.{ReadStep, WriteStep}
use Rattle.defs.specs.Computing.Lay.{LayStep, fate_of}
use Rattle.claims.specs.Trace.{Call, place_call, ask_call, commit_call, Calls, Trace, Occupied}
use Rattle.claims.specs.Places.{PlacedCells}
use Rattle.claims.specs.Laying.{LaysList, piece_at}

-- Questions in their order: the number and the ordinal that a "no" gives, the question, and the questions after a "yes", which may
-- speak of what the "yes" has found (a chain, a number of records). After the last one the call is granted, with values of which this
-- holds.
pub data Questions : Type 1 where
  asks : ℕ → ℕ → (P : Type 0) → (P → Questions) → Questions
  grants : (List ℕ → Type 0) → Questions

-- What is answered to them: the first "no", or the values.
unfoldable pub Answers : Questions → Outcome → Type 0
Answers (asks number ordinal P next) a =
    ((¬ P) × (a.number ≡ number) × (a.ordinal ≡ ordinal) × (a.values ≡ [])) ⊎ (P × ((p : P) → Answers (next p) a))
Answers (grants given) a = (a.number ≡ 0) × (a.ordinal ≡ 0) × given a.values

-- The questions leave no choice of number and ordinal.
unfoldable pub One_answer : Type 1
One_answer = (qs : Questions) (a b : Outcome) → Answers qs a → Answers qs b → (a.number ≡ b.number) × (a.ordinal ≡ b.ordinal)

-- "open 3, 4", with 16 and 17 of S-1 and 21 of S-4: "directly after 16 and 17"
abbrev pub open_questions : ℕ → ℕ → ℕ → ℕ → ℕ → Questions
open_questions W R N g words =
    asks 3 0 (Question3 W) λ _.
    asks 16 0 (Question16 R) λ _.
    asks 17 0 (Question17 N) λ _.
    asks 21 0 (Question21 g) λ _.
    asks 4 0 (Question4 N words) λ _.
    grants λ values. values ≡ []

-- "answers the number of runs": at most so many and no fewer
abbrev pub RunsAre : Cells → ℕ → Type 0
RunsAre C n = (m : ℕ) → AtMostRuns C m ↔ (n ≤ m)

-- "cover 3, 7 to 12", its 3 being 16 by S-1, and 21 of S-4 after it
abbrev pub cover_questions : List ℕ → ℕ → ℕ → ℕ → ℕ → Questions
cover_questions o t R g words =
    asks 16 0 (Question16 R) λ _.
    asks 21 0 (Question21 g) λ _.
    asks 7 1 (Question7 o) λ _.
    asks 8 1 (Question8 o) λ _.
    asks 9 1 (Question9Turn t) λ _.
    asks 10 1 (Question10 o (2 ^ t)) λ _.
    asks 11 1 (Question11 o (2 ^ t) R) λ _.
    asks 12 1 (Question12 o (2 ^ t) R g words) λ _.
    grants λ values. (n : ℕ) × (values ≡ n ∷ []) × RunsAre (cells_in R g o t) n

-- 12 to 14 of an outline on a strip where the cells C are occupied; the best position is answered
abbrev pub fate_questions : ℕ → ℕ → ℕ → ℕ → ℕ → Cells → List ℕ → ℕ → ℕ → Questions
fate_questions W R N g Q C o mask words =
    asks 12 1 (Question12 o mask R g words) λ _.
    asks 13 1 (Question13 W R N g C o mask) λ _.
    asks 14 1 ((p : Position) → Best W R N g C o mask p → Question14 W R N g Q C o p) λ _.
    grants λ values. (p : Position) × (values ≡ p.turn ∷ p.column ∷ p.height ∷ []) × Best W R N g C o mask p

-- "place 5, 7 to 14": of an outline on strip s, where the cells C are occupied
unfoldable pub place_questions : List ℕ → Cells → List ℕ → ℕ → ℕ → Questions
unfolding Question5
place_questions s C o mask words =
    asks 5 0 (Question5 s) λ q5.
    asks 7 1 (Question7 o) λ _.
    asks 8 1 (Question8 o) λ _.
    asks 9 1 (Question9 mask) λ _.
    asks 10 1 (Question10 o mask) λ _.
    asks 11 1 (Question11 o mask (resolution_of s)) λ _.
    fate_questions (width_of s) (resolution_of s) (columns_of s) (gap_of s) q5.0 C o mask words

-- S-2: "Ask answers the position that place would give, or its number"
abbrev pub ask_questions : List ℕ → Cells → List ℕ → ℕ → ℕ → Questions
ask_questions s C o mask words = place_questions s C o mask words

-- S-2: commit "asks what place asks with that turn alone allowed", and 18 "instead of 13": 5, 7 to 12, 18, 14, the last two of the
-- position lent
unfoldable pub commit_questions : List ℕ → Cells → List ℕ → Position → ℕ → Questions
unfolding Question5
commit_questions s C o p words =
    asks 5 0 (Question5 s) λ q5.
    asks 7 1 (Question7 o) λ _.
    asks 8 1 (Question8 o) λ _.
    asks 9 1 (Question9Turn p.turn) λ _.
    asks 10 1 (Question10 o (2 ^ p.turn)) λ _.
    asks 11 1 (Question11 o (2 ^ p.turn) (resolution_of s)) λ _.
    asks 12 1 (Question12 o (2 ^ p.turn) (resolution_of s) (gap_of s) words) λ _.
    asks 18 0 (Question18 (width_of s) (resolution_of s) (columns_of s) (gap_of s) C o p) λ _.
    asks 14 1 (Question14 (width_of s) (resolution_of s) (columns_of s) (gap_of s) q5.0 C o p) λ _.
    grants λ values. values ≡ []

-- of a call of a list, on strip s, where the cells C are occupied; and its answer
unfoldable pub call_questions : List ℕ → Cells → Call → Questions
call_questions s C (place_call c) = place_questions s C c.outline c.mask (length c.work)
call_questions s C (ask_call c) = ask_questions s C c.outline c.mask (length c.work)
call_questions s C (commit_call c) = commit_questions s C c.outline c.at (length c.work)

unfoldable pub outcome_in : Call → Outcome
outcome_in (place_call c) = placing c.answer
outcome_in (ask_call c) = asking c.answer
outcome_in (commit_call c) = committing c.answer

-- "7 to 11 piece by piece", each with "the piece's place in chain": of the piece records rs of a sheet, from place k on
unfoldable pub chain_questions : List ℕ → ℕ → List ℕ → Questions → Questions
unfolding Question7Sheet
chain_questions b k [] next = next
chain_questions b k (r ∷ rs) next =
    asks 7 k (Question7Sheet b r) λ q7.
    asks 8 k (Question8 (vertex_words b q7.0)) λ _.
    asks 9 k (Question9 (piece_number b r 1)) λ _.
    asks 10 k (Question10 (vertex_words b q7.0) (piece_number b r 1)) λ _.
    asks 11 k (Question11 (vertex_words b q7.0) (piece_number b r 1) (sheet_r b)) λ _.
    chain_questions b (k + 1) rs next

-- "or list": of the n pieces with whose words ws begin, from place k on. The questions after them are told the vertices of all
-- pieces, v of them before these.
unfoldable pub list_questions : ℕ → ℕ → ℕ → List ℕ → ℕ → (ℕ → Questions) → Questions
list_questions R k zero ws v next = next v
list_questions R k (suc n) ws v next =
    asks 7 k (Question7List ws) λ _.
    asks 8 k (Question8 (list_piece ws).outline) λ _.
    asks 9 k (Question9 (list_piece ws).mask) λ _.
    asks 10 k (Question10 (list_piece ws).outline (list_piece ws).mask) λ _.
    asks 11 k (Question11 (list_piece ws).outline (list_piece ws).mask R) λ _.
    list_questions R (k + 1) n (after_piece ws) (v + get_or ws 0 0) next

-- "read asks 1, 2, 3, 6 to 11, 15"; the answer is the sheet's W, R, N
unfoldable pub read_questions : List ℕ → ℕ → Questions
unfolding Question6
read_questions b words =
    asks 1 0 (Question1 b) λ _.
    asks 2 0 (Question2 b) λ _.
    asks 3 0 (Question3 (sheet_w b)) λ _.
    asks 16 0 (Question16 (sheet_r b)) λ _.
    asks 17 0 (Question17 (sheet_n b)) λ _.
    asks 6 0 (Question6 b) λ q6.
    chain_questions b 1 q6.0
    (asks 15 0 ((ps : List Piece) → Pieces b q6.0 ps → Question15 (length (list_words ps)) words) λ _.
    grants λ values. values ≡ sheet_w b ∷ sheet_r b ∷ sheet_n b ∷ [])

-- "write 3, 6 to 11, then 2 (size), 15"; the answer is the size of the sheet, with v vertex records and a piece record for each piece of
-- the list
abbrev pub write_questions : ℕ → ℕ → ℕ → List ℕ → ℕ → Questions
write_questions W R N ws bytes =
    asks 3 0 (Question3 W) λ _.
    asks 16 0 (Question16 R) λ _.
    asks 17 0 (Question17 N) λ _.
    asks 6 0 (Question6List ws) λ _.
    list_questions R 1 (get_or ws 0 0) (drop 1 ws) 0 λ v.
    asks 2 0 (Question2Size (16 + 6 * v + 6 * get_or ws 0 0)) λ _.
    asks 15 0 (Question15 (16 + 6 * v + 6 * get_or ws 0 0) bytes) λ _.
    grants λ values. values ≡ (16 + 6 * v + 6 * get_or ws 0 0) ∷ []

-- "places the pieces in chain order, going on after a piece that is refused": each piece of the records rs is answered 12 to 14, or its
-- best position, against those placed before it, on a strip with Q records. "The answer adds pieces placed"; S-7: "Used length, of 32
-- bits, is the greatest right edge, 0 if none, and replaces used columns in the answer and the last line".
pub record LaidTotals (b : List ℕ) (g work Q : ℕ) (rs values : List ℕ) : Type 0 where
  pub pieces : List Piece
  pub are_pieces : Pieces b rs pieces
  pub answer : ℕ → Result Position Refusal
  pub fates :
      (m : ℕ) → m < length pieces →
      Answers
      (fate_questions (sheet_w b) (sheet_r b) (sheet_n b) g Q
      (OccupiedBefore (sheet_w b) (sheet_r b) (sheet_n b) g (λ l. (piece_at pieces l).outline) (λ l p. answer l ≡ Ok p) m)
      (piece_at pieces m).outline (piece_at pieces m).mask work)
      (placing (answer m))
  pub placed : ℕ
  pub used : ℕ
  pub counted : CountPlaced (λ m. fate_of (answer m)) (length pieces) placed
  pub reached : Used (sheet_r b) (λ m. (piece_at pieces m).outline) (λ m. fate_of (answer m)) (length pieces) used
  pub values_are : values ≡ placed ∷ used ∷ []

-- "lay 1 to 4, 6 to 11, 15", with 16 and 17 of S-1 and 21 of S-4: with values of which Given holds, told the number of records
-- and the piece records
unfoldable pub lay_questions_to : (ℕ → List ℕ → List ℕ → Type 0) → List ℕ → ℕ → ℕ → ℕ → Questions
unfolding Question4 Question6
lay_questions_to Given b g strip out =
    asks 1 0 (Question1 b) λ _.
    asks 2 0 (Question2 b) λ _.
    asks 3 0 (Question3 (sheet_w b)) λ _.
    asks 16 0 (Question16 (sheet_r b)) λ _.
    asks 17 0 (Question17 (sheet_n b)) λ _.
    asks 21 0 (Question21 g) λ _.
    asks 4 0 (Question4 (sheet_n b) strip) λ q4.
    asks 6 0 (Question6 b) λ q6.
    chain_questions b 1 q6.0
    (asks 15 0 (Question15 (4 * length q6.0) out) λ _.
    grants λ values. Given q4.0 q6.0 values)

abbrev pub lay_questions : List ℕ → ℕ → ℕ → ℕ → ℕ → Questions
lay_questions b g strip out work = lay_questions_to (LaidTotals b g work) b g strip out

-- What one granted place call does to any strip: its figures stay, and it holds the piece's cells as well.
pub record PlacedAlone (s o : List ℕ) (mask : ℕ) (p : Position) (s' : List ℕ) : Type 0 where
  pub best : Best (width_of s) (resolution_of s) (columns_of s) (gap_of s) (Holds s) o mask p
  pub well_formed : Question5 s'
  pub long : length s' ≡ length s
  pub width : width_of s' ≡ width_of s
  pub resolution : resolution_of s' ≡ resolution_of s
  pub columns : columns_of s' ≡ columns_of s
  pub gap : gap_of s' ≡ gap_of s
  pub holds : (i j : ℕ) → Holds s' i j ↔ (Holds s i j ⊎ cells_at (width_of s) (resolution_of s) (columns_of s) (gap_of s) o p i j)

-- And one granted commit.
pub record CommittedAlone (s o : List ℕ) (p : Position) (s' : List ℕ) : Type 0 where
  pub fits : Question18 (width_of s) (resolution_of s) (columns_of s) (gap_of s) (Holds s) o p
  pub well_formed : Question5 s'
  pub long : length s' ≡ length s
  pub width : width_of s' ≡ width_of s
  pub resolution : resolution_of s' ≡ resolution_of s
  pub columns : columns_of s' ≡ columns_of s
  pub gap : gap_of s' ≡ gap_of s
  pub holds : (i j : ℕ) → Holds s' i j ↔ (Holds s i j ⊎ cells_at (width_of s) (resolution_of s) (columns_of s) (gap_of s) o p i j)

pub record Demand1_numbers : Type 0 where
  pub open_asks :
      {W R N g : ℕ} {s s' : List ℕ} {a : Result Unit Refusal} → OpenStep W R N g s a s' → Answers (open_questions W R N g (length s)) (opening a)
  pub cover_asks :
      {o : List ℕ} {t R g : ℕ} {out out' : List ℕ} {a : Result ℕ Refusal} → CoverStep o t R g out a out' →
      Answers (cover_questions o t R g (length out)) (covering a)
  -- "For one place call alone, a cell is occupied if a run of the lent strip holds it."
  pub place_asks :
      {s o : List ℕ} {mask : ℕ} {work : List ℕ} {a : Result Position Refusal} {n : ℕ} {s' work' : List ℕ} → PlaceStep s o mask work a n s' work' →
      Answers (place_questions s (Holds s) o mask (length work)) (placing a)
  pub place_alone :
      {s o : List ℕ} {mask : ℕ} {work : List ℕ} {p : Position} {n : ℕ} {s' work' : List ℕ} →
      PlaceStep s o mask work (Ok p) n s' work' → PlacedAlone s o mask p s'
  pub ask_asks :
      {s o : List ℕ} {mask : ℕ} {work : List ℕ} {a : Result Position Refusal} {n : ℕ} {s' work' : List ℕ} → AskStep s o mask work a n s' work' →
      Answers (ask_questions s (Holds s) o mask (length work)) (asking a)
  pub commit_asks :
      {s o : List ℕ} {p : Position} {work s' work' : List ℕ} {a : Result Unit Refusal} → CommitStep s o p work a s' work' →
      Answers (commit_questions s (Holds s) o p (length work)) (committing a)
  pub commit_alone :
      {s o : List ℕ} {p : Position} {work s' work' : List ℕ} → CommitStep s o p work (Ok tt) s' work' → CommittedAlone s o p s'
  -- A call of a list: "A cell is occupied there if it is covered for a piece placed by an earlier call of the list".
  pub list_asks :
      {W R N g : ℕ} {x : Calls} → Trace W R N g x → (m : ℕ) → m < x.count →
      Answers (call_questions (x.strip m) (Occupied W R N g x.call m) (x.call m)) (outcome_in (x.call m))
  pub read_asks :
      {b out out' : List ℕ} {a : Result Figures Refusal} → ReadStep b out a out' → Answers (read_questions b (length out)) (reading a)
  pub write_asks :
      {W R N : ℕ} {ws out out' : List ℕ} {a : Result ℕ Refusal} → WriteStep W R N ws out a out' →
      Answers (write_questions W R N ws (length out)) (writing a)
  pub lay_asks :
      {b : List ℕ} {g : ℕ} {s out work s' out' work' : List ℕ} {a : Result Totals Refusal} → LayStep b g s out work a s' out' work' →
      Answers (lay_questions b g (length s) (length out) (length work)) (laying a)
  -- "and 12 to 14 only as a piece's fate": each piece of a laid job is placed at its best position or gets the first "no" of 12 to 14,
  -- against the pieces placed before it.
  pub lay_fates :
      {b : List ℕ} {g : ℕ} {s out work : List ℕ} {t : Totals} {s' out' work' : List ℕ} → LayStep b g s out work (Ok t) s' out' work' →
      (l : LaysList b g s t s' out' work) (Q : ℕ) → Length (sheet_n b) Q (length s) → (m : ℕ) → m < length l.pieces →
      Answers
      (fate_questions (sheet_w b) (sheet_r b) (sheet_n b) g Q (PlacedCells (sheet_w b) (sheet_r b) (sheet_n b) g l.list.call m)
      (l.list.call m).outline (l.list.call m).mask (length work))
      (placing (l.list.call m).answer)
