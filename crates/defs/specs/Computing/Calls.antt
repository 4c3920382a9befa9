-- What cover, open, place, ask and commit answer, and what they leave in each lent buffer. Assumes nothing.
use Rattle.std.specs.Prelude.{◌≡◌, Bool, true, ◌&&◌, List, [], ◌∷◌, ◌++◌, ℕ, zero, suc, ◌+◌, ◌*◌, ◌%◌, ◌^◌, ◌<◌, ltb, leb, eqb, length, get_or, drop, replicate, Option, Some, None, Result, Ok, Err}
use Rattle.defs.specs.declared.Position.{Position}
use Rattle.defs.specs.declared.Refusal.{Refusal}
use Rattle.defs.specs.Meaning.Limits.{most_coordinate, most_mask, most_turn, leading_words, record_words}
use Rattle.defs.specs.Meaning.Strip.{width_of, resolution_of, columns_of, gap_of}
use Rattle.defs.specs.Meaning.Placing.{end_column, top}
use Rattle.defs.specs.Computing.Test.{ask, all}
use Rattle.defs.specs.Computing.Cells.{Rows, piece_runs, count_runs, ordersb, most_runs}
use Rattle.defs.specs.Computing.Words.{figures_no, resolutionb, gapb, lengthb, well_formedb, records_of, runs_of, columns_runs, written}
use Rattle.defs.specs.Computing.Search.{freeb, drop_n, best_below, entered}
use Rattle.defs.specs.Computing.Walk.{tries_below}

abbrev pub refusal : ℕ → ℕ → Refusal
refusal n k = record { number = n; ordinal = k }

-- what a call answers by the first "no" of its questions, 0 for none
abbrev pub passing : ℕ → Result Unit Refusal
passing zero = Ok tt
passing (suc k) = Err (refusal (suc k) 0)

-- The questions as tests. The mask of a cover or commit call with turn t is 2 ^ t.

unfoldable pub q7b : List ℕ → Bool
q7b o = eqb (length o % 2) 0 && (leb 6 (length o) && leb (length o) 128)

unfoldable pub q8b : List ℕ → Bool
q8b o = all (λ x. leb x most_coordinate) o

unfoldable pub q9b : ℕ → Bool
q9b mask = leb 1 mask && leb mask most_mask

unfoldable pub q11b : List ℕ → ℕ → ℕ → Bool
q11b o mask R = ltb 0 (most_runs o mask R 0 4)

unfoldable pub q12b : List ℕ → ℕ → ℕ → ℕ → ℕ → Bool
q12b o mask R g words = leb (3 * most_runs o mask R g 4) words

unfoldable pub q14b : ℕ → ℕ → ℕ → ℕ → List (List Rows) → List ℕ → Position → Bool
q14b W R g Q held o p = leb (count_runs (entered W R g held o p)) Q

unfoldable pub q18b : ℕ → ℕ → ℕ → ℕ → List (List Rows) → List ℕ → Position → Bool
q18b W R N g held o p =
    (leb (end_column R o p) N && leb (top o p) W) &&
    freeb p.height (piece_runs o p.turn R g) (drop_n p.column held)

-- The first of 7 to 11 that gets "no", else 0. `ninth` is the answer to 9.
unfoldable pub outline_no : List ℕ → Bool → ℕ → ℕ → ℕ
outline_no o ninth mask R =
    ask (q7b o) 7 λ _.
    ask (q8b o) 8 λ _.
    ask ninth 9 λ _.
    ask (ordersb o mask) 10 λ _.
    ask (q11b o mask R) 11 λ _.
    0

-- open

unfoldable pub open_answer : ℕ → ℕ → ℕ → ℕ → ℕ → Result Unit Refusal
open_answer W R N g words =
    let no = figures_no W R N g in
    ask (eqb no 0) (Err (refusal no 0)) λ _.
    ask (lengthb N words) (Err (refusal 4 0)) λ _.
    Ok tt

-- cover

unfoldable pub cover_answer : List ℕ → ℕ → ℕ → ℕ → ℕ → Result ℕ Refusal
cover_answer o t R g words =
    ask (resolutionb R) (Err (refusal 16 0)) λ _.
    ask (gapb g) (Err (refusal 21 0)) λ _.
    let no = outline_no o (leb t most_turn) (2 ^ t) R in
    ask (eqb no 0) (Err (refusal no 1)) λ _.
    ask (q12b o (2 ^ t) R g words) (Err (refusal 12 1)) λ _.
    Ok (count_runs (piece_runs o t R g))

-- place

-- 13 and 14, for the best position or none
unfoldable pub choose : ℕ → ℕ → ℕ → ℕ → List (List Rows) → List ℕ → Option Position → Result Position Refusal
choose W R g Q held o None = Err (refusal 13 1)
choose W R g Q held o (Some p) =
    ask (q14b W R g Q held o p) (Err (refusal 14 1)) λ _.
    Ok p

-- on a strip that holds these runs, column by column
unfoldable pub place_on : ℕ → ℕ → ℕ → ℕ → ℕ → List (List Rows) → List ℕ → ℕ → ℕ → Result Position Refusal
place_on W R N g Q held o mask words =
    let no = outline_no o (q9b mask) mask R in
    ask (eqb no 0) (Err (refusal no 1)) λ _.
    ask (q12b o mask R g words) (Err (refusal 12 1)) λ _.
    choose W R g Q held o (best_below W R N g held o mask 4)

unfoldable pub place_answer : List ℕ → List ℕ → ℕ → ℕ → Result Position Refusal
place_answer s o mask words =
    ask (well_formedb s) (Err (refusal 5 0)) λ _.
    place_on (width_of s) (resolution_of s) (columns_of s) (gap_of s) (records_of (columns_of s) (length s)) (columns_runs s) o mask words

-- ask: "the position that place would give, or its number"

unfoldable pub ask_answer : List ℕ → List ℕ → ℕ → ℕ → Result Position Refusal
ask_answer s o mask words = place_answer s o mask words

-- S-5: "Ask and place report the tries made over all allowed turns, …, 0 where a check before 13 refuses."

unfoldable pub tries_on : ℕ → ℕ → ℕ → ℕ → List (List Rows) → List ℕ → ℕ → ℕ → ℕ
tries_on W R N g held o mask words =
    ask (eqb (outline_no o (q9b mask) mask R) 0) 0 λ _.
    ask (q12b o mask R g words) 0 λ _.
    tries_below W R N g held o mask 4

unfoldable pub place_tries : List ℕ → List ℕ → ℕ → ℕ → ℕ
place_tries s o mask words =
    ask (well_formedb s) 0 λ _.
    tries_on (width_of s) (resolution_of s) (columns_of s) (gap_of s) (columns_runs s) o mask words

-- commit: "asks what place asks with that turn alone allowed", 18 "instead of 13"

-- on a strip that holds these runs, column by column
unfoldable pub commit_on : ℕ → ℕ → ℕ → ℕ → ℕ → List (List Rows) → List ℕ → Position → ℕ → Result Unit Refusal
commit_on W R N g Q held o p words =
    let no = outline_no o (leb p.turn most_turn) (2 ^ p.turn) R in
    ask (eqb no 0) (Err (refusal no 1)) λ _.
    ask (q12b o (2 ^ p.turn) R g words) (Err (refusal 12 1)) λ _.
    ask (q18b W R N g held o p) (Err (refusal 18 0)) λ _.
    ask (q14b W R g Q held o p) (Err (refusal 14 1)) λ _.
    Ok tt

unfoldable pub commit_answer : List ℕ → List ℕ → Position → ℕ → Result Unit Refusal
commit_answer s o p words =
    ask (well_formedb s) (Err (refusal 5 0)) λ _.
    commit_on (width_of s) (resolution_of s) (columns_of s) (gap_of s) (records_of (columns_of s) (length s)) (columns_runs s) o p words

-- What is left in the buffers.

-- cover's output: "three 16-bit words per run, by column then low … keeps the rest"
unfoldable pub rows_words : ℕ → List Rows → List ℕ
rows_words i [] = []
rows_words i (r ∷ rs) = i ∷ (r.low ∷ (r.high ∷ rows_words i rs))

unfoldable pub runs_words : ℕ → List (List Rows) → List ℕ
runs_words i [] = []
runs_words i (c ∷ cs) = rows_words i c ++ runs_words (i + 1) cs

unfoldable pub cover_output : List ℕ → ℕ → ℕ → ℕ → List ℕ → Result ℕ Refusal → List ℕ
cover_output o t R g out (Ok n) = runs_words 0 (piece_runs o t R g) ++ drop (3 * n) out
cover_output o t R g out (Err r) = out

-- "A work buffer is zero after each call."
abbrev pub cleared : List ℕ → List ℕ
cleared work = replicate (length work) 0

-- "Which record number carries which run, and the order of the free chain, is left open; the runs per column are not."
-- What every strip has in common that a granted open, place or commit may leave.
pub record Left (W R N g words : ℕ) (runs : ℕ → List Rows) (s : List ℕ) : Type 0 where
  pub well_formed : well_formedb s ≡ true
  pub long : length s ≡ words
  pub width : width_of s ≡ W
  pub resolution : resolution_of s ≡ R
  pub columns : columns_of s ≡ N
  pub gap : gap_of s ≡ g
  pub holds : (k : ℕ) → k < N → runs_of s k ≡ runs k

-- "Opening makes all columns empty."
unfoldable pub OpenLeaves : ℕ → ℕ → ℕ → ℕ → List ℕ → Result Unit Refusal → List ℕ → Type 0
OpenLeaves W R N g s (Ok tt) s' = Left W R N g (length s) (λ k. []) s'
OpenLeaves W R N g s (Err r) s' = s' ≡ s

-- "the piece's cells are added, touching runs joined": the strip with the outline entered at p.
abbrev pub EnteredLeaves : List ℕ → List ℕ → Position → List ℕ → Type 0
EnteredLeaves s o p s' =
    Left (width_of s) (resolution_of s) (columns_of s) (gap_of s) (length s)
    (λ k. get_or (entered (width_of s) (resolution_of s) (gap_of s) (columns_runs s) o p) k []) s'

-- "Strip and output keep their words at a refusal."
unfoldable pub PlaceLeaves : List ℕ → List ℕ → Result Position Refusal → List ℕ → Type 0
PlaceLeaves s o (Ok p) s' = EnteredLeaves s o p s'
PlaceLeaves s o (Err r) s' = s' ≡ s

unfoldable pub CommitLeaves : List ℕ → List ℕ → Position → Result Unit Refusal → List ℕ → Type 0
CommitLeaves s o p (Ok tt) s' = EnteredLeaves s o p s'
CommitLeaves s o p (Err r) s' = s' ≡ s

-- One strip among them, for a table that goes on from call to call.
unfoldable pub opened_strip : ℕ → ℕ → ℕ → ℕ → ℕ → List ℕ
opened_strip W R N g words = written W R N g (records_of N words) (replicate N [])

unfoldable pub placed_strip : List ℕ → List ℕ → Result Position Refusal → List ℕ
placed_strip s o (Ok p) =
    written (width_of s) (resolution_of s) (columns_of s) (gap_of s) (records_of (columns_of s) (length s))
    (entered (width_of s) (resolution_of s) (gap_of s) (columns_runs s) o p)
placed_strip s o (Err r) = s

pub record Lent : Type 0 where
  pub outline : List ℕ
  pub mask : ℕ
  pub words : ℕ

unfoldable pub place_all : List ℕ → List Lent → List (Result Position Refusal)
place_all s [] = []
place_all s (c ∷ cs) =
    let a = place_answer s c.outline c.mask c.words in
    a ∷ place_all (placed_strip s c.outline a) cs

-- The answers of a list of place calls on a strip opened with W, R, N, g and Q.
unfoldable pub list_answers : ℕ → ℕ → ℕ → ℕ → ℕ → List Lent → List (Result Position Refusal)
list_answers W R N g Q cs = place_all (opened_strip W R N g (leading_words + N + record_words * Q)) cs

-- The tries of such a list.
unfoldable pub tries_all : List ℕ → List Lent → List ℕ
tries_all s [] = []
tries_all s (c ∷ cs) =
    let a = place_answer s c.outline c.mask c.words in
    place_tries s c.outline c.mask c.words ∷ tries_all (placed_strip s c.outline a) cs

unfoldable pub list_tries : ℕ → ℕ → ℕ → ℕ → ℕ → List Lent → List ℕ
list_tries W R N g Q cs = tries_all (opened_strip W R N g (leading_words + N + record_words * Q)) cs

-- The contracts of the calls.

pub record OpenStep (W R N g : ℕ) (s : List ℕ) (a : Result Unit Refusal) (s' : List ℕ) : Type 0 where
  pub answer : a ≡ open_answer W R N g (length s)
  pub strip : OpenLeaves W R N g s a s'

pub record CoverStep (o : List ℕ) (t R g : ℕ) (out : List ℕ) (a : Result ℕ Refusal) (out' : List ℕ) : Type 0 where
  pub answer : a ≡ cover_answer o t R g (length out)
  pub output : out' ≡ cover_output o t R g out a

-- S-2: "Place stays as ask and commit together", which is `Place_is_ask_and_commit` of claims/specs/Asking.
pub record PlaceStep (s o : List ℕ) (mask : ℕ) (work : List ℕ) (a : Result Position Refusal) (tries : ℕ) (s' work' : List ℕ) : Type 0 where
  pub answer : a ≡ place_answer s o mask (length work)
  pub counted : tries ≡ place_tries s o mask (length work)
  pub strip : PlaceLeaves s o a s'
  pub zeros : work' ≡ cleared work

-- "Ask answers the position that place would give, or its number, and changes no strip word."
pub record AskStep (s o : List ℕ) (mask : ℕ) (work : List ℕ) (a : Result Position Refusal) (tries : ℕ) (s' work' : List ℕ) : Type 0 where
  pub answer : a ≡ ask_answer s o mask (length work)
  pub counted : tries ≡ place_tries s o mask (length work)
  pub strip : s' ≡ s
  pub zeros : work' ≡ cleared work

-- "Commit takes strip, outline, turn, column, height and a work buffer, asks what place asks with that turn alone allowed, and
-- enters the cells if that position is on the strip and free."
pub record CommitStep (s o : List ℕ) (p : Position) (work : List ℕ) (a : Result Unit Refusal) (s' work' : List ℕ) : Type 0 where
  pub answer : a ≡ commit_answer s o p (length work)
  pub strip : CommitLeaves s o p a s'
  pub zeros : work' ≡ cleared work
