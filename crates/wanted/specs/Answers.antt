-- A piece wanted on a strip: the answer to the strip's words, and the strip after it. Assumes nothing.
use Rattle.std.specs.Prelude.{◌≡◌, List, ℕ, ◌≤◌, length, get_or, Result, Ok}
use Rattle.defs.specs.declared.Refusal.{Refusal}
use Rattle.defs.specs.declared.Position.{Position}
use Rattle.defs.specs.Meaning.Limits.{leading_words}
use Rattle.defs.specs.Meaning.Strip.{width_of, resolution_of, columns_of, gap_of}
use Rattle.defs.specs.Computing.Cells.{Rows}
use Rattle.defs.specs.Computing.Words.{records_of, written}
use Rattle.defs.specs.Computing.Calls.{place_on, place_answer, tries_on, place_tries, commit_on, commit_answer, EnteredLeaves, PlaceLeaves}
use Rattle.tables.specs.Flat.{Flat, table_of}
use Rattle.encode.specs.Room.{Room}
use Rattle.best.specs.declared.laid.Board.{Board}
use Rattle.position.specs.Table.{NextIf}
use Rattle.commiton.specs.Commits.{placed_at}
use Rattle.wanted.specs.declared.Wanted.{Wanted}
use Rattle.wanted.specs.declared.Wanted.TheVariants.{Best, At}

-- the answers of place and of commit, on a strip that holds these runs and on a strip's words
unfoldable pub answer_on : Wanted → ℕ → ℕ → ℕ → ℕ → ℕ → List (List Rows) → List ℕ → ℕ → Result Position Refusal
answer_on (Best mask) W R N g Q held o words = place_on W R N g Q held o mask words
answer_on (At p) W R N g Q held o words = placed_at p (commit_on W R N g Q held o p words)

unfoldable pub answer_to : Wanted → List ℕ → List ℕ → ℕ → Result Position Refusal
answer_to (Best mask) s o words = place_answer s o mask words
answer_to (At p) s o words = placed_at p (commit_answer s o p words)

-- the tries of place; a commit makes none
unfoldable pub count_on : Wanted → ℕ → ℕ → ℕ → ℕ → List (List Rows) → List ℕ → ℕ → ℕ
count_on (Best mask) W R N g held o words = tries_on W R N g held o mask words
count_on (At p) W R N g held o words = 0

unfoldable pub count_to : Wanted → List ℕ → List ℕ → ℕ → ℕ
count_to (Best mask) s o words = place_tries s o mask words
count_to (At p) s o words = 0

pub record OnTable (f l h f' l' h' o : List ℕ) (W R N g Q : ℕ) (w : Wanted) (words : ℕ) (a : Result Position Refusal) (n : ℕ) : Type 0 where
  pub answer : a ≡ answer_on w W R N g Q (table_of f l h N) o words
  pub counted : n ≡ count_on w W R N g (table_of f l h N) o words
  pub next : NextIf f l h f' l' h' o W R N g Q a

-- a table to be written to strip s, with outline o at p
pub record Entered (s o : List ℕ) (p : Position) (f l h : List ℕ) : Type 0 where
  pub leading : leading_words ≤ length s
  pub flat : Flat f l h (columns_of s) (get_or f (columns_of s) 0)
  pub few : get_or f (columns_of s) 0 ≤ 16000
  pub room : Room (columns_of s) (get_or f (columns_of s) 0) (length s)
  pub left :
      EnteredLeaves s o p
      (written (width_of s) (resolution_of s) (columns_of s) (gap_of s) (records_of (columns_of s) (length s)) (table_of f l h (columns_of s)))

pub record Looked (s o : List ℕ) (w : Wanted) (words : ℕ) (a : Result Position Refusal) (n : ℕ) (f l h : List ℕ) : Type 0 where
  pub answer : a ≡ answer_to w s o words
  pub counted : n ≡ count_to w s o words
  pub next : (p : Position) → a ≡ Ok p → Entered s o p f l h

pub record Put (s o : List ℕ) (w : Wanted) (words : ℕ) (a : Result Position Refusal) (n : ℕ) (s' : List ℕ) : Type 0 where
  pub answer : a ≡ answer_to w s o words
  pub counted : n ≡ count_to w s o words
  pub leaves : PlaceLeaves s o a s'

abbrev pub OnBoard : Board → (f' l' h' o : List ℕ) → Wanted → ℕ → Result Position Refusal → ℕ → Type 0
OnBoard k f' l' h' o w words a n =
    OnTable k.first.now k.lows.now k.highs.now f' l' h' o k.figures.width k.figures.resolution k.figures.columns k.gap k.records w words a n
