-- Place, ask and commit on buffers passed as bytes, step by step. Assumes nothing.
use Rattle.std.specs.Prelude.{◌≡◌, List, ℕ, ◌/◌, min, length, Result, Ok}
use Rattle.defs.specs.declared.Refusal.{Refusal}
use Rattle.defs.specs.declared.Position.{Position}
use Rattle.defs.specs.Computing.Calls.{cleared, EnteredLeaves}
use Rattle.defs.specs.Computing.Bytes.{words_in, most_work, bytes_left}
use Rattle.wanted.specs.declared.Wanted.{Wanted}
use Rattle.wanted.specs.Answers.{answer_to, count_to, Put}

-- on the words of a strip and an outline passed as bytes; what a refused call leaves of a copy does not matter
pub record PutWords (strip o : List ℕ) (w : Wanted) (work : ℕ) (a : Result Position Refusal) (n : ℕ) (words : List ℕ) : Type 0 where
  pub answer : a ≡ answer_to w (words_in strip) (words_in o) work
  pub counted : n ≡ count_to w (words_in strip) (words_in o) work
  pub leaves : (p : Position) → a ≡ Ok p → EnteredLeaves (words_in strip) (words_in o) p words

-- and the work buffer cleared
pub record PutCopy (strip o : List ℕ) (w : Wanted) (work : List ℕ) (a : Result Position Refusal) (n : ℕ) (words work' : List ℕ) : Type 0 where
  pub done : PutWords strip o w (min (length work / 2) most_work) a n words
  pub cleared_work : work' ≡ bytes_left work (cleared (words_in work))

-- and the strip put back
pub record PutBack (strip o : List ℕ) (w : Wanted) (work : List ℕ) (a : Result Position Refusal) (n : ℕ) (strip' work' : List ℕ) : Type 0 where
  pub words : List ℕ
  pub done : Put (words_in strip) (words_in o) w (min (length work / 2) most_work) a n words
  pub strip_left : strip' ≡ bytes_left strip words
  pub cleared_work : work' ≡ bytes_left work (cleared (words_in work))
