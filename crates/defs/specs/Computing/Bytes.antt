-- "There a buffer may be passed as bytes, two to a word, low byte first; an odd last byte is no part of it and stays."
-- Assumes nothing.
use Rattle.std.specs.Prelude.{◌≡◌, List, [], ◌∷◌, ◌++◌, ℕ, ◌+◌, ◌*◌, take, Result}
use Rattle.defs.specs.declared.Refusal.{Refusal}
use Rattle.defs.specs.declared.Totals.{Totals}
use Rattle.defs.specs.declared.Position.{Position}
use Rattle.defs.specs.Computing.Calls.{cleared, OpenStep, PlaceStep, AskStep, CommitStep}
use Rattle.defs.specs.Computing.Sheets.{bytes_of}
use Rattle.defs.specs.Computing.Lay.{LayStep}

-- the words of a buffer passed as bytes
unfoldable pub words_in : List ℕ → List ℕ
words_in [] = []
words_in (a ∷ []) = []
words_in (a ∷ (b ∷ bs)) = (a + 256 * b) ∷ words_in bs

-- some words as bytes
unfoldable pub word_bytes : List ℕ → List ℕ
word_bytes [] = []
word_bytes (w ∷ ws) = bytes_of w ++ word_bytes ws

-- the odd last byte, if there is one
unfoldable pub odd_byte : List ℕ → List ℕ
odd_byte [] = []
odd_byte (a ∷ []) = a ∷ []
odd_byte (a ∷ (b ∷ bs)) = odd_byte bs

-- what the buffer is left as when its words have become ws
unfoldable pub bytes_left : List ℕ → List ℕ → List ℕ
bytes_left bs ws = word_bytes ws ++ odd_byte bs

-- Of a work buffer so many words are used: with no gap, three for each run of the outline that has most (`enough` of promises).
abbrev pub most_work : ℕ
most_work = 1536000

unfoldable pub work_in : List ℕ → List ℕ
work_in bs = take most_work (words_in bs)

-- The contracts of the calls on buffers passed as bytes: the same steps on the words of the buffers, and each buffer left with its
-- words. A sheet is bytes in any case.

pub record OpenBytesStep (W R N g : ℕ) (strip : List ℕ) (a : Result Unit Refusal) (strip' : List ℕ) : Type 0 where
  pub words : List ℕ
  pub step : OpenStep W R N g (words_in strip) a words
  pub strip_left : strip' ≡ bytes_left strip words

-- of a call on strip, outline and work buffer, whose step on words is Step
pub record OnBytes (Step : List ℕ → List ℕ → List ℕ → List ℕ → List ℕ → Type 0) (strip o work strip' work' : List ℕ) : Type 0 where
  pub words : List ℕ
  pub step : Step (words_in strip) (words_in o) (work_in work) words (cleared (work_in work))
  pub strip_left : strip' ≡ bytes_left strip words
  pub work_left : work' ≡ bytes_left work (cleared (words_in work))

abbrev pub PlaceBytesStep : List ℕ → List ℕ → ℕ → List ℕ → Result Position Refusal → ℕ → List ℕ → List ℕ → Type 0
PlaceBytesStep strip o mask work a tries strip' work' =
    OnBytes (λ s v w s' w'. PlaceStep s v mask w a tries s' w') strip o work strip' work'

abbrev pub AskBytesStep : List ℕ → List ℕ → ℕ → List ℕ → Result Position Refusal → ℕ → List ℕ → List ℕ → Type 0
AskBytesStep strip o mask work a tries strip' work' =
    OnBytes (λ s v w s' w'. AskStep s v mask w a tries s' w') strip o work strip' work'

abbrev pub CommitBytesStep : List ℕ → List ℕ → Position → List ℕ → Result Unit Refusal → List ℕ → List ℕ → Type 0
CommitBytesStep strip o p work a strip' work' = OnBytes (λ s v w s' w'. CommitStep s v p w a s' w') strip o work strip' work'

pub record LayBytesStep (sheet : List ℕ) (g : ℕ) (strip out work : List ℕ) (a : Result Totals Refusal) (strip' out' work' : List ℕ) : Type 0 where
  pub words : List ℕ
  pub out_words : List ℕ
  pub step : LayStep sheet g (words_in strip) (words_in out) (work_in work) a words out_words (cleared (work_in work))
  pub strip_left : strip' ≡ bytes_left strip words
  pub out_left : out' ≡ bytes_left out out_words
  pub work_left : work' ≡ bytes_left work (cleared (words_in work))
