-- Lay on buffers passed as bytes, but for the work buffer, of which only the number of words is told. Assumes nothing.
use Rattle.std.specs.Prelude.{◌≡◌, List, ℕ, length, Result}
use Rattle.defs.specs.declared.Refusal.{Refusal}
use Rattle.defs.specs.declared.Totals.{Totals}
use Rattle.defs.specs.Computing.Lay.{lay_answer, lay_output, LayLeaves}
use Rattle.defs.specs.Computing.Bytes.{words_in, bytes_left}

pub record LaidBytes (sheet : List ℕ) (g : ℕ) (strip out : List ℕ) (work : ℕ) (a : Result Totals Refusal) (strip' out' : List ℕ) : Type 0 where
  pub words : List ℕ
  pub answer : a ≡ lay_answer sheet g (length (words_in strip)) (length (words_in out)) work
  pub leaves : LayLeaves sheet g (words_in strip) work a words
  pub strip_left : strip' ≡ bytes_left strip words
  pub out_left : out' ≡ bytes_left out (lay_output sheet g (words_in out) (length (words_in strip)) work a)
