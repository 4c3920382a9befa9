-- What is known of a path after each of its questions. Assumes nothing.
use Rattle.std.specs.Prelude.{◌≡◌, Bool, true, false, List, ℕ, ◌+◌, ◌*◌, ◌≤◌, length, take, Option, Some, None}
use Rattle.pathdefs.specs.Meaning.Path.{step_bytes}
use Rattle.pathdefs.specs.Computing.Paths.{vertices_in, q19b, q20b, path_words}

-- as long as a path of n vertices
pub record Long (b : List ℕ) (n : ℕ) : Type 0 where
  pub long : length b ≡ step_bytes * n + 1
  pub least : 3 ≤ n
  pub most : n ≤ 64

-- 19 is passed by n vertices
pub record Shaped (b : List ℕ) (n : ℕ) : Type 0 where
  pub nineteen : q19b b ≡ true
  pub count : n ≡ vertices_in b

pub record Unshaped (b : List ℕ) : Type 0 where
  pub fails : q19b b ≡ false

abbrev pub Shapes : List ℕ → Option ℕ → Type 0
Shapes b (Some n) = Shaped b n
Shapes b None = Unshaped b

-- 20 is answered; where it is passed, the words of n vertices stand at the start
pub record Accepts (b : List ℕ) (n : ℕ) (r : Bool) (words : List ℕ) : Type 0 where
  pub twenty : r ≡ q20b b
  pub kept : r ≡ true → take (2 * n) words ≡ path_words b
