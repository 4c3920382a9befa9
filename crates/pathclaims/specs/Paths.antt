-- What is promised of paths (S-3): the questions of both calls in the manner of claims/specs/Numbers, what the calls leave in the output,
-- that a path that is written reads back, and that nothing is rounded. Assumes nothing.
use Rattle.std.specs.Prelude.{◌≡◌, ◌⊎◌, List, [], ◌∷◌, ℕ, ◌^◌, ◌≤◌, ◌<◌, length, take, Result, Ok, Err}
use Rattle.defs.specs.declared.Refusal.{Refusal}
use Rattle.defs.specs.Answer.{writing}
use Rattle.defs.specs.Meaning.Limits.{most_coordinate}
use Rattle.defs.specs.Meaning.Question.{Question7, Question8, Question15}
use Rattle.claims.specs.Demand1.{Past}
use Rattle.claims.specs.Numbers.{Questions, asks, grants, Answers}
use Rattle.pathdefs.specs.Answer.{path_reading}
use Rattle.pathdefs.specs.Meaning.Path.{Accepted, Question19, Question20, PathGives, Unsigned, path_size}
use Rattle.pathdefs.specs.Computing.Paths.{written_bits, path_bytes, PathReadStep, PathWriteStep}

-- "19 for a path of another shape, 20 for a coordinate not accepted, the shape of the whole path first"; then 15. The answer is the number
-- of the outline's words.
abbrev pub read_path_questions : List ℕ → ℕ → Questions
read_path_questions path words =
    asks 19 0 (Question19 path) λ _.
    asks 20 0 (Question20 path) λ q20.
    asks 15 0 (Question15 (length q20.outline) words) λ _.
    grants λ values. values ≡ length q20.outline ∷ []

-- "Writing a path from an outline, once 7 and 8 pass"; then 15. The answer is the number of the path's bytes.
abbrev pub write_path_questions : List ℕ → ℕ → Questions
write_path_questions o bytes =
    asks 7 1 (Question7 o) λ _.
    asks 8 1 (Question8 o) λ _.
    asks 15 0 (Question15 (path_size o) bytes) λ _.
    grants λ values. values ≡ path_size o ∷ []

-- A path reads as an outline.
unfoldable pub ReadsAs : List ℕ → List ℕ → Type 0
ReadsAs path o =
    (a : Result ℕ Refusal) (out out' : List ℕ) → PathReadStep path out a out' → length o ≤ length out →
    (a ≡ Ok (length o)) × (take (length o) out' ≡ o)

-- "Writing a path from an outline, once 7 and 8 pass, gives one that reads back as that outline, with the first vertex as the move"
-- (PathGives), and "minus zero … is never written".
pub record ReadsBack (o path : List ℕ) : Type 0 where
  pub gives : PathGives path o
  pub unsigned : Unsigned (gives.first ∷ gives.others)
  pub reads : ReadsAs path o

-- And the other way round: the outline o that a granted read gave is written where the output has room, and the path reads as o again.
pub record ReadsAgain (o : List ℕ) : Type 0 where
  pub granted :
      (a : Result ℕ Refusal) (out out' : List ℕ) → PathWriteStep o out a out' → path_size o ≤ length out → a ≡ Ok (path_size o)
  pub again : (n : ℕ) (out out' : List ℕ) → PathWriteStep o out (Ok n) out' → ReadsAs (take n out') o

abbrev pub AreBytes : List ℕ → Type 0
AreBytes [] = Unit {0}
AreBytes (b ∷ bs) = (b < 256) × AreBytes bs

pub record Paths : Type 0 where
  -- the numbers
  pub read_asks :
      {path out out' : List ℕ} {a : Result ℕ Refusal} → PathReadStep path out a out' →
      Answers (read_path_questions path (length out)) (path_reading a)
  pub write_asks :
      {o out out' : List ℕ} {a : Result ℕ Refusal} → PathWriteStep o out a out' → Answers (write_path_questions o (length out)) (writing a)
  -- "Strip and output keep their words at a refusal."; where a call is granted, what is past the output stays.
  pub read_keeps : {path out out' : List ℕ} {r : Refusal} → PathReadStep path out (Err r) out' → out' ≡ out
  pub write_keeps : {o out out' : List ℕ} {r : Refusal} → PathWriteStep o out (Err r) out' → out' ≡ out
  pub read_past : {path out out' : List ℕ} {n : ℕ} → PathReadStep path out (Ok n) out' → Past n out out'
  pub write_past : {o out out' : List ℕ} {n : ℕ} → PathWriteStep o out (Ok n) out' → Past n out out'
  -- A granted read leaves the outline that the path gives. A path gives no two outlines.
  pub read_gives : {path out out' : List ℕ} {n : ℕ} → PathReadStep path out (Ok n) out' → PathGives path (take n out')
  pub one_outline : {path o o' : List ℕ} → PathGives path o → PathGives path o' → o ≡ o'
  -- Written and read; read, written and read.
  pub reads_back : {o out out' : List ℕ} {n : ℕ} → PathWriteStep o out (Ok n) out' → ReadsBack o (take n out')
  pub reads_again : {path out out' : List ℕ} {n : ℕ} → PathReadStep path out (Ok n) out' → ReadsAgain (take n out')
  -- What is written is fixed by the words of S-3 alone: bytes that give an outline, without the sign, are those that are written.
  pub only_path :
      {path o : List ℕ} → AreBytes path → (g : PathGives path o) → Unsigned (g.first ∷ g.others) → path ≡ path_bytes o
  -- Nothing is rounded: 32 bits stand for one number of units at most, every number from 0 to 16,000 has bits, and no others are accepted
  -- but those of minus zero.
  pub one_number : (n k l : ℕ) → Accepted n k → Accepted n l → k ≡ l
  pub every_number : (k : ℕ) → k ≤ most_coordinate → Accepted (written_bits k) k
  pub only_bits : (n k : ℕ) → n < 2 ^ 32 → Accepted n k → (n ≡ written_bits k) ⊎ ((n ≡ 2 ^ 31) × (k ≡ 0))
