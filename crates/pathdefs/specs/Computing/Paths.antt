-- What read_path and write_path answer, and what they leave in each lent buffer. Assumes nothing.
use Rattle.std.specs.Prelude.{◌≡◌, Bool, true, cond, ◌&&◌, ◌||◌, List, [], ◌∷◌, ◌++◌, ℕ, zero, suc, ◌+◌, ◌*◌, ◌-◌, ◌/◌, ◌%◌, ◌^◌, leb, ltb, eqb, length, get_or, drop, Result, Ok, Err}
use Rattle.std.specs.Float.Ieee.{size}
use Rattle.defs.specs.declared.Refusal.{Refusal}
use Rattle.defs.specs.Meaning.Limits.{most_coordinate}
use Rattle.defs.specs.Computing.Test.{ask}
use Rattle.defs.specs.Computing.Calls.{refusal, q7b, q8b}
use Rattle.pathdefs.specs.Meaning.Path.{bits_of, sign_of, exponent_of, magnitude, step_bytes, path_size}

-- the bits of the coordinate at byte i
abbrev pub bits_at : List ℕ → ℕ → ℕ
bits_at b i = bits_of (get_or b i 0) (get_or b (i + 1) 0) (get_or b (i + 2) 0) (get_or b (i + 3) 0)

-- eight times a coordinate, without its fraction
unfoldable pub units_of : ℕ → ℕ
units_of n = 8 * magnitude n / 2 ^ 150

unfoldable pub acceptedb : ℕ → Bool
acceptedb n =
    ltb (exponent_of n) 255 &&
    ((eqb (8 * magnitude n % 2 ^ 150) 0 && (eqb (sign_of n) 0 || eqb (magnitude n) 0)) && leb (units_of n) most_coordinate)

-- so many lines and the close are the first bytes
unfoldable pub linesb : ℕ → List ℕ → Bool
linesb zero b = eqb (get_or b 0 0) 3
linesb (suc n) b = let r = linesb n (drop step_bytes b) in eqb (get_or b 0 0) 2 && r

-- the vertices of a path of so many bytes
abbrev pub vertices_in : List ℕ → ℕ
vertices_in b = length b / step_bytes

unfoldable pub q19b : List ℕ → Bool
q19b b =
    (eqb (length b) (step_bytes * vertices_in b + 1) && (leb 3 (vertices_in b) && leb (vertices_in b) 64)) &&
    (eqb (get_or b 0 0) 1 && linesb (vertices_in b - 1) (drop step_bytes b))

-- of a path that passes 19, the coordinates of the first n vertices
unfoldable pub acceptsb : ℕ → List ℕ → Bool
acceptsb zero b = true
acceptsb (suc n) b =
    let r = acceptsb n (drop step_bytes b) in (acceptedb (bits_at b 1) && acceptedb (bits_at b 5)) && r

unfoldable pub q20b : List ℕ → Bool
q20b b = acceptsb (vertices_in b) b

-- and their words
unfoldable pub vertex_units : ℕ → List ℕ → List ℕ
vertex_units zero b = []
vertex_units (suc n) b = units_of (bits_at b 1) ∷ (units_of (bits_at b 5) ∷ vertex_units n (drop step_bytes b))

unfoldable pub path_words : List ℕ → List ℕ
path_words b = vertex_units (vertices_in b) b

-- read_path

unfoldable pub read_path_answer : List ℕ → ℕ → Result ℕ Refusal
read_path_answer b words =
    ask (q19b b) (Err (refusal 19 0)) λ _.
    ask (q20b b) (Err (refusal 20 0)) λ _.
    ask (leb (2 * vertices_in b) words) (Err (refusal 15 0)) λ _.
    Ok (2 * vertices_in b)

unfoldable pub read_path_output : List ℕ → List ℕ → Result ℕ Refusal → List ℕ
read_path_output b out (Ok n) = path_words b ++ drop n out
read_path_output b out (Err r) = out

-- write_path

-- The bits that are written for k units, which is k / 8 mm. Of k's binary digits the first is the leading 1, the others are the
-- fraction's first bits, and k / 8 has the exponent E = digits − 1 − 3 + 127: here E × 2^23 + T with the leading 1 added in. 0 is
-- written as plus zero.
unfoldable pub written_bits : ℕ → ℕ
written_bits k = cond (eqb k 0) 0 ((size k + 122) * 2 ^ 23 + k * 2 ^ (24 - size k))

-- "low byte first"
abbrev pub four_bytes : ℕ → List ℕ
four_bytes n = n % 256 ∷ (n / 256 % 256 ∷ (n / 65536 % 256 ∷ (n / 16777216 ∷ [])))

abbrev pub vertex_bytes : ℕ → ℕ → ℕ → List ℕ
vertex_bytes kind x y = kind ∷ (four_bytes (written_bits x) ++ four_bytes (written_bits y))

-- the lines and the close
unfoldable pub lines_bytes : List ℕ → List ℕ
lines_bytes [] = 3 ∷ []
lines_bytes (x ∷ []) = 3 ∷ []
lines_bytes (x ∷ (y ∷ ws)) = vertex_bytes 2 x y ++ lines_bytes ws

-- "with the first vertex as the move"
unfoldable pub path_bytes : List ℕ → List ℕ
path_bytes [] = []
path_bytes (x ∷ []) = []
path_bytes (x ∷ (y ∷ ws)) = vertex_bytes 1 x y ++ lines_bytes ws

unfoldable pub write_path_answer : List ℕ → ℕ → Result ℕ Refusal
write_path_answer o bytes =
    ask (q7b o) (Err (refusal 7 1)) λ _.
    ask (q8b o) (Err (refusal 8 1)) λ _.
    ask (leb (path_size o) bytes) (Err (refusal 15 0)) λ _.
    Ok (path_size o)

unfoldable pub write_path_output : List ℕ → List ℕ → Result ℕ Refusal → List ℕ
write_path_output o out (Ok n) = path_bytes o ++ drop n out
write_path_output o out (Err r) = out

-- The contracts of the calls.

pub record PathReadStep (b out : List ℕ) (a : Result ℕ Refusal) (out' : List ℕ) : Type 0 where
  pub answer : a ≡ read_path_answer b (length out)
  pub output : out' ≡ read_path_output b out a

pub record PathWriteStep (o out : List ℕ) (a : Result ℕ Refusal) (out' : List ℕ) : Type 0 where
  pub answer : a ≡ write_path_answer o (length out)
  pub output : out' ≡ write_path_output o out a
