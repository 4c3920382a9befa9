-- The path that is written from an outline gives that outline, its first vertex by the move, and no coordinate has the sign.
-- Assumes nothing.
use mathlib.Core.Path.{◌≡◌, refl, ap, subst}
use mathlib.Core.Bool.{Bool, true}
use mathlib.Core.List.{List, [], ◌∷◌}
use Prim.Native.Nat.{ℕ, zero, suc, ◌+◌, ◌-◌, ◌*◌, ◌/◌, ◌%◌, ◌≤◌}
use native.Mathlib.Omega.{arith}
use lib.Dec.{leb}
use lib.ListN.{length}
use borrow.Author.Tests.{leb-true, le-leb}
use Rattle.std.specs.Prelude.{Ok}
use Rattle.defs.specs.Meaning.Limits.{most_coordinate}
use Rattle.defs.specs.Meaning.Question.{Question7}
use Rattle.defs.specs.Computing.Test.{all}
use Rattle.defs.specs.Computing.Calls.{q7b, q8b}
use Rattle.laws.proofs.Tests.{and_left, and_right}
use Rattle.laws.proofs.Questions.{question_7}
use Rattle.pathdefs.specs.Meaning.Path.{bits_of, Pair, pair, move, line, Steps, the_end, a_move, a_line, a_close, lines_then_close, Units, no_more, vertex, PathGives, Unsigned, path_size}
use Rattle.pathdefs.specs.Computing.Paths.{written_bits, lines_bytes, path_bytes, write_path_answer}
use Rattle.pathlaws.proofs.Written.{four_back, written_accepted, written_sign}

-- the coordinates that are written
unfoldable pub pairs_in : List ℕ → List Pair
pairs_in [] = []
pairs_in (x ∷ []) = []
pairs_in (x ∷ (y ∷ ws)) = pair (written_bits x) (written_bits y) ∷ pairs_in ws

back : (x y : ℕ) → pair (bits_of (x % 256) (x / 256 % 256) (x / 65536 % 256) (x / 16777216)) (bits_of (y % 256) (y / 256 % 256) (y / 65536 % 256) (y / 16777216)) ≡ pair x y
back x y = rw (four_back x, four_back y)

-- n vertices, each coordinate up to 16,000
pub record Lines (ws : List ℕ) (n : ℕ) : Type 0 where
  pub steps : Steps (lines_bytes ws) (lines_then_close (pairs_in ws))
  pub units : Units (pairs_in ws) ws
  pub signs : Unsigned (pairs_in ws)
  pub count : length (pairs_in ws) ≡ n
  pub bytes : length (lines_bytes ws) ≡ 9 * n + 1

abbrev small : List ℕ → Bool
small ws = all (λ x. leb x most_coordinate) ws

here : (x : ℕ) (ws : List ℕ) → small (x ∷ ws) ≡ true → x ≤ 16000
unfolding all
here x ws t = leb-true x most_coordinate (and_left _ _ t)

after : (x : ℕ) (ws : List ℕ) → small (x ∷ ws) ≡ true → small ws ≡ true
unfolding all
after x ws t = and_right (leb x most_coordinate) _ t

lines_written : (ws : List ℕ) (n : ℕ) → length ws ≡ 2 * n → small ws ≡ true → Lines ws n
unfolding lines_bytes pairs_in all
lines_written [] zero h t = record { steps = a_close the_end; units = no_more; signs = tt; count = refl; bytes = refl }
lines_written [] (suc n) h t = absurd (omega (arith, h))
lines_written (x ∷ []) n h t = absurd (omega (arith, h))
lines_written (x ∷ (y ∷ ws)) zero h t = absurd (omega (arith, h))
lines_written (x ∷ (y ∷ ws)) (suc n) h t =
    let u = after x (y ∷ ws) t in
    let hx = here x (y ∷ ws) t in
    let hy = here y ws u in
    let r = lines_written ws n (omega (arith, h)) (after y ws u) in
    record {
      steps =
          subst (λ (p : Pair). Steps (lines_bytes (x ∷ (y ∷ ws))) (line p ∷ lines_then_close (pairs_in ws)))
          (back (written_bits x) (written_bits y)) (a_line r.steps);
      units = vertex (written_accepted x hx) (written_accepted y hy) r.units;
      signs = ((written_sign x hx, written_sign y hy), r.signs);
      count = ap suc r.count;
      bytes = omega (arith, r.bytes);
    }

-- an outline that passes 7 and 8
pub record PathWritten (o : List ℕ) : Type 0 where
  pub gives : PathGives (path_bytes o) o
  pub signs : Unsigned (gives.first ∷ gives.others)
  pub bytes : length (path_bytes o) ≡ path_size o

written : (o : List ℕ) (n : ℕ) → length o ≡ 2 * suc n → 2 ≤ n → n ≤ 63 → small o ≡ true → PathWritten o
unfolding path_bytes all
written [] n h l m t = absurd (omega (arith, h))
written (x ∷ []) n h l m t = absurd (omega (arith, h))
written (x ∷ (y ∷ ws)) n h l m t =
    let u = after x (y ∷ ws) t in
    let hx = here x (y ∷ ws) t in
    let hy = here y ws u in
    let r = lines_written ws n (omega (arith, h)) (after y ws u) in
    record {
      gives = record {
        first = pair (written_bits x) (written_bits y);
        others = pairs_in ws;
        shape = record {
          lines = record { at_least = rw r.count l; at_most = rw r.count m };
          steps =
              subst (λ (p : Pair). Steps (path_bytes (x ∷ (y ∷ ws))) (move p ∷ lines_then_close (pairs_in ws)))
              (back (written_bits x) (written_bits y)) (a_move r.steps);
        };
        units = vertex (written_accepted x hx) (written_accepted y hy) r.units;
      };
      signs = ((written_sign x hx, written_sign y hy), r.signs);
      bytes = omega (arith, r.bytes, h);
    }

pub path_written : (o : List ℕ) → q7b o ≡ true → q8b o ≡ true → PathWritten o
unfolding q8b
path_written o s e =
    let q : Question7 o = (question_7 o).0 s in
    written o (length o / 2 - 1) (omega (arith, q.even, q.words.at_least)) (omega (arith, q.words.at_least)) (omega (arith, q.words.at_most)) e

pub written_is : (o : List ℕ) (bytes : ℕ) → q7b o ≡ true → q8b o ≡ true → path_size o ≤ bytes → write_path_answer o bytes ≡ Ok (path_size o)
unfolding write_path_answer
written_is o bytes s e l = rw (s, e, le-leb (path_size o) bytes l)
