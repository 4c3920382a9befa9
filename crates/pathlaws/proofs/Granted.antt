-- What is known where a call is granted. Assumes nothing.
use mathlib.Core.Path.{◌≡◌, sym, ap, ◌∙◌}
use mathlib.Core.List.{List, ◌++◌}
use Prim.Native.Nat.{ℕ, ◌*◌, ◌≤◌}
use native.Mathlib.Omega.{arith}
use lib.Dec.{leb}
use lib.ListN.{length, take, drop}
use lib.Seq.{take_at}
use borrow.Author.Tests.{leb-true}
use Rattle.std.specs.Prelude.{Ok, Err}
use Rattle.defs.specs.declared.Refusal.{Refusal}
use Rattle.defs.specs.Computing.Calls.{q7b, q8b, refusal}
use Rattle.laws.proofs.Tests.{asked}
use Rattle.laws.proofs.Granted.{no_grant, same_grant}
use Rattle.pathdefs.specs.Meaning.Path.{PathGives, path_size}
use Rattle.pathdefs.specs.Computing.Paths.{vertices_in, q19b, q20b, path_words, path_bytes, read_path_answer, read_path_output, write_path_answer, write_path_output, PathReadStep, PathWriteStep}
use Rattle.pathlaws.proofs.Shapes.{computed, path_gives, least, most}
use Rattle.pathlaws.proofs.Writes.{PathWritten, path_written}

-- a read of n words
pub record ReadGranted (b out out' : List ℕ) (n : ℕ) : Type 0 where
  pub gives : PathGives b (path_words b)
  pub long : length (path_words b) ≡ n
  pub room : n ≤ length out
  pub left : out' ≡ path_words b ++ drop n out
  pub front : take n out' ≡ path_words b
  -- of vertices
  pub least : 3 ≤ vertices_in b
  pub most : vertices_in b ≤ 64
  pub vertices : n ≡ 2 * vertices_in b

pub read_granted : {b out out' : List ℕ} {n : ℕ} → PathReadStep b out (Ok n) out' → ReadGranted b out out' n
unfolding read_path_answer read_path_output
read_granted {b} {out} {out'} {n} s =
    let e19 = asked (q19b b) _ (sym s.answer) (no_grant {r = refusal 19 0}) in
    let e20 = asked (q20b b) _ e19.1 (no_grant {r = refusal 20 0}) in
    let e15 = asked (leb (2 * vertices_in b) (length out)) _ e20.1 (no_grant {r = refusal 15 0}) in
    let g = path_gives b e19.0 e20.0 in
    let v : n ≡ 2 * vertices_in b = sym (same_grant e15.1) in
    let l : length (path_words b) ≡ n = (computed g).size ∙ sym v in
    record {
      gives = g;
      long = l;
      room = omega (arith, v, leb-true (2 * vertices_in b) (length out) e15.0);
      left = s.output;
      front = ap (take n) s.output ∙ take_at (path_words b) (drop n out) n l;
      least = least b e19.0;
      most = most b e19.0;
      vertices = v;
    }

-- a write of n bytes
pub record WriteGranted (o out out' : List ℕ) (n : ℕ) : Type 0 where
  pub written : PathWritten o
  pub long : length (path_bytes o) ≡ n
  pub room : n ≤ length out
  pub left : out' ≡ path_bytes o ++ drop n out
  pub front : take n out' ≡ path_bytes o

pub write_granted : {o out out' : List ℕ} {n : ℕ} → PathWriteStep o out (Ok n) out' → WriteGranted o out out' n
unfolding write_path_answer write_path_output
write_granted {o} {out} {out'} {n} s =
    let e7 = asked (q7b o) _ (sym s.answer) (no_grant {r = refusal 7 1}) in
    let e8 = asked (q8b o) _ e7.1 (no_grant {r = refusal 8 1}) in
    let e15 = asked (leb (path_size o) (length out)) _ e8.1 (no_grant {r = refusal 15 0}) in
    let w = path_written o e7.0 e8.0 in
    let z : n ≡ path_size o = sym (same_grant e15.1) in
    let l : length (path_bytes o) ≡ n = w.bytes ∙ sym z in
    record {
      written = w;
      long = l;
      room = omega (arith, z, leb-true (path_size o) (length out) e15.0);
      left = s.output;
      front = ap (take n) s.output ∙ take_at (path_bytes o) (drop n out) n l;
    }
