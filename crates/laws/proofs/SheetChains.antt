-- A sheet's chains as lists of records, walked and as document 01 says it; and the tests of questions 6 and 7 of a sheet.
-- Assumes nothing.
use mathlib.Core.Path.{◌≡◌, refl, ap, ◌∙◌}
use mathlib.Core.Bool.{true, ◌&&◌}
use mathlib.Core.List.{List, [], ◌∷◌}
use Prim.Native.Nat.{ℕ, zero, suc, ◌+◌, ◌*◌, ◌≤◌}
use native.Mathlib.Omega.{arith}
use native.Mathlib.Nat.{zero-lt-suc}
use lib.ListN.{length}
use Rattle.defs.specs.Meaning.Limits.{most_vertices, most_pieces}
use Rattle.defs.specs.Meaning.Sheet.{sheet_v, sheet_p, first_piece, vertex_number, piece_number, Chain, done, link, vertex_words, VertexChain}
use Rattle.defs.specs.Meaning.Question.{Question6, Question7, Question7Sheet}
use Rattle.defs.specs.Computing.Test.{chain_by, ends_by}
use Rattle.defs.specs.Computing.Calls.{q7b}
use Rattle.defs.specs.Computing.Sheets.{q6b, piece_of, vertices_of}
use Rattle.laws.proofs.Tests.{Decides, and_decides, decides_by}
use Rattle.laws.proofs.Questions.{question_7}
use Rattle.laws.proofs.Walks.{chain_zero, chain_step, chain_few, zero_ends_by, ends_step, no_room}

-- a walk that ends lists the chain
pub chain_of_lem : (next : ℕ → ℕ) (most n r : ℕ) → ends_by next most n r ≡ true → Chain next most r (chain_by next n r)
chain_of_lem next most zero zero e = rw (chain_zero next 0) done
chain_of_lem next most zero (suc r) e = absurd (no_room next most (suc r) (zero-lt-suc r) e)
chain_of_lem next most (suc n) zero e = rw (chain_zero next (suc n)) done
chain_of_lem next most (suc n) (suc r) e =
    let t = (ends_step next most n (suc r) (zero-lt-suc r)).0 e in
    rw (chain_step next n (suc r) (zero-lt-suc r)) (link (zero-lt-suc r) t.0 (chain_of_lem next most n (next (suc r)) t.1))

-- and a chain is listed by each walk with room for it
pub chain_ends : {next : ℕ → ℕ} {most r : ℕ} {rs : List ℕ} (n : ℕ) → Chain next most r rs → length rs ≤ n →
    ends_by next most n r ≡ true
chain_ends {next} {most} n done l = zero_ends_by next most n
chain_ends zero (link p q c) l = absurd (omega arith)
chain_ends {next} {most} {r} (suc n) (link p q c) l = (ends_step next most n r p).1 (q, chain_ends n c (omega arith))

pub chain_is : {next : ℕ → ℕ} {most r : ℕ} {rs : List ℕ} (n : ℕ) → Chain next most r rs → length rs ≤ n →
    chain_by next n r ≡ rs
chain_is {next} n done l = chain_zero next n
chain_is zero (link p q c) l = absurd (omega arith)
chain_is {next} {most} {r} (suc n) (link p q c) l =
    chain_step next n r p ∙ ap (λ (t : List ℕ). r ∷ t) (chain_is n c (omega arith))

pub question_6 : (b : List ℕ) → Decides (q6b b) (Question6 b)
unfolding q6b Question6
question_6 b = (
  λ e. (_, record { chain = chain_of_lem _ (sheet_p b) most_pieces (first_piece b) e; most = chain_few _ most_pieces (first_piece b) }),
  λ q. chain_ends most_pieces q.1.chain q.1.most,
)

pub length-vertex_words : (b vs : List ℕ) → length (vertex_words b vs) ≡ 2 * length vs
length-vertex_words b [] = refl
length-vertex_words b (v ∷ vs) = omega (arith, length-vertex_words b vs)

-- 7 of piece record r: the chain ends within 64 vertices, and they are enough
pub question_7_sheet : (b : List ℕ) (r : ℕ) →
    Decides
    (ends_by (λ v. vertex_number b v 2) (sheet_v b) most_vertices (piece_number b r 0) && q7b (piece_of b r).outline)
    (Question7Sheet b r)
unfolding Question7Sheet piece_of vertices_of
question_7_sheet b r =
    decides_by forth back (and_decides (λ e. e, λ e. e) (question_7 (vertex_words b (chain_by next (most_vertices + 1) first))))
  where
    next : ℕ → ℕ
    next v = vertex_number b v 2

    first : ℕ
    first = piece_number b r 0

    -- the list of a chain that ends within 64 is the same with more room
    listed : ends_by next (sheet_v b) most_vertices first ≡ true → chain_by next (most_vertices + 1) first ≡ chain_by next most_vertices first
    listed e =
        chain_is (most_vertices + 1) (chain_of_lem next (sheet_v b) most_vertices first e) (omega (arith, chain_few next most_vertices first))

    words : List ℕ
    words = vertex_words b (chain_by next (most_vertices + 1) first)

    forth : (ends_by next (sheet_v b) most_vertices first ≡ true) × Question7 words → (vs : List ℕ) × VertexChain b r vs
    forth h = (
      chain_by next most_vertices first,
      record {
        chain = chain_of_lem next (sheet_v b) most_vertices first h.0;
        count =
            record {
              at_least =
                  omega (arith, h.1.words.at_least, length-vertex_words b (chain_by next (most_vertices + 1) first), ap length (listed h.0));
              at_most = chain_few next most_vertices first;
            };
      },
    )

    back : (vs : List ℕ) × VertexChain b r vs → (ends_by next (sheet_v b) most_vertices first ≡ true) × Question7 words
    back q =
        let few = q.1.count.at_most in
        let long = length-vertex_words b (chain_by next (most_vertices + 1) first) in
        let is = ap length (chain_is (most_vertices + 1) q.1.chain (omega arith)) in (
          chain_ends most_vertices q.1.chain few,
          record {
            even = omega arith;
            words = record { at_least = omega (arith, q.1.count.at_least); at_most = omega arith };
          },
        )
