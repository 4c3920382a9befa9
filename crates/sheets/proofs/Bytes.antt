-- Numbers and records where they were written: a list that has a record's bytes at its place gives its numbers back, and with the
-- vertex records of an outline it gives the outline back.
-- Assumes nothing.
use mathlib.Core.Path.{◌≡◌, refl, sym, ◌∙◌}
use mathlib.Core.List.{List, [], ◌∷◌, ◌++◌, append_assoc}
use Prim.Native.Nat.{ℕ, suc, ◌+◌, ◌*◌, ◌/◌, ◌%◌, ◌≤◌, ◌<◌}
use native.Mathlib.Omega.{arith}
use lib.ListN.{length, get_or, length-append}
use lib.Seq.{get_or-append-add}
use Rattle.defs.specs.Meaning.Sheet.{number_at, vertex_number, vertex_words, Chain, done}
use Rattle.defs.specs.Computing.Sheets.{record_bytes, outline_bytes}
use Rattle.sheets.proofs.Chains.{linked}

pub past : (b pre ys : List ℕ) (k j : ℕ) → b ≡ pre ++ ys → length pre ≡ k → get_or b (k + j) 0 ≡ get_or ys j 0
past b pre ys k j e l = rw (e, ← l) (get_or-append-add pre ys j 0)

-- a number whose bytes stand at place k
pub number_here : (b pre ys : List ℕ) (k j n : ℕ) → b ≡ pre ++ ys → length pre ≡ k →
    get_or ys j 0 ≡ n % 256 → get_or ys (j + 1) 0 ≡ n / 256 → number_at b (k + j) ≡ n
number_here b pre ys k j n e l f g =
    let i : k + j + 1 ≡ k + (j + 1) = omega arith in
    rw (i, past b pre ys k j e l, past b pre ys k (j + 1) e l, f, g) (omega arith)

-- the numbers of record r, vertex and piece records numbered through
pub record Told (b : List ℕ) (r x y z : ℕ) : Type 0 where
  pub first : vertex_number b r 0 ≡ x
  pub second : vertex_number b r 1 ≡ y
  pub next : vertex_number b r 2 ≡ z

-- a record whose bytes stand at its place
pub record_here : (b pre post : List ℕ) (r x y z : ℕ) → b ≡ pre ++ (record_bytes x y z ++ post) → length pre ≡ 10 + 6 * r →
    Told b r x y z
record_here b pre post r x y z e l =
    record {
      first = number_here b pre (record_bytes x y z ++ post) (10 + 6 * r) 0 x e l refl refl;
      second = number_here b pre (record_bytes x y z ++ post) (10 + 6 * r) 2 y e l refl refl;
      next = number_here b pre (record_bytes x y z ++ post) (10 + 6 * r) 4 z e l refl refl;
    }

-- The outline o is read back from the vertex records v, v + 1, ..
pub record OutlineRead (b : List ℕ) (most v : ℕ) (o : List ℕ) : Type 0 where
  pub records : List ℕ
  pub chain : Chain (λ r. vertex_number b r 2) most v records
  pub words : vertex_words b records ≡ o
  pub long : 2 * length records ≡ length o

even_tail : (n : ℕ) → suc (suc n) % 2 ≡ 0 → n % 2 ≡ 0
even_tail n e = omega arith

pub outline_read : (b pre post : List ℕ) (most v : ℕ) (o : List ℕ) → b ≡ pre ++ (outline_bytes v o ++ post) →
    length pre ≡ 10 + 6 * v → 0 < v → 2 * v + length o ≤ 2 * most + 2 → 0 < length o → length o % 2 ≡ 0 → OutlineRead b most v o
unfolding outline_bytes
outline_read b pre post most v [] e l p q s h = absurd (omega arith)
outline_read b pre post most v (x ∷ []) e l p q s h = absurd (omega arith)
outline_read b pre post most v (x ∷ (y ∷ [])) e l p q s h =
    let t = record_here b pre post v x y 0 e l in
    record {
      records = v ∷ [];
      chain = linked (λ r. vertex_number b r 2) p (omega arith) t.next done;
      words = rw (t.first, t.second);
      long = refl;
    }
outline_read b pre post most v (x ∷ (y ∷ (z ∷ ws))) e l p q s h =
    go
    (outline_read b (pre ++ here) post most (v + 1) (z ∷ ws) (e ∙ sym (append_assoc pre here _)) (length-append pre here ∙ omega arith)
    (omega arith) (omega arith) (omega arith) (even_tail (length (z ∷ ws)) h))
    (record_here b pre (outline_bytes (v + 1) (z ∷ ws) ++ post) v x y (v + 1) e l)
  where
    here : List ℕ
    here = record_bytes x y (v + 1)

    go : OutlineRead b most (v + 1) (z ∷ ws) → Told b v x y (v + 1) → OutlineRead b most v (x ∷ (y ∷ (z ∷ ws)))
    go i t =
        record {
          records = v ∷ i.records;
          chain = linked (λ r. vertex_number b r 2) p (omega arith) t.next i.chain;
          words = rw (t.first, t.second, i.words);
          long = omega (arith, i.long);
        }
