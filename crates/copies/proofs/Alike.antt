-- Two vertex chains followed side by side: where what is left of them is the same, the whole chains are. Assumes nothing.
use mathlib.Core.Path.{◌≡◌, refl, sym, ap, ◌∙◌}
use mathlib.Core.Bool.{Bool, true, false, false≢true}
use mathlib.Core.List.{List, ◌∷◌}
use Prim.Native.Nat.{ℕ, suc, ◌+◌, ◌-◌, ◌<◌}
use native.Mathlib.Omega.{arith}
use Rattle.defs.specs.Meaning.Limits.{most_vertices}
use Rattle.defs.specs.Meaning.Sheet.{sheet_v, vertex_number, vertex_words}
use Rattle.defs.specs.Computing.Sheets.{piece_of, vertices_of}
use Rattle.laws.proofs.Walks.{chain_step}
use Rattle.reader.specs.Records.{record_number}
use Rattle.records.specs.Records.{next_vertex}
use Rattle.copies.specs.Copy.{words_from, SameVertices, Copy, StartsAt}

words_step : (b : List ℕ) (n r : ℕ) → 0 < r →
    words_from b (suc n) r ≡ vertex_number b r 0 ∷ (vertex_number b r 1 ∷ words_from b n (next_vertex b r))
words_step b n r p = ap (vertex_words b) (chain_step (next_vertex b) n r p)

-- vertex records i and j are next, and `left` and one more may come
pub record Alike (b : List ℕ) (x y i j left : ℕ) : Type 0 where
  pub rest : words_from b (left + 1) i ≡ words_from b (left + 1) j → words_from b (most_vertices + 1) x ≡ words_from b (most_vertices + 1) y

pub alike_start : (b : List ℕ) (x y : ℕ) → Alike b x y x y most_vertices
alike_start b x y = record { rest = λ e. e }

pub alike_next : {b : List ℕ} {x y i j left i' j' : ℕ} → Alike b x y i j left → 0 < left → 0 < i → 0 < j →
    vertex_number b i 0 ≡ vertex_number b j 0 → vertex_number b i 1 ≡ vertex_number b j 1 → i' ≡ next_vertex b i → j' ≡ next_vertex b j →
    Alike b x y i' j' (left - 1)
alike_next {b} {i = i} {j} {left} a some p q e0 e1 ei ej =
    let n : left + 1 ≡ suc (left - 1 + 1) = omega arith in
    rw (ei, ej)
    (record {
      rest =
          λ e.
          a.rest (rw n (words_step b (left - 1 + 1) i p ∙ rw (e0, e1, e) (sym (words_step b (left - 1 + 1) j q))));
    })

pub alike_end : {b : List ℕ} {x y i j left : ℕ} → Alike b x y i j left → i ≡ 0 → j ≡ 0 →
    words_from b (most_vertices + 1) x ≡ words_from b (most_vertices + 1) y
alike_end {b} {left = left} a e f = a.rest (rw (e, f) refl)

pub differ : (b : List ℕ) (x y : ℕ) → SameVertices b x y false
differ b x y = record { same = λ e. absurd (false≢true e) }

pub no_copy : (b : List ℕ) (last at lower : ℕ) → StartsAt b last at lower 0
no_copy b last at lower = record { most = omega arith; copy = λ p. absurd (omega arith) }

-- pieces with the same mask, and the same vertices from their first on
pub copy_of : (b : List ℕ) (last at : ℕ) {v x y m n : ℕ} {a : Bool} → v ≡ sheet_v b → x ≡ record_number b (v + last) 0 →
    y ≡ record_number b (v + at) 0 → m ≡ record_number b (v + last) 1 → n ≡ record_number b (v + at) 1 → m ≡ n → SameVertices b x y a →
    a ≡ true → Copy b last at
unfolding piece_of vertices_of
copy_of b last at ev ex ey em en e s h =
    record { outline = rw (ex, ey, ev) at (s.same h); mask = rw (em, en, ev) at e }
