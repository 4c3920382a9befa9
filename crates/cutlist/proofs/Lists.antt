-- The pieces of a chain counted, and put one after another: what is left gives the whole.
-- Assumes nothing.
use mathlib.Core.Path.{◌≡◌, refl, sym, ap, ◌∙◌}
use mathlib.Core.List.{List, ◌∷◌, ◌++◌, map}
use Prim.Native.Nat.{ℕ, ◌+◌, ◌*◌, ◌≤◌}
use native.Mathlib.Omega.{arith}
use lib.ListN.{length, set, length-append}
use lib.Seq.{sets, length-sets}
use Rattle.defs.specs.Meaning.Sheet.{piece_words, pieces_words, list_words}
use Rattle.defs.specs.Computing.Sheets.{piece_of, piece_records, sheet_pieces}
use Rattle.laws.proofs.Stores.{sets_append}
use Rattle.laws.proofs.Walks.{chain_few}
use Rattle.std.specs.Prelude.{Option, Some, None}
use Rattle.words.specs.Put.{Put}
use Rattle.cutlist.specs.declared.chain.PieceRecords.{PieceRecords}
use Rattle.cutlist.specs.Pieces.{PieceAt, VertexEnds, AllEnd, end_more, PieceFits, PiecesRoom, PieceCounted, next_piece}
use Rattle.cutlist.specs.Along.{records_left, Along, Starts, Steps}

-- the words of the pieces of some records
abbrev pub words_of : List ℕ → List ℕ → List ℕ
words_of b rs = pieces_words (map (piece_of b) rs)

head_ends : {b : List ℕ} {r : ℕ} {rs : List ℕ} → AllEnd b (r ∷ rs) → VertexEnds b r
head_ends (end_more e a) = e

tail_end : {b : List ℕ} {r : ℕ} {rs : List ℕ} → AllEnd b (r ∷ rs) → AllEnd b rs
tail_end (end_more e a) = a

all_of : {b rs ss : List ℕ} → rs ≡ ss → AllEnd b rs → AllEnd b ss
all_of e a = rw e at a

-- a walk has at most 200 records
pub few_left : (s : PieceRecords) → length (records_left s) ≤ 200
few_left s = chain_few (next_piece s.sheet.now) 200 s.at

-- a step of a walk along the sheet: its record is in the sheet, and the walk goes on along it
module _ {b : List ℕ} {v : ℕ} {s : PieceRecords} (along : Along b v s) where
  pub step_along : {r : Option ℕ} {t : PieceRecords} → Steps s r t → Along b v t
  step_along y = record { sheet = y.same.sheet ∙ along.sheet; vertices = y.same.vertices ∙ along.vertices }

  pub step_here : {at : ℕ} {t : PieceRecords} → Steps s (Some at) t → PieceAt b v at
  step_here y = rw (along.sheet, along.vertices) at y.here

module _ (b : List ℕ) {at : ℕ} {s t : PieceRecords} (y : Steps s (Some at) t) where
  ends_here : AllEnd b (records_left s) → VertexEnds b at
  ends_here a = head_ends (all_of y.yields a)

  ends_after : AllEnd b (records_left s) → AllEnd b (records_left t)
  ends_after a = tail_end (all_of y.yields a)

  words_rest : words_of b (records_left s) ≡ piece_words (piece_of b at) ++ words_of b (records_left t)
  words_rest = ap (words_of b) y.yields

  long_rest : length (words_of b (records_left s)) ≡ length (piece_words (piece_of b at)) + length (words_of b (records_left t))
  long_rest = ap length words_rest ∙ length-append (piece_words (piece_of b at)) (words_of b (records_left t))

-- `total` words are counted
pub record Summing (b : List ℕ) (v : ℕ) (s : PieceRecords) (total : ℕ) : Type 0 where
  pub along : Along b v s
  pub all_end : AllEnd b (records_left s)
  pub few : total + 130 * length (records_left s) ≤ 26001
  pub sum : total + length (words_of b (records_left s)) ≡ length (list_words (sheet_pieces b))

pub sum_start : {b : List ℕ} {v : ℕ} {s : PieceRecords} → Starts b v s → AllEnd b (piece_records b) → Summing b v s 1
unfolding sheet_pieces
sum_start {b} {s = s} h a =
    record {
      along = h.along;
      all_end = all_of (sym h.all) a;
      few = omega (arith, few_left s);
      sum = rw h.all (omega arith);
    }

module _ {b : List ℕ} {v total : ℕ} {s t : PieceRecords} (h : Summing b v s total) where
  module _ {at : ℕ} (y : Steps s (Some at) t) where
    pub sum_here : PieceAt b v at
    sum_here = step_here h.along y

    pub sum_ends : VertexEnds b at
    sum_ends = ends_here b y h.all_end

    pub sum_next : {n : ℕ} → PieceCounted b at n → Summing b v t (total + n)
    sum_next c =
        record {
          along = step_along h.along y;
          all_end = ends_after b y h.all_end;
          few = omega (arith, h.few, c.few, ap length y.yields);
          sum = omega (arith, h.sum, c.count, long_rest b y);
        }

  pub sum_end : Steps s None t → total ≡ length (list_words (sheet_pieces b))
  sum_end y = omega (arith, h.sum, ap (λ (rs : List ℕ). length (words_of b rs)) y.yields.0)

-- the words before place o are put
pub record Listing (b : List ℕ) (v : ℕ) (out₀ out T : List ℕ) (s : PieceRecords) (o : ℕ) : Type 0 where
  pub along : Along b v s
  pub all_end : AllEnd b (records_left s)
  pub long : length out ≡ length out₀
  pub room : o + length (words_of b (records_left s)) ≤ length out₀
  pub words : sets out o (words_of b (records_left s)) ≡ T

pub list_start : {b : List ℕ} {v : ℕ} {out : List ℕ} {s : PieceRecords} → PiecesRoom b v out → Starts b v s →
    Listing b v out out (sets out 1 (pieces_words (sheet_pieces b))) s 1
unfolding sheet_pieces
list_start p h =
    record { along = h.along; all_end = all_of (sym h.all) p.all_end; long = refl; room = rw h.all p.room; words = rw h.all refl }

module _ {b : List ℕ} {v : ℕ} {out₀ out T : List ℕ} {o : ℕ} {s t : PieceRecords} (h : Listing b v out₀ out T s o) where
  module _ {at : ℕ} (y : Steps s (Some at) t) where
    pub list_fits : PieceFits b v at out o
    list_fits =
        record {
          here = step_here h.along y;
          whole = ends_here b y h.all_end;
          room = omega (arith, h.room, h.long, long_rest b y);
        }

    pub list_next : {out' : List ℕ} {o' : ℕ} → Put out out' o (piece_words (piece_of b at)) o' → Listing b v out₀ out' T t o'
    list_next q =
        record {
          along = step_along h.along y;
          all_end = ends_after b y h.all_end;
          long = ap length q.words ∙ length-sets out o (piece_words (piece_of b at)) ∙ h.long;
          room = omega (arith, h.room, long_rest b y, q.after);
          words =
              rw (q.words, q.after)
              (sym (sets_append out (piece_words (piece_of b at)) (words_of b (records_left t)) o) ∙
              ap (sets out o) (sym (words_rest b y)) ∙ h.words);
        }

  pub list_end : Steps s None t → out ≡ T
  list_end y = rw y.yields.0 at h.words

-- the count before the pieces
pub whole_list : (out out' ps : List ℕ) (count n : ℕ) → count ≡ n → out' ≡ sets (set out 0 count) 1 ps → out' ≡ sets out 0 (n ∷ ps)
whole_list out out' ps count n e f = f ∙ rw e
