-- Copies of a piece: where no free position of an outline in its allowed turns has a right edge before some place, none has when more cells
-- are held; and a piece that is placed, or has no place, says so of its copies.
-- Assumes nothing.
use mathlib.Core.Path.{◌≡◌, refl, ap, subst}
use mathlib.Core.Logic.{inl, ⊎_elim}
use mathlib.Core.Bool.{Bool, true, false}
use mathlib.Core.List.{List}
use Prim.Native.Nat.{ℕ, zero, suc, ◌+◌, ◌*◌, ◌≤◌, ◌<◌}
use native.Mathlib.Omega.{arith}
use lib.Dec.{eqb, eqb-suc-zero}
use Rattle.std.specs.Prelude.{Option, Some, None, Result, Ok, Err}
use Rattle.defs.specs.declared.Position.{Position}
use Rattle.defs.specs.declared.Refusal.{Refusal}
use Rattle.defs.specs.Meaning.Outline.{sides, KeepsOrder}
use Rattle.defs.specs.Meaning.Turn.{turned, extent_x, extent_y, Allows}
use Rattle.defs.specs.Meaning.Placing.{columns_for, right_edge, Free, Fits, Later, Best}
use Rattle.defs.specs.Meaning.Question.{Question10, Question13}
use Rattle.defs.specs.Computing.Test.{ask}
use Rattle.defs.specs.Computing.Cells.{Rows, piece_runs, ordersb}
use Rattle.defs.specs.Computing.Search.{freeb, drop_n, position, best_below, entered}
use Rattle.defs.specs.Computing.Calls.{refusal, q7b, q8b, q9b, q11b, q12b, q14b, outline_no, choose, place_on}
use Rattle.laws.proofs.Order.{same_or_not}
use Rattle.tables.proofs.Tables.{In, Table}
use Rattle.tables.proofs.FreeTest.{free_decides}
use Rattle.tables.proofs.Entered.{entered_cells}
use Rattle.tables.proofs.Searching.{best_found, none_found}

-- no free position of the outline in an allowed turn has its right edge before `lower`
pub record NoneBefore (W R N g : ℕ) (held : List (List Rows)) (o : List ℕ) (mask lower : ℕ) : Type 0 where
  pub none : (q : Position) → Fits W R N g (In held) o mask q → lower ≤ right_edge R o q

pub none_before_0 : (W R N g : ℕ) (held : List (List Rows)) (o : List ℕ) (mask : ℕ) → NoneBefore W R N g held o mask 0
none_before_0 W R N g held o mask = record { none = λ q f. omega arith }

-- it stays so when more cells are held
pub more_held : {W R N g : ℕ} {held held' : List (List Rows)} {o : List ℕ} {mask lower : ℕ} →
    ((i j : ℕ) → In held i j → In held' i j) → NoneBefore W R N g held o mask lower → NoneBefore W R N g held' o mask lower
unfolding Free
more_held more h =
    record {
      none =
          λ q f.
          h.none q
          (record { allowed = f.allowed; on_strip = f.on_strip; free = λ i j c taken. f.free i j c (more i j taken) });
    }

-- a position of an allowed turn whose right edge is before that is not free
pub not_free : {W R N g : ℕ} {held : List (List Rows)} {o : List ℕ} {mask lower t : ℕ} → NoneBefore W R N g held o mask lower → Allows mask t →
    KeepsOrder (turned o t) → 0 < sides o → 1 ≤ R → Table W N held → (c y : ℕ) → c * R + extent_x o t < lower →
    c + columns_for (extent_x o t) R ≤ N → y + extent_y o t ≤ W → ¬ (freeb y (piece_runs o t R g) (drop_n c held) ≡ true)
unfolding right_edge
not_free {W} {R} {N} {g} {held} {o} {mask} {lower} {t} h allows keeps some_side Rpos table c y before columns rows e =
    let at_Edge =
    h.none (position t c y)
    (record {
      allowed = allows;
      on_strip = record { columns = columns; rows = rows };
      free = (free_decides W R N g held o (position t c y) keeps some_side Rpos table).0 e;
    }) in
    omega (arith, at_Edge)

-- no question from 7 to 11 is 13
not_13 : (a b c d e : Bool) → ¬ (◌≡◌ {A = ℕ} (ask a 7 λ _. ask b 8 λ _. ask c 9 λ _. ask d 10 λ _. ask e 11 λ _. 0) 13)
not_13 false b c d e q = omega arith
not_13 true false c d e q = omega arith
not_13 true true false d e q = omega arith
not_13 true true true false e q = omega arith
not_13 true true true true false q = omega arith
not_13 true true true true true q = omega arith

-- the answer by its questions: a position that is placed is the best, and 13 says that there is none
module _ (W R N g Q : ℕ) (held : List (List Rows)) (o : List ℕ) (mask words : ℕ) where
  outline_not_13 : ¬ (outline_no o (q9b mask) mask R ≡ 13)
  unfolding outline_no
  outline_not_13 = not_13 (q7b o) (q8b o) (q9b mask) (ordersb o mask) (q11b o mask R)

  -- what an answer says of the best position
  abbrev Says : Option Position → Result Position Refusal → Type 0
  Says x (Ok p) = x ≡ Some p
  Says x (Err r) = r.number ≡ 13 → x ≡ None

  says : Says (best_below W R N g held o mask 4) (place_on W R N g Q held o mask words)
  unfolding place_on choose
  says = go (outline_no o (q9b mask) mask R) outline_not_13 (q12b o mask R g words) (best_below W R N g held o mask 4)
    where
      last : (p : Position) (b : Bool) → Says (Some p) (ask b (Err (refusal 14 1)) λ _. Ok p)
      last p true = refl
      last p false = λ e. absurd (omega arith)

      go : (n : ℕ) → ¬ (n ≡ 13) → (b : Bool) (x : Option Position) →
          Says x (ask (eqb n 0) (Err (refusal n 1)) λ _. ask b (Err (refusal 12 1)) λ _. choose W R g Q held o x)
      go zero n false x = λ e. absurd (omega arith)
      go zero n true None = λ e. refl
      go zero n true (Some p) = last p (q14b W R g Q held o p)
      go (suc m) n b x = rw (eqb-suc-zero m) (λ e. absurd (n e))

  module _ (keeps : Question10 o mask) (some_side : 0 < sides o) (Rpos : 1 ≤ R) (table : Table W N held) where
    -- no other right edge is before that of the best position
    first_edge : (p : Position) → Best W R N g (In held) o mask p → NoneBefore W R N g held o mask (right_edge R o p)
    unfolding Later
    first_edge p best =
        record {
          none =
              λ q f.
              ⊎_elim (λ (e : q ≡ p). omega (arith, ap (right_edge R o) e))
              (λ n. ⊎_elim (λ l. omega arith) (⊎_elim (λ l. omega (arith, l.0)) (λ l. omega (arith, l.0))) (best.first q f n))
              (same_or_not q p);
        }

    -- a copy of a piece that is placed has its right edge there or further on
    pub placed_before : (p : Position) → place_on W R N g Q held o mask words ≡ Ok p →
        NoneBefore W R N g (entered W R g held o p) o mask (right_edge R o p)
    unfolding Question10
    placed_before p e =
        let best = best_found W R N g held o mask keeps some_side Rpos table p (subst (Says (best_below W R N g held o mask 4)) e says) in
        let cells = entered_cells W R N g held o p (keeps p.turn best.fits.allowed) some_side Rpos table in
        more_held (λ i j taken. (cells i j).1 (inl taken)) (first_edge p best)

    -- a copy of a piece that has no place has none either
    pub refused_before : (r : Refusal) → place_on W R N g Q held o mask words ≡ Err r → r.number ≡ 13 → (lower : ℕ) →
        NoneBefore W R N g held o mask lower
    unfolding Question13
    refused_before r e thirteen lower =
        let no_place = none_found W R N g held o mask keeps some_side Rpos table (subst (Says (best_below W R N g held o mask 4)) e says thirteen) in
        record { none = λ q f. absurd (no_place (q, f)) }
