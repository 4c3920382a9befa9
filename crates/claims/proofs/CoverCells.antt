-- Demand 2, cells: the runs that cover writes hold the cells of the turned outline, are its runs, and stand by column then row. A granted
-- cover has passed questions 16, 21 and 7 to 12, so its rows are the covered ones, and the words of a run stand at three times its number.
-- Assumes nothing.
use mathlib.Core.Path.{◌≡◌, refl, sym, subst, ◌∙◌}
use mathlib.Core.Logic.Iff
use mathlib.Core.Logic.{◌↔◌, ◌⊎◌, inl, inr, ⊎_elim}
use mathlib.Core.Bool.{Bool, true, false}
use mathlib.Core.List.{List, [], ◌++◌}
use Prim.Native.Nat.{ℕ, zero, suc, ◌+◌, ◌*◌, ◌^◌, ◌<◌}
use native.Mathlib.Omega.{arith}
use lib.Dec.{leb, eqb, eqb-suc-zero}
use lib.ListN.{length, get_or}
use Rattle.std.specs.Prelude.{Ok, Err}
use Rattle.defs.specs.Meaning.Limits.{most_turn}
use Rattle.defs.specs.Meaning.Turn.{turned}
use Rattle.defs.specs.Meaning.Cell.{CoveredGap, Cells, Run}
use Rattle.defs.specs.Computing.Test.{ask}
use Rattle.defs.specs.Computing.Cells.{Rows, in_rows, piece_runs, count_runs}
use Rattle.defs.specs.Computing.Words.{resolutionb, gapb}
use Rattle.defs.specs.Computing.Calls.{refusal, q12b, outline_no, cover_answer, runs_words, cover_output}
use Rattle.laws.proofs.Questions.{question_16, question_7, question_9_turn}
use Rattle.geom.proofs.Stretches.{among_of}
use Rattle.geom.proofs.RunLists.{Apart, place, place_holds, stretch_is_run, stretches_rise}
use Rattle.geom.proofs.Counting.{number_of, number_below, spot, spot_number, none}
use Rattle.geom.proofs.RunWords.{run_words_lem, spot_words, next_number}
use Rattle.geom.proofs.PieceCells.{piece_cells, runs_apart}
use Rattle.geom.proofs.Checks.{keeps_decides, none_no_is, has_side}
use Rattle.geom.proofs.OneTurn.{orders_one}
use Rattle.claims.specs.Demand2.{InRun, CellsAre, Demand2_cells}

-- C has the cells that are held, and their words are written.
module _
    (C : Cells)
    (held : List (List Rows))
    (rest : List ℕ)
    (apart : (i : ℕ) → Apart (get_or held i []))
    (same : (i j : ℕ) → C i j ↔ (in_rows (get_or held i []) j ≡ true)) where
  abbrev out : List ℕ
  out = runs_words 0 held ++ rest

  -- the stretch with number m
  abbrev stretch : ℕ → Rows
  stretch m = get_or (get_or held (spot held m).0 []) (spot held m).1 none

  stretch_run : (m : ℕ) → m < count_runs held → Run C (spot held m).0 (stretch m).low (stretch m).high
  stretch_run m l =
      stretch_is_run none C (spot held m).0 (get_or held (spot held m).0 []) (apart _) (same _) (spot held m).1
      (spot_number held m l).0

  words_run : (m : ℕ) → m < count_runs held → Run C (get_or out (3 * m) 0) (get_or out (3 * m + 1) 0) (get_or out (3 * m + 2) 0)
  words_run m l = let w = spot_words held rest m l in rw (w.column, w.low, w.high) (stretch_run m l)

  -- a row of a column has the number of the stretch at its place
  words_cells : (i j : ℕ) → InRun out (count_runs held) i j ↔ C i j
  words_cells i j = (
    λ r. subst (λ (n : ℕ). C n j) r.column ((words_run r.m r.is_run).unbroken j r.low r.high),
    λ c.
        let p = place_holds none 0 (get_or held i []) j (apart i) (among_of (get_or held i []) j ((same i j).0 c)) in
        let w = run_words_lem held rest i (place (get_or held i []) j) p.0 in
        record {
          m = number_of held i (place (get_or held i []) j);
          is_run = number_below held i (place (get_or held i []) j) p.0;
          column = w.column;
          low = omega arith;
          high = omega arith;
        },
  )

  words_in_order : (m : ℕ) → m + 1 < count_runs held →
      (get_or out (3 * m) 0 < get_or out (3 * m + 3) 0) ⊎
      ((get_or out (3 * m) 0 ≡ get_or out (3 * m + 3) 0) × (get_or out (3 * m + 2) 0 < get_or out (3 * m + 4) 0))
  words_in_order m l =
      let w = spot_words held rest m (omega arith) in
      let v = spot_words held rest (m + 1) l in
      let a = spot_number held m (omega arith) in
      let b = spot_number held (m + 1) l in
      let first : 3 * m + 3 ≡ 3 * (m + 1) = omega arith in
      let second : 3 * m + 4 ≡ 3 * (m + 1) + 1 = omega arith in
      rw (first, second, w.column, w.high, v.column, v.low)
      (⊎_elim inl (λ e. inr (e.0, rises _ _ _ _ b.0 e))
      (next_number held (spot held m).0 (spot held m).1 (spot held (m + 1)).0 (spot held (m + 1)).1 a.0 b.0
      (omega arith)))
    where
      rises : (i k i' k' : ℕ) → k' < length (get_or held i' []) → (i ≡ i') × (k' ≡ suc k) →
          (get_or (get_or held i []) k none).high < (get_or (get_or held i' []) k' none).low
      rises i k i' k' l e = rw (e.0, e.1) (stretches_rise none 0 (get_or held i' []) k (apart i') (rw e.1 at l))

-- a cover call is granted where no question gets "no", and then says how many runs there are
pub record Granted (o : List ℕ) (t R g words n : ℕ) : Type 0 where
  pub resolution : resolutionb R ≡ true
  pub none_no : outline_no o (leb t most_turn) (2 ^ t) R ≡ 0
  pub room : q12b o (2 ^ t) R g words ≡ true
  pub count : n ≡ count_runs (piece_runs o t R g)

pub granted : (o : List ℕ) (t R g words n : ℕ) → Ok n ≡ cover_answer o t R g words → Granted o t R g words n
unfolding cover_answer
granted o t R g words n e =
    go (resolutionb R) refl (gapb g) (outline_no o (leb t most_turn) (2 ^ t) R) refl (q12b o (2 ^ t) R g words) refl e
  where
    go : (b : Bool) → resolutionb R ≡ b → (x : Bool) (m : ℕ) → outline_no o (leb t most_turn) (2 ^ t) R ≡ m → (c : Bool) →
        q12b o (2 ^ t) R g words ≡ c →
        Ok n ≡
        (ask b (Err (refusal 16 0)) λ _.
        ask x (Err (refusal 21 0)) λ _.
        ask (eqb m 0) (Err (refusal m 1)) λ _.
        ask c (Err (refusal 12 1)) λ _. Ok (count_runs (piece_runs o t R g))) →
        Granted o t R g words n
    go false e3 x m e7 c e12 e = let z : ◌≡◌ {A = ℕ} 0 1 = cc in absurd (omega arith)
    go true e3 false m e7 c e12 e = let z : ◌≡◌ {A = ℕ} 0 1 = cc in absurd (omega arith)
    go true e3 true (suc m) e7 c e12 e =
        let f = rw (eqb-suc-zero m) at e in let z : ◌≡◌ {A = ℕ} 0 1 = cc in absurd (omega arith)
    go true e3 true zero e7 false e12 e = let z : ◌≡◌ {A = ℕ} 0 1 = cc in absurd (omega arith)
    go true e3 true zero e7 true e12 e = record { resolution = e3; none_no = e7; room = e12; count = cc }

-- what is then written
cells_are : (o : List ℕ) (t R g : ℕ) (rest : List ℕ) → resolutionb R ≡ true → outline_no o (leb t most_turn) (2 ^ t) R ≡ 0 →
    CellsAre o t R g (count_runs (piece_runs o t R g)) (runs_words 0 (piece_runs o t R g) ++ rest)
cells_are o t R g rest e3 e7 =
    record {
      cells = words_cells (CoveredGap (turned o t) R g) (piece_runs o t R g) rest (runs_apart o t R g) same;
      runs = words_run (CoveredGap (turned o t) R g) (piece_runs o t R g) rest (runs_apart o t R g) same;
      in_order = words_in_order (CoveredGap (turned o t) R g) (piece_runs o t R g) rest (runs_apart o t R g) same;
    }
  where
    same : (i j : ℕ) → CoveredGap (turned o t) R g i j ↔ (in_rows (get_or (piece_runs o t R g) i []) j ≡ true)
    same i j =
        let q = (none_no_is o (leb t most_turn) (2 ^ t) R).0 e7 in
        Iff.symm
        (piece_cells o t R g
        ((keeps_decides o t).0 (sym (orders_one o t ((question_9_turn t).0 q.2)) ∙ q.3))
        (has_side o ((question_7 o).0 q.0)) ((question_16 R).0 e3).at_least i j)

pub demand2_cells : Demand2_cells
unfolding Demand2_cells cover_output
demand2_cells o t R g n out out' s =
    let h = granted o t R g (length out) n s.answer in
    rw (s.output, h.count) (cells_are o t R g _ h.resolution h.none_no)
