-- The first piece with a "no": what is left decides the whole.
-- Assumes nothing.
use mathlib.Core.Path.{◌≡◌, sym, ap, ◌∙◌}
use mathlib.Core.List.{List, ◌∷◌}
use Prim.Native.Nat.{ℕ, ◌+◌, ◌≤◌, ◌<◌}
use native.Mathlib.Omega.{arith}
use lib.ListN.{length}
use Rattle.defs.specs.Computing.Sheets.{piece_records, first_no, sheet_piece_no}
use Rattle.asked.specs.Answers.{FirstNo, FirstOf}
use Rattle.records.proofs.Refusals.{no_end, no_on, no_here}
use Rattle.std.specs.Prelude.{Bool, Some, None, Result, Ok, Err}
use Rattle.cutlist.specs.declared.chain.PieceRecords.{PieceRecords}
use Rattle.cutlist.specs.Along.{records_left, Along, Starts, Steps}
use Rattle.pieceno.specs.Refused.{PieceAsked, NoneRefused, FirstRefused}
use Rattle.cutlist.proofs.Lists.{few_left, step_along}
use Rattle.defs.specs.Computing.Calls.{refusal}

-- the k - 1 pieces before passed
pub record Asking (b : List ℕ) (v : ℕ) (s : PieceRecords) (k : ℕ) : Type 0 where
  pub along : Along b v s
  pub place : k + length (records_left s) ≤ 201
  pub same : first_no (sheet_piece_no b) 1 (piece_records b) ≡ first_no (sheet_piece_no b) k (records_left s)

pub ask_start : {b : List ℕ} {v : ℕ} {s : PieceRecords} → Starts b v s → Asking b v s 1
ask_start {b} {s = s} h =
    record { along = h.along; place = omega (arith, few_left s); same = ap (first_no (sheet_piece_no b) 1) (sym h.all) }

module _ {b : List ℕ} {v k : ℕ} {s t : PieceRecords} (h : Asking b v s k) where
  module _ {at : ℕ} (y : Steps s (Some at) t) where
    step : first_no (sheet_piece_no b) 1 (piece_records b) ≡ first_no (sheet_piece_no b) k (at ∷ records_left t)
    step = h.same ∙ ap (first_no (sheet_piece_no b) k) y.yields

    pub ask_next : sheet_piece_no b at ≡ 0 → Asking b v t (k + 1)
    ask_next z =
        record {
          along = step_along h.along y;
          place = omega (arith, h.place, ap length y.yields);
          same = step ∙ no_on (sheet_piece_no b) k at (records_left t) z;
        }

    pub ask_stop : {n : ℕ} → (n ≡ sheet_piece_no b at) × (0 < n) → FirstRefused b (refusal n k)
    ask_stop e =
        rw e.0 (record { is = step ∙ no_here (sheet_piece_no b) k at (records_left t) (λ z. omega (arith, e.0, e.1, z)) })

    pub ask_fits : k + 1 ≤ 201
    ask_fits = omega (arith, h.place, ap length y.yields)

  pub ask_end : Steps s None t → NoneRefused b
  ask_end y = record { is = h.same ∙ ap (first_no (sheet_piece_no b) k) y.yields.0 ∙ no_end (sheet_piece_no b) k }

-- the first "no" of a piece's outline is the piece's
pub piece_asked : (b : List ℕ) (at : ℕ) {o : List ℕ} {m : ℕ} {ninth : Bool} → ((n : ℕ) → FirstNo o ninth m n → n ≡ sheet_piece_no b at) →
    (r : Result Unit ℕ) → FirstOf o ninth m r → PieceAsked b at r
piece_asked b at f (Ok u) g = sym (f 0 g)
piece_asked b at f (Err n) g = (f n g.0, g.1)
