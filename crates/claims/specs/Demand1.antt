-- Demand 1, as far as it is about values: "a refusal leaves strip and output unchanged and the work buffer zero". That every
-- call ends and touches nothing but what was lent is the language's own promise; which input gets which number is in
-- Numbers. Assumes nothing.
use Rattle.std.specs.Prelude.{◌≡◌, List, ℕ, ◌*◌, length, get_or, drop, Result, Ok, Err}
use Rattle.defs.specs.declared.Refusal.{Refusal}
use Rattle.defs.specs.declared.Figures.{Figures}
use Rattle.defs.specs.declared.Totals.{Totals}
use Rattle.defs.specs.declared.Position.{Position}
use Rattle.defs.specs.Meaning.Sheet.{Piece, SheetHolds, list_words}
use Rattle.defs.specs.Computing.Calls.{OpenStep, CoverStep, PlaceStep, AskStep, CommitStep}
use Rattle.defs.specs.Computing.Sheets.{ReadStep, WriteStep}
use Rattle.defs.specs.Computing.Lay.{LayStep}

-- "A work buffer is zero after each call."
pub record Zero (work work' : List ℕ) : Type 0 where
  pub long : length work' ≡ length work
  pub zero : (i : ℕ) → get_or work' i 0 ≡ 0

-- "Bytes past the output stay": those from k on.
pub record Past (k : ℕ) (out out' : List ℕ) : Type 0 where
  pub long : length out' ≡ length out
  pub stays : drop k out' ≡ drop k out

pub record Demand1 : Type 0 where
  -- "Strip and output keep their words at a refusal."
  pub open_keeps :
      {W R N g : ℕ} {s s' : List ℕ} {r : Refusal} → OpenStep W R N g s (Err r) s' → s' ≡ s
  pub cover_keeps :
      {o : List ℕ} {t R g : ℕ} {out out' : List ℕ} {r : Refusal} → CoverStep o t R g out (Err r) out' → out' ≡ out
  pub place_keeps :
      {s o : List ℕ} {mask : ℕ} {work : List ℕ} {r : Refusal} {n : ℕ} {s' work' : List ℕ} →
      PlaceStep s o mask work (Err r) n s' work' → s' ≡ s
  -- an ask keeps the strip whatever is answered: "changes no strip word"
  pub ask_keeps :
      {s o : List ℕ} {mask : ℕ} {work : List ℕ} {a : Result Position Refusal} {n : ℕ} {s' work' : List ℕ} → AskStep s o mask work a n s' work' → s' ≡ s
  pub commit_keeps :
      {s o : List ℕ} {p : Position} {work s' work' : List ℕ} {r : Refusal} → CommitStep s o p work (Err r) s' work' → s' ≡ s
  pub read_keeps :
      {b out out' : List ℕ} {r : Refusal} → ReadStep b out (Err r) out' → out' ≡ out
  pub write_keeps :
      {W R N : ℕ} {ws out out' : List ℕ} {r : Refusal} → WriteStep W R N ws out (Err r) out' → out' ≡ out
  pub lay_keeps :
      {b : List ℕ} {g : ℕ} {s out work s' out' work' : List ℕ} {r : Refusal} → LayStep b g s out work (Err r) s' out' work' →
      (s' ≡ s) × (out' ≡ out)
  -- where the call is granted
  pub cover_past :
      {o : List ℕ} {t R g n : ℕ} {out out' : List ℕ} → CoverStep o t R g out (Ok n) out' → Past (3 * n) out out'
  pub read_past :
      {b out out' : List ℕ} {f : Figures} {ps : List Piece} → ReadStep b out (Ok f) out' → SheetHolds b ps →
      Past (length (list_words ps)) out out'
  pub write_past :
      {W R N n : ℕ} {ws out out' : List ℕ} → WriteStep W R N ws out (Ok n) out' → Past n out out'
  pub lay_past :
      {b : List ℕ} {g : ℕ} {s out work s' out' work' : List ℕ} {t : Totals} {ps : List Piece} →
      LayStep b g s out work (Ok t) s' out' work' → SheetHolds b ps → Past (4 * length ps) out out'
  -- whatever is answered
  pub place_clears :
      {s o : List ℕ} {mask : ℕ} {work : List ℕ} {a : Result Position Refusal} {n : ℕ} {s' work' : List ℕ} →
      PlaceStep s o mask work a n s' work' → Zero work work'
  pub ask_clears :
      {s o : List ℕ} {mask : ℕ} {work : List ℕ} {a : Result Position Refusal} {n : ℕ} {s' work' : List ℕ} →
      AskStep s o mask work a n s' work' → Zero work work'
  pub commit_clears :
      {s o : List ℕ} {p : Position} {work : List ℕ} {a : Result Unit Refusal} {s' work' : List ℕ} →
      CommitStep s o p work a s' work' → Zero work work'
  pub lay_clears :
      {b : List ℕ} {g : ℕ} {s out work : List ℕ} {a : Result Totals Refusal} {s' out' work' : List ℕ} →
      LayStep b g s out work a s' out' work' → Zero work work'
