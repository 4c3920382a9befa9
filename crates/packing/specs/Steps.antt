-- A step of each call, its answer packed in one number of 64 bits, and the tries of place and ask beside it: the contracts of the C
-- functions. Assumes nothing.
use Rattle.std.specs.Prelude.{List, ℕ, Option, Result}
use Rattle.defs.specs.declared.EdgePair.{EdgePair}
use Rattle.defs.specs.declared.Figures.{Figures}
use Rattle.defs.specs.declared.Refusal.{Refusal}
use Rattle.defs.specs.declared.Totals.{Totals}
use Rattle.defs.specs.declared.Position.{Position}
use Rattle.defs.specs.Answer.{opening, covering, placing, asking, committing, reading, writing, laying, retracing}
use Rattle.defs.specs.Computing.Calls.{OpenStep, CoverStep, PlaceStep, AskStep, CommitStep}
use Rattle.defs.specs.Computing.Lay.{LayStep}
use Rattle.defs.specs.Computing.Sheets.{ReadStep, WriteStep}
use Rattle.defs.specs.Computing.Bytes.{OnBytes, OpenBytesStep, LayBytesStep}
use Rattle.strokes.specs.Retrace.{RetraceStep}
use Rattle.pathdefs.specs.Answer.{path_reading}
use Rattle.pathdefs.specs.Computing.Paths.{PathReadStep, PathWriteStep}
use Rattle.packing.specs.Packed.{Packs, PacksWide, PacksLong}

pub record OpenPacked (W R N g : ℕ) (s : List ℕ) (n : ℕ) (s' : List ℕ) : Type 0 where
  pub answer : Result Unit Refusal
  pub step : OpenStep W R N g s answer s'
  pub packs : Packs n (opening answer)

-- the number of runs in the high 32 bits
pub record CoverPacked (o : List ℕ) (t R g : ℕ) (out : List ℕ) (n : ℕ) (out' : List ℕ) : Type 0 where
  pub answer : Result ℕ Refusal
  pub step : CoverStep o t R g out answer out'
  pub packs : PacksWide n (covering answer)

-- turn, column, height after the number 0
pub record PlacePacked (s o : List ℕ) (mask : ℕ) (work : List ℕ) (n tries : ℕ) (s' work' : List ℕ) : Type 0 where
  pub answer : Result Position Refusal
  pub step : PlaceStep s o mask work answer tries s' work'
  pub packs : Packs n (placing answer)

-- turn, column, height after the number 0
pub record AskPacked (s o : List ℕ) (mask : ℕ) (work : List ℕ) (n tries : ℕ) (s' work' : List ℕ) : Type 0 where
  pub answer : Result Position Refusal
  pub step : AskStep s o mask work answer tries s' work'
  pub packs : Packs n (asking answer)

pub record CommitPacked (s o : List ℕ) (p : Position) (work : List ℕ) (n : ℕ) (s' work' : List ℕ) : Type 0 where
  pub answer : Result Unit Refusal
  pub step : CommitStep s o p work answer s' work'
  pub packs : Packs n (committing answer)

-- W, R, N after the number 0
pub record ReadPacked (b out : List ℕ) (n : ℕ) (out' : List ℕ) : Type 0 where
  pub answer : Result Figures Refusal
  pub step : ReadStep b out answer out'
  pub packs : Packs n (reading answer)

-- the size in bytes in the high 32 bits
pub record WritePacked (W R N : ℕ) (ws out : List ℕ) (n : ℕ) (out' : List ℕ) : Type 0 where
  pub answer : Result ℕ Refusal
  pub step : WriteStep W R N ws out answer out'
  pub packs : PacksWide n (writing answer)

-- pieces placed after the number 0; used length in the high 32 bits
pub record LayPacked (b : List ℕ) (g : ℕ) (s out work : List ℕ) (n : ℕ) (s' out' work' : List ℕ) : Type 0 where
  pub answer : Result Totals Refusal
  pub step : LayStep b g s out work answer s' out' work'
  pub packs : PacksLong n (laying answer)

-- the numbers of two edges after the number 0, both 0 where nothing is drawn twice
pub record RetracePacked (o : List ℕ) (n : ℕ) : Type 0 where
  pub answer : Result (Option EdgePair) Refusal
  pub step : RetraceStep o answer
  pub packs : Packs n (retracing answer)

-- the outline's words in the high 32 bits
pub record PathReadPacked (b out : List ℕ) (n : ℕ) (out' : List ℕ) : Type 0 where
  pub answer : Result ℕ Refusal
  pub step : PathReadStep b out answer out'
  pub packs : PacksWide n (path_reading answer)

-- the path's bytes in the high 32 bits
pub record PathWritePacked (o out : List ℕ) (n : ℕ) (out' : List ℕ) : Type 0 where
  pub answer : Result ℕ Refusal
  pub step : PathWriteStep o out answer out'
  pub packs : PacksWide n (writing answer)

-- The same on buffers passed as bytes.

pub record OpenBytesPacked (W R N g : ℕ) (strip : List ℕ) (n : ℕ) (strip' : List ℕ) : Type 0 where
  pub answer : Result Unit Refusal
  pub step : OpenBytesStep W R N g strip answer strip'
  pub packs : Packs n (opening answer)

abbrev pub PlaceBytesPacked : List ℕ → List ℕ → ℕ → List ℕ → ℕ → ℕ → List ℕ → List ℕ → Type 0
PlaceBytesPacked strip o mask work n tries strip' work' =
    OnBytes (λ s v w s' w'. PlacePacked s v mask w n tries s' w') strip o work strip' work'

abbrev pub AskBytesPacked : List ℕ → List ℕ → ℕ → List ℕ → ℕ → ℕ → List ℕ → List ℕ → Type 0
AskBytesPacked strip o mask work n tries strip' work' =
    OnBytes (λ s v w s' w'. AskPacked s v mask w n tries s' w') strip o work strip' work'

abbrev pub CommitBytesPacked : List ℕ → List ℕ → Position → List ℕ → ℕ → List ℕ → List ℕ → Type 0
CommitBytesPacked strip o p work n strip' work' = OnBytes (λ s v w s' w'. CommitPacked s v p w n s' w') strip o work strip' work'

pub record LayBytesPacked (sheet : List ℕ) (g : ℕ) (strip out work : List ℕ) (n : ℕ) (strip' out' work' : List ℕ) : Type 0 where
  pub answer : Result Totals Refusal
  pub step : LayBytesStep sheet g strip out work answer strip' out' work'
  pub packs : PacksLong n (laying answer)
