-- The walk along the piece records of a sheet: what is left of it, and one step of it. Assumes nothing.
use Rattle.std.specs.Prelude.{◌≡◌, List, ℕ, Option, IfSome}
use Rattle.std.specs.Iterator.{YieldsFirst}
use Rattle.defs.specs.Meaning.Limits.{most_pieces}
use Rattle.defs.specs.Computing.Test.{chain_by}
use Rattle.defs.specs.Computing.Sheets.{piece_records}
use Rattle.cutlist.specs.Pieces.{PieceAt, next_piece}
use Rattle.cutlist.specs.declared.chain.PieceRecords.{PieceRecords}

-- the records that are still to come
abbrev pub records_left : PieceRecords → List ℕ
records_left s = chain_by (next_piece s.sheet.now) most_pieces s.at

-- a walk along the records of the sheet
pub record Along (b : List ℕ) (v : ℕ) (s : PieceRecords) : Type 0 where
  pub sheet : s.sheet.now ≡ b
  pub vertices : s.v ≡ v

pub record Starts (b : List ℕ) (v : ℕ) (s : PieceRecords) : Type 0 where
  pub along : Along b v s
  pub all : records_left s ≡ piece_records b

-- a step yields the first of what is left, which is in the sheet
pub record Steps (s : PieceRecords) (r : Option ℕ) (t : PieceRecords) : Type 0 where
  pub same : Along s.sheet.now s.v t
  pub yields : YieldsFirst records_left s r t
  pub here : IfSome r (λ at. PieceAt s.sheet.now s.v at)
