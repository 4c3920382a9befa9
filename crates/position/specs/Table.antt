-- A piece placed on a table of runs laid flat. Assumes nothing.
use Rattle.std.specs.Prelude.{◌≡◌, List, ℕ, ◌*◌, ◌≤◌, length, Result, Ok, Err}
use Rattle.defs.specs.declared.Refusal.{Refusal}
use Rattle.defs.specs.declared.Position.{Position}
use Rattle.defs.specs.Meaning.Outline.{KeepsOrder}
use Rattle.defs.specs.Meaning.Turn.{turned}
use Rattle.defs.specs.Meaning.Strip.{Limits}
use Rattle.defs.specs.Meaning.Placing.{OnStrip}
use Rattle.defs.specs.Computing.Test.{ask}
use Rattle.defs.specs.Computing.Cells.{piece_runs, count_runs}
use Rattle.defs.specs.Computing.Search.{entered}
use Rattle.defs.specs.Computing.Calls.{refusal, q14b, place_on, tries_on}
use Rattle.outline.specs.declared.Bounds.{Bounds}
use Rattle.outline.specs.Vertex.{Lent, BoundsOf}
use Rattle.tables.specs.Flat.{Laid, table_of}
use Rattle.search.specs.declared.Way.{Way}
use Rattle.best.specs.Choice.{TriesAre}

-- a table of a strip with Q records, and room for the next one
pub record Tabled (f l h f' l' h' : List ℕ) (W R N g Q : ℕ) : Type 0 where
  pub limits : Limits W R N
  pub gap : g ≤ 400
  pub records : Q ≤ 16000
  pub count : ℕ
  pub table : Laid f l h W N count
  pub firsts : 4097 ≤ length f'
  pub lows : 24001 ≤ length l'
  pub highs : 24001 ≤ length h'

-- the next table, where a piece is placed at p, which is on the strip
pub record Next (f l h f' l' h' o : List ℕ) (W R N g Q : ℕ) (p : Position) : Type 0 where
  pub count : ℕ
  pub laid : Laid f' l' h' W N count
  pub few : count ≤ Q
  pub is : table_of f' l' h' N ≡ entered W R g (table_of f l h N) o p
  pub turn : p.turn ≤ 3
  pub on_strip : OnStrip W R N o p

abbrev pub NextIf : (f l h f' l' h' o : List ℕ) (W R N g Q : ℕ) → Result Position Refusal → Type 0
NextIf f l h f' l' h' o W R N g Q (Ok p) = Next f l h f' l' h' o W R N g Q p
NextIf f l h f' l' h' o W R N g Q (Err r) = Unit {0}

-- an outline with a position on the strip, and a work buffer with room for the runs of its turn
pub record Enterable (f l h o : List ℕ) (W R N g : ℕ) (b : Bounds) (words : ℕ) (p : Position) : Type 0 where
  pub lent : Lent o
  pub bounds : BoundsOf o b
  pub turn : p.turn ≤ 3
  pub keeps : KeepsOrder (turned o p.turn)
  pub on_strip : OnStrip W R N o p
  pub room : 3 * count_runs (piece_runs o p.turn R g) ≤ words

-- question 14 of a position, and the next table
pub record EntersAt (f l h f' l' h' o : List ℕ) (W R N g Q : ℕ) (p : Position) (a : Result Position Refusal) : Type 0 where
  pub answer : a ≡ (ask (q14b W R g Q (table_of f l h N) o p) (Err (refusal 14 1)) λ _. Ok p)
  pub next : NextIf f l h f' l' h' o W R N g Q a

pub record PlacedOn (f l h f' l' h' o : List ℕ) (W R N g Q mask words : ℕ) (a : Result Position Refusal) : Type 0 where
  pub answer : a ≡ place_on W R N g Q (table_of f l h N) o mask words
  pub next : NextIf f l h f' l' h' o W R N g Q a

-- the same, with n tries
pub record CountedOn (f l h f' l' h' o : List ℕ) (W R N g Q mask words : ℕ) (way : Way) (a : Result Position Refusal) (n : ℕ) : Type 0 where
  pub placed : PlacedOn f l h f' l' h' o W R N g Q mask words a
  pub counted : TriesAre way n (tries_on W R N g (table_of f l h N) o mask words)
