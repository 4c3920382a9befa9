-- What is chosen among turns. Assumes nothing.
use Rattle.std.specs.Prelude.{◌≡◌, true, List, ℕ, ◌+◌, ◌*◌, ◌≤◌, ◌<◌, length, Option, Some, None}
use Rattle.defs.specs.declared.Position.{Position}
use Rattle.defs.specs.Meaning.Turn.{extent_x, extent_y}
use Rattle.defs.specs.Meaning.Placing.{columns_for, right_edge, top}
use Rattle.defs.specs.Computing.Cells.{Rows, piece_runs, count_runs, most_runs}
use Rattle.defs.specs.Computing.Search.{freeb, drop_n, first_free, best_below}
use Rattle.defs.specs.Computing.Walk.{turn_walk, tries_in, tries_below}
use Rattle.outline.specs.declared.Bounds.{Bounds}
use Rattle.outline.specs.Vertex.{Lent, BoundsOf}
use Rattle.tables.specs.Flat.{Laid}
use Rattle.tables.specs.Piece.{Stands}
use Rattle.search.specs.declared.Way.{Way}
use Rattle.search.specs.declared.Way.TheVariants.{Walk as ByWalk, Round}
use Rattle.ranks.specs.declared.Ranked.{Ranked}
use Rattle.ranks.specs.declared.Tried.{Tried}

-- the position of a choice
abbrev pub place_of : Option Ranked → Option Position
place_of (Some b) = Some b.at
place_of None = None

-- the rank of a choice is that of its position
pub record RankOf (R : ℕ) (o : List ℕ) (b : Ranked) : Type 0 where
  pub right : b.right ≡ right_edge R o b.at
  pub top : b.top ≡ top o b.at

abbrev pub Ranks : ℕ → List ℕ → Option Ranked → Type 0
Ranks R o (Some b) = RankOf R o b
Ranks R o None = Unit {0}

-- a spot of turn t, with its rank by the extent w, h
abbrev pub ranked_at : ℕ → ℕ → ℕ → ℕ → ℕ → ℕ → Ranked
ranked_at c y t w h R = record { at = record { turn = t; column = c; height = y }; right = c * R + w; top = y + h }

abbrev pub ranked : Option (ℕ × ℕ) → ℕ → ℕ → ℕ → ℕ → Option Ranked
ranked (Some (c, y)) t w h R = Some (ranked_at c y t w h R)
ranked None t w h R = None

-- a choice is what the definition finds
pub record Finds (R : ℕ) (o : List ℕ) (x : Option Position) (c : Option Ranked) : Type 0 where
  pub is : place_of c ≡ x
  pub ranks : Ranks R o c

-- a choice is what the definition finds; if it is none, what the definition finds has its right edge past `limit`, and on the strip
abbrev pub FindsTo : ℕ → ℕ → List ℕ → Option Position → ℕ → Option Ranked → Type 0
FindsTo R N o x limit (Some b) = Finds R o x (Some b)
FindsTo R N o x limit None = (q : Position) → x ≡ Some q → (limit < right_edge R o q) × (right_edge R o q ≤ N * R)

-- an outline that passes 7 and 8, its bounds, and a table laid flat
pub record Ready (f l h o : List ℕ) (W R N g : ℕ) (b : Bounds) : Type 0 where
  pub lent : Lent o
  pub bounds : BoundsOf o b
  pub least : 1 ≤ R
  pub most : R ≤ 400
  pub gap : g ≤ 400
  pub width : W ≤ 16000
  pub columns : N ≤ 4096
  pub count : ℕ
  pub table : Laid f l h W N count

-- no free position of turn t has its right edge before `lower`
pub record NoneInTurn (W R N g : ℕ) (held : List (List Rows)) (o : List ℕ) (t lower : ℕ) : Type 0 where
  pub none :
      (c y : ℕ) → c * R + extent_x o t < lower → c + columns_for (extent_x o t) R ≤ N → y + extent_y o t ≤ W →
      ¬ (freeb y (piece_runs o t R g) (drop_n c held) ≡ true)

-- the walk counts n tries
abbrev pub TriesAre : Way → ℕ → ℕ → Type 0
TriesAre ByWalk k n = k ≡ n
TriesAre Round k n = Unit {0}

-- turn t, with work of so many words, searched up to the right edge `limit`
pub record OneTurn (W R N g : ℕ) (held : List (List Rows)) (o : List ℕ) (t words limit : ℕ) (way : Way) (s : Tried) : Type 0 where
  pub most : s.most ≡ count_runs (piece_runs o t R g)
  pub few : s.tries ≤ 268500992
  pub tries : 3 * s.most ≤ words → TriesAre way s.tries (tries_in (turn_walk W R N g held o t))
  pub best : 3 * s.most ≤ words → FindsTo R N o (first_free W R N g held o t) limit s.best

-- the allowed turns below t
pub record TurnsTo (W R N g : ℕ) (held : List (List Rows)) (o : List ℕ) (mask t words : ℕ) (way : Way) (s : Tried) : Type 0 where
  pub most : s.most ≡ most_runs o mask R g t
  pub few : s.tries ≤ 268500992 * t
  pub tries : 3 * s.most ≤ words → TriesAre way s.tries (tries_below W R N g held o mask t)
  pub best : 3 * s.most ≤ words → Finds R o (best_below W R N g held o mask t) s.best

-- where a turn's runs were put into the work buffer, and all of them fit, these k stand there
pub record Kept (o : List ℕ) (R g : ℕ) (work : List ℕ) (t k : ℕ) : Type 0 where
  pub stand : t ≤ 3 → 3 * count_runs (piece_runs o t R g) ≤ length work → Stands (piece_runs o t R g) work k
