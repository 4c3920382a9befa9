-- The knife over a whole list of calls: where it follows an edge of a piece, placed or committed, that bounds the piece's inside, it is
-- never in the interior of another such piece. Where an outline draws nothing twice, each of its edges bounds its inside. Assumes nothing.
use Rattle.std.specs.Prelude.{◌≢◌, ◌⊎◌, List, ℕ, ◌*◌, ◌<◌, Ok}
use Rattle.defs.specs.declared.Position.{Position}
use Rattle.defs.specs.declared.Totals.{Totals}
use Rattle.defs.specs.Meaning.Outline.{Edge, Inside, sides, edge_at}
use Rattle.defs.specs.Meaning.Placing.{moved}
use Rattle.defs.specs.Meaning.Sheet.{sheet_r}
use Rattle.defs.specs.Computing.Lay.{LayStep}
use Rattle.strokes.specs.Stroke.{OnEdge, DrawnOnce}
use Rattle.claims.specs.Trace.{Calls, Trace, Puts}
use Rattle.claims.specs.Demand3.{Demand3}
use Rattle.claims.specs.Places.{as_calls}
use Rattle.claims.specs.Laying.{LaysList}
use Rattle.knife.specs.Knife.{Touches, Interior, EdgePoint, RisePoint}

-- An edge between two vertices that differ.
abbrev pub HasEnds : Edge → Type 0
HasEnds e = (e.xl ≢ e.xr) ⊎ (e.yl ≢ e.yr)

module _ (R : ℕ) (x : Calls) where
  -- call l puts outline o at p: a granted place or commit
  pub record PutAt (l : ℕ) (o : List ℕ) (p : Position) : Type 0 where
    pub is_call : l < x.count
    pub puts : Puts (x.call l) o p

  pub record KnifeSafe : Type 0 where
    -- a point of an edge, with x not whole
    pub edges :
        {l m : ℕ} {o v : List ℕ} {p q : Position} → PutAt l o p → PutAt m v q → l ≢ m →
        (a b d : ℕ) → EdgePoint (moved R o p) a b d → ¬ Inside (moved R v q) a b d
    -- a point of a vertical edge, with x = k
    pub rises :
        {l m : ℕ} {o v : List ℕ} {p q : Position} → PutAt l o p → PutAt m v q → l ≢ m →
        (k b d : ℕ) → RisePoint (moved R o p) k b d → ¬ Interior (moved R v q) (k * d) b d
    -- any point that points inside come as near to as one likes
    pub border :
        {l m : ℕ} {o v : List ℕ} {p q : Position} → PutAt l o p → PutAt m v q → l ≢ m →
        (a b d : ℕ) → Touches (moved R o p) a b d → ¬ Interior (moved R v q) a b d
    -- an outline, as it was lent, that draws nothing twice: any point of any edge, vertices too
    pub whole :
        {l m : ℕ} {o v : List ℕ} {p q : Position} → PutAt l o p → PutAt m v q → l ≢ m → DrawnOnce o →
        (i a b d : ℕ) → i < sides (moved R o p) → HasEnds (edge_at (moved R o p) i) → OnEdge (edge_at (moved R o p) i) a b d →
        ¬ Interior (moved R v q) a b d

-- for every list of calls of which demand 3 holds, by whatever program
unfoldable pub Knife_safe : Type 0
Knife_safe = (W R N g : ℕ) (x : Calls) → Demand3 W R N g x → KnifeSafe R x

-- so for every list of place, ask and commit calls,
unfoldable pub List_knife_safe : Type 0
List_knife_safe = (W R N g : ℕ) (x : Calls) → Trace W R N g x → KnifeSafe R x

-- and for every laid job, which is such a list
unfoldable pub Lay_knife_safe : Type 0
Lay_knife_safe =
    (b : List ℕ) (g : ℕ) (s out work : List ℕ) (t : Totals) (s' out' work' : List ℕ) →
    LayStep b g s out work (Ok t) s' out' work' → (l : LaysList b g s t s' out' work) × KnifeSafe (sheet_r b) (as_calls l.list)
