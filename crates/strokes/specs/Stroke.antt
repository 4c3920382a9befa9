-- What an outline draws twice. A knife follows the outline, so it goes twice along such a stretch, as to the tip of a spur and back; and
-- the stretch need not bound the inside. Not in document 01. Assumes nothing.
use Rattle.std.specs.Prelude.{◌≡◌, ◌≢◌, ◌⊎◌, List, ℕ, ◌*◌, ◌≤◌, ◌<◌, max, min}
use Rattle.defs.specs.Meaning.Outline.{Edge, edge_at, sides, height, width}

-- The point p/d, q/d lies on the edge, its ends included. (Of a vertical edge the width is 0, and `on_line` says nothing.)
pub record OnEdge (e : Edge) (p q d : ℕ) : Type 0 where
  pub point : 1 ≤ d
  pub left : e.xl * d ≤ p
  pub right : p ≤ e.xr * d
  pub on_line : height e p d ≡ q * width e
  pub low : min e.yl e.yr * d ≤ q
  pub high : q ≤ max e.yl e.yr * d

-- Two edges share a stretch: two different points lie on both.
pub record Shared (e f : Edge) : Type 0 where
  pub p : ℕ
  pub q : ℕ
  pub d : ℕ
  pub p' : ℕ
  pub q' : ℕ
  pub d' : ℕ
  pub on_e : OnEdge e p q d
  pub on_f : OnEdge f p q d
  pub on_e' : OnEdge e p' q' d'
  pub on_f' : OnEdge f p' q' d'
  pub differ : (p * d' ≢ p' * d) ⊎ (q * d' ≢ q' * d)

-- Nothing is drawn twice: no two edges share a stretch.
unfoldable pub DrawnOnce : List ℕ → Type 0
DrawnOnce o = (i j : ℕ) → i < sides o → j < sides o → i ≢ j → ¬ Shared (edge_at o i) (edge_at o j)

-- Edges i and j, i before j, are the first that share a stretch: no edge before i shares one with a later edge, and i with none before j.
pub record FirstShared (o : List ℕ) (i j : ℕ) : Type 0 where
  pub order : i < j
  pub within : j < sides o
  pub shared : Shared (edge_at o i) (edge_at o j)
  pub none_before : (k l : ℕ) → k < l → l < sides o → (k < i) ⊎ ((k ≡ i) × (l < j)) → ¬ Shared (edge_at o k) (edge_at o l)
