-- Slabs whose edges are loaded, and kept from one column to the next.
-- Assumes nothing.
use Rattle.std.specs.Prelude.{◌≡◌, List, ℕ, ◌≤◌, ◌<◌, length}
use Rattle.defs.specs.Meaning.Outline.{sides}
use Rattle.slabs.specs.Slab.{Neat}
use Rattle.entries.specs.Edges.{Loaded, NextAt, Rising}

-- the entries of a neat slab are loaded, in the order of their heights at either side
pub record Kept (v : List ℕ) (a b m : ℕ) (h0 h1 w : List ℕ) : Type 0 where
  pub neat : Neat v a b
  pub loaded : Loaded v a b h0 h1 w (sides v) m
  pub left : Rising h0 w m
  pub right : Rising h1 w m

-- the room for the entries of a slab, those of the slab kept from before, if it is not empty, and the next vertex after it
pub record Stock (v : List ℕ) (a b m c : ℕ) (h0 h1 w : List ℕ) : Type 0 where
  pub left : length h0 ≡ 64
  pub right : length h1 ≡ 64
  pub wide : length w ≡ 64
  pub kept : a < b → Kept v a b m h0 h1 w
  pub next : NextAt v b (sides v) c

-- the slab that is kept reaches over x
pub record HeldAt (v : List ℕ) (x a b m c : ℕ) (h0 h1 w : List ℕ) : Type 0 where
  pub from : a ≤ x
  pub to : x < b
  pub kept : Kept v a b m h0 h1 w
  pub next : NextAt v b (sides v) c
