-- Question 10 by turns, and in a turn by pairs of edges, each pair once.
-- Assumes nothing.
use Rattle.std.specs.Prelude.{◌≡◌, Bool, not, ◌||◌, ◌⊎◌, List, ℕ, ◌≤◌, min, max}
use Rattle.defs.specs.Meaning.Outline.{Edge, edge_at, height}
use Rattle.defs.specs.Meaning.Turn.{turned, extent_x}
use Rattle.defs.specs.Computing.Test.{any_to, all_to}
use Rattle.defs.specs.Computing.Cells.{keeps_orderb, allowedb}
use Rattle.slabs.specs.Change.{changesb}

unfoldable pub rowb : List ℕ → Edge → ℕ → Bool
rowb v e i = any_to (λ j. changesb e (edge_at v j)) i

unfoldable pub pairsb : List ℕ → ℕ → Bool
pairsb v n = any_to (λ i. rowb v (edge_at v i) i) n

pub record HeightOf (e : Edge) (x r : ℕ) : Type 0 where
  pub is : r ≡ height e x 1
  pub most : r ≤ 256000000

-- an edge between heights p and q is all under height lo, or all over height hi
pub record Outside (lo hi p q : ℕ) : Type 0 where
  pub is : (max p q ≤ lo) ⊎ (hi ≤ min p q)

pub record Ends (a0 b0 a1 b1 l : ℕ) : Type 0 where
  pub first_left : a0 ≤ 4096000000000
  pub second_left : b0 ≤ 4096000000000
  pub first_right : a1 ≤ 4096000000000
  pub second_right : b1 ≤ 4096000000000
  pub long : l ≤ 16000

-- turn t is not allowed, or keeps the order
unfoldable pub turnb : List ℕ → ℕ → ℕ → Bool
turnb o mask t = not (allowedb mask t) || keeps_orderb (turned o t) (extent_x o t)

-- each turn below n
unfoldable pub turnsb : List ℕ → ℕ → ℕ → Bool
turnsb o mask n = all_to (turnb o mask) n
