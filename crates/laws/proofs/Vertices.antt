-- What is read of an outline in a turn is the turned outline, vertex by vertex: S-6's theorem. Of any outline, whatever its questions say.
-- Assumes nothing.
use mathlib.Core.Path.{◌≡◌, sym, ap, ◌∙◌}
use mathlib.Core.List.{List}
use Prim.Native.Nat.{ℕ, zero, suc, ◌-◌, ◌≤◌, ◌<◌}
use native.Mathlib.Omega.{arith}
use lib.ListN.{get_or}
use Rattle.defs.specs.Meaning.Limits.{most_turn}
use Rattle.defs.specs.Meaning.Outline.{vx, vy, sides}
use Rattle.defs.specs.Meaning.Turn.{turned}
use Rattle.defs.specs.Computing.Vertices.{least_n, most_n, corner_x, corner_y, distance, read_x, read_y}
use Rattle.laws.proofs.Extremes.{least_at, most_at}
use Rattle.laws.proofs.Turns.{turn_0_x, turn_0_y, turn_1_x, turn_1_y, turn_2_x, turn_2_y, turn_3_x, turn_3_y}

-- the distance of a coordinate from the bound below it, and from the bound above it, in word k of the outline
module _ (o : List ℕ) (c : ℕ → ℕ) (i k : ℕ) (h : i < sides o) (word : get_or o k 0 ≡ c i) where
  below : distance (least_n c (sides o - 1)) (get_or o k 0) ≡ c i - least_n c (sides o - 1)
  below = omega (arith, word, least_at c (sides o - 1) i (omega arith))

  above : distance (most_n c (sides o - 1)) (get_or o k 0) ≡ most_n c (sides o - 1) - c i
  above = omega (arith, word, most_at c (sides o - 1) i (omega arith))

module _ (o : List ℕ) (i : ℕ) (h : i < sides o) where
  word : {j k : ℕ} → j ≡ k → get_or o j 0 ≡ get_or o k 0
  word e = ap (λ (k : ℕ). get_or o k 0) e

  pub read_x_lem : (t : ℕ) → t ≤ most_turn → read_x o t i ≡ vx (turned o t) i
  unfolding read_x corner_x
  read_x_lem zero m = below o (vx o) i _ h (word (omega arith)) ∙ sym (turn_0_x o i h)
  read_x_lem (suc zero) m = above o (vy o) i _ h (word (omega arith)) ∙ sym (turn_1_x o i h)
  read_x_lem (suc (suc zero)) m = above o (vx o) i _ h (word (omega arith)) ∙ sym (turn_2_x o i h)
  read_x_lem (suc (suc (suc zero))) m = below o (vy o) i _ h (word (omega arith)) ∙ sym (turn_3_x o i h)
  read_x_lem (suc (suc (suc (suc t)))) m = absurd (omega arith)

  pub read_y_lem : (t : ℕ) → t ≤ most_turn → read_y o t i ≡ vy (turned o t) i
  unfolding read_y corner_y
  read_y_lem zero m = below o (vy o) i _ h (word (omega arith)) ∙ sym (turn_0_y o i h)
  read_y_lem (suc zero) m = below o (vx o) i _ h (word (omega arith)) ∙ sym (turn_1_y o i h)
  read_y_lem (suc (suc zero)) m = above o (vy o) i _ h (word (omega arith)) ∙ sym (turn_2_y o i h)
  read_y_lem (suc (suc (suc zero))) m = above o (vx o) i _ h (word (omega arith)) ∙ sym (turn_3_y o i h)
  read_y_lem (suc (suc (suc (suc t)))) m = absurd (omega arith)
