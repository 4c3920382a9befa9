-- Each turn of an outline is a quarter turn of the one before it, turn 0 of turn 3: so what a quarter turn takes along, every turn has if
-- one has it, as a point inside.
-- Assumes nothing.
use mathlib.Core.Path.{◌≡◌, sym, subst, ◌∙◌}
use mathlib.Core.List.{List}
use Prim.Native.Nat.{ℕ, zero, suc, ◌+◌, ◌-◌, ◌≤◌, ◌<◌}
use native.Mathlib.Omega.{arith}
use Rattle.defs.specs.Meaning.Outline.{vx, vy, sides}
use Rattle.defs.specs.Meaning.Limits.{most_turn}
use Rattle.defs.specs.Meaning.Turn.{turned}
use Rattle.laws.proofs.Extremes.{least_at, most_at}
use Rattle.defs.specs.Computing.Vertices.{least_n, most_n}
use Rattle.laws.proofs.Turns.{turn_0_x, turn_0_y, turn_1_x, turn_1_y, turn_2_x, turn_2_y, turn_3_x, turn_3_y}
use Rattle.geom.proofs.Extent.{sides_turned}
use Rattle.turns.proofs.Quarter.{Quarter, HasPoint, quarter_point}

module _ (o : List ℕ) (some : 0 < sides o) where
  -- how far apart the least and the greatest of a coordinate lie
  abbrev extent : (ℕ → ℕ) → ℕ
  extent f = most_n f (sides o - 1) - least_n f (sides o - 1)

  -- the coordinate's distances from the two add up to that
  distances : (f : ℕ → ℕ) (i : ℕ) → i < sides o → (f i - least_n f (sides o - 1)) + (most_n f (sides o - 1) - f i) ≡ extent f
  distances f i l = omega (arith, least_at f (sides o - 1) i (omega arith), most_at f (sides o - 1) i (omega arith))

  -- what is to be shown of each vertex
  quarter : (t u H : ℕ) → ((i : ℕ) → i < sides o → vx (turned o u) i + vy (turned o t) i ≡ H) →
      ((i : ℕ) → i < sides o → vy (turned o u) i ≡ vx (turned o t) i) → Quarter (turned o t) (turned o u) H
  quarter t u H a b =
      record { same = sides_turned o u ∙ sym (sides_turned o t); across = λ i l. a i (below i l); up = λ i l. b i (below i l) }
    where
      below : (i : ℕ) → i < sides (turned o t) → i < sides o
      below i = subst (λ (n : ℕ). i < n) (sides_turned o t)

  from_0 : Quarter (turned o 0) (turned o 1) (extent (vy o))
  from_0 =
      quarter 0 1 (extent (vy o)) (λ i l. omega (arith, turn_1_x o i l, turn_0_y o i l, distances (vy o) i l))
      (λ i l. turn_1_y o i l ∙ sym (turn_0_x o i l))

  from_1 : Quarter (turned o 1) (turned o 2) (extent (vx o))
  from_1 =
      quarter 1 2 (extent (vx o)) (λ i l. omega (arith, turn_2_x o i l, turn_1_y o i l, distances (vx o) i l))
      (λ i l. turn_2_y o i l ∙ sym (turn_1_x o i l))

  from_2 : Quarter (turned o 2) (turned o 3) (extent (vy o))
  from_2 =
      quarter 2 3 (extent (vy o)) (λ i l. omega (arith, turn_3_x o i l, turn_2_y o i l, distances (vy o) i l))
      (λ i l. turn_3_y o i l ∙ sym (turn_2_x o i l))

  from_3 : Quarter (turned o 3) (turned o 0) (extent (vx o))
  from_3 =
      quarter 3 0 (extent (vx o)) (λ i l. omega (arith, turn_0_x o i l, turn_3_y o i l, distances (vx o) i l))
      (λ i l. turn_0_y o i l ∙ sym (turn_3_x o i l))

  -- what each quarter turn takes along, every turn has if one has it
  module _ (P : List ℕ → Type 0) (on : (t u H : ℕ) → Quarter (turned o t) (turned o u) H → P (turned o t) → P (turned o u)) where
    to_0 : (t : ℕ) → t ≤ most_turn → P (turned o t) → P (turned o 0)
    to_0 zero h p = p
    to_0 (suc zero) h p = on 3 0 _ from_3 (on 2 3 _ from_2 (on 1 2 _ from_1 p))
    to_0 (suc (suc zero)) h p = on 3 0 _ from_3 (on 2 3 _ from_2 p)
    to_0 (suc (suc (suc zero))) h p = on 3 0 _ from_3 p
    to_0 (suc (suc (suc (suc t)))) h p = absurd (omega arith)

    to_turn : (t : ℕ) → t ≤ most_turn → P (turned o 0) → P (turned o t)
    to_turn zero h p = p
    to_turn (suc zero) h p = on 0 1 _ from_0 p
    to_turn (suc (suc zero)) h p = on 1 2 _ from_1 (on 0 1 _ from_0 p)
    to_turn (suc (suc (suc zero))) h p = on 2 3 _ from_2 (on 1 2 _ from_1 (on 0 1 _ from_0 p))
    to_turn (suc (suc (suc (suc t)))) h p = absurd (omega arith)

    pub every_turn : (t u : ℕ) → t ≤ most_turn → u ≤ most_turn → P (turned o t) → P (turned o u)
    every_turn t u ht hu p = to_turn u hu (to_0 t ht p)

  pub every_point : (t u : ℕ) → t ≤ most_turn → u ≤ most_turn → HasPoint (turned o t) → HasPoint (turned o u)
  every_point = every_turn HasPoint (λ t u H k. quarter_point k (subst (λ (n : ℕ). 0 < n) (sym (sides_turned o t)) some))
