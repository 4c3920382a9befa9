-- What points that touch the inside come as near to as one likes touches it too. Assumes nothing.
use mathlib.Core.List.{List}
use Prim.Native.Nat.{ℕ, ◌+◌, ◌*◌, ◌≤◌, ◌<◌}
use native.Mathlib.Omega.{arith}
use native.Mathlib.Nat.{mul-le-mul_right, mul-lt-mul_of_pos_right, lt_of_mul-lt-mul_right}
use Rattle.knife.specs.Knife.{Near, InsideNear, Touches}

-- A point that touches the inside is less than 1/n away.
pub record TouchesNear (o : List ℕ) (p q d n : ℕ) : Type 0 where
  pub p' : ℕ
  pub q' : ℕ
  pub d' : ℕ
  pub point : 1 ≤ d'
  pub near : Near n p q d p' q' d'
  pub touches : Touches o p' q' d'

-- half as near, twice
near_near : (n p q d p' q' d' p'' q'' d'' : ℕ) → 1 ≤ d' → 1 ≤ d'' → Near (2 * n) p q d p' q' d' → Near (2 * n) p' q' d' p'' q'' d'' →
    Near n p q d p'' q'' d''
near_near n p q d p' q' d' p'' q'' d'' pos' pos'' a b =
    record {
      left = go p p' p'' a.left b.left;
      right = back p p' p'' a.right b.right;
      low = go q q' q'' a.low b.low;
      high = back q q' q'' a.high b.high;
    }
  where
    go : (p p' p'' : ℕ) → p * d' * (2 * n) < p' * d * (2 * n) + d * d' → p' * d'' * (2 * n) < p'' * d' * (2 * n) + d' * d'' →
        p * d'' * n < p'' * d * n + d * d''
    go p p' p'' a b = lt_of_mul-lt-mul_right (2 * d') (omega (arith, mul-lt-mul_of_pos_right a pos'', mul-le-mul_right d b))

    back : (p p' p'' : ℕ) → p' * d * (2 * n) < p * d' * (2 * n) + d * d' → p'' * d' * (2 * n) < p' * d'' * (2 * n) + d' * d'' →
        p'' * d * n < p * d'' * n + d * d''
    back p p' p'' a b = lt_of_mul-lt-mul_right (2 * d') (omega (arith, mul-lt-mul_of_pos_right a pos'', mul-le-mul_right d b))

pub touches_limit : (o : List ℕ) (p q d : ℕ) → ((n : ℕ) → 1 ≤ n → TouchesNear o p q d n) → Touches o p q d
unfolding Touches
touches_limit o p q d h n some = go (h (2 * n) (omega arith))
  where
    go : TouchesNear o p q d (2 * n) → InsideNear o p q d n
    go t =
        let c = t.touches (2 * n) (omega arith) in
        record {
          p' = c.p';
          q' = c.q';
          d' = c.d';
          inside = c.inside;
          near = near_near n p q d t.p' t.q' t.d' c.p' c.q' c.d' t.point c.inside.point t.near c.near;
        }
