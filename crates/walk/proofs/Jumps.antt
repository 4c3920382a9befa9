-- What a clash says of the heights, and what its absence says: the run that is met keeps its rows, so no height is free until the piece's
-- run lies above it; a run that meets none stays free until it is raised to the next one.
-- Assumes nothing.
use mathlib.Core.Path.{◌≡◌, subst}
use mathlib.Core.List.{List}
use mathlib.Core.Logic.{⊎_elim}
use Prim.Native.Nat.{ℕ, ◌+◌, ◌-◌, ◌*◌, ◌≤◌, ◌<◌}
use native.Mathlib.Omega.{arith}
use native.Mathlib.Nat.{mul-le-mul_right}
use native.Mathlib.Decide.{dec_lt}
use borrow.Author.Count.{below_more}
use lib.ListN.{get_or}
use Rattle.geom.proofs.Strip.{lt_or_le}
use Rattle.tables.specs.Flat.{Occupied, Laid}
use Rattle.tables.specs.Piece.{run_column, run_low, run_high}
use Rattle.tables.proofs.Flats.{firsts_most}
use Rattle.tries.specs.Tries.{Column, Lowest, ClearTo, Lands}
use Rattle.walk.specs.Free.{Frame, InColumns, Before, FreeTo, GoesOn, Least, NoHeight}

-- the columns of a table laid flat
column_of_lem : {f l h : List ℕ} {W N n c : ℕ} → Laid f l h W N n → c < N → Column f l h c
column_of_lem {c = c} laid u =
    let flat = laid.flat in
    let most = firsts_most flat (c + 1) (omega arith) in
    record {
      here = omega (arith, flat.firsts);
      order = flat.rise c u;
      lows = omega (arith, most, flat.lows);
      highs = omega (arith, most, flat.highs);
      runs = laid.runs c u;
    }

free_none : (f l h r : List ℕ) (N c y : ℕ) → FreeTo f l h r N c y 0
free_none f l h r N c y = record { clear = λ m p. absurd (omega arith) }

module _ {f l h r : List ℕ} {N c k : ℕ} where
  -- one more run is free
  free_more : {y : ℕ} → FreeTo f l h r N c y k →
      ((x : ℕ) → y + run_low r k ≤ x → x < y + run_high r k → ¬ Occupied f l h (c + run_column r k) x) → FreeTo f l h r N c y (k + 1)
  free_more a b = record { clear = below_more _ _ a.clear (λ here j u v o. b _ (omega arith) (omega arith) o) }

  -- no height is free until run k lies above run i
  pub taken : {p y i : ℕ} (z : ℕ) → k < p → c + run_column r k < N → run_low r k < run_high r k → get_or l i 0 < get_or h i 0 →
      Lowest f l h (c + run_column r k) (y + run_low r k) (y + run_high r k) i → y ≤ z → z + run_low r k < get_or h i 0 →
      ¬ FreeTo f l h r N c z p
  taken {p} {y} {i} z kp here some full low yz zj free = at (dec_lt (z + run_low r k) (get_or l i 0))
    where
      occupied : (x : ℕ) → get_or l i 0 ≤ x → x < get_or h i 0 → Occupied f l h (c + run_column r k) x
      occupied x a b = record { which = i; from = low.from; among = low.to; low = a; high = b }

      at : Dec (z + run_low r k < get_or l i 0) → ⊥
      at (yes u) =
          free.clear k kp here (get_or l i 0 - z) (omega arith) (omega (arith, low.under)) (occupied _ (omega arith) (omega arith))
      at (no u) =
          free.clear k kp here (run_low r k) (omega arith) (omega (arith, low.over, low.under))
          (occupied _ (omega arith) (omega arith))

-- no height below y is free in column c
pub record Below (f l h r : List ℕ) (N p c y : ℕ) : Type 0 where
  pub none : (z : ℕ) → z < y → ¬ FreeTo f l h r N c z p

pub below_none : (f l h r : List ℕ) (N p c : ℕ) → Below f l h r N p c 0
below_none f l h r N p c = record { none = λ z a. absurd (omega arith) }

-- the column in which one of the first q runs of the piece lies
pub run_column_lem : {f l h r : List ℕ} {N W p w t q k : ℕ} → Frame f l h r N W p w t → (c : ℕ) → c ≤ N → Before r p (N - c) q → k < q →
    Column f l h (c + run_column r k)
run_column_lem {k = k} fr c fits b l = column_of_lem fr.table (omega (arith, b.inside k l))

-- no height below y is free, and the runs before k stay free from there up to `stay`
pub record Going (f l h r : List ℕ) (N p c top y k stay : ℕ) : Type 0 where
  pub among : k ≤ p
  pub low : y ≤ stay
  pub high : stay ≤ top
  pub free : (z : ℕ) → y ≤ z → z ≤ stay → FreeTo f l h r N c z k
  pub below : Below f l h r N p c y

pub going_start : (f l h r : List ℕ) (N p c top : ℕ) → Going f l h r N p c top 0 0 top
going_start f l h r N p c top =
    record {
      among = omega arith;
      low = omega arith;
      high = omega arith;
      free = λ z a b. free_none f l h r N c z;
      below = below_none f l h r N p c;
    }

module _ {f l h r : List ℕ} {N p c top y k stay : ℕ} (g : Going f l h r N p c top y k stay) where
  pub going_clear : {z : ℕ} → k < p → ClearTo f l h (c + run_column r k) (run_low r k) (run_high r k) y stay z →
      Going f l h r N p c top y (k + 1) z
  going_clear a t =
      record {
        among = omega arith;
        low = t.low;
        high = omega (arith, t.high, g.high);
        free = λ u v w. free_more (g.free u v (omega (arith, t.high))) (t.clear u v w);
        below = g.below;
      }

  pub going_end : {W t : ℕ} → ¬ (k < p) → top + t ≤ W → Least f l h r N W p t c y
  going_end a b =
      let e : k ≡ p = omega (arith, g.among) in
      record {
        fits = omega (arith, g.low, g.high);
        free = subst (FreeTo f l h r N c y) e (g.free y (omega arith) g.low);
        least = g.below.none;
      }

module _ {f l h r : List ℕ} {N W p w t q c top y k stay z : ℕ} (fr : Frame f l h r N W p w t) (fits : c ≤ N) (b : Before r p (N - c) q)
    (among : k < q) (g : Going f l h r N q c top y k stay) (m : Lands f l h (c + run_column r k) (run_low r k) (run_high r k) y z) where
  -- a jump skips no free height
  jumped : Below f l h r N q c z
  jumped =
      record {
        none =
            λ u a free.
            ⊎_elim (λ v. g.below.none u v free)
            (λ v.
            taken u among (omega (arith, b.inside k among)) (fr.some k (omega (arith, b.few)))
            ((run_column_lem fr c fits b among).runs.full m.which m.lowest.from m.lowest.to) m.lowest v (omega (arith, m.on)) free)
            (lt_or_le u y);
      }

  pub going_stop : top < z → W ≤ top + t → NoHeight f l h r N W q t c
  going_stop a e = record { none = λ u v. jumped.none u (omega arith) }

  pub going_jump : {k' stay' : ℕ} → GoesOn k z stay top k' stay' → Going f l h r N q c top z k' stay'
  going_jump {k'} o =
      record {
        among = omega (arith, o.few);
        low = o.low;
        high = o.high;
        free =
            λ u a e.
            record {
              clear =
                  λ n v.
                  (g.free u (omega (arith, m.on, m.lowest.over)) (omega (arith, o.kept (omega arith)))).clear n (omega (arith, o.few));
            };
        below = jumped;
      }

  -- and goes up, so the tries come to an end
  pub falls : {k' stay' : ℕ} → GoesOn k z stay top k' stay' → (top - z) * (q + 1) + (q - k') < (top - y) * (q + 1) + (q - k)
  falls {k'} o =
      let up : (top - z) + 1 ≤ top - y = omega (arith, m.on, m.lowest.over, o.low, o.high) in
      go (top - z) (top - y) up
    where
      go : (a e : ℕ) → a + 1 ≤ e → a * (q + 1) + (q - k') < e * (q + 1) + (q - k)
      go a e u = omega (arith, mul-le-mul_right (q + 1) u)

-- runs past the last column count for nothing
module _ {f l h r : List ℕ} {N p q c : ℕ} (fits : c ≤ N) (b : Before r p (N - c) q) where
  pub free_all : {y : ℕ} → FreeTo f l h r N c y q → FreeTo f l h r N c y p
  free_all free =
      record {
        clear = λ m l here. ⊎_elim (λ u. free.clear m u here) (λ u. absurd (omega (arith, b.past m u l))) (lt_or_le m q);
      }

  free_some : {y : ℕ} → FreeTo f l h r N c y p → FreeTo f l h r N c y q
  free_some free = record { clear = λ m l. free.clear m (omega (arith, b.few)) }

  pub least_all : {W t y : ℕ} → Least f l h r N W q t c y → Least f l h r N W p t c y
  least_all e = record { fits = e.fits; free = free_all e.free; least = λ z u free. e.least z u (free_some free) }

  pub none_all : {W t : ℕ} → NoHeight f l h r N W q t c → NoHeight f l h r N W p t c
  none_all e = record { none = λ z u free. e.none z u (free_some free) }

-- looked for from the last run on: those from q on are past column w
pub record Looking (r : List ℕ) (p w q : ℕ) : Type 0 where
  pub few : q ≤ p
  pub past : (m : ℕ) → q ≤ m → m < p → w ≤ run_column r m

pub looking_start : (r : List ℕ) (p w : ℕ) → Looking r p w p
looking_start r p w = record { few = omega arith; past = λ m a b. absurd (omega arith) }

pub looking_more : {r : List ℕ} {p w q k : ℕ} → Looking r p w q → k + 1 ≡ q → w ≤ run_column r k → Looking r p w k
looking_more {k = k} a e l =
    record {
      few = omega (arith, a.few);
      past = λ m u v. ⊎_elim (λ s. a.past m (omega arith) v) (λ s. let d : m ≡ k = omega arith in rw d l) (lt_or_le k m);
    }

pub looking_found : {r : List ℕ} {p w q : ℕ} (k : ℕ) → Looking r p w q → k + 1 ≡ q → InColumns r p → run_column r k < w → Before r p w q
looking_found k a e runs l =
    record {
      few = a.few;
      inside =
          λ m u.
          ⊎_elim (λ s. omega (arith, runs.order m k s (omega (arith, a.few)))) (λ s. let d : m ≡ k = omega arith in rw d l) (lt_or_le m k);
      past = a.past;
    }

pub looking_none : {r : List ℕ} {p w q : ℕ} → Looking r p w q → ¬ (0 < q) → Before r p w q
looking_none a z = record { few = a.few; inside = λ m u. absurd (omega arith); past = a.past }

-- no column before c has a free height
pub record Left (f l h r : List ℕ) (N W p t c : ℕ) : Type 0 where
  pub none : (b : ℕ) → b < c → NoHeight f l h r N W p t b

pub left_none : (f l h r : List ℕ) (N W p t : ℕ) → Left f l h r N W p t 0
left_none f l h r N W p t = record { none = λ b a. absurd (omega arith) }

pub left_more : {f l h r : List ℕ} {N W p t c : ℕ} → Left f l h r N W p t c → NoHeight f l h r N W p t c → Left f l h r N W p t (c + 1)
left_more a b = record { none = below_more _ _ a.none b }
