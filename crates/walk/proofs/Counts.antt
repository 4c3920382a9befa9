-- The tries counted so far, and what is left of the walk, give the whole walk. Assumes nothing.
use mathlib.Core.Path.{◌≡◌, subst}
use mathlib.Core.Bool.{Bool, true, false}
use mathlib.Core.List.{List}
use mathlib.Core.Logic.{◌⊎◌, ⊎_elim}
use Prim.Native.Nat.{ℕ, zero, suc, ◌+◌, ◌-◌, ◌*◌, ◌≤◌, ◌<◌}
use native.Mathlib.Omega.{arith}
use Rattle.std.specs.Prelude.{Option, None}
use Rattle.geom.proofs.Strip.{lt_or_le}
use Rattle.tables.specs.Piece.{run_column, run_low, run_high}
use Rattle.tries.specs.Tries.{Lands}
use Rattle.walk.specs.declared.WithTries.{WithTries}
use Rattle.walk.specs.Free.{Before, Least, NoHeight}
use Rattle.walk.specs.Steps.{Steps, past, free, jump, TurnSteps, off, found, next, WalkedTurn}
use Rattle.walk.proofs.Jumps.{Going, going_end, free_all, Left, left_none, left_more}

-- n tries are counted, and the last of them is height y; `top` is the greatest height for a piece of any t rows on W
pub record Counted (f l h r : List ℕ) (N p c top y n : ℕ) : Type 0 where
  pub few : n ≤ y + 1
  pub whole : (W t m : ℕ) (b : Bool) → top + t ≡ W → Steps f l h r N W p t c y (suc m) b → Steps f l h r N W p t c 0 (n + m) b

pub count_start : (f l h r : List ℕ) (N p c top : ℕ) → Counted f l h r N p c top 0 1
count_start f l h r N p c top =
    record { few = omega arith; whole = λ W t m b e x. subst (λ (n : ℕ). Steps f l h r N W p t c 0 n b) (omega arith) x }

module _ {f l h r : List ℕ} {N p c top y k stay n : ℕ} (g : Going f l h r N p c top y k stay) (e : Counted f l h r N p c top y n) where
  -- the last height is free
  pub count_end : {W t : ℕ} → ¬ (k < p) → top + t ≡ W → Steps f l h r N W p t c 0 n true
  count_end {W} {t} a b =
      let at : Least f l h r N W p t c y = going_end g a (omega arith) in
      subst (λ (m : ℕ). Steps f l h r N W p t c 0 m true) (omega arith) (e.whole W t 0 true b (free y at.fits at.free))

  module _ {z : ℕ} (few : k < p) (here : c + run_column r k < N) (m : Lands f l h (c + run_column r k) (run_low r k) (run_high r k) y z) where
    -- from it the walk goes on to z
    on : (W t a : ℕ) (b : Bool) → top + t ≡ W → Steps f l h r N W p t c z a b → Steps f l h r N W p t c 0 (n + a) b
    on W t a b q x =
        e.whole W t a b q (jump y z a k b (omega (arith, g.low, g.high)) few here (g.free y (omega arith) g.low) m x)

    pub count_stop : {W t : ℕ} → top + t ≡ W → top < z → Steps f l h r N W p t c 0 n false
    count_stop {W} {t} q u = subst (λ (a : ℕ). Steps f l h r N W p t c 0 a false) (omega arith) (on W t 0 false q (past z (omega arith)))

    pub count_jump : Counted f l h r N p c top z (n + 1)
    count_jump =
        record {
          few = omega (arith, e.few, m.on, m.lowest.over);
          whole = λ W t a b q x. subst (λ (v : ℕ). Steps f l h r N W p t c 0 v b) (omega arith) (on W t (suc a) b q x);
        }

-- runs past the last column count for nothing
pub steps_all : {f l h r : List ℕ} {N W p q t c y n : ℕ} {b : Bool} → c ≤ N → Before r p (N - c) q → Steps f l h r N W q t c y n b →
    Steps f l h r N W p t c y n b
steps_all fits e (past y far) = past y far
steps_all fits e (free y low clear) = free y low (free_all fits e clear)
steps_all fits e (jump y z n k b low few here clear lands later) =
    jump y z n k b low (omega (arith, e.few)) here clear lands (steps_all fits e later)

-- n tries are counted in the columns before c, none of which has a free height
pub record CountedTurn (f l h r : List ℕ) (N W p w t c n : ℕ) : Type 0 where
  pub left : Left f l h r N W p t c
  pub within : c ≤ N + 1
  pub few : n ≤ 65536 * c
  pub whole : (m : ℕ) → TurnSteps f l h r N W p w t c m → TurnSteps f l h r N W p w t 0 (n + m)

-- where the piece is higher than the strip, no column has a try
pub none_tried : (f l h r : List ℕ) (N W p w t : ℕ) → W < t → (k c : ℕ) → N < k + c + w → TurnSteps f l h r N W p w t c 0
none_tried f l h r N W p w t u zero c far = off c (omega arith)
none_tried f l h r N W p w t u (suc k) c far =
    ⊎_elim (λ a. off c a) (λ a. next c 0 0 a (past 0 (omega arith)) (none_tried f l h r N W p w t u k (c + 1) (omega arith)))
    (lt_or_le N (c + w))

module _ {f l h r : List ℕ} {N W p w t c n : ℕ} where
  pub turn_more : {m : ℕ} → CountedTurn f l h r N W p w t c n → c + w ≤ N → NoHeight f l h r N W p t c → Steps f l h r N W p t c 0 m false → m ≤ 65536 →
      CountedTurn f l h r N W p w t (c + 1) (n + m)
  turn_more {m} e fits none x few =
      record {
        left = left_more e.left none;
        within = omega arith;
        few = omega (arith, e.few);
        whole = λ a y. subst (TurnSteps f l h r N W p w t 0) (omega arith) (e.whole (m + a) (next c m a fits x y));
      }

  pub turn_found : {m : ℕ} → CountedTurn f l h r N W p w t c n → c + w ≤ N → Steps f l h r N W p t c 0 m true → TurnSteps f l h r N W p w t 0 (n + m)
  turn_found {m} e fits x = e.whole m (found c m fits x)

  pub turn_end : CountedTurn f l h r N W p w t c n → N < c + w → TurnSteps f l h r N W p w t 0 n
  turn_end e far = subst (TurnSteps f l h r N W p w t 0) (omega arith) (e.whole 0 (off c far))

pub turn_start : (f l h r : List ℕ) (N W p w t : ℕ) → CountedTurn f l h r N W p w t 0 0
turn_start f l h r N W p w t =
    record {
      left = left_none f l h r N W p t;
      within = omega arith;
      few = omega arith;
      whole = λ a y. subst (TurnSteps f l h r N W p w t 0) (omega arith) y;
    }

-- no column has a try where the piece is higher than the strip, or wider
pub none_walked : {f l h r : List ℕ} {N W p w t : ℕ} {a : WithTries (Option (ℕ × ℕ))} → (W < t) ⊎ (N < w) →
    a ≡ record { found = None; tries = 0 } → WalkedTurn f l h r N W p w t a
none_walked {f} {l} {h} {r} {N} {W} {p} {w} {t} u e = rw e (go u)
  where
    go : (W < t) ⊎ (N < w) → WalkedTurn f l h r N W p w t (record { found = None; tries = 0 })
    go =
        ⊎_elim
        (λ u.
        record {
          spot = λ c fits. record { none = λ z v. absurd (omega arith) };
          steps = none_tried f l h r N W p w t u (N + 1) 0 (omega arith);
          few = omega arith;
        })
        (λ u. record { spot = λ c fits. absurd (omega arith); steps = off 0 (omega arith); few = omega arith })
