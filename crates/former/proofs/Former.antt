-- "With g = 0 every position is the former one": with no gap the cells of a piece on the strip are the former ones, and so are the
-- positions that fit, the best one, and the runs.
-- Assumes nothing.
use mathlib.Core.Bool.{Bool, true, false, cond, ◌&&◌, ◌||◌}
use mathlib.Core.List.{List, [], ◌∷◌}
use mathlib.Core.Logic.{◌↔◌}
use mathlib.Core.Path.{◌≡◌, refl, ap, ap₂, ◌∙◌}
use Prim.Native.Nat.{ℕ, zero, suc, ◌+◌, ◌*◌, ◌-◌, ◌≤◌, ◌<◌}
use native.Mathlib.Omega.{arith}
use borrow.Author.Tests.{le-leb}
use Rattle.defs.specs.declared.Position.{Position}
use Rattle.defs.specs.Meaning.Outline.{sides, KeepsOrder}
use Rattle.defs.specs.Meaning.Turn.{turned, extent_x, extent_y}
use Rattle.defs.specs.Meaning.Cell.{Cells}
use Rattle.defs.specs.Meaning.Placing.{columns_for, moved, OnStrip, cells_at, Free, Fits, Best}
use Rattle.defs.specs.Meaning.Question.{Question10}
use Rattle.defs.specs.Computing.Test.{any_to, list_from}
use Rattle.defs.specs.Computing.Cells.{Rows, opens, unitsb, raisedb, coveredb, join_row, stretches, piece_runs}
use Rattle.geom.proofs.Windows.{no_gap}
use Rattle.tables.proofs.Moved.{points_on_strip}
use Rattle.former.specs.Former.{former_cells, FormerFits, FormerBest, former_coveredb, former_runs}

-- the cells of a piece on the strip: none of them is past its top or end
module _ (W R N : ℕ) (o : List ℕ) (p : Position) (keeps : KeepsOrder (turned o p.turn)) (some : 0 < sides o) (Rpos : 1 ≤ R)
    (on : OnStrip W R N o p) where
  pub former_cells_lem : (i j : ℕ) → cells_at W R N 0 o p i j ↔ former_cells R o p i j
  former_cells_lem i j = (
    λ c. (no_gap (moved R o p) R i j).0 c.cell,
    λ c.
        let l = points_on_strip R o p keeps some Rpos W N on i j c in
        record { cell = (no_gap (moved R o p) R i j).1 c; column = l.0; row = l.1 },
  )

module _ (W R N : ℕ) (Occupied : Cells) (o : List ℕ) (mask : ℕ) (keeps : Question10 o mask) (some : 0 < sides o) (Rpos : 1 ≤ R) where
  pub former_fits : (p : Position) → Fits W R N 0 Occupied o mask p ↔ FormerFits W R N Occupied o mask p
  unfolding Free Question10
  former_fits p = (
    λ f.
        record {
          allowed = f.allowed;
          on_strip = f.on_strip;
          free = λ i j c. f.free i j ((former_cells_lem W R N o p (keeps p.turn f.allowed) some Rpos f.on_strip i j).1 c);
        },
    λ f.
        record {
          allowed = f.allowed;
          on_strip = f.on_strip;
          free = λ i j c. f.free i j ((former_cells_lem W R N o p (keeps p.turn f.allowed) some Rpos f.on_strip i j).0 c);
        },
  )

  pub former_best : (p : Position) → Best W R N 0 Occupied o mask p ↔ FormerBest W R N Occupied o mask p
  former_best p = (
    λ b. record { fits = (former_fits p).0 b.fits; first = λ q f. b.first q ((former_fits q).1 f) },
    λ b. record { fits = (former_fits p).1 b.fits; first = λ q f. b.first q ((former_fits q).0 f) },
  )

-- the test of one row is the test of the row itself
raised_none : (f : ℕ → Bool) (j : ℕ) → raisedb 0 f j ≡ f j
unfolding raisedb any_to
raised_none f j =
    let e : j - 0 ≡ j = omega arith in
    ap₂ (λ (a : Bool) (n : ℕ). (a && f n) || false) (le-leb 0 j (omega arith)) e ∙ or_none (f j)
  where
    or_none : (b : Bool) → (b || false) ≡ b
    or_none true = refl
    or_none false = refl

test_none : (v : List ℕ) (R i j : ℕ) → coveredb v R 0 i j ≡ former_coveredb v R i j
unfolding coveredb former_coveredb unitsb
test_none v R i j =
    let a : i * R - 0 ≡ i * R = omega arith in
    let n : (i + 1) * R - (i * R - 0) ≡ R = omega arith in
    raised_none (unitsb v (i * R - 0) ((i + 1) * R - (i * R - 0))) j ∙
    ap₂ (λ (a n : ℕ). any_to (λ k. any_to (opens v (a + k) j) (sides v)) n) a n

stretches_same : (f h : ℕ → Bool) → ((j : ℕ) → f j ≡ h j) → (n : ℕ) (rs : List Rows) → stretches f n rs ≡ stretches h n rs
unfolding stretches
stretches_same f h e zero rs = refl
stretches_same f h e (suc n) rs = stretches_same f h e n _ ∙ ap (λ (b : Bool). stretches h n (cond b (join_row n rs) rs)) (e n)

list_from_same : {A : Type 0} (f h : ℕ → A) → ((i : ℕ) → f i ≡ h i) → (k n : ℕ) → list_from f k n ≡ list_from h k n
unfolding list_from
list_from_same f h e k zero = refl
list_from_same f h e k (suc n) = ap₂ ◌∷◌ (e k) (list_from_same f h e (suc k) n)

pub former_runs_lem : (o : List ℕ) (t R : ℕ) → piece_runs o t R 0 ≡ former_runs o t R
unfolding piece_runs former_runs
former_runs_lem o t R =
    let w : extent_x o t + 0 ≡ extent_x o t = omega arith in
    let h : extent_y o t + 0 ≡ extent_y o t = omega arith in
    ap₂ (λ (w h : ℕ). list_from (λ i. stretches (coveredb (turned o t) R 0 i) h []) 0 (columns_for w R)) w h ∙
    list_from_same _ _ (λ i. stretches_same _ _ (test_none (turned o t) R i) (extent_y o t) []) 0 (columns_for (extent_x o t) R)
