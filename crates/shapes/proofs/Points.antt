-- A vertex of the turned outline, shifted, is that of the moved piece.
-- Assumes nothing.
use mathlib.Core.Path.{◌≡◌, sym, ap, ◌∙◌}
use mathlib.Core.List.{List}
use Prim.Native.Nat.{ℕ, ◌+◌, ◌*◌, ◌<◌}
use Rattle.defs.specs.declared.Position.{Position}
use Rattle.defs.specs.Meaning.Outline.{vx, vy, sides}
use Rattle.defs.specs.Meaning.Turn.{turned}
use Rattle.defs.specs.Meaning.Placing.{moved}
use Rattle.laws.proofs.Turns.{at_x, at_y}
use Rattle.outline.specs.Vertex.{VertexOf}
use Rattle.shapes.specs.Points.{PointOf}

pub point_is : {o : List ℕ} {R : ℕ} {p : Position} {t i x y u v : ℕ} → i < sides o → t ≡ p.turn → VertexOf o t i u v →
    x ≡ u + p.column * R → y ≡ v + p.height → PointOf o R p i x y
unfolding moved
point_is {o} {R} {p} {t} {i} l e k ex ey =
    let v = turned o p.turn in
    record {
      across =
          ex ∙ ap (λ (a : ℕ). a + p.column * R) (k.across ∙ ap (λ (t : ℕ). vx (turned o t) i) e) ∙
          sym (at_x (λ i. vx v i + p.column * R) (λ i. vy v i + p.height) (sides o) i l);
      up =
          ey ∙ ap (λ (a : ℕ). a + p.height) (k.up ∙ ap (λ (t : ℕ). vy (turned o t) i) e) ∙
          sym (at_y (λ i. vx v i + p.column * R) (λ i. vy v i + p.height) (sides o) i l);
    }
