-- A vertex in a turn, or none. Assumes nothing.
use mathlib.Core.Path.{◌≡◌, refl, ap, ap₂, ◌∙◌}
use mathlib.Core.List.{List}
use Prim.Native.Nat.{ℕ, ◌+◌, ◌*◌, ◌≤◌, ◌<◌}
use borrow.Author.Tests.{le-leb, lt-leb, lt-ltb, le-ltb}
use Rattle.defs.specs.Meaning.Outline.{sides}
use Rattle.defs.specs.Computing.Vertices.{read_x, read_y}
use Rattle.exports.specs.Read.{vertex_answer}

module _ (o : List ℕ) (t i : ℕ) where
  pub no_turn : 3 < t → 4294967296 ≡ vertex_answer o t i
  unfolding vertex_answer
  no_turn l = rw (lt-leb t 3 l) refl

  module _ (turn : t ≤ 3) where
    pub no_vertex : sides o ≤ i → 4294967296 ≡ vertex_answer o t i
    unfolding vertex_answer
    no_vertex l = rw (le-leb t 3 turn, le-ltb i (sides o) l) refl

    pub vertex : {s x y : ℕ} → s ≡ t → i < sides o → x ≡ read_x o s i → y ≡ read_y o s i → 65536 * y + x ≡ vertex_answer o t i
    unfolding vertex_answer
    vertex e l ex ey =
        rw (le-leb t 3 turn, lt-ltb i (sides o) l)
        (ap₂ (λ (y x : ℕ). 65536 * y + x) (ey ∙ ap (λ (t : ℕ). read_y o t i) e) (ex ∙ ap (λ (t : ℕ). read_x o t i) e))
