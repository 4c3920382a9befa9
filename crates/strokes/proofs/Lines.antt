-- Edges that are not vertical, as lines: where they are level at two places they rise alike, and where they rise alike and are level at
-- one place they are at every other. Assumes nothing.
use mathlib.Core.Path.{◌≡◌, ap}
use mathlib.Core.Logic.{◌↔◌}
use Prim.Native.Nat.{ℕ, ◌+◌, ◌*◌, ◌-◌, ◌≤◌, ◌<◌}
use native.Mathlib.Omega.{arith}
use Rattle.defs.specs.Meaning.Outline.{Edge, height, width}
use Rattle.strokes.proofs.Points.{cancel, height_line}

-- A line by differences: at x = 0 it is at high − low, and from there it rises by up − down for each 1.
record Line : Type 0 where
  down : ℕ
  up : ℕ
  low : ℕ
  high : ℕ

-- the line's height at p/d, times d
abbrev At : Line → ℕ → ℕ → ℕ → Type 0
At l p d h = h + p * l.down + l.low * d ≡ p * l.up + l.high * d

module _ (l m : Line) where
  one_line : (p d h k : ℕ) → 1 ≤ d → l.up + m.down ≡ m.up + l.down → At l p d h → At m p d k →
      (h ≡ k) ↔ (l.high + m.low ≡ l.low + m.high)
  one_line p d h k dpos alike a b =
      let rise = ap (λ (n : ℕ). n * p) alike in (
        λ here. cancel (l.high + m.low) (l.low + m.high) d dpos (omega (arith, rise)),
        λ same. omega (arith, rise, ap (λ (n : ℕ). n * d) same),
      )

  lines_alike : (p d h p' d' h' : ℕ) → p * d' < p' * d → At l p d h → At m p d h → At l p' d' h' → At m p' d' h' →
      l.up + m.down ≡ m.up + l.down
  lines_alike p d h p' d' h' less a b a' b' =
      go (l.up + m.down) (m.up + l.down) (l.low + m.high) (l.high + m.low) (p' * d - p * d') (omega arith) (omega arith)
      (omega arith) (omega arith)
    where
      go : (α β γ δ n : ℕ) → p' * d ≡ p * d' + n → 1 ≤ n → p * α + δ * d ≡ p * β + γ * d → p' * α + δ * d' ≡ p' * β + γ * d' → α ≡ β
      go α β γ δ n e some i i' =
          cancel α β n some
          (omega (
            arith,
            ap (λ (x : ℕ). α * x) e,
            ap (λ (x : ℕ). β * x) e,
            ap (λ (x : ℕ). x * d') i,
            ap (λ (x : ℕ). x * d) i',
          ))

-- the line of an edge, times its width and z
abbrev line_of : Edge → ℕ → Line
line_of e z = record { down = e.yl * z; up = e.yr * z; low = e.xl * e.yr * z; high = e.xr * e.yl * z }

height_at : (e : Edge) (p d z : ℕ) → e.xl * d ≤ p → p ≤ e.xr * d → At (line_of e z) p d (height e p d * z)
height_at e p d z l r = omega (arith, ap (λ (n : ℕ). n * z) (height_line e p d l r))

-- p/d lies from end to end of both edges
pub record Over (e f : Edge) (p d : ℕ) : Type 0 where
  pub point : 1 ≤ d
  pub e_left : e.xl * d ≤ p
  pub e_right : p ≤ e.xr * d
  pub f_left : f.xl * d ≤ p
  pub f_right : p ≤ f.xr * d

module _ (e f : Edge) where
  -- the same height at p/d, and the same rise, as the tests have them
  abbrev pub Level : ℕ → ℕ → Type 0
  Level p d = height e p d * width f ≡ height f p d * width e

  abbrev pub Alike : Type 0
  Alike = e.yr * width f + f.yl * width e ≡ f.yr * width e + e.yl * width f

  abbrev l : Line
  l = line_of e (width f)

  abbrev m : Line
  m = line_of f (width e)

  pub level_on : Alike → (p d p' d' : ℕ) → Over e f p d → Over e f p' d' → Level p d → Level p' d'
  level_on alike p d p' d' o o' here = (at p' d' o').1 ((at p d o).0 here)
    where
      at : (p d : ℕ) → Over e f p d → Level p d ↔ (l.high + m.low ≡ l.low + m.high)
      at p d o =
          one_line l m p d (height e p d * width f) (height f p d * width e) o.point alike
          (height_at e p d (width f) o.e_left o.e_right) (height_at f p d (width e) o.f_left o.f_right)

  pub alike_of : (p d p' d' : ℕ) → p * d' < p' * d → Over e f p d → Over e f p' d' → Level p d → Level p' d' → Alike
  alike_of p d p' d' less o o' here there =
      lines_alike l m p d (height e p d * width f) p' d' (height e p' d' * width f) less
      (height_at e p d (width f) o.e_left o.e_right) (rw here (height_at f p d (width e) o.f_left o.f_right))
      (height_at e p' d' (width f) o'.e_left o'.e_right) (rw there (height_at f p' d' (width e) o'.f_left o'.f_right))
