-- The points of an edge by its two vertices, which may be given in either order: within the box of the two, and on their line. In this
-- form x and y have the same part, so a quarter turn and a shift take the points along. Assumes nothing.
use mathlib.Core.Path.{◌≡◌, ap, sym, subst}
use mathlib.Core.Logic.{◌↔◌, ⊎_elim}
use mathlib.Core.List.{List}
use Prim.Native.Nat.{ℕ, ◌+◌, ◌*◌, ◌≤◌, max, min}
use native.Mathlib.Omega.{arith}
use native.Mathlib.Nat.{mul-le-mul_right, min_comm, max_comm, min-eq_left, max-eq_right}
use borrow.Author.Tests.{le-leb, lt-leb}
use Rattle.defs.specs.Meaning.Outline.{Edge, edge_between, edge_at, vx, vy, sides, after, height, width}
use Rattle.geom.proofs.Strip.{le_or_lt}
use Rattle.strokes.specs.Stroke.{OnEdge}
use Rattle.strokes.proofs.Points.{height_line}

-- u/d lies from a to b, or from b to a
abbrev pub Within : ℕ → ℕ → ℕ → ℕ → Type 0
Within a b u d = (min a b * d ≤ u) × (u ≤ max a b * d)

pub record On (x y x' y' p q d : ℕ) : Type 0 where
  pub point : 1 ≤ d
  pub across : Within x x' p d
  pub up : Within y y' q d
  pub line : p * y' + q * x + x' * y * d ≡ p * y + q * x' + x * y' * d

within_swap : (a b u d : ℕ) → Within a b u d → Within b a u d
within_swap a b u d h = (rw (min_comm b a) h.0, rw (max_comm b a) h.1)

on_swap : (x y x' y' p q d : ℕ) → On x y x' y' p q d → On x' y' x y p q d
on_swap x y x' y' p q d h =
    record {
      point = h.point;
      across = within_swap x x' p d h.across;
      up = within_swap y y' q d h.up;
      line = sym h.line;
    }

-- the left end first
on_edge : (e : Edge) (p q d : ℕ) → e.xl ≤ e.xr → On e.xl e.yl e.xr e.yr p q d ↔ OnEdge e p q d
on_edge e p q d order = (
  λ h.
      let l : e.xl * d ≤ p = rw (min-eq_left order) at h.across.0 in
      let r : p ≤ e.xr * d = rw (max-eq_right order) at h.across.1 in
      record {
        point = h.point;
        left = l;
        right = r;
        on_line = (heights l r).0 h.line;
        low = h.up.0;
        high = h.up.1;
      },
  λ h.
      record {
        point = h.point;
        across = (rw (min-eq_left order) h.left, rw (max-eq_right order) h.right);
        up = (h.low, h.high);
        line = (heights h.left h.right).1 h.on_line;
      },
)
  where
    heights : e.xl * d ≤ p → p ≤ e.xr * d →
        (p * e.yr + q * e.xl + e.xr * e.yl * d ≡ p * e.yl + q * e.xr + e.xl * e.yr * d) ↔ (height e p d ≡ q * width e)
    heights l r = go (width e) (omega arith)
      where
        go : (w : ℕ) → e.xr ≡ e.xl + w →
            (p * e.yr + q * e.xl + e.xr * e.yl * d ≡ p * e.yl + q * e.xr + e.xl * e.yr * d) ↔ (height e p d ≡ q * w)
        go w a =
            let across = ap (λ (n : ℕ). q * n) a in
            let line = height_line e p d l r in
            (λ h. omega (arith, across, line), λ h. omega (arith, across, line))

on_between : (x y x' y' p q d : ℕ) → On x y x' y' p q d ↔ OnEdge (edge_between x y x' y') p q d
on_between x y x' y' p q d =
    ⊎_elim
    (λ h. rw (le-leb x x' h) (on_edge (record { xl = x; yl = y; xr = x'; yr = y' }) p q d h))
    (λ h.
    let back = on_edge (record { xl = x'; yl = y'; xr = x; yr = y }) p q d (omega arith) in
    rw (lt-leb x x' h) (λ s. back.0 (on_swap x y x' y' p q d s), λ s. on_swap x' y' x y p q d (back.1 s)))
    (le_or_lt x x')

-- The vertex (x, y) goes to (X, x) with X + y = H, the point (p/d, q/d) to (P/d, p/d).
module _ (x y x' y' p q d H : ℕ) (s : On x y x' y' p q d) where
  pub not_over : y ≤ H → y' ≤ H → q ≤ H * d
  not_over l l' = go (max y y') (omega arith) s.up.1
    where
      go : (h : ℕ) → h ≤ H → q ≤ h * d → q ≤ H * d
      go h a b = omega (arith, mul-le-mul_right d a)

  pub turned_on : (X X' P : ℕ) → X + y ≡ H → X' + y' ≡ H → P + q ≡ H * d → On X x X' x' P p d
  turned_on X X' P e e' m =
      record {
        point = s.point;
        across = (
          omega (arith, ap (λ (n : ℕ). n * d) (let l : min X X' + max y y' ≡ H = omega arith in l), s.up.1),
          omega (arith, ap (λ (n : ℕ). n * d) (let l : max X X' + min y y' ≡ H = omega arith in l), s.up.0),
        );
        up = s.across;
        line =
            omega (
              arith,
              s.line,
              ap (λ (n : ℕ). n * x) m,
              ap (λ (n : ℕ). n * x') m,
              ap (λ (n : ℕ). n * p) e,
              ap (λ (n : ℕ). n * p) e',
              ap (λ (n : ℕ). n * (x' * d)) e,
              ap (λ (n : ℕ). n * (x * d)) e',
            );
      }

within_shift : (a b u d X : ℕ) → Within a b u d ↔ Within (a + X) (b + X) (u + X * d) d
within_shift a b u d X =
    let l : min (a + X) (b + X) ≡ min a b + X = omega arith in
    let h : max (a + X) (b + X) ≡ max a b + X = omega arith in
    rw (l, h) (λ s. (omega (arith, s), omega (arith, s)), λ s. (omega (arith, s), omega (arith, s)))

-- The vertex (x, y) goes to (x + X, y + Y), the point likewise.
module _ (X Y x y x' y' d : ℕ) where
  pub shifted_on : (p q : ℕ) → On x y x' y' p q d ↔ On (x + X) (y + Y) (x' + X) (y' + Y) (p + X * d) (q + Y * d) d
  shifted_on p q = (
    λ s.
        record {
          point = s.point;
          across = (within_shift x x' p d X).0 s.across;
          up = (within_shift y y' q d Y).0 s.up;
          line = omega (arith, s.line);
        },
    λ s.
        record {
          point = s.point;
          across = (within_shift x x' p d X).1 s.across;
          up = (within_shift y y' q d Y).1 s.up;
          line = omega (arith, s.line);
        },
  )

  pub not_under : (p q : ℕ) → On (x + X) (y + Y) (x' + X) (y' + Y) p q d → (X * d ≤ p) × (Y * d ≤ q)
  not_under p q s = (go x x' X p s.across, go y y' Y q s.up)
    where
      go : (a b Z u : ℕ) → Within (a + Z) (b + Z) u d → Z * d ≤ u
      go a b Z u h = omega (arith, h.0, mul-le-mul_right d (let l : Z ≤ min (a + Z) (b + Z) = omega arith in l))

-- edge i of an outline with n vertices
pub on_at : (o : List ℕ) (n i p q d : ℕ) → sides o ≡ n →
    On (vx o i) (vy o i) (vx o (after n i)) (vy o (after n i)) p q d ↔ OnEdge (edge_at o i) p q d
unfolding edge_at
on_at o n i p q d is =
    subst (λ (m : ℕ). On (vx o i) (vy o i) (vx o (after m i)) (vy o (after m i)) p q d ↔ OnEdge (edge_at o i) p q d) is
    (on_between (vx o i) (vy o i) (vx o (after (sides o) i)) (vy o (after (sides o) i)) p q d)
