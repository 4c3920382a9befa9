-- Which points lie on an edge: of one that is not vertical, those of its line from end to end in x; of a vertical one, those at its x
-- from end to end in y. Assumes nothing.
use mathlib.Core.Path.{◌≡◌, ap, sym, ◌∙◌}
use Prim.Native.Nat.{ℕ, ◌+◌, ◌*◌, ◌-◌, ◌≤◌, ◌<◌, max, min}
use native.Mathlib.Omega.{arith}
use native.Mathlib.Nat.{mul-le-mul_right, le_of_mul-le-mul_right}
use Rattle.defs.specs.Meaning.Outline.{Edge, height, width}
use Rattle.geom.proofs.Line.{height_is}
use Rattle.strokes.specs.Stroke.{OnEdge, Shared}

pub cancel : (u v d : ℕ) → 1 ≤ d → u * d ≡ v * d → u ≡ v
cancel u v d dpos e =
    omega (
      arith,
      le_of_mul-le-mul_right {m = u} {n = v} {k = d} (omega arith) dpos,
      le_of_mul-le-mul_right {m = v} {n = u} {k = d} (omega arith) dpos,
    )

-- the height by sums, with no difference in it
pub height_line : (e : Edge) (p d : ℕ) → e.xl * d ≤ p → p ≤ e.xr * d →
    height e p d + p * e.yl + e.xl * e.yr * d ≡ p * e.yr + e.xr * e.yl * d
height_line e p d l r = go (e.xr * d - p) (p - e.xl * d) (omega arith) (omega arith)
  where
    go : (A B : ℕ) → e.xr * d ≡ p + A → p ≡ e.xl * d + B →
        height e p d + p * e.yl + e.xl * e.yr * d ≡ p * e.yr + e.xr * e.yl * d
    go A B a b = rw (height_is e p d A B a b) (omega (arith, ap (λ (n : ℕ). e.yl * n) a, ap (λ (n : ℕ). e.yr * n) b))

-- a mean of two numbers lies between them
mean_within : (y z A B q w d : ℕ) → 0 < w → A + B ≡ w * d → y * A + z * B ≡ q * w → (min y z * d ≤ q) × (q ≤ max y z * d)
mean_within y z A B q w d wpos long mean = go (min y z) (max y z) (omega arith) (omega arith) (omega arith) (omega arith)
  where
    go : (l h : ℕ) → l ≤ y → l ≤ z → y ≤ h → z ≤ h → (l * d ≤ q) × (q ≤ h * d)
    go l h ly lz yh zh = (
      le_of_mul-le-mul_right
          (omega (arith, mul-le-mul_right A ly, mul-le-mul_right B lz, ap (λ (n : ℕ). l * n) long)) wpos,
      le_of_mul-le-mul_right
          (omega (arith, mul-le-mul_right A yh, mul-le-mul_right B zh, ap (λ (n : ℕ). h * n) long)) wpos,
    )

pub slanted_on : (e : Edge) (p q d : ℕ) → e.xl < e.xr → 1 ≤ d → e.xl * d ≤ p → p ≤ e.xr * d → height e p d ≡ q * width e →
    OnEdge e p q d
slanted_on e p q d wide dpos l r on =
    go (e.xr * d - p) (p - e.xl * d) (width e) (omega arith) (omega arith) (omega arith) on
  where
    go : (A B w : ℕ) → e.xr * d ≡ p + A → p ≡ e.xl * d + B → e.xr ≡ e.xl + w → height e p d ≡ q * w → OnEdge e p q d
    go A B w a b c mean =
        let within =
        mean_within e.yl e.yr A B q w d (omega arith) (omega (arith, ap (λ (n : ℕ). n * d) c))
        (sym (height_is e p d A B a b) ∙ mean) in
        record { point = dpos; left = l; right = r; on_line = on; low = within.0; high = within.1 }

pub upright_on : (e : Edge) (k q d : ℕ) → e.xl ≡ k → e.xr ≡ k → 1 ≤ d → min e.yl e.yr * d ≤ q → q ≤ max e.yl e.yr * d →
    OnEdge e (k * d) q d
upright_on e k q d l r dpos low high =
    let left : k * d ≡ e.xl * d = ap (λ (n : ℕ). n * d) (sym l) in
    let right : e.xr * d ≡ k * d = ap (λ (n : ℕ). n * d) r in
    let flat : width e ≡ 0 = omega arith in
    record {
      point = dpos;
      left = omega arith;
      right = omega arith;
      on_line = height_is e (k * d) d 0 0 (omega arith) (omega arith) ∙ rw flat (omega arith);
      low = low;
      high = high;
    }

pub shared_sym : {e f : Edge} → Shared e f → Shared f e
shared_sym s =
    record {
      p = s.p;
      q = s.q;
      d = s.d;
      p' = s.p';
      q' = s.q';
      d' = s.d';
      on_e = s.on_f;
      on_f = s.on_e;
      on_e' = s.on_f';
      on_f' = s.on_e';
      differ = s.differ;
    }
