-- Two pieces on the strip whose cells with a gap are apart: points inside them differ by at least g in x or in y, and none is inside both.
-- If the unit cells of two points were at most g columns and at most g rows apart, the unit cell in the greater of the two columns and the
-- greater of the two rows would be covered for both pieces. It is on the strip, since the two points' own cells are.
-- Assumes nothing.
use mathlib.Core.List.{List}
use mathlib.Core.Logic.{inl, inr, ⊎_elim}
use mathlib.Core.Path.{◌≡◌, ap}
use Prim.Native.Nat.{ℕ, ◌+◌, ◌*◌, ◌/◌, ◌%◌, ◌≤◌, ◌<◌, max}
use native.Mathlib.Omega.{arith}
use native.Mathlib.Nat.{mul-le-mul_right, div-add-mod, mod-lt}
use Rattle.defs.specs.declared.Position.{Position}
use Rattle.defs.specs.Meaning.Outline.{sides, KeepsOrder, Inside}
use Rattle.defs.specs.Meaning.Turn.{turned}
use Rattle.defs.specs.Meaning.Cell.{Covered, CoveredGap, Counting}
use Rattle.defs.specs.Meaning.Placing.{moved, OnStrip, cells_at}
use Rattle.geom.proofs.Strip.{lt_or_le}
use Rattle.geom.proofs.Cells.{widen}
use Rattle.geom.proofs.Points.{point_cell}
use Rattle.tables.proofs.Moved.{points_on_strip}
use Rattle.claims.specs.Distance.{Distant}

-- all covered cells of an outline lie on the strip
abbrev Inward : ℕ → ℕ → ℕ → List ℕ → Type 0
Inward W R N v = (i j : ℕ) → Covered v R i j → (i < N) × (j < W)

-- two outlines have no cell in common that counts
abbrev Disjoint : ℕ → ℕ → ℕ → ℕ → List ℕ → List ℕ → Type 0
Disjoint W R N g v u = (i j : ℕ) → Counting W N (CoveredGap v R g) i j → ¬ Counting W N (CoveredGap u R g) i j

module _ (W R N g : ℕ) (Rpos : 1 ≤ R) where
  unit_on_strip : (v : List ℕ) → Inward W R N v → (k j : ℕ) → Covered v 1 k j → (k < N * R) × (j < W)
  unit_on_strip v in-strip k j c =
      let w =
      in-strip (k / R) j
      (widen (record { k = k; from = omega (arith, div-add-mod k R); to = omega (arith, div-add-mod k R, mod-lt k Rpos); there = c })) in
      (omega (arith, div-add-mod k R, mod-lt k Rpos, mul-le-mul_right R w.0), w.1)

  -- a unit cell covered with the gap, on the strip, in its column
  counts : (v : List ℕ) (k j K J : ℕ) → Covered v 1 k j → k ≤ K → K ≤ k + g → j ≤ J → J ≤ j + g → K < N * R → J < W →
      Counting W N (CoveredGap v R g) (K / R) J
  counts v k j K J c a b e f kn jw =
      record {
        cell =
            record {
              k = K;
              from = omega (arith, div-add-mod K R);
              to = omega (arith, div-add-mod K R, mod-lt K Rpos);
              there = record { column = k; row = j; holds = c; left = a; columns = b; below = e; rows = f };
            };
        column =
            ⊎_elim (λ l. l) (λ l. absurd (omega (arith, div-add-mod K R, mul-le-mul_right R l))) (lt_or_le (K / R) N);
        row = jw;
      }

  -- unit cells with points inside two pieces are more than g apart
  near_clash : (v u : List ℕ) → Inward W R N v → Inward W R N u → Disjoint W R N g v u → (k j k' j' : ℕ) → Covered v 1 k j →
      Covered u 1 k' j' → k ≤ k' + g → k' ≤ k + g → j ≤ j' + g → j' ≤ j + g → ⊥
  near_clash v u in-v in-u apart k j k' j' cv cu a b e f =
      let sv = unit_on_strip v in-v k j cv in
      let su = unit_on_strip u in-u k' j' cu in
      let K = max k k' in
      let J = max j j' in
      apart (K / R) J
      (counts v k j K J cv (omega arith) (omega arith) (omega arith) (omega arith) (omega (arith, sv, su)) (omega (arith, sv, su)))
      (counts u k' j' K J cu (omega arith) (omega arith) (omega arith) (omega arith) (omega (arith, sv, su)) (omega (arith, sv, su)))

-- numbers whose whole parts are more than g apart differ by g at least
far_apart : (g a d b e : ℕ) → 0 < d → 0 < e → a / d + g < b / e → a * e + g * (d * e) ≤ b * d
far_apart g a d b e dp ep h =
    go (a / d) (b / e) (a % d) (b % e) (div-add-mod a d) (div-add-mod b e) (mod-lt a dp) h
  where
    go : (k m r s : ℕ) → d * k + r ≡ a → e * m + s ≡ b → r < d → k + g < m → a * e + g * (d * e) ≤ b * d
    go k m r s ea eb rd l =
        let more : k + g + 1 ≤ m = omega arith in
        omega (
          arith,
          ap (λ (n : ℕ). n * e) ea,
          ap (λ (n : ℕ). n * d) eb,
          mul-le-mul_right e rd,
          mul-le-mul_right (d * e) more,
        )

-- what cells that are apart give
pub record Separate (g : ℕ) (v u : List ℕ) : Type 0 where
  -- "Two points inside different pieces must then differ by at least g in x or in y."
  pub distant : (p q d p' q' d' : ℕ) → Inside v p q d → Inside u p' q' d' → Distant g p q d p' q' d'
  -- "no point lies inside two placed pieces"
  pub none_in_both : (p q d : ℕ) → Inside v p q d → ¬ Inside u p q d

module _ (W R N g : ℕ) (v u : List ℕ) (Rpos : 1 ≤ R) (in-v : Inward W R N v) (in-u : Inward W R N u) (apart : Disjoint W R N g v u) where
  distance : (p q d p' q' d' : ℕ) → Inside v p q d → Inside u p' q' d' → Distant g p q d p' q' d'
  distance p q d p' q' d' iv iu =
      ⊎_elim (λ l. inl (inl (far_apart g p d p' d' iv.point iu.point l)))
      (λ a.
      ⊎_elim (λ l. inl (inr (swapped p' d' p d (far_apart g p' d' p d iu.point iv.point l))))
      (λ b.
      ⊎_elim (λ l. inr (inl (far_apart g q d q' d' iv.point iu.point l)))
      (λ e.
      ⊎_elim (λ l. inr (inr (swapped q' d' q d (far_apart g q' d' q d iu.point iv.point l))))
      (λ f.
      absurd
      (near_clash W R N g Rpos v u in-v in-u apart (p / d) (q / d) (p' / d') (q' / d') (point_cell v p q d iv)
      (point_cell u p' q' d' iu) b a f e))
      (lt_or_le (q' / d' + g) (q / d)))
      (lt_or_le (q / d + g) (q' / d')))
      (lt_or_le (p' / d' + g) (p / d)))
      (lt_or_le (p / d + g) (p' / d'))
    where
      swapped : (a d b e : ℕ) → a * e + g * (d * e) ≤ b * d → a * e + g * (e * d) ≤ b * d
      swapped a d b e l = omega arith

  no_common_point : (p q d : ℕ) → Inside v p q d → ¬ Inside u p q d
  no_common_point p q d iv iu =
      near_clash W R N g Rpos v u in-v in-u apart (p / d) (q / d) (p / d) (q / d) (point_cell v p q d iv) (point_cell u p q d iu)
      (omega arith) (omega arith) (omega arith) (omega arith)

  separate : Separate g v u
  separate = record { distant = distance; none_in_both = no_common_point }

-- two outlines moved to positions on the strip
pub pieces_separate : (W R N g : ℕ) (o o' : List ℕ) (p p' : Position) → 1 ≤ R → KeepsOrder (turned o p.turn) →
    KeepsOrder (turned o' p'.turn) → 0 < sides o → 0 < sides o' → OnStrip W R N o p → OnStrip W R N o' p' →
    ((i j : ℕ) → cells_at W R N g o p i j → ¬ cells_at W R N g o' p' i j) → Separate g (moved R o p) (moved R o' p')
pieces_separate W R N g o o' p p' Rpos keeps keeps' some some' on on' apart =
    separate W R N g (moved R o p) (moved R o' p') Rpos (points_on_strip R o p keeps some Rpos W N on)
    (points_on_strip R o' p' keeps' some' Rpos W N on') apart
