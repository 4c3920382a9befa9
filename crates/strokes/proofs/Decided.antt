-- The test of two edges decides whether they share a stretch. Where it passes, the ends of the stretch lie on both edges. Two points on
-- both edges make it pass: if they differ in x the edges lie on one line, and if only in y both edges are vertical. Assumes nothing.
use mathlib.Core.Path.{◌≡◌, refl, ap, ap₂, sym, ◌∙◌}
use mathlib.Core.Logic.{◌⊎◌, inl, inr, ⊎_elim}
use Prim.Native.Nat.{ℕ, ◌*◌, ◌≤◌, ◌<◌, max, min}
use native.Mathlib.Omega.{arith}
use native.Mathlib.Nat.{mul-le-mul_right, mul-lt-mul_of_pos_right, lt_of_mul-lt-mul_right, mul-pos, mul_comm}
use Rattle.laws.proofs.Tests.{Decides, ltb_decides, eqb_decides, and_decides, or_decides, decides_by}
use Rattle.laws.proofs.Order.{compare3}
use Rattle.defs.specs.Meaning.Outline.{Edge, height, width}
use Rattle.geom.proofs.Strip.{le_or_lt}
use Rattle.geom.proofs.Scale.{height_scale}
use Rattle.strokes.specs.Stroke.{OnEdge, Shared}
use Rattle.strokes.specs.Retrace.{rise_alike, level, run_along, stand_along, sharesb}
use Rattle.strokes.proofs.Points.{cancel, slanted_on, upright_on}
use Rattle.strokes.proofs.Lines.{Over, Level, Alike, level_on, alike_of}

-- two intervals that both hold u/d and u'/d', which differ, overlap
overlap : (a A b B u d u' d' : ℕ) → a * d ≤ u → A * d ≤ u → u * d' < u' * d → u' ≤ b * d' → u' ≤ B * d' → max a A < min b B
overlap a A b B u d u' d' al Al less br Br = omega (arith, apart a b al br, apart a B al Br, apart A b Al br, apart A B Al Br)
  where
    apart : (x y : ℕ) → x * d ≤ u → u' ≤ y * d' → x < y
    apart x y l r = lt_of_mul-lt-mul_right (d * d') (omega (arith, mul-le-mul_right d' l, mul-le-mul_right d r))

-- an edge with two points at one x is vertical
vertical : (e : Edge) (p q d p' q' d' : ℕ) → e.xl ≤ e.xr → OnEdge e p q d → OnEdge e p' q' d' → p * d' ≡ p' * d → q * d' < q' * d →
    e.xl ≡ e.xr
vertical e p q d p' q' d' order a b same less =
    ⊎_elim (λ h. omega arith) (λ h. absurd (go (width e) (omega arith) product)) (le_or_lt e.xr e.xl)
  where
    product : q * width e * d' ≡ q' * width e * d
    product =
        ap (λ (h : ℕ). h * d') (sym a.on_line) ∙ sym (height_scale e p d d') ∙
        ap₂ (height e) same (mul_comm d d') ∙ height_scale e p' d' d ∙ ap (λ (h : ℕ). h * d) b.on_line

    go : (w : ℕ) → 0 < w → q * w * d' ≡ q' * w * d → ⊥
    go w wpos s = omega (arith, mul-lt-mul_of_pos_right less wpos)

module _ (e f : Edge) where
  -- the two tests, as facts
  abbrev Run : Type 0
  Run = (max e.xl f.xl < min e.xr f.xr) × (Alike e f × Level e f (max e.xl f.xl) 1)

  abbrev Stand : Type 0
  Stand =
      ((e.xl ≡ e.xr) × ((f.xl ≡ f.xr) × (e.xl ≡ f.xl))) ×
      (max (min e.yl e.yr) (min f.yl f.yr) < min (max e.yl e.yr) (max f.yl f.yr))

  test : Decides (sharesb e f) (Run ⊎ Stand)
  unfolding sharesb run_along stand_along rise_alike level
  test =
      or_decides (and_decides (ltb_decides _ _) (and_decides (eqb_decides _ _) (eqb_decides _ _)))
      (and_decides (and_decides (eqb_decides _ _) (and_decides (eqb_decides _ _) (eqb_decides _ _))) (ltb_decides _ _))

  -- where e and g are level at x = k, the point of e there lies on g
  level_point : (g : Edge) (k : ℕ) → e.xl < e.xr → g.xl < g.xr → g.xl ≤ k → k ≤ g.xr → Level e g k 1 →
      OnEdge g (k * width e) (height e k 1) (1 * width e)
  level_point g k wide gwide l r here =
      slanted_on g (k * width e) (height e k 1) (1 * width e) gwide (omega arith)
      (omega (arith, mul-le-mul_right (width e) l)) (omega (arith, mul-le-mul_right (width e) r)) (height_scale g k 1 (width e) ∙ sym here)

  run_shares : Run → Shared e f
  run_shares t =
      go (max e.xl f.xl) (min e.xr f.xr) t.0 (omega arith) (omega arith) (omega arith) (omega arith) t.1.0 t.1.1
    where
      go : (k m : ℕ) → k < m → e.xl ≤ k → f.xl ≤ k → m ≤ e.xr → m ≤ f.xr → Alike e f → Level e f k 1 → Shared e f
      go k m long el fl er fr alike here =
          let ewide : e.xl < e.xr = omega arith in
          let fwide : f.xl < f.xr = omega arith in
          let at-k : Over e f k 1 = omega arith in
          let at-m : Over e f m 1 = omega arith in
          let wpos : 0 < width e = omega arith in
          record {
            p = k * width e;
            q = height e k 1;
            d = 1 * width e;
            p' = m * width e;
            q' = height e m 1;
            d' = 1 * width e;
            on_e = level_point e k ewide ewide el (omega arith) refl;
            on_f = level_point f k ewide fwide fl (omega arith) here;
            on_e' = level_point e m ewide ewide (omega arith) er refl;
            on_f' = level_point f m ewide fwide (omega arith) fr (level_on e f alike k 1 m 1 at-k at-m here);
            differ = inl (λ s. omega (arith, s, mul-lt-mul_of_pos_right long (mul-pos wpos wpos)));
          }

  stand_shares : Stand → Shared e f
  stand_shares t =
      go (max (min e.yl e.yr) (min f.yl f.yr)) (min (max e.yl e.yr) (max f.yl f.yr)) t.1 (omega arith)
      (omega arith) (omega arith) (omega arith)
    where
      go : (l h : ℕ) → l < h → min e.yl e.yr ≤ l → min f.yl f.yr ≤ l → h ≤ max e.yl e.yr → h ≤ max f.yl f.yr →
          Shared e f
      go l h less el fl eh fh =
          record {
            p = e.xl * 1;
            q = l;
            d = 1;
            p' = e.xl * 1;
            q' = h;
            d' = 1;
            on_e = upright_on e e.xl l 1 refl (sym t.0.0) (omega arith) (omega arith) (omega arith);
            on_f = upright_on f e.xl l 1 (sym t.0.1.1) (omega (arith, t)) (omega arith) (omega arith) (omega arith);
            on_e' = upright_on e e.xl h 1 refl (sym t.0.0) (omega arith) (omega arith) (omega arith);
            on_f' = upright_on f e.xl h 1 (sym t.0.1.1) (omega (arith, t)) (omega arith) (omega arith) (omega arith);
            differ = inr (λ s. omega arith);
          }

  module _ (p q d p' q' d' : ℕ) (a : OnEdge e p q d) (b : OnEdge f p q d) (a' : OnEdge e p' q' d') (b' : OnEdge f p' q' d') where
    shared_runs : p * d' < p' * d → Run
    shared_runs less =
        let long = overlap e.xl f.xl e.xr f.xr p d p' d' a.left b.left less a'.right b'.right in
        let alike = alike_of e f p d p' d' less (over p q d a b) (over p' q' d' a' b') (even p q d a b) (even p' q' d' a' b') in
        (long, (alike, level_on e f alike p d (max e.xl f.xl) 1 (over p q d a b) (omega arith) (even p q d a b)))
      where
        over : (p q d : ℕ) → OnEdge e p q d → OnEdge f p q d → Over e f p d
        over p q d a b = record { point = a.point; e_left = a.left; e_right = a.right; f_left = b.left; f_right = b.right }

        even : (p q d : ℕ) → OnEdge e p q d → OnEdge f p q d → Level e f p d
        even p q d a b = rw (a.on_line, b.on_line) (omega arith)

    shared_stands : e.xl ≤ e.xr → f.xl ≤ f.xr → p * d' ≡ p' * d → q * d' < q' * d → Stand
    shared_stands eo fo same less =
        let u = vertical e p q d p' q' d' eo a a' same less in
        let v = vertical f p q d p' q' d' fo b b' same less in
        let eu = ap (λ (x : ℕ). x * d) u in
        let ev = ap (λ (x : ℕ). x * d) v in (
          (u, (v, cancel e.xl f.xl d a.point (omega (arith, a.left, a.right, b.left, b.right, eu, ev)))),
          overlap (min e.yl e.yr) (min f.yl f.yr) (max e.yl e.yr) (max f.yl f.yr) q d q' d' a.low b.low less
              a'.high b'.high,
        )

pub shares_decides : (e f : Edge) → e.xl ≤ e.xr → f.xl ≤ f.xr → Decides (sharesb e f) (Shared e f)
shares_decides e f eo fo = decides_by (⊎_elim (run_shares e f) (stand_shares e f)) passes (test e f)
  where
    passes : Shared e f → Run e f ⊎ Stand e f
    passes s =
        ⊎_elim (λ l. inl (shared_runs e f _ _ _ _ _ _ s.on_e s.on_f s.on_e' s.on_f' l))
        (⊎_elim
        (λ same.
        ⊎_elim (λ l. inr (shared_stands e f _ _ _ _ _ _ s.on_e s.on_f s.on_e' s.on_f' eo fo same l))
        (⊎_elim (λ level. absurd (⊎_elim (λ ne. ne same) (λ ne. ne level) s.differ))
        (λ l. inr (shared_stands e f _ _ _ _ _ _ s.on_e' s.on_f' s.on_e s.on_f eo fo (sym same) l)))
        (compare3 (s.q * s.d') (s.q' * s.d)))
        (λ l. inl (shared_runs e f _ _ _ _ _ _ s.on_e' s.on_f' s.on_e s.on_f l)))
        (compare3 (s.p * s.d') (s.p' * s.d))
