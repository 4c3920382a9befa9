-- An outline draws something twice in one turn if it does in another, and moved if it does unmoved: turns and shifts take the points of
-- the edges along. Assumes nothing.
use mathlib.Core.Path.{◌≡◌, refl, ap, sym, subst, ◌∙◌}
use mathlib.Core.Logic.{◌↔◌, ◌⊎◌, ◌≢◌, inl, inr, ⊎_elim}
use mathlib.Core.List.{List}
use Prim.Native.Nat.{ℕ, ◌+◌, ◌*◌, ◌-◌, ◌/◌, ◌≤◌, ◌<◌}
use native.Mathlib.Omega.{arith}
use Rattle.defs.specs.declared.Position.{Position}
use Rattle.defs.specs.Meaning.Outline.{Edge, vx, vy, sides, after, edge_at}
use Rattle.defs.specs.Meaning.Limits.{most_turn}
use Rattle.defs.specs.Meaning.Turn.{turned}
use Rattle.defs.specs.Meaning.Placing.{moved}
use Rattle.defs.specs.Computing.Vertices.{least_n}
use Rattle.laws.proofs.Turns.{turn_0_x, turn_0_y, at_x, at_y}
use Rattle.laws.proofs.Order.{compare3}
use Rattle.geom.proofs.Extent.{after_below, length_outline, sides_turned}
use Rattle.turns.proofs.Quarter.{Quarter}
use Rattle.laws.proofs.Extremes.{least_at}
use Rattle.turns.proofs.Turned.{every_turn}
use Rattle.strokes.specs.Stroke.{OnEdge, Shared, DrawnOnce}
use Rattle.strokes.proofs.Ends.{On, on_at, not_over, turned_on, shifted_on, not_under}

-- A map of points, (p/d, q/d) to (g p q d / d, h p q d / d), that takes the points of e and f along and keeps different ones apart.
shared_by : {e f e' f' : Edge} (g h : ℕ → ℕ → ℕ → ℕ) →
    ((p q d : ℕ) → OnEdge e p q d → OnEdge e' (g p q d) (h p q d) d) → ((p q d : ℕ) → OnEdge f p q d → OnEdge f' (g p q d) (h p q d) d) →
    ((p q d p' q' d' : ℕ) → OnEdge e p q d → OnEdge e p' q' d' → g p q d * d' ≡ g p' q' d' * d → h p q d * d' ≡ h p' q' d' * d →
    (p * d' ≡ p' * d) × (q * d' ≡ q' * d)) →
    Shared e f → Shared e' f'
shared_by g h on_e on_f apart s =
    record {
      p = g s.p s.q s.d;
      q = h s.p s.q s.d;
      d = s.d;
      p' = g s.p' s.q' s.d';
      q' = h s.p' s.q' s.d';
      d' = s.d';
      on_e = on_e _ _ _ s.on_e;
      on_f = on_f _ _ _ s.on_f;
      on_e' = on_e _ _ _ s.on_e';
      on_f' = on_f _ _ _ s.on_f';
      differ = go _ _ _ _ (apart _ _ _ _ _ _ s.on_e s.on_e');
    }
  where
    go : (a a' b b' : ℕ) → (a ≡ a' → b ≡ b' → (s.p * s.d' ≡ s.p' * s.d) × (s.q * s.d' ≡ s.q' * s.d)) → (a ≢ a') ⊎ (b ≢ b')
    go a a' b b' same =
        ⊎_elim (λ l. inl (λ x. omega arith))
        (⊎_elim
        (λ x. inr (λ y. ⊎_elim (λ ne. ne (same x y).0) (λ ne. ne (same x y).1) s.differ))
        (λ l. inl (λ x. omega arith)))
        (compare3 a a')

-- By a quarter turn the point (p/d, q/d) goes to (H - q/d, p/d).
module _ {v w : List ℕ} {H : ℕ} (t : Quarter v w H) where
  quarter_on : (i p q d : ℕ) → i < sides v → OnEdge (edge_at v i) p q d → (q ≤ H * d) × OnEdge (edge_at w i) (H * d - q) p d
  quarter_on i p q d l on = (
    top,
    (on_at w (sides v) i (H * d - q) p d t.same).0
        (rw (t.up i l, t.up n m)
        (turned_on _ _ _ _ p q d H here (vx w i) (vx w n) (H * d - q) (t.across i l) (t.across n m) (omega (arith, top)))),
  )
    where
      n : ℕ
      n = after (sides v) i

      m : n < sides v
      m = after_below (sides v) i l

      here : On (vx v i) (vy v i) (vx v n) (vy v n) p q d
      here = (on_at v (sides v) i p q d refl).1 on

      top : q ≤ H * d
      top = not_over _ _ _ _ p q d H here (omega (arith, t.across i l)) (omega (arith, t.across n m))

  quarter_shared : (i j : ℕ) → i < sides v → j < sides v → Shared (edge_at v i) (edge_at v j) → Shared (edge_at w i) (edge_at w j)
  quarter_shared i j l m =
      shared_by (λ p q d. H * d - q) (λ p q d. p) (λ p q d s. (quarter_on i p q d l s).1) (λ p q d s. (quarter_on j p q d m s).1)
      (λ p q d p' q' d' a b x y. (y, back q d q' d' (quarter_on i p q d l a).0 (quarter_on i p' q' d' l b).0 x))
    where
      back : (q d q' d' : ℕ) → q ≤ H * d → q' ≤ H * d' → (H * d - q) * d' ≡ (H * d' - q') * d → q * d' ≡ q' * d
      back q d q' d' u u' = go (H * d - q) (H * d' - q') (omega arith) (omega arith)
        where
          go : (P P' : ℕ) → P + q ≡ H * d → P' + q' ≡ H * d' → P * d' ≡ P' * d → q * d' ≡ q' * d
          go P P' e e' s = omega (arith, ap (λ (n : ℕ). n * d') e, ap (λ (n : ℕ). n * d) e')

-- Outline w is outline v, shifted.
record Shift (v w : List ℕ) (X Y : ℕ) : Type 0 where
  same : sides w ≡ sides v
  across : (i : ℕ) → i < sides v → vx w i ≡ vx v i + X
  up : (i : ℕ) → i < sides v → vy w i ≡ vy v i + Y

module _ {v w : List ℕ} {X Y : ℕ} (t : Shift v w X Y) where
  module _ (i p q d : ℕ) (l : i < sides v) where
    abbrev next : ℕ
    next = after (sides v) i

    -- edge i of w, by the vertices of v
    at_w : (p q : ℕ) → On (vx v i + X) (vy v i + Y) (vx v next + X) (vy v next + Y) p q d ↔ OnEdge (edge_at w i) p q d
    at_w p q =
        let m = after_below (sides v) i l in
        rw (← t.across i l, ← t.up i l, ← t.across next m, ← t.up next m) (on_at w (sides v) i p q d t.same)

    shift_on : OnEdge (edge_at v i) p q d ↔ OnEdge (edge_at w i) (p + X * d) (q + Y * d) d
    shift_on =
        let here = on_at v (sides v) i p q d refl in
        let there = shifted_on X Y (vx v i) (vy v i) (vx v next) (vy v next) d p q in (
          λ s. (at_w (p + X * d) (q + Y * d)).0 (there.0 (here.1 s)),
          λ s. here.0 (there.1 ((at_w (p + X * d) (q + Y * d)).1 s)),
        )

    far_enough : OnEdge (edge_at w i) p q d → (X * d ≤ p) × (Y * d ≤ q)
    far_enough s = not_under X Y (vx v i) (vy v i) (vx v next) (vy v next) d p q ((at_w p q).1 s)

  module _ (i j : ℕ) (l : i < sides v) (m : j < sides v) where
    shift_shared : Shared (edge_at v i) (edge_at v j) → Shared (edge_at w i) (edge_at w j)
    shift_shared =
        shared_by (λ p q d. p + X * d) (λ p q d. q + Y * d) (λ p q d. (shift_on i p q d l).0) (λ p q d. (shift_on j p q d m).0)
        (λ p q d p' q' d' a b x y. (omega arith, omega arith))

    shift_back : Shared (edge_at w i) (edge_at w j) → Shared (edge_at v i) (edge_at v j)
    shift_back =
        shared_by (λ p q d. p - X * d) (λ p q d. q - Y * d) (back i l) (back j m)
        (λ p q d p' q' d' a b x y.
        let u = far_enough i p q d l a in
        let u' = far_enough i p' q' d' l b in
        (same X p d p' d' u.0 u'.0 x, same Y q d q' d' u.1 u'.1 y))
      where
        back : (i : ℕ) → i < sides v → (p q d : ℕ) → OnEdge (edge_at w i) p q d → OnEdge (edge_at v i) (p - X * d) (q - Y * d) d
        back i l p q d s =
            let u = far_enough i p q d l s in
            let ep : p - X * d + X * d ≡ p = omega (arith, u.0) in
            let eq : q - Y * d + Y * d ≡ q = omega (arith, u.1) in
            (shift_on i (p - X * d) (q - Y * d) d l).1 (rw (ep, eq) s)

        same : (Z u d u' d' : ℕ) → Z * d ≤ u → Z * d' ≤ u' → (u - Z * d) * d' ≡ (u' - Z * d') * d → u * d' ≡ u' * d
        same Z u d u' d' l l' = go (u - Z * d) (u' - Z * d') (omega arith) (omega arith)
          where
            go : (a a' : ℕ) → a + Z * d ≡ u → a' + Z * d' ≡ u' → a * d' ≡ a' * d → u * d' ≡ u' * d
            go a a' e e' s = omega (arith, ap (λ (n : ℕ). n * d') e, ap (λ (n : ℕ). n * d) e')

-- two outlines with n edges, of which the second's share no more than the first's
once_by : (v w : List ℕ) (n : ℕ) → sides v ≡ n → sides w ≡ n →
    ((i j : ℕ) → i < n → j < n → Shared (edge_at w i) (edge_at w j) → Shared (edge_at v i) (edge_at v j)) → DrawnOnce v → DrawnOnce w
unfolding DrawnOnce
once_by v w n ev ew back once i j l m ne s =
    once i j (omega arith) (omega arith) ne (back i j (omega arith) (omega arith) s)

shift_keeps : {v w : List ℕ} {X Y : ℕ} → Shift v w X Y → DrawnOnce w ↔ DrawnOnce v
shift_keeps {v} {w} t = (once_by w v (sides v) t.same refl (shift_shared t), once_by v w (sides v) refl t.same (shift_back t))

module _ (o : List ℕ) (some : 0 < sides o) where
  shared_in : (i j : ℕ) → i < sides o → j < sides o → (t u : ℕ) → t ≤ most_turn → u ≤ most_turn →
      Shared (edge_at (turned o t) i) (edge_at (turned o t) j) → Shared (edge_at (turned o u) i) (edge_at (turned o u) j)
  shared_in i j l m =
      every_turn o some (λ v. Shared (edge_at v i) (edge_at v j))
      (λ t u H k. quarter_shared k i j (rw (sides_turned o t) l) (rw (sides_turned o t) m))

  every_once : (t u : ℕ) → t ≤ most_turn → u ≤ most_turn → DrawnOnce (turned o t) → DrawnOnce (turned o u)
  every_once t u ht hu =
      once_by (turned o t) (turned o u) (sides o) (sides_turned o t) (sides_turned o u) (λ i j l m. shared_in i j l m u t hu ht)

  -- turn 0 is the outline, shifted back
  unturned : Shift (turned o 0) o (least_n (vx o) (sides o - 1)) (least_n (vy o) (sides o - 1))
  unturned =
      record {
        same = sym (sides_turned o 0);
        across = λ i l. omega (arith, turn_0_x o i (old l), least_at (vx o) (sides o - 1) i (omega (arith, old l)));
        up = λ i l. omega (arith, turn_0_y o i (old l), least_at (vy o) (sides o - 1) i (omega (arith, old l)));
      }
    where
      old : {i : ℕ} → i < sides (turned o 0) → i < sides o
      old {i} = subst (λ (n : ℕ). i < n) (sides_turned o 0)

  pub turn_keeps : (t : ℕ) → t ≤ most_turn → DrawnOnce (turned o t) ↔ DrawnOnce o
  turn_keeps t h = (
    λ once. (shift_keeps unturned).1 (every_once t 0 h (omega arith) once),
    λ once. every_once 0 t (omega arith) h ((shift_keeps unturned).0 once),
  )

sides_moved : (R : ℕ) (o : List ℕ) (p : Position) → sides (moved R o p) ≡ sides o
unfolding moved
sides_moved R o p = ap (λ (a : ℕ). a / 2) (length_outline _ _ 0 (sides o)) ∙ omega arith

move_keeps : (R : ℕ) (o : List ℕ) (p : Position) → DrawnOnce (moved R o p) ↔ DrawnOnce (turned o p.turn)
unfolding moved
move_keeps R o p =
    shift_keeps
    (record {
      same = sides_moved R o p ∙ sym (sides_turned o p.turn);
      across = λ i l. at_x _ _ (sides o) i (rw (sides_turned o p.turn) at l);
      up = λ i l. at_y _ _ (sides o) i (rw (sides_turned o p.turn) at l);
    })

-- in any turn, at any place (and an outline with no edge draws nothing)
pub moved_once : (R : ℕ) (o : List ℕ) (p : Position) → p.turn ≤ most_turn → DrawnOnce o → DrawnOnce (moved R o p)
unfolding DrawnOnce
moved_once R o p turn once i j l =
    (move_keeps R o p).1 ((turn_keeps o (omega (arith, sides_moved R o p, l)) p.turn turn).1 once) i j l
