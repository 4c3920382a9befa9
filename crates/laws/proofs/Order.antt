-- The order of positions is strict and total; and the best position by that order is the one that document 01 describes: each
-- turn takes its least free (c, y), and among these the least by right edge, top and turn wins (S-7). Columns and right edges.
-- Assumes nothing.
use mathlib.Core.Path.{◌≡◌, refl, sym, ap, subst, ◌∙◌}
use mathlib.Core.Logic.{◌↔◌, ◌⊎◌, inl, inr, ⊎_elim, ◌≢◌}
use mathlib.Core.List.{List}
use Prim.Native.Nat.{ℕ, ◌+◌, ◌*◌, ◌-◌, ◌≤◌, ◌<◌}
use native.Mathlib.Omega.{arith}
use native.Mathlib.Nat.{mul-lt-mul_of_pos_right, lt_of_mul-lt-mul_right, mul-le-mul_right, div-add-mod, mod-lt}
use native.Mathlib.Decide.{dec_lt}
use Rattle.defs.specs.declared.Position.{Position}
use Rattle.defs.specs.Meaning.Turn.{extent_x, extent_y}
use Rattle.defs.specs.Meaning.Cell.{Cells}
use Rattle.defs.specs.Meaning.Placing.{columns_for, end_column, right_edge, top, Later, Fits, Best}

pub later_irreflexive : (R : ℕ) (o : List ℕ) (p : Position) → ¬ Later R o p p
unfolding Later
later_irreflexive R o p = ⊎_elim (λ l. omega arith) (⊎_elim (λ l. omega (arith, l.1)) (λ l. omega (arith, l.2)))

pub later_transitive : (R : ℕ) (o : List ℕ) (p q r : Position) → Later R o p q → Later R o q r → Later R o p r
unfolding Later
later_transitive R o p q r =
    ⊎_elim
    (λ a. ⊎_elim (λ b. inl (omega arith)) (⊎_elim (λ b. inl (omega (arith, b.0))) (λ b. inl (omega (arith, b.0)))))
    (⊎_elim
    (λ a.
    ⊎_elim (λ b. inl (omega (arith, a.0)))
    (⊎_elim (λ b. inr (inl (a.0 ∙ b.0, omega (arith, a.1, b.1))))
    (λ b. inr (inl (a.0 ∙ b.0, omega (arith, a.1, b.1))))))
    (λ a.
    ⊎_elim (λ b. inl (omega (arith, a.0)))
    (⊎_elim (λ b. inr (inl (a.0 ∙ b.0, omega (arith, a.1, b.1))))
    (λ b. inr (inr (a.0 ∙ b.0, a.1 ∙ b.1, omega (arith, a.2, b.2)))))))

pub compare3 : (a b : ℕ) → (a < b) ⊎ ((a ≡ b) ⊎ (b < a))
compare3 a b = go (dec_lt a b) (dec_lt b a)
  where
    go : Dec (a < b) → Dec (b < a) → (a < b) ⊎ ((a ≡ b) ⊎ (b < a))
    go (yes l) d = inl l
    go (no l) (yes m) = inr (inr m)
    go (no l) (no m) = inr (inl (omega arith))

-- positions with equal numbers are equal
same_numbers : (p q : Position) → p.turn ≡ q.turn → p.column ≡ q.column → p.height ≡ q.height → p ≡ q
same_numbers p q et ec ey =
    ap (λ (a : ℕ). record { turn = a; column = p.column; height = p.height }) et ∙
    ap (λ (a : ℕ). record { turn = q.turn; column = a; height = p.height }) ec ∙
    ap (λ (a : ℕ). record { turn = q.turn; column = q.column; height = a }) ey

pub same_or_not : (p q : Position) → (p ≡ q) ⊎ (p ≢ q)
same_or_not p q = go (compare3 p.turn q.turn) (compare3 p.column q.column) (compare3 p.height q.height)
  where
    differ : (f : Position → ℕ) → (f p < f q) ⊎ (f q < f p) → (p ≡ q) ⊎ (p ≢ q)
    differ f l = inr (λ e. ⊎_elim (λ a. omega (arith, ap f e)) (λ a. omega (arith, ap f e)) l)

    go : (p.turn < q.turn) ⊎ ((p.turn ≡ q.turn) ⊎ (q.turn < p.turn)) →
        (p.column < q.column) ⊎ ((p.column ≡ q.column) ⊎ (q.column < p.column)) →
        (p.height < q.height) ⊎ ((p.height ≡ q.height) ⊎ (q.height < p.height)) → (p ≡ q) ⊎ (p ≢ q)
    go (inr (inl t)) (inr (inl c)) (inr (inl y)) = inl (same_numbers p q t c y)
    go (inl l) c y = differ (λ a. a.turn) (inl l)
    go (inr (inr l)) c y = differ (λ a. a.turn) (inr l)
    go (inr (inl t)) (inl l) y = differ (λ a. a.column) (inl l)
    go (inr (inl t)) (inr (inr l)) y = differ (λ a. a.column) (inr l)
    go (inr (inl t)) (inr (inl c)) (inl l) = differ (λ a. a.height) (inl l)
    go (inr (inl t)) (inr (inl c)) (inr (inr l)) = differ (λ a. a.height) (inr l)

-- a column more is R units more
units_more : (R : ℕ) {a b : ℕ} → 1 ≤ R → a < b → a * R < b * R
units_more R Rpos l = mul-lt-mul_of_pos_right l Rpos

units_less : (R : ℕ) {a b : ℕ} → a * R < b * R → a < b
units_less R l = lt_of_mul-lt-mul_right R l

units_same : (R : ℕ) {a b : ℕ} → 1 ≤ R → a * R ≡ b * R → a ≡ b
units_same R {a} {b} Rpos e =
    ⊎_elim (λ l. absurd (omega (arith, units_more R Rpos l)))
    (⊎_elim (λ q. q) (λ l. absurd (omega (arith, units_more R Rpos l)))) (compare3 a b)

-- positions with equal right edge, top and turn are equal
same_place : (R : ℕ) (o : List ℕ) (p q : Position) → 1 ≤ R → right_edge R o p ≡ right_edge R o q → top o p ≡ top o q →
    p.turn ≡ q.turn → p ≡ q
unfolding right_edge top
same_place R o p q Rpos er et e =
    same_numbers p q e (units_same R Rpos (omega (arith, er, ap (extent_x o) e))) (omega (arith, et, ap (extent_y o) e))

pub later_total : (R : ℕ) (o : List ℕ) (p q : Position) → 1 ≤ R → p ≢ q → Later R o p q ⊎ Later R o q p
unfolding Later
later_total R o p q Rpos n = go (compare3 _ _) (compare3 _ _) (compare3 _ _)
  where
    go : (right_edge R o p < right_edge R o q) ⊎ ((right_edge R o p ≡ right_edge R o q) ⊎ (right_edge R o q < right_edge R o p)) →
        (top o p < top o q) ⊎ ((top o p ≡ top o q) ⊎ (top o q < top o p)) →
        (p.turn < q.turn) ⊎ ((p.turn ≡ q.turn) ⊎ (q.turn < p.turn)) → Later R o p q ⊎ Later R o q p
    go (inl l) b c = inl (inl l)
    go (inr (inr l)) b c = inr (inl l)
    go (inr (inl e)) (inl l) c = inl (inr (inl (e, l)))
    go (inr (inl e)) (inr (inr l)) c = inr (inr (inl (sym e, l)))
    go (inr (inl e)) (inr (inl f)) (inl l) = inl (inr (inr (e, f, l)))
    go (inr (inl e)) (inr (inl f)) (inr (inr l)) = inr (inr (inr (sym e, sym f, l)))
    go (inr (inl e)) (inr (inl f)) (inr (inl g)) = absurd (n (same_place R o p q Rpos e f g))

-- "(c, y)" of p is less than that of q
abbrev pub Before : Position → Position → Type 0
Before p q = (p.column < q.column) ⊎ ((p.column ≡ q.column) × (p.height < q.height))

-- within one turn the order of positions is that of (c, y)
pub later_before : (R : ℕ) (o : List ℕ) (p q : Position) → 1 ≤ R → p.turn ≡ q.turn → Later R o p q → Before p q
unfolding Later right_edge top
later_before R o p q Rpos e =
    let w = ap (extent_x o) e in
    let h = ap (extent_y o) e in
    ⊎_elim (λ l. inl (units_less R (omega arith)))
    (⊎_elim (λ l. inr (units_same R Rpos (omega (arith, l.0)), omega (arith, l.1))) (λ l. absurd (omega (arith, l.2))))

pub before_later : (R : ℕ) (o : List ℕ) (p q : Position) → 1 ≤ R → p.turn ≡ q.turn → Before p q → Later R o p q
unfolding Later right_edge top
before_later R o p q Rpos e =
    let w = ap (extent_x o) e in
    let h = ap (extent_y o) e in
    ⊎_elim (λ l. inl (omega (arith, units_more R Rpos l)))
    (λ l. inr (inl (omega (arith, ap (λ (c : ℕ). c * R) l.0), omega (arith, l.1))))

-- Columns of R units, and an extent of w units.
module _ (R w : ℕ) (Rpos : 1 ≤ R) where
  columns_hold : w ≤ columns_for w R * R
  columns_hold = omega (arith, div-add-mod (w + (R - 1)) R, mod-lt (w + (R - 1)) Rpos)

  columns_reach : columns_for w R * R < w + R
  columns_reach = omega (arith, div-add-mod (w + (R - 1)) R)

  -- on a strip of N columns it ends with the last one or before it
  pub edge_within : (c N : ℕ) → c + columns_for w R ≤ N → c * R + w ≤ N * R
  edge_within c N l = go (columns_for w R) columns_hold l
    where
      go : (n : ℕ) → w ≤ n * R → c + n ≤ N → c * R + w ≤ N * R
      go n hold l = omega (arith, mul-le-mul_right R l)

  -- from column c it ends in the column of its right edge
  edge_column : (c : ℕ) → c + columns_for w R ≡ columns_for (c * R + w) R
  edge_column c = go (columns_for w R) (columns_for (c * R + w) R) columns_hold columns_reach
      (omega (arith, div-add-mod (c * R + w + (R - 1)) R, mod-lt (c * R + w + (R - 1)) Rpos)) (omega (arith, div-add-mod (c * R + w + (R - 1)) R))
    where
      go : (n m : ℕ) → w ≤ n * R → n * R < w + R → c * R + w ≤ m * R → m * R < c * R + w + R → c + n ≡ m
      go n m a b d e =
          let most : c + n < m + 1 = units_less R (omega arith) in
          let least : m < c + n + 1 = units_less R (omega arith) in
          omega arith

-- The columns from which an extent of w units ends before a right edge are the first ones, so many. This carries right edges over to columns
-- wherever a search leaves some out.
pub before_edge : (R w edge c : ℕ) → 1 ≤ R → (c < columns_for (edge - w) R) ↔ (c * R + w < edge)
before_edge R w edge c Rpos = go (edge - w) refl
  where
    go : (x : ℕ) → x ≡ edge - w → (c < columns_for x R) ↔ (c * R + w < edge)
    go x e = to (columns_for x R) (columns_hold R x Rpos) (columns_reach R x Rpos)
      where
        to : (n : ℕ) → x ≤ n * R → n * R < x + R → (c < n) ↔ (c * R + w < edge)
        to n hold reach =
            (λ l. let more : c + 1 ≤ n = omega arith in omega (arith, mul-le-mul_right R more), λ l. units_less R (omega arith))

-- a position's last column is that of its right edge: equal right edges have equal last columns
pub end_of_edge : (R : ℕ) (o : List ℕ) (p : Position) → 1 ≤ R → end_column R o p ≡ columns_for (right_edge R o p) R
unfolding end_column right_edge
end_of_edge R o p Rpos = edge_column R (extent_x o p.turn) Rpos p.column

module _ (W R N g : ℕ) (Occupied : Cells) (o : List ℕ) (mask : ℕ) where
  -- "Each turn takes its least free (c, y)": p is the one that its turn takes.
  pub record LeastInTurn (p : Position) : Type 0 where
    pub fits : Fits W R N g Occupied o mask p
    pub least : (q : Position) → Fits W R N g Occupied o mask q → q.turn ≡ p.turn → q ≢ p → Before p q

  -- "Among turns the least right edge wins, then least top, then least turn": p wins, where each turn that has a free position
  -- takes one.
  pub record Wins (p : Position) : Type 0 where
    pub own : LeastInTurn p
    pub taken : (q : Position) → Fits W R N g Occupied o mask q → (l : Position) × (l.turn ≡ q.turn) × LeastInTurn l
    pub first : (l : Position) → LeastInTurn l → l ≢ p → Later R o p l

  pub best_least : (p : Position) → 1 ≤ R → Best W R N g Occupied o mask p → LeastInTurn p
  best_least p Rpos b =
      record { fits = b.fits; least = λ q f e n. later_before R o p q Rpos (sym e) (b.first q f n) }

  pub best_wins : (p : Position) → Best W R N g Occupied o mask p → (l : Position) → LeastInTurn l → l ≢ p → Later R o p l
  best_wins p b l m = b.first l m.fits

  -- q is the position that its turn takes, or comes after it
  taken_first : (q l : Position) → 1 ≤ R → Fits W R N g Occupied o mask q → l.turn ≡ q.turn → LeastInTurn l → (q ≡ l) ⊎ Later R o l q
  taken_first q l Rpos f e m = ⊎_elim inl (λ n. inr (before_later R o l q Rpos e (m.least q f (sym e) n))) (same_or_not q l)

  pub wins_best : (p : Position) → 1 ≤ R → Wins p → Best W R N g Occupied o mask p
  wins_best p Rpos w = record { fits = w.own.fits; first = λ q f n. go q f n (w.taken q f) }
    where
      go : (q : Position) → Fits W R N g Occupied o mask q → q ≢ p → (l : Position) × (l.turn ≡ q.turn) × LeastInTurn l → Later R o p q
      go q f n t =
          ⊎_elim (λ (e : q ≡ t.0). w.first q (subst LeastInTurn (sym e) t.2) n)
          (λ lq.
          ⊎_elim (λ (e : t.0 ≡ p). subst (λ (a : Position). Later R o a q) e lq)
          (λ m. later_transitive R o p t.0 q (w.first t.0 t.2 m) lq) (same_or_not t.0 p))
          (taken_first q t.0 Rpos f t.1 t.2)
