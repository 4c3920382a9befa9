-- "Each turn takes its least free (c, y)": the search of one turn tries columns from 0 on, and in each column heights from 0 on, so
-- what it finds comes before every other position of that turn that fits; where it finds none, none fits.
-- Assumes nothing.
use mathlib.Core.Path.{◌≡◌, refl, sym, ap, ap₂, subst, ◌∙◌}
use mathlib.Core.Logic.{◌↔◌, ◌⊎◌, inl, inr, ◌≢◌}
use mathlib.Core.Bool.{Bool, true, cond}
use mathlib.Core.List.{List}
use Prim.Native.Nat.{ℕ, ◌+◌, ◌-◌, ◌≤◌, ◌<◌}
use native.Mathlib.Omega.{arith}
use Rattle.std.specs.Prelude.{Option, Some, None}
use Rattle.defs.specs.declared.Position.{Position}
use Rattle.defs.specs.Meaning.Outline.{sides}
use Rattle.defs.specs.Meaning.Turn.{extent_x, extent_y, Allows}
use Rattle.defs.specs.Meaning.Placing.{columns_for, Fits}
use Rattle.defs.specs.Meaning.Question.{Question10}
use Rattle.defs.specs.Computing.Test.{first_from}
use Rattle.defs.specs.Computing.Cells.{Rows, piece_runs}
use Rattle.defs.specs.Computing.Search.{freeb, drop_n, position, first_free}
use Rattle.laws.proofs.First.{first_at, none_at, if_true, if_none}
use Rattle.laws.proofs.Order.{compare3, Before, LeastInTurn}
use Rattle.tables.proofs.Tables.{In, Table}
use Rattle.tables.proofs.FreeTest.{free_decides}

module _ (W R N g : ℕ) (held : List (List Rows)) (o : List ℕ) (mask : ℕ) (keeps : Question10 o mask)
    (some_side : 0 < sides o) (Rpos : 1 ≤ R) (table : Table W N held) (t : ℕ) (allows : Allows mask t) where
  abbrev columns : ℕ
  columns = N + 1 - columns_for (extent_x o t) R

  abbrev heights : ℕ
  heights = W + 1 - extent_y o t

  abbrev test : ℕ → ℕ → Bool
  test c y = freeb y (piece_runs o t R g) (drop_n c held)

  abbrev at_height_lem : ℕ → ℕ → Option Position
  at_height_lem c y = cond (test c y) (Some (position t c y)) None

  abbrev in_column : ℕ → Option Position
  in_column c = first_from (at_height_lem c) 0 heights

  -- the positions of turn t that fit are those that are tried and pass
  passes : (c y : ℕ) →
      Fits W R N g (In held) o mask (position t c y) ↔ ((c < columns) × (y < heights) × (test c y ≡ true))
  unfolding Question10
  passes c y =
      let d = free_decides W R N g held o (position t c y) (keeps t allows) some_side Rpos table in (
        λ f. (omega (arith, f.on_strip.columns), omega (arith, f.on_strip.rows), d.1 f.free),
        λ h.
            record {
              allowed = allows;
              on_strip = record { columns = omega (arith, h.0); rows = omega (arith, h.1) };
              free = d.0 h.2;
            },
      )

  as_tried : (q : Position) → q.turn ≡ t → q ≡ position t q.column q.height
  as_tried q e = ap (λ (a : ℕ). position a q.column q.height) e

  none_in_column : (c y : ℕ) → in_column c ≡ None → ¬ Fits W R N g (In held) o mask (position t c y)
  none_in_column c y e f =
      let h = (passes c y).0 f in
      if_none (test c y) (position t c y) (none_at (at_height_lem c) 0 heights e y (omega arith) (omega (arith, h.1))) h.2

  pub first_none : first_free W R N g held o t ≡ None → (q : Position) → q.turn ≡ t → ¬ Fits W R N g (In held) o mask q
  unfolding first_free
  first_none e q et f =
      let f' = subst (Fits W R N g (In held) o mask) (as_tried q et) f in
      none_in_column q.column q.height
      (none_at in_column 0 columns e q.column (omega arith) (omega (arith, ((passes q.column q.height).0 f').0))) f'

  -- no column before c has one, and no height before y in column c
  least_at : (c y : ℕ) → Fits W R N g (In held) o mask (position t c y) → ((m : ℕ) → 0 ≤ m → m < c → in_column m ≡ None) →
      ((m : ℕ) → 0 ≤ m → m < y → at_height_lem c m ≡ None) → LeastInTurn W R N g (In held) o mask (position t c y)
  least_at c y fits no-column no-height =
      record {
        fits = fits;
        least =
            λ q f e n.
            let u = as_tried q e in
            go q.column q.height (subst (Fits W R N g (In held) o mask) u f) (λ same. n (u ∙ same)) (compare3 c q.column)
            (compare3 y q.height);
      }
    where
      go : (c' y' : ℕ) → Fits W R N g (In held) o mask (position t c' y') → position t c' y' ≢ position t c y →
          (c < c') ⊎ ((c ≡ c') ⊎ (c' < c)) → (y < y') ⊎ ((y ≡ y') ⊎ (y' < y)) → Before (position t c y) (position t c' y')
      go c' y' f n (inl l) h = inl l
      go c' y' f n (inr (inr l)) h = absurd (none_in_column c' y' (no-column c' (omega arith) l) f)
      go c' y' f n (inr (inl e)) (inl l) = inr (e, l)
      go c' y' f n (inr (inl e)) (inr (inl h)) = absurd (n (ap₂ (position t) (sym e) (sym h)))
      go c' y' f n (inr (inl e)) (inr (inr l)) =
          absurd
          (if_none (test c y') (position t c y') (no-height y' (omega arith) l)
          (subst (λ (a : ℕ). test a y' ≡ true) (sym e) ((passes c' y').0 f).2))

  pub first_found : (p : Position) → first_free W R N g held o t ≡ Some p → (p.turn ≡ t) × LeastInTurn W R N g (In held) o mask p
  unfolding first_free
  first_found p e =
      let f = first_at in_column 0 columns p e in
      let u = first_at (at_height_lem f.at) 0 heights p f.finds in
      let h = if_true (test f.at u.at) u.finds in
      subst (λ (a : Position). (a.turn ≡ t) × LeastInTurn W R N g (In held) o mask a) h.1
      (refl, least_at f.at u.at ((passes f.at u.at).1 (omega (arith, f.below), omega (arith, u.below), h.0)) f.before u.before)
