-- The position found among all turns is the best, and where none is found there is none: turns are taken from 0 on, and one replaces
-- the best so far only by a lesser right edge, or by the same and a lesser top, so that a tie goes to the least turn.
-- Assumes nothing.
use mathlib.Core.Path.{◌≡◌, refl, sym, ap, subst, ◌∙◌}
use mathlib.Core.Logic.{◌↔◌, ◌⊎◌, inl, inr, ⊎_elim, ◌≢◌}
use mathlib.Core.Bool.{Bool, true, false, cond, false≢true}
use mathlib.Core.List.{List}
use Prim.Native.Nat.{ℕ, zero, suc, ◌≤◌, ◌<◌}
use native.Mathlib.Omega.{arith}
use Rattle.std.specs.Prelude.{Option, Some, None}
use Rattle.defs.specs.declared.Position.{Position}
use Rattle.defs.specs.Meaning.Limits.{most_turn}
use Rattle.defs.specs.Meaning.Outline.{sides}
use Rattle.defs.specs.Meaning.Turn.{Allows}
use Rattle.defs.specs.Meaning.Cell.{Cells}
use Rattle.defs.specs.Meaning.Placing.{right_edge, top, Fits, Later, Best}
use Rattle.defs.specs.Meaning.Question.{Question10, Question13}
use Rattle.defs.specs.Computing.Cells.{Rows, allowedb}
use Rattle.defs.specs.Computing.Search.{first_free, beats, better, best_below}
use Rattle.geom.proofs.Strip.{lt_or_le}
use Rattle.laws.proofs.Tests.{Decides, ltb_decides, eqb_decides, and_decides, or_decides}
use Rattle.laws.proofs.Order.{later_transitive, later_total, same_or_not, before_later}
use Rattle.laws.proofs.Questions.{allowed}
use Rattle.tables.proofs.Tables.{In, Table}
use Rattle.tables.proofs.FirstFree.{first_found, first_none}

beats_decides : (R : ℕ) (o : List ℕ) (q p : Position) →
    Decides (beats R o q p)
    ((right_edge R o q < right_edge R o p) ⊎ ((right_edge R o q ≡ right_edge R o p) × (top o q < top o p)))
unfolding beats
beats_decides R o q p = or_decides (ltb_decides _ _) (and_decides (eqb_decides _ _) (ltb_decides _ _))

beats_first : (R : ℕ) (o : List ℕ) (q p : Position) → beats R o q p ≡ true → Later R o q p
unfolding Later
beats_first R o q p e = ⊎_elim inl (λ h. inr (inl h)) ((beats_decides R o q p).0 e)

-- a tie goes to the lesser turn
unbeaten_first : (R : ℕ) (o : List ℕ) (q p : Position) → 1 ≤ R → p.turn < q.turn → beats R o q p ≢ true → Later R o p q
unfolding Later
unbeaten_first R o q p Rpos l n =
    ⊎_elim (λ h. h)
    (⊎_elim (λ h. absurd (n ((beats_decides R o q p).1 (inl h))))
    (⊎_elim (λ h. absurd (n ((beats_decides R o q p).1 (inr h)))) (λ h. absurd (omega (arith, h.2)))))
    (later_total R o p q Rpos (λ e. omega (arith, ap (λ (a : Position). a.turn) e)))

-- the positions in a turn less than t, and those in turn t
abbrev Below : ℕ → Position → Type 0
Below t q = q.turn < t

abbrev Turned : ℕ → Position → Type 0
Turned t q = q.turn ≡ t

below_or_turned : (t : ℕ) (q : Position) → Below (suc t) q → Below t q ⊎ Turned t q
below_or_turned t q h = ⊎_elim inl (λ l. inr (omega arith)) (lt_or_le q.turn t)

module _ (W R N g : ℕ) (Occupied : Cells) (o : List ℕ) (mask : ℕ) where
  -- p is the best of the positions in S that fit
  record BestOf (S : Position → Type 0) (p : Position) : Type 0 where
    member : S p
    fits : Fits W R N g Occupied o mask p
    first : (q : Position) → S q → Fits W R N g Occupied o mask q → q ≢ p → Later R o p q

  -- what is found in S: the best of those that fit, or none, where none fits
  abbrev Finds : (Position → Type 0) → Option Position → Type 0
  Finds S None = (q : Position) → S q → ¬ Fits W R N g Occupied o mask q
  Finds S (Some p) = BestOf S p

  -- the best of S is the best of U, where each other of U comes later
  best_of_more : (S U : Position → Type 0) (p : Position) → U p → BestOf S p →
      ((r : Position) → U r → Fits W R N g Occupied o mask r → S r ⊎ Later R o p r) → BestOf U p
  best_of_more S U p u b others =
      record {
        member = u;
        fits = b.fits;
        first = λ r h f n. ⊎_elim (λ s. b.first r s f n) (λ l. l) (others r h f);
      }

  -- what comes before the best of S comes before each of S
  before_best : (S : Position → Type 0) (p q : Position) → Later R o p q → BestOf S q →
      (r : Position) → S r → Fits W R N g Occupied o mask r → Later R o p r
  before_best S p q l b r h f =
      ⊎_elim (λ (e : r ≡ q). subst (Later R o p) (sym e) l) (λ n. later_transitive R o p q r l (b.first r h f n)) (same_or_not r q)

  better_finds : 1 ≤ R → (t : ℕ) (x y : Option Position) → Finds (Below t) x → Finds (Turned t) y → Finds (Below (suc t)) (better R o x y)
  unfolding better
  better_finds Rpos t None None a b = λ r h f. ⊎_elim (λ l. a r l f) (λ e. b r e f) (below_or_turned t r h)
  better_finds Rpos t None (Some q) a b =
      best_of_more (Turned t) (Below (suc t)) q (omega (arith, b.member)) b
      (λ r h f. ⊎_elim (λ l. absurd (a r l f)) inl (below_or_turned t r h))
  better_finds Rpos t (Some p) None a b =
      best_of_more (Below t) (Below (suc t)) p (omega (arith, a.member)) a
      (λ r h f. ⊎_elim inl (λ e. absurd (b r e f)) (below_or_turned t r h))
  better_finds Rpos t (Some p) (Some q) a b = go (beats R o q p) refl
    where
      go : (c : Bool) → beats R o q p ≡ c → Finds (Below (suc t)) (cond c (Some q) (Some p))
      go true e =
          best_of_more (Turned t) (Below (suc t)) q (omega (arith, b.member)) b
          (λ r h f. ⊎_elim (λ l. inr (before_best (Below t) q p (beats_first R o q p e) a r l f)) inl (below_or_turned t r h))
      go false e =
          let l = unbeaten_first R o q p Rpos (omega (arith, a.member, b.member)) (λ w. false≢true (sym e ∙ w)) in
          best_of_more (Below t) (Below (suc t)) p (omega (arith, a.member)) a
          (λ r h f. ⊎_elim inl (λ u. inr (before_best (Turned t) p q l b r u f)) (below_or_turned t r h))

module _ (W R N g : ℕ) (held : List (List Rows)) (o : List ℕ) (mask : ℕ)
    (keeps : Question10 o mask) (some_side : 0 < sides o) (Rpos : 1 ≤ R) (table : Table W N held) where
  abbrev Found : (Position → Type 0) → Option Position → Type 0
  Found S x = Finds W R N g (In held) o mask S x

  allowed_finds : (t : ℕ) → Allows mask t → Found (Turned t) (first_free W R N g held o t)
  allowed_finds t a = go (first_free W R N g held o t) refl
    where
      go : (x : Option Position) → first_free W R N g held o t ≡ x → Found (Turned t) x
      go None e = first_none W R N g held o mask keeps some_side Rpos table t a e
      go (Some p) e =
          let f = first_found W R N g held o mask keeps some_side Rpos table t a p e in
          record {
            member = f.0;
            fits = f.1.fits;
            first = λ q u g n. before_later R o p q Rpos (f.0 ∙ sym u) (f.1.least q g (u ∙ sym f.0) n);
          }

  turn_finds : (t : ℕ) → t ≤ most_turn → Found (Turned t) (cond (allowedb mask t) (first_free W R N g held o t) None)
  turn_finds t h = go (allowedb mask t) refl
    where
      go : (b : Bool) → allowedb mask t ≡ b → Found (Turned t) (cond b (first_free W R N g held o t) None)
      go true e = allowed_finds t ((allowed mask t h).0 e)
      go false e = λ q u f. false≢true (sym e ∙ (allowed mask t h).1 (subst (Allows mask) u f.allowed))

  finds : (n : ℕ) → n ≤ suc most_turn → Found (Below n) (best_below W R N g held o mask n)
  unfolding best_below
  finds zero h = λ q l. absurd (omega arith)
  finds (suc t) h = better_finds W R N g (In held) o mask Rpos t _ _ (finds t (omega arith)) (turn_finds t (omega arith))

  -- every turn that may be allowed is below 4
  found : (x : Option Position) → best_below W R N g held o mask 4 ≡ x → Found (Below 4) x
  found x e = subst (Found (Below 4)) e (finds 4 (omega arith))

  pub best_found : (p : Position) → best_below W R N g held o mask 4 ≡ Some p → Best W R N g (In held) o mask p
  best_found p e =
      let b = found (Some p) e in
      record { fits = b.fits; first = λ q f n. b.first q (omega (arith, f.allowed.turn)) f n }

  pub none_found : best_below W R N g held o mask 4 ≡ None → ¬ Question13 W R N g (In held) o mask
  unfolding Question13
  none_found e q = found None e q.0 (omega (arith, q.1.allowed.turn)) q.1

  -- "13. Is there a free position?"
  pub none_exactly : (best_below W R N g held o mask 4 ≡ None) ↔ ¬ Question13 W R N g (In held) o mask
  unfolding Question13
  none_exactly = (none_found, λ no_place. go no_place (best_below W R N g held o mask 4) refl)
    where
      go : ¬ Question13 W R N g (In held) o mask → (x : Option Position) → best_below W R N g held o mask 4 ≡ x →
          best_below W R N g held o mask 4 ≡ None
      go no_place None e = e
      go no_place (Some p) e = absurd (no_place (p, (best_found p e).fits))
