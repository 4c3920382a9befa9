-- The search of two edges finds the first that share a stretch, and where it finds none, nothing is drawn twice. Assumes nothing.
use mathlib.Core.Path.{◌≡◌, refl, sym, subst}
use mathlib.Core.Logic.{⊎_elim}
use mathlib.Core.Bool.{Bool, cond}
use mathlib.Core.List.{List}
use Prim.Native.Nat.{ℕ, suc, ◌+◌, ◌≤◌, ◌<◌}
use native.Mathlib.Omega.{arith}
use borrow.Author.Tests.{le-leb, lt-leb}
use Rattle.std.specs.Prelude.{Option, Some, None}
use Rattle.std.proofs.lemmas.Option.{same_Some, none-some}
use Rattle.defs.specs.declared.EdgePair.{EdgePair}
use Rattle.defs.specs.Meaning.Outline.{edge_at, sides, vx, after}
use Rattle.laws.proofs.Tests.{Decides}
use Rattle.laws.proofs.Order.{compare3}
use Rattle.geom.proofs.Strip.{le_or_lt}
use Rattle.laws.proofs.First.{first_at, none_at, if_true, if_none}
use Rattle.strokes.specs.Stroke.{Shared, DrawnOnce, FirstShared}
use Rattle.strokes.specs.Retrace.{sharesb, shared_after, numbered, first_pair}
use Rattle.strokes.proofs.Points.{shared_sym}
use Rattle.strokes.proofs.Decided.{shares_decides}

-- what is found where a test passes, and where it fails
found : (b : Bool) {P : Type 0} → Decides b P → (x a : ℕ) → cond b (Some x) None ≡ Some a → P × (x ≡ a)
found b t x a e = let r = if_true b e in (t.0 r.0, r.1)

not_found : (b : Bool) {P : Type 0} → Decides b P → (x : ℕ) → cond b (Some x) None ≡ None → ¬ P
not_found b t x e h = if_none b x e (t.1 h)

-- the numbers of two edges
abbrev pair : ℕ → ℕ → EdgePair
pair i j = record { first = i + 1; second = j + 1 }

numbered_some : (i : ℕ) (x : Option ℕ) (p : EdgePair) → numbered i x ≡ Some p → (j : ℕ) × (x ≡ Some j) × (p ≡ pair i j)
numbered_some i None p e = absurd (none-some p e)
numbered_some i (Some j) p e = (j, refl, sym (same_Some _ p e))

numbered_none : (i : ℕ) (x : Option ℕ) → numbered i x ≡ None → x ≡ None
numbered_none i None e = refl
numbered_none i (Some j) e = absurd (none-some _ (sym e))

module _ (o : List ℕ) where
  left_first : (i : ℕ) → (edge_at o i).xl ≤ (edge_at o i).xr
  unfolding edge_at
  left_first i =
      ⊎_elim (λ h. rw (le-leb (vx o i) (vx o (after (sides o) i)) h) h)
      (λ h. rw (lt-leb (vx o i) (vx o (after (sides o) i)) h) (omega arith)) (le_or_lt (vx o i) (vx o (after (sides o) i)))

  abbrev Share : ℕ → ℕ → Type 0
  Share i j = Shared (edge_at o i) (edge_at o j)

  decided : (i j : ℕ) → Decides (sharesb (edge_at o i) (edge_at o j)) (Share i j)
  decided i j = shares_decides (edge_at o i) (edge_at o j) (left_first i) (left_first j)

  after_none : (i j : ℕ) → shared_after o i ≡ None → i < j → j < sides o → ¬ Share i j
  unfolding shared_after
  after_none i j e l m = not_found _ (decided i j) j (none_at _ (suc i) _ e j l (omega arith))

  pub first_none : first_pair o ≡ None → DrawnOnce o
  unfolding first_pair DrawnOnce
  first_none e i j l m ne s =
      ⊎_elim (λ less. nothing i j l m less s)
      (⊎_elim (λ same. ne same) (λ more. nothing j i m l more (shared_sym s))) (compare3 i j)
    where
      nothing : (i j : ℕ) → i < sides o → j < sides o → i < j → ¬ Share i j
      nothing i j l m less = after_none i j (numbered_none i _ (none_at _ 0 (sides o) e i (omega arith) (omega arith))) less m

  after_some : (i j : ℕ) → i < sides o → shared_after o i ≡ Some j →
      (i < j) × (j < sides o) × Share i j × ((k : ℕ) → i < k → k < j → ¬ Share i k)
  unfolding shared_after
  after_some i j l e =
      let a = first_at _ (suc i) _ j e in
      let s = found _ (decided i a.at) a.at j a.finds in (
        omega (arith, a.from, s.1),
        omega (arith, a.below, s.1),
        subst (Share i) s.1 s.0,
        λ k m n. not_found _ (decided i k) k (a.before k m (omega (arith, s.1))),
      )

  pub first_some : (p : EdgePair) → first_pair o ≡ Some p →
      (i : ℕ) × (j : ℕ) × (p ≡ record { first = i + 1; second = j + 1 }) × FirstShared o i j
  unfolding first_pair
  first_some p e =
      let a = first_at _ 0 (sides o) p e in
      let n = numbered_some a.at _ p a.finds in
      let s = after_some a.at n.0 (omega (arith, a.below)) n.1 in (
        a.at,
        n.0,
        n.2,
        record {
          order = s.0;
          within = s.1;
          shared = s.2;
          none_before = λ k l less m.
              ⊎_elim (λ before. after_none k l (numbered_none k _ (a.before k (omega arith) before)) less m)
              (λ at. rw at.0 (s.3 l (omega (arith, at.0)) at.1));
        },
      )
