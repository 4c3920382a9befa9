-- Pieces asked one after another: where no "no" comes out, each answer was yes. And what it says of a piece that it passes 7 to 11.
-- Assumes nothing.
use mathlib.Core.Path.{◌≡◌, refl}
use mathlib.Core.Logic.{◌↔◌}
use mathlib.Core.Bool.{Bool, true, false, cond}
use mathlib.Core.List.{List, ◌∷◌}
use Prim.Native.Nat.{ℕ, suc, ◌+◌}
use native.Mathlib.Omega.{arith}
use lib.Dec.{eqb}
use borrow.Author.Tests.{eqb-true, eq-eqb}
use Rattle.std.specs.Prelude.{Some, None}
use Rattle.defs.specs.Meaning.Sheet.{Piece}
use Rattle.defs.specs.Computing.Calls.{q7b, q9b, outline_no, refusal}
use Rattle.defs.specs.Computing.Sheets.{first_no}
use Rattle.laws.proofs.Questions.{question_7}
use Rattle.geom.proofs.Checks.{none_no_is}
use Rattle.sheets.proofs.PiecesBack.{Each, nothing_left, and_more, Shaped}

pub some_none : {A : Type 0} {a : A} → ¬ (Some a ≡ None)
some_none e = let z : ◌≡◌ {A = ℕ} 0 1 = cc in omega arith

pub not_zero : {n : ℕ} → ¬ (suc n ≡ 0)
not_zero e = omega arith

-- no piece of a list gets "no"
pub first_none : {A : Type 0} (f : A → ℕ) (k : ℕ) (x : A) (xs : List A) →
    (first_no f k (x ∷ xs) ≡ None) ↔ ((f x ≡ 0) × (first_no f (k + 1) xs ≡ None))
unfolding first_no
first_none f k x xs = (λ e. go (eqb (f x) 0) refl e, λ h. rw (eq-eqb (f x) 0 h.0) h.1)
  where
    go : (t : Bool) → eqb (f x) 0 ≡ t → cond t (first_no f (k + 1) xs) (Some (refusal (f x) k)) ≡ None →
        (f x ≡ 0) × (first_no f (k + 1) xs ≡ None)
    go true q e = (eqb-true (f x) 0 q, e)
    go false q e = absurd (some_none e)

-- the piece passes 7 to 11
pub record PiecePasses (R : ℕ) (p : Piece) : Type 0 where
  pub no : outline_no p.outline (q9b p.mask) p.mask R ≡ 0

pub passes_7 : {R : ℕ} (p : Piece) → PiecePasses R p → q7b p.outline ≡ true
passes_7 {R} p s = ((none_no_is p.outline (q9b p.mask) p.mask R).0 s.no).0

pub shaped : {R : ℕ} (p : Piece) → PiecePasses R p → Shaped p
shaped p s = (question_7 p.outline).0 (passes_7 p s)

pub all_shaped : {R : ℕ} {ps : List Piece} → Each (PiecePasses R) ps → Each Shaped ps
all_shaped nothing_left = nothing_left
all_shaped (and_more {p} {ps} s ss) = and_more (shaped p s) (all_shaped ss)
