-- The edges of an outline as it is lent, gone through in order: what is left to look at gives what is found first.
-- Assumes nothing.
use mathlib.Core.Path.{◌≡◌, refl, sym, ap, ap₂, ◌∙◌}
use mathlib.Core.Bool.{Bool, true, false, cond}
use mathlib.Core.List.{List}
use Prim.Native.Nat.{ℕ, suc, ◌+◌, ◌*◌, ◌-◌, ◌<◌}
use native.Mathlib.Omega.{arith}
use Rattle.std.specs.Prelude.{Option, Some, None, Result, Ok, Err}
use Rattle.defs.specs.declared.Refusal.{Refusal}
use Rattle.defs.specs.declared.EdgePair.{EdgePair}
use Rattle.defs.specs.Meaning.Outline.{vx, vy, sides, after, edge_at, edge_between}
use Rattle.defs.specs.Computing.Test.{first_from}
use Rattle.defs.specs.Computing.Calls.{refusal}
use Rattle.laws.proofs.First.{LeftFrom}
use Rattle.outline.specs.Vertex.{Lent, edge_of}
use Rattle.outline.proofs.Vertices.{small_edge}
use Rattle.strokes.specs.Retrace.{sharesb, shared_after, numbered, first_pair, traced, retrace_answer, RetraceStep}
use Rattle.checks.specs.Says.{bounds_no}
use Rattle.checks.proofs.Bounded.{passed, first_no_lem}
use Rattle.retrace.specs.Edges.{EdgeIs}

pub edge_is : (o : List ℕ) (i j n : ℕ) {xl yl xr yr : ℕ} → Lent o → n ≡ sides o → j ≡ after n i →
    edge_of xl yl xr yr ≡ edge_between (vx o i) (vy o i) (vx o j) (vy o j) → EdgeIs o i xl yl xr yr
unfolding edge_at
edge_is o i j n l en ej e =
    record {
      is = e ∙ ap (λ (k : ℕ). edge_between (vx o i) (vy o i) (vx o k) (vy o k)) (ej ∙ ap (λ (m : ℕ). after m i) en);
      small = small_edge _ _ _ _ (l.small (2 * i)) (l.small (2 * i + 1)) (l.small (2 * j)) (l.small (2 * j + 1)) e;
    }

-- the search for a later edge that shares a stretch with edge i, and for the first edge that has one
abbrev pub later_shared : List ℕ → ℕ → ℕ → Option ℕ
later_shared o i j = cond (sharesb (edge_at o i) (edge_at o j)) (Some j) None

abbrev pub pair_at : List ℕ → ℕ → Option EdgePair
pair_at o i = numbered i (shared_after o i)

pub begin_later : (o : List ℕ) (i : ℕ) → LeftFrom (later_shared o i) (sides o) (shared_after o i) (i + 1)
unfolding LeftFrom shared_after
begin_later o i =
    let e : suc i ≡ i + 1 = omega arith in ap (λ (k : ℕ). first_from (later_shared o i) k (sides o - k)) e

pub begin_pairs : (o : List ℕ) → LeftFrom (pair_at o) (sides o) (first_pair o) 0
unfolding LeftFrom first_pair
begin_pairs o = let e : sides o ≡ sides o - 0 = omega arith in ap (first_from (pair_at o) 0) e

-- the test of two edges as they were read
module _ {o : List ℕ} {i j xl yl xr yr Xl Yl Xr Yr : ℕ} {b : Bool} (d : EdgeIs o i xl yl xr yr) (f : EdgeIs o j Xl Yl Xr Yr)
    (r : b ≡ sharesb (edge_of xl yl xr yr) (edge_of Xl Yl Xr Yr)) where
  tested : sharesb (edge_at o i) (edge_at o j) ≡ b
  tested = sym (r ∙ ap₂ sharesb d.is f.is)

  pub not_shared : b ≡ false → later_shared o i j ≡ None
  not_shared e = ap (λ (t : Bool). cond t (Some j) None) (tested ∙ e)

  pub is_shared : b ≡ true → later_shared o i j ≡ Some j
  is_shared e = ap (λ (t : Bool). cond t (Some j) None) (tested ∙ e)

-- what was found after edge i, as a pair
pub pair_found : (o : List ℕ) (i j : ℕ) → shared_after o i ≡ Some j → pair_at o i ≡ Some (record { first = i + 1; second = j + 1 })
pair_found o i j h = ap (numbered i) h

pub pair_none : (o : List ℕ) (i : ℕ) → shared_after o i ≡ None → pair_at o i ≡ None
pair_none o i h = ap (numbered i) h

traced_is : (p : Option EdgePair) → Ok p ≡ traced p
traced_is None = refl
traced_is (Some p) = refl

-- the call
module _ {o : List ℕ} {a : Result (Option EdgePair) Refusal} where
  pub refused_no : {n : ℕ} → n ≡ bounds_no o → 0 < n → a ≡ Err (refusal n 1) → RetraceStep o a
  unfolding retrace_answer
  refused_no h l e = record { answer = e ∙ first_no_lem o (λ n. Err (refusal n 1)) (traced (first_pair o)) h l }

  pub looked : (p : Option EdgePair) → bounds_no o ≡ 0 → p ≡ first_pair o → a ≡ Ok p → RetraceStep o a
  unfolding retrace_answer
  looked p z e r = let q = passed o z in record { answer = rw (q.0, q.1, ← e) (r ∙ traced_is p) }
