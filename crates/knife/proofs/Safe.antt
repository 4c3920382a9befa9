-- The knife is safe over every list of calls of which demand 3 holds. Assumes nothing.
use mathlib.Core.Logic.{⊎_elim, ◌≢◌}
use mathlib.Core.List.{List}
use Prim.Native.Nat.{ℕ}
use native.Mathlib.Omega.{arith}
use Rattle.defs.specs.declared.Position.{Position}
use Rattle.defs.specs.Meaning.Outline.{Inside}
use Rattle.defs.specs.Meaning.Placing.{moved}
use Rattle.defs.specs.Meaning.Sheet.{sheet_w, sheet_r, sheet_n}
use Rattle.laws.proofs.Order.{compare3}
use Rattle.strokes.specs.Stroke.{DrawnOnce}
use Rattle.strokes.proofs.Turning.{moved_once}
use Rattle.claims.specs.Trace.{Calls, Lies}
use Rattle.claims.specs.Demand3.{Demand3, Demand3_holds}
use Rattle.claims.specs.Places.{as_calls}
use Rattle.claims.specs.Laying.{Lay_is_a_list}
use Rattle.claims.proofs.Whole.{demand3_holds}
use Rattle.claims.proofs.PlaceLists.{as_trace}
use Rattle.claims.proofs.LayList.{lay_is_a_list}
use Rattle.knife.specs.Safe.{PutAt, Knife_safe, List_knife_safe, Lay_knife_safe}
use Rattle.knife.proofs.Apart.{border_apart, edge_apart, rise_apart}
use Rattle.knife.proofs.Once.{once_touches}

module _ {W R N g : ℕ} {x : Calls} (t : Demand3 W R N g x) {l : ℕ} {o : List ℕ} {p : Position} (a : PutAt R x l o p) where
  lies : {m : ℕ} {v : List ℕ} {q : Position} → PutAt R x m v q → Lies x.call x.count m v q
  lies b = record { earlier = b.is_call; puts = b.puts }

  apart : {m : ℕ} {v : List ℕ} {q : Position} → PutAt R x m v q → l ≢ m →
      (u w d : ℕ) → Inside (moved R o p) u w d → ¬ Inside (moved R v q) u w d
  apart {m} {v} {q} b ne u w d i j =
      ⊎_elim (λ h. t.no_point_in_two x.count l m o v p q u w d (omega arith) h (lies a) (lies b) i j)
      (⊎_elim (λ h. ne h) (λ h. t.no_point_in_two x.count m l v o q p u w d (omega arith) h (lies b) (lies a) j i)) (compare3 l m)

  -- a piece whose outline draws nothing twice draws nothing twice where it is put
  put_once : DrawnOnce o → DrawnOnce (moved R o p)
  put_once = moved_once R o p (t.in_turn l o p a.is_call a.puts)

pub knife_safe : Knife_safe
unfolding Knife_safe
knife_safe W R N g x t =
    record {
      edges = λ a b ne. edge_apart _ _ (apart t a b ne);
      rises = λ a b ne. rise_apart _ _ (apart t a b ne);
      border = λ a b ne. border_apart _ _ (apart t a b ne);
      whole = λ a b ne once i u v d is-edge ends on.
          border_apart _ _ (apart t a b ne) u v d (once_touches _ (put_once t a once) i is-edge ends u v d on);
    }

pub list_knife_safe : List_knife_safe
unfolding List_knife_safe Knife_safe Demand3_holds
list_knife_safe W R N g x t = knife_safe W R N g x (demand3_holds W R N g x t)

pub lay_knife_safe : Lay_knife_safe
unfolding Lay_knife_safe Lay_is_a_list List_knife_safe
lay_knife_safe b g s out work t s' out' work' x =
    let l = lay_is_a_list b g s out work t s' out' work' x in
    (l, list_knife_safe (sheet_w b) (sheet_r b) (sheet_n b) g (as_calls l.list) (as_trace l.steps))
