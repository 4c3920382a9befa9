-- A strip that a call may leave, with its records numbered anew, is one that it may leave: chains go over into chains, so it is well
-- formed and has the same runs.
-- Assumes nothing.
use mathlib.Core.Path.{◌≡◌, refl, sym, ap, subst, subst₂, ◌∙◌}
use mathlib.Core.List.{List}
use Prim.Native.Nat.{ℕ, zero, suc, ◌≤◌, ◌<◌}
use native.Mathlib.Omega.{arith}
use lib.ListN.{length}
use Rattle.defs.specs.Meaning.Limits.{Between}
use Rattle.defs.specs.Meaning.Strip.{Length, columns_of, first_of, low_of, high_of, next_of, Chained, here, further, Ends, zero_ends, goes_on, InColumn, IsFree, InOneChain, WellFormed}
use Rattle.defs.specs.Meaning.Question.{Question5}
use Rattle.defs.specs.Computing.Test.{chain_by}
use Rattle.defs.specs.Computing.Cells.{Rows}
use Rattle.defs.specs.Computing.Words.{records_of, rows_of, runs_of}
use Rattle.defs.specs.Computing.Calls.{Left, OpenLeaves, PlaceLeaves, CommitLeaves}
use Rattle.defs.specs.Computing.Lay.{LayLeaves}
use Rattle.laws.proofs.Complete.{question_5}
use Rattle.laws.proofs.Formed.{records_in, formed}
use Rattle.laws.proofs.Questions.{records_are}
use Rattle.laws.proofs.Walks.{chain_step}
use Rattle.claims.specs.Choice.{Renumbered, AnyNumbers}
use Rattle.claims.proofs.Choice.{chained_positive, stays_within}

no_chain : {s : List ℕ} {x r : ℕ} → r ≡ 0 → ¬ Chained s x r
no_chain e (here h) = omega arith
no_chain e (further h c) = omega arith

-- the record after one of a chain is of that chain
after : {s : List ℕ} {x r : ℕ} → Chained s x r → 0 < next_of s x → Chained s (next_of s x) r
after (here h) l = further h (here l)
after (further h c) l = further h (after c l)

-- what comes from a record of s
record Brought (s : List ℕ) (to : ℕ → ℕ) (r y : ℕ) : Type 0 where
  from : ℕ
  is : to from ≡ y
  chained : Chained s from r

module _ {Q : ℕ} {s s' : List ℕ} (w : WellFormed s Q) (n : Renumbered Q s s') where
  abbrev to : ℕ → ℕ
  to = n.to

  positive : (r : ℕ) → 0 < r → r ≤ Q → 0 < to r
  positive r h l = (n.there_and_back r (record { at_least = h; at_most = l })).0.at_least

  ends_carried : {r : ℕ} → Ends s Q r → Ends s' Q (to r)
  ends_carried zero_ends = subst (Ends s' Q) (sym n.zero_stays) zero_ends
  ends_carried (goes_on {r} h l e) =
      let b : Between 1 r Q = record { at_least = h; at_most = l } in
      goes_on (positive r h l) (n.there_and_back r b).0.at_most (subst (Ends s' Q) (sym (n.next r b)) (ends_carried e))

  carried : {x r : ℕ} → Ends s Q r → Chained s x r → Chained s' (to x) (to r)
  carried zero_ends c = absurd (no_chain refl c)
  carried (goes_on {r} h l e) (here g) = here (positive r h l)
  carried {x} (goes_on {r} h l e) (further g c) =
      further (positive r h l) (subst (Chained s' (to x)) (sym (n.next r (record { at_least = h; at_most = l }))) (carried e c))

  brought : {r : ℕ} → Ends s Q r → (y z : ℕ) → z ≡ to r → Chained s' y z → Brought s to r y
  brought zero_ends y z e c = absurd (no_chain (e ∙ n.zero_stays) c)
  brought (goes_on {r} h l f) y z e (here g) = record { from = r; is = sym e; chained = here h }
  brought (goes_on {r} h l f) y z e (further g c) =
      let t =
      brought f y (next_of s' z) (ap (next_of s') e ∙ n.next r (record { at_least = h; at_most = l })) c in
      record { from = t.from; is = t.is; chained = further h t.chained }

  -- a record of chain k of s'
  of_chain : (k y : ℕ) → k ≤ columns_of s → Chained s' y (first_of s' k) → Brought s to (first_of s k) y
  of_chain k y h c = brought (w.ends k h) y (first_of s' k) (n.first k h) c

  between : {x k : ℕ} → k ≤ columns_of s → Chained s x (first_of s k) → Between 1 x Q
  between {x} {k} h c = record { at_least = chained_positive c; at_most = stays_within (w.ends k h) c }

  free_carried : (x : ℕ) → Between 1 x Q → IsFree s x → IsFree s' (to x)
  free_carried x b f =
      record {
        column = n.column x b ∙ f.column ∙ sym n.columns;
        low = n.low x b ∙ f.low;
        high = n.high x b ∙ f.high;
      }

  column_carried : (k x : ℕ) → k ≤ columns_of s → Chained s x (first_of s k) → InColumn s k x → InColumn s' k (to x)
  column_carried k x h c i =
      let b = between h c in
      record {
        column = n.column x b ∙ i.column;
        some = omega (arith, n.low x b, n.high x b, i.some);
        fits = omega (arith, n.high x b, n.width, i.fits);
        apart = λ l. above b (next_of s x) refl l;
      }
    where
      above : Between 1 x Q → (y : ℕ) → next_of s x ≡ y → 0 < next_of s' (to x) → high_of s' (to x) < low_of s' (next_of s' (to x))
      above b zero e l = absurd (omega (arith, n.next x b, ap to e, n.zero_stays))
      above b (suc y) e l =
          let p : 0 < next_of s x = omega arith in
          let b' = between h (after c p) in
          rw (n.next x b) (omega (arith, n.high x b, n.low (next_of s x) b', i.apart p))

  one_chain : (y : ℕ) → 1 ≤ y → y ≤ Q → InOneChain s' y
  one_chain y h l =
      let b = n.back_and_there y (record { at_least = h; at_most = l }) in
      let o = w.one_chain (n.back y) b.0.at_least b.0.at_most in
      record {
        chain = o.chain;
        is_one = omega (arith, n.columns, o.is_one);
        holds =
            subst₂ (Chained s') b.1 (sym (n.first o.chain o.is_one)) (carried (w.ends o.chain o.is_one) o.holds);
        no_other =
            λ k hk c.
            let hk' : k ≤ columns_of s = omega (arith, n.columns) in
            let t = of_chain k y hk' c in
            let e : t.from ≡ n.back y = sym (n.there_and_back t.from (between hk' t.chained)).1 ∙ ap n.back t.is in
            o.no_other k hk' (subst (λ (x : ℕ). Chained s x (first_of s k)) e t.chained);
      }

  well_formed : WellFormed s' Q
  well_formed =
      record {
        long = rw (n.columns, n.long) w.long;
        limits = rw (n.width, n.resolution, n.columns) w.limits;
        gap = rw n.gap w.gap;
        free =
            λ y c.
            let t = of_chain (columns_of s) y (omega arith) (subst (λ (k : ℕ). Chained s' y (first_of s' k)) n.columns c) in
            subst (IsFree s') t.is
            (free_carried t.from (between {k = columns_of s} (omega arith) t.chained) (w.free t.from t.chained));
        columns =
            λ k y h c.
            let h' : k < columns_of s = omega (arith, n.columns) in
            let t = of_chain k y (omega arith) c in
            subst (InColumn s' k) t.is
            (column_carried k t.from (omega arith) t.chained (w.columns k t.from h' t.chained));
        ends =
            λ k h.
            let h' : k ≤ columns_of s = omega (arith, n.columns) in
            subst (Ends s' Q) (sym (n.first k h')) (ends_carried (w.ends k h'));
        one_chain = one_chain;
      }

  rows_carried : (m : ℕ) {r : ℕ} → Ends s Q r → rows_of s' (chain_by (next_of s') m (to r)) ≡ rows_of s (chain_by (next_of s) m r)
  unfolding chain_by rows_of
  rows_carried zero e = refl
  rows_carried (suc m) zero_ends = rw n.zero_stays refl
  rows_carried (suc m) (goes_on {r} h l e) =
      let b : Between 1 r Q = record { at_least = h; at_most = l } in
      rw (
        chain_step (next_of s) m r h,
        chain_step (next_of s') m (to r) (positive r h l),
        n.low r b,
        n.high r b,
        n.next r b,
        rows_carried m e,
      )

module _ {W R N g words Q : ℕ} {runs : ℕ → List Rows} {s s' : List ℕ} (long : Length N Q words) (a : Left W R N g words runs s)
    (n : Renumbered Q s s') where
  Q_is : records_in s ≡ Q
  Q_is = ap (λ (k : ℕ). records_of k (length s)) a.columns ∙ ap (records_of N) a.long ∙ records_are N Q words long

  same_records : records_in s' ≡ records_in s
  same_records = ap (λ (k : ℕ). records_of k (length s')) n.columns ∙ ap (records_of (columns_of s)) n.long

  formed_before : WellFormed s Q
  formed_before = subst (WellFormed s) Q_is (formed s a.well_formed)

  runs_same : (k : ℕ) → k < N → runs_of s' k ≡ runs_of s k
  unfolding runs_of
  runs_same k h =
      let h' : k ≤ columns_of s = omega (arith, a.columns) in
      ap (λ (m : ℕ). rows_of s' (chain_by (next_of s') m (first_of s' k))) same_records ∙
      ap (λ (r : ℕ). rows_of s' (chain_by (next_of s') (records_in s) r)) (n.first k h') ∙
      rows_carried formed_before n (records_in s) (formed_before.ends k h')

  pub may_leave : Left W R N g words runs s'
  unfolding Question5
  may_leave =
      record {
        well_formed = (question_5 s').1 (Q, well_formed formed_before n);
        long = n.long ∙ a.long;
        width = n.width ∙ a.width;
        resolution = n.resolution ∙ a.resolution;
        columns = n.columns ∙ a.columns;
        gap = n.gap ∙ a.gap;
        holds = λ k h. runs_same k h ∙ a.holds k h;
      }

pub any_numbers : AnyNumbers
unfolding OpenLeaves PlaceLeaves CommitLeaves LayLeaves
any_numbers =
    record {
      open_may = λ l x n. record { answer = x.answer; strip = may_leave l x.strip n };
      place_may = λ l x n. record { answer = x.answer; counted = x.counted; strip = may_leave l x.strip n; zeros = x.zeros };
      commit_may = λ l x n. record { answer = x.answer; strip = may_leave l x.strip n; zeros = x.zeros };
      lay_may = λ l x n. record { answer = x.answer; output = x.output; strip = may_leave l x.strip n; zeros = x.zeros };
    }
