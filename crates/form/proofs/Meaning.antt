-- The working form says what question 5 asks: a chain holds the records that its steps come to, and no other.
-- Assumes nothing.
use mathlib.Core.Path.{◌≡◌, refl, ap, sym, subst, ◌∙◌}
use mathlib.Core.Logic.{◌↔◌}
use mathlib.Core.List.{List}
use Prim.Native.Nat.{ℕ, zero, suc, ◌+◌, ◌≤◌, ◌<◌}
use native.Mathlib.Omega.{arith}
use borrow.Author.Count.{below_more}
use Rattle.defs.specs.Meaning.Strip.{columns_of, first_of, column_of, next_of, Chained, here, further, Ends, zero_ends, goes_on}
use Rattle.defs.specs.Meaning.Strip.{InColumn, IsFree, InOneChain, WellFormed}
use Rattle.defs.specs.Meaning.Question.{Question5}
use Rattle.chains.specs.Form.{rec_at, Within, ChainOf, Counted, Place, Formed}
use Rattle.chains.proofs.Steps.{start, step, chain_column, goes_on_at}

-- chain c comes to record x in its first k
record Reaches (s : List ℕ) (c k x : ℕ) : Type 0 where
  at : ℕ
  below : at < k
  is : rec_at s c at ≡ x

module _ {s : List ℕ} {Q c k : ℕ} (w : Within s Q c k) where
  -- the chain holds what stands at its steps
  holds_from : (m i : ℕ) → i + m < k → Chained s (rec_at s c (i + m)) (rec_at s c i)
  holds_from zero i l = let e : i + 0 ≡ i = omega arith in rw e (here (w.first i (omega arith)))
  holds_from (suc m) i l =
      let e : i + suc m ≡ i + 1 + m = omega arith in
      rw e (further (w.first i (omega arith)) (rw (step s c i) at (holds_from m (i + 1) (omega arith))))

  holds_step : (i : ℕ) → i < k → Chained s (rec_at s c i) (first_of s c)
  holds_step i l =
      let e : 0 + i ≡ i = omega arith in
      rw (start s c, e) at (holds_from i 0 (omega arith))

module _ {s : List ℕ} {Q c k : ℕ} (d : ChainOf s Q c k) where
  -- the chain holds nothing else
  reaches_from : {x r : ℕ} → Chained s x r → (i : ℕ) → i ≤ k → r ≡ rec_at s c i → Reaches s c k x
  reaches_from (here h) i l e = record { at = i; below = goes_on_at d i l (rw e at h); is = sym e }
  reaches_from (further h t) i l e =
      reaches_from t (i + 1) (omega (arith, goes_on_at d i l (rw e at h))) (ap (next_of s) e ∙ sym (step s c i))

  reaches : {x : ℕ} → Chained s x (first_of s c) → Reaches s c k x
  reaches t = reaches_from t 0 (omega arith) (sym (start s c))

  ends_from : (m i : ℕ) → i + m ≡ k → Ends s Q (rec_at s c i)
  ends_from zero i e =
      let z : rec_at s c i ≡ 0 = ap (rec_at s c) (omega arith) ∙ d.ends in
      rw z zero_ends
  ends_from (suc m) i e =
      goes_on (d.within.first i (omega arith)) (d.within.last i (omega arith))
      (rw (step s c i) at (ends_from m (i + 1) (omega arith)))

-- chain c ends after `count` records, all of them 1 to Q
record Ending (s : List ℕ) (Q c : ℕ) : Type 0 where
  count : ℕ
  ends : rec_at s c count ≡ 0
  within : Within s Q c count

ending_from : {s : List ℕ} {Q c r : ℕ} → Ends s Q r → (i : ℕ) → r ≡ rec_at s c i → Within s Q c i → Ending s Q c
ending_from zero_ends i e w = record { count = i; ends = sym e; within = w }
ending_from {s} {Q} {c} (goes_on h l t) i e w =
    ending_from t (i + 1) (ap (next_of s) e ∙ sym (step s c i))
    (record { first = below_more _ _ w.first (rw e at h); last = below_more _ _ w.last (rw e at l) })

ending : {s : List ℕ} {Q : ℕ} (c : ℕ) → Ends s Q (first_of s c) → Ending s Q c
ending {s} c t =
    ending_from t 0 (sym (start s c)) (record { first = λ i l. absurd (omega arith); last = λ i l. absurd (omega arith) })

counted : {s : List ℕ} {Q : ℕ} → WellFormed s Q → (c : ℕ) → c ≤ columns_of s → Counted s Q c
counted {s} {Q} w c l =
    let t = ending c (w.ends c l) in
    record {
      count = t.count;
      chain =
          record {
            is_one = l;
            ends = t.ends;
            within = t.within;
            column = λ i m h. w.columns c (rec_at s c i) h (holds_step t.within i m);
            free =
                λ i m e.
                w.free (rec_at s c i) (subst (λ (n : ℕ). Chained s (rec_at s c i) (first_of s n)) e (holds_step t.within i m));
          };
    }

-- the place of a record that a chain holds
placed : {s : List ℕ} {Q r : ℕ} (c : ℕ) → Counted s Q c → Chained s r (first_of s c) → Place s Q r
placed c d t =
    let p = reaches d.chain t in
    record { chain = c; counted = d; step = p.at; within = p.below; is = p.is }

module _ {s : List ℕ} (f : Formed s) where
  free_is : (r : ℕ) → Chained s r (first_of s (columns_of s)) → IsFree s r
  free_is r t =
      let d = f.chains (columns_of s) (omega arith) in
      let p = reaches d.chain t in
      rw p.is at (d.chain.free p.at p.below refl)

  column_is : (c r : ℕ) → c < columns_of s → Chained s r (first_of s c) → InColumn s c r
  column_is c r l t =
      let d = f.chains c (omega arith) in
      let p = reaches d.chain t in
      rw p.is at (d.chain.column p.at p.below l)

  one_chain : (r : ℕ) → 1 ≤ r → r ≤ f.Q → InOneChain s r
  unfolding placed
  one_chain r a b =
      record {
        chain = p.chain;
        is_one = p.counted.chain.is_one;
        holds = rw p.is at (holds_step p.counted.chain.within p.step p.within);
        no_other = λ c l t. sym (column_of_lem (placed c (f.chains c l) t)) ∙ column_of_lem p;
      }
    where
      p : Place s f.Q r
      p = f.each r a b

      column_of_lem : (q : Place s f.Q r) → column_of s r ≡ q.chain
      column_of_lem q = ap (column_of s) (sym q.is) ∙ chain_column q.counted.chain q.step q.within

pub form_is : (s : List ℕ) → Formed s ↔ Question5 s
unfolding Question5
form_is s = (
  λ f. (
    f.Q,
    record {
      long = f.long;
      limits = f.limits;
      gap = f.gap;
      free = free_is f;
      columns = column_is f;
      ends =
          λ c l.
          let d = f.chains c l in
          rw (start s c) at (ends_from d.chain d.count 0 (omega arith));
      one_chain = one_chain f;
    },
  ),
  λ q.
      record {
        Q = q.0;
        limits = q.1.limits;
        gap = q.1.gap;
        long = q.1.long;
        chains = counted q.1;
        each = λ r a b. let o = q.1.one_chain r a b in placed o.chain (counted q.1 o.chain o.is_one) o.holds;
      },
)
