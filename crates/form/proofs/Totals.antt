-- The walk over all chains: where one is broken, or the count is not the number of records, the strip is not well formed.
-- Assumes nothing.
use mathlib.Core.Path.{◌≡◌, sym, ◌∙◌}
use mathlib.Core.Logic.Iff
use mathlib.Core.Logic.{◌≢◌}
use mathlib.Core.Bool.{Bool, true, false, false≢true}
use mathlib.Core.List.{List}
use Prim.Native.Nat.{ℕ, ◌+◌, ◌≤◌, ◌<◌}
use native.Mathlib.Omega.{arith}
use borrow.Author.Count.{below_more}
use borrow.Author.Tests.{eqb-true, eq-eqb}
use lib.Dec.{eqb}
use lib.ListN.{length}
use Rattle.defs.specs.Meaning.Strip.{width_of, resolution_of, columns_of, gap_of}
use Rattle.defs.specs.Meaning.Question.{Question4}
use Rattle.defs.specs.Computing.Words.{figures_no, lengthb, records_of, well_formedb}
use Rattle.laws.proofs.Tests.{Decides, same_test}
use Rattle.laws.proofs.Questions.{figures_none, question_4, length_decides}
use Rattle.laws.proofs.Complete.{question_5}
use Rattle.striprecords.specs.declared.Shape.{Shape}
use Rattle.chains.specs.Form.{ChainOf, Counted, Formed}
use Rattle.striprecords.specs.Free.{Sized}
use Rattle.chains.specs.Answers.{NoChain}
use Rattle.form.proofs.Meaning.{form_is}
use Rattle.form.proofs.Seen.{Seen, seen_none, seen_chain, seen_most, all_placed, all_counted}

formed_decides : (s : List ℕ) → Decides (well_formedb s) (Formed s)
formed_decides s = Iff.trans (question_5 s) (Iff.symm (form_is s))

-- two tests of the same
same_decided : {a b : Bool} {P : Type 0} → Decides a P → Decides b P → a ≡ b
same_decided {a} {b} p q = same_test a b (λ e. q.1 (p.0 e)) (λ e. p.1 (q.0 e))

not_formed : {s : List ℕ} → (Formed s → ⊥) → well_formedb s ≡ false
not_formed {s} f = same_decided (formed_decides s) (λ e. absurd (false≢true e), λ g. absurd (f g))

-- the tests of length and limits
module _ (s : List ℕ) where
  pub short : length s < 5 → well_formedb s ≡ false
  short l = not_formed (λ f. omega (arith, f.long.words_are))

  pub past_limits : figures_no (width_of s) (resolution_of s) (columns_of s) (gap_of s) ≢ 0 → well_formedb s ≡ false
  past_limits e = not_formed (λ f. e ((figures_none _ _ _ _).1 (f.limits, f.gap)))

  pub wrong_length : lengthb (columns_of s) (length s) ≡ false → well_formedb s ≡ false
  unfolding Question4
  wrong_length e = not_formed (λ f. false≢true (sym e ∙ (question_4 _ _).1 (f.Q, f.long)))

  pub sized : {g : Shape} → figures_no (width_of s) (resolution_of s) (columns_of s) (gap_of s) ≡ 0 →
      lengthb (columns_of s) (length s) ≡ true → g.width ≡ width_of s → g.columns ≡ columns_of s →
      g.records ≡ records_of (columns_of s) (length s) → Sized s g
  sized a b w n e =
      record { width = w; columns = n; limits = ((figures_none _ _ _ _).0 a).0; gap = ((figures_none _ _ _ _).0 a).1; long = rw e ((length_decides _ _).0 b) }

-- Q is the only one that the length fits
same_records : {s : List ℕ} {g : Shape} → Sized s g → (f : Formed s) → f.Q ≡ g.records
same_records z f = omega (arith, f.long.words_are, z.long.words_are)

pub broken : {s : List ℕ} {g : Shape} {c : ℕ} → Sized s g → c ≤ g.columns → NoChain s g.records c →
    well_formedb s ≡ false
broken {s} {c = c} z l n =
    let m : c ≤ columns_of s = omega (arith, z.columns) in
    not_formed (λ f. let d = f.chains c m in n.none d.count (rw (same_records z f) at d.chain))

-- the chains before c are whole, and have `total` records
pub record On (s : List ℕ) (g : Shape) (c total : ℕ) : Type 0 where
  pub sized : Sized s g
  pub most : c ≤ g.columns
  pub counted : (b : ℕ) → b < c → Counted s g.records b
  pub seen : Seen s g.records c total

pub on_start : {s : List ℕ} {g : Shape} → Sized s g → On s g 0 0
on_start z =
    record {
      sized = z;
      most = omega arith;
      counted = λ b l. absurd (omega arith);
      seen = seen_none _ _;
    }

module _ {s : List ℕ} {g : Shape} {c total : ℕ} (o : On s g c total) where
  pub on_next : {k : ℕ} → c < g.columns → ChainOf s g.records c k → On s g (c + 1) (total + k)
  on_next l d =
      record {
        sized = o.sized;
        most = omega arith;
        counted = below_more _ _ o.counted (record { count = _; chain = d });
        seen = seen_chain d o.seen;
      }

  pub on_fits : (k : ℕ) → ChainOf s g.records c k → total + k ≤ g.records
  on_fits k d = seen_most (seen_chain d o.seen)

  -- after the columns' chains comes the free chain
  free_next : {k : ℕ} → g.columns ≤ c → ChainOf s g.records g.columns k → ChainOf s g.records c k
  free_next l d = let e : g.columns ≡ c = omega (arith, o.most) in rw e at d

  pub end_fits : {k : ℕ} → g.columns ≤ c → ChainOf s g.records g.columns k → total + k ≤ g.records
  end_fits {k} l d = on_fits k (free_next l d)

  pub ended : {k : ℕ} → g.columns ≤ c → ChainOf s g.records g.columns k → eqb (total + k) g.records ≡ well_formedb s
  ended {k} l d = same_decided (sound, complete) (formed_decides s)
    where
      last : ChainOf s g.records c k
      last = free_next l d

      sound : eqb (total + k) g.records ≡ true → Formed s
      sound e =
          record {
            Q = g.records;
            limits = o.sized.limits;
            gap = o.sized.gap;
            long = o.sized.long;
            chains =
                λ b m.
                below_more (λ b. Counted s g.records b) c o.counted (record { count = k; chain = last }) b
                (omega (arith, o.sized.columns));
            each = all_placed (seen_chain last o.seen) (eqb-true _ _ e);
          }

      complete : Formed s → eqb (total + k) g.records ≡ true
      complete f =
          eq-eqb _ _
          (all_counted (seen_chain last o.seen) (rw (same_records o.sized f) at f.each)
          (omega (arith, o.sized.columns)))
