-- The test of question 5 decides it. Formed has that a strip which passes is well formed; here, a well-formed strip passes.
-- A chain that ends comes to no record twice, and its records are 1 to Q: so, by the pigeonhole principle, it ends within Q
-- records, and its list of room Q is whole. Assumes nothing.
use mathlib.Core.Path.{◌≡◌, refl, sym, subst}
use mathlib.Core.Logic.{◌⊎◌, inl, inr, ⊎_elim}
use mathlib.Core.Bool.{true}
use mathlib.Core.List.{List}
use Prim.Native.Nat.{ℕ, zero, suc, ◌+◌, ◌≤◌, ◌<◌, suc-le-suc}
use native.Mathlib.Omega.{arith}
use native.Mathlib.Decide.{ℕ_discrete}
use lib.ListN.{length}
use Rattle.defs.specs.Meaning.Strip.{columns_of, first_of, next_of, Chained, here, further, Ends, zero_ends, goes_on, WellFormed}
use Rattle.defs.specs.Meaning.Question.{Question5}
use Rattle.defs.specs.Computing.Test.{chain_by, ends_by}
use Rattle.defs.specs.Computing.Words.{occurrences, well_formedb}
use Rattle.laws.proofs.Tests.{Decides}
use Rattle.laws.proofs.Questions.{records_are}
use Rattle.laws.proofs.Occurs.{occurs_first, occurs_later, OnlyIn, once_is_only_in}
use Rattle.laws.proofs.Pigeonhole.{none_twice}
use Rattle.laws.proofs.Walks.{chain_step, zero_ends_by, ends_step}
use Rattle.laws.proofs.Chains.{occurs_of, chained_of}
use Rattle.laws.proofs.Formed.{records_in, list_of, ListsFormed, lists_decide, formed}

module _ (s : List ℕ) where
  chained_positive : {x r : ℕ} → Chained s x r → (0 < x) × (0 < r)
  chained_positive (here h) = (h, h)
  chained_positive (further h c) = ((chained_positive c).0, h)

  first_or_after : {x r : ℕ} → Chained s x r → (r ≡ x) ⊎ Chained s x (next_of s r)
  first_or_after (here h) = inl refl
  first_or_after (further h c) = inr c

  -- with a record, a chain holds the next one
  holds_next : {x r : ℕ} → 0 < next_of s x → Chained s x r → Chained s (next_of s x) r
  holds_next p (here h) = further h (here p)
  holds_next p (further h c) = further h (holds_next p c)

module _ (s : List ℕ) (Q : ℕ) where
  stays_within : {x r : ℕ} → Ends s Q r → Chained s x r → x ≤ Q
  stays_within zero_ends (here h) = omega arith
  stays_within zero_ends (further h c) = absurd (omega arith)
  stays_within (goes_on h l e) (here h') = l
  stays_within (goes_on h l e) (further h' c) = stays_within e c

  -- If record r came again after itself, then so would the next one, and so on, and the chain would not end.
  no_return : {r : ℕ} → Ends s Q r → Chained s r (next_of s r) → ⊥
  no_return zero_ends c = omega (arith, (chained_positive s c).0)
  no_return (goes_on {r} h l e) c =
      no_return e
      (⊎_elim (λ q. subst (λ (y : ℕ). Chained s y (next_of s y)) (sym q) c) (holds_next s (chained_positive s c).1)
      (first_or_after s c))

  -- the list of a chain that ends, of whatever room, has no record twice
  pub at_most_once : {r : ℕ} → Ends s Q r → (n x : ℕ) → occurrences x (chain_by (next_of s) n r) ≤ 1
  unfolding chain_by occurrences
  at_most_once e zero x = omega arith
  at_most_once zero_ends (suc n) x = omega arith
  at_most_once (goes_on {r} h l e) (suc n) x = go (ℕ_discrete r x) (at_most_once {r = next_of s r} e n x)
    where
      rest : List ℕ
      rest = chain_by (next_of s) n (next_of s r)

      go : Dec (r ≡ x) → occurrences x rest ≤ 1 → occurrences x (chain_by (next_of s) (suc n) r) ≤ 1
      go (yes q) k =
          let none : ¬ (0 < occurrences r rest) = λ o. no_return (goes_on h l e) (chained_of s r n (next_of s r) o) in
          subst (λ (y : ℕ). occurrences y (chain_by (next_of s) (suc n) r) ≤ 1) q (rw (chain_step (next_of s) n r h) (omega (arith, occurs_first r rest)))
      go (no q) k = rw (chain_step (next_of s) n r h, occurs_later x r rest q) k

  -- within room n the chain ends, or its list is longer than n
  ends_or_longer : {r : ℕ} → Ends s Q r → (n : ℕ) →
      (ends_by (next_of s) Q n r ≡ true) ⊎ (n < length (chain_by (next_of s) (suc n) r))
  ends_or_longer zero_ends n = inl (zero_ends_by (next_of s) Q n)
  ends_or_longer (goes_on {r} h l e) zero = inr (rw (chain_step (next_of s) 0 r h) (omega arith))
  ends_or_longer (goes_on {r} h l e) (suc n) =
      ⊎_elim (λ t. inl ((ends_step (next_of s) Q n r h).1 (l, t))) (λ t. inr (rw (chain_step (next_of s) (suc n) r h) (suc-le-suc t)))
      (ends_or_longer e n)

  -- The other case would be a list of more than Q records, each of 1 to Q and none twice.
  pub ends_within : {r : ℕ} → Ends s Q r → ends_by (next_of s) Q Q r ≡ true
  ends_within {r} e =
      ⊎_elim (λ t. t)
      (λ l.
      absurd
      (omega (
        arith,
        none_twice Q _
            (λ x o. let c = chained_of s x (suc Q) r o in ((chained_positive s c).0, stays_within e c)) (at_most_once e (suc Q)),
      )))
      (ends_or_longer e Q)

complete : (s : List ℕ) → WellFormed s (records_in s) → ListsFormed s
complete s w =
    record {
      long = w.long;
      limits = w.limits;
      gap = w.gap;
      ends = λ k h. ends_within s Q (w.ends k (omega arith));
      columns = λ k h r o. w.columns k r h (chained_of s r Q (first_of s k) o);
      frees = λ r o. w.free r (chained_of s r Q (first_of s (columns_of s)) o);
      once = λ r h. (once_is_only_in (list_of s) (r + 1) 0 (columns_of s + 1)).1 (only (r + 1) (omega arith) (omega arith));
    }
  where
    Q : ℕ
    Q = records_in s

    only : (r : ℕ) → 1 ≤ r → r ≤ Q → OnlyIn (list_of s) r 0 (columns_of s + 1)
    only r l h =
        let c = w.one_chain r l h in
        let e = w.ends c.chain c.is_one in
        record {
          place = c.chain;
          from = omega arith;
          to = omega (arith, c.is_one);
          occurs = omega (arith, at_most_once s Q e Q r, occurs_of s Q r Q _ (ends_within s Q e) c.holds);
          only = λ k m n o. c.no_other k (omega arith) (chained_of s r Q (first_of s k) o);
        }

pub question_5 : (s : List ℕ) → Decides (well_formedb s) (Question5 s)
unfolding Question5
question_5 s = (
  λ e. (records_in s, formed s e),
  λ q. (lists_decide s).1 (complete s (rw (records_are (columns_of s) q.0 (length s) q.1.long) q.1)),
)
