-- The records of the first chains, in the order in which the walks come to them. No two of them are the same, so by the pigeonhole
-- principle there are at most Q, and there are Q exactly when each record has a place in a chain.
-- Assumes nothing.
use mathlib.Core.Path.{◌≡◌, refl, ap, ◌∙◌}
use mathlib.Core.List.{List}
use Prim.Native.Nat.{ℕ, ◌+◌, ◌-◌, ◌≤◌, ◌<◌}
use native.Mathlib.Omega.{arith}
use native.Mathlib.Decide.{dec_lt}
use Rattle.defs.specs.Meaning.Strip.{columns_of, column_of}
use Rattle.laws.proofs.Pigeonhole.{pigeonhole}
use Rattle.chains.specs.Form.{rec_at, ChainOf, Place}
use Rattle.chains.proofs.Steps.{same_step, chain_column, chain_same}
use Rattle.form.proofs.Joined.{joined, joined_left, joined_right, joined_each, joined_differ, Among, onto, covers}

-- the chains before c have `total` records: at 0 .. at (total - 1)
pub record Seen (s : List ℕ) (Q c total : ℕ) : Type 0 where
  pub at : ℕ → ℕ
  pub place : (a : ℕ) → a < total → Place s Q (at a)
  pub early : (a : ℕ) → a < total → column_of s (at a) < c
  pub differ : (a b : ℕ) → a < total → b < total → at a ≡ at b → a ≡ b
  pub full : (r : ℕ) (p : Place s Q r) → p.chain < c → Among at total r

pub seen_none : (s : List ℕ) (Q : ℕ) → Seen s Q 0 0
seen_none s Q =
    record {
      at = λ a. a;
      place = λ a l. absurd (omega arith);
      early = λ a l. absurd (omega arith);
      differ = λ a b l m e. e;
      full = λ r p l. absurd (omega arith);
    }

-- a chain more
pub seen_chain : {s : List ℕ} {Q c k total : ℕ} → ChainOf s Q c k → Seen s Q c total → Seen s Q (c + 1) (total + k)
seen_chain {s} {Q} {c} {k} {total} d t =
    record {
      at = joined t.at (rec_at s c) total;
      place =
          joined_each t.at (rec_at s c) total k (Place s Q) t.place
          (λ j l. record { chain = c; counted = record { count = k; chain = d }; step = j; within = l; is = refl });
      early =
          joined_each t.at (rec_at s c) total k (λ r. column_of s r < c + 1) (λ a l. omega (arith, t.early a l))
          (λ j l. omega (arith, chain_column d j l));
      differ =
          joined_differ t.at (rec_at s c) total k t.differ (same_step d)
          (λ a j l m e. omega (arith, t.early a l, chain_column d j m, ap (column_of s) e));
      full = λ r p l. find r p l (dec_lt p.chain c);
    }
  where
    find : (r : ℕ) (p : Place s Q r) → p.chain < c + 1 → Dec (p.chain < c) →
        Among (joined t.at (rec_at s c) total) (total + k) r
    find r p l (yes h) =
        let a = t.full r p h in
        record {
          index = a.index;
          below = omega (arith, a.below);
          is = joined_left t.at (rec_at s c) total a.index a.below ∙ a.is;
        }
    find r p l (no h) =
        let e : p.chain ≡ c = omega arith in
        let u : ChainOf s Q c p.counted.count = rw e at p.counted.chain in
        record {
          index = total + p.step;
          below = omega (arith, p.within, chain_same d u);
          is = joined_right t.at (rec_at s c) total (total + p.step) p.step refl ∙ (rw e at p.is);
        }

module _ {s : List ℕ} {Q c total : ℕ} (t : Seen s Q c total) where
  -- the records as numbers below Q
  number : ℕ → ℕ
  number a = t.at a - 1

  positive : (a : ℕ) → a < total → 0 < t.at a
  positive a l =
      let p = t.place a l in
      omega (arith, p.counted.chain.within.first p.step p.within, p.is)

  small : (a : ℕ) → a < total → number a < Q
  unfolding number
  small a l =
      let p = t.place a l in
      omega (arith, positive a l, p.counted.chain.within.last p.step p.within, p.is)

  differ : (a b : ℕ) → a < total → b < total → number a ≡ number b → a ≡ b
  unfolding number
  differ a b l m e = t.differ a b l m (omega (arith, positive a l, positive b m))

  pub seen_most : total ≤ Q
  seen_most = pigeonhole total Q number small differ

  pub all_placed : total ≡ Q → (r : ℕ) → 1 ≤ r → r ≤ Q → Place s Q r
  unfolding number
  all_placed e r a b =
      let m = onto total number (λ a l. omega (arith, small a l)) differ (r - 1) (omega arith) in
      let is : t.at m.index ≡ r = omega (arith, m.is, positive m.index m.below) in
      rw is at (t.place m.index m.below)

  pub all_counted : ((r : ℕ) → 1 ≤ r → r ≤ Q → Place s Q r) → columns_of s < c → total ≡ Q
  unfolding number
  all_counted each l = omega (arith, seen_most, covers Q total number find)
    where
      find : (x : ℕ) → x < Q → Among number total x
      find x h =
          let p = each (x + 1) (omega arith) (omega arith) in
          let a = t.full (x + 1) p (omega (arith, p.counted.chain.is_one)) in
          record { index = a.index; below = a.below; is = omega (arith, a.is) }
