-- The walks along a column's chain and along the free chain. Where a walk gives up, no chain of any length is there: up to the record
-- that it has come to, each would go the same way.
-- Assumes nothing.
use mathlib.Core.Path.{◌≡◌, refl, ap, sym, ◌∙◌}
use mathlib.Core.List.{List}
use Prim.Native.Nat.{ℕ, zero, suc, ◌+◌, ◌-◌, ◌≤◌, ◌<◌}
use native.Mathlib.Nat.{add-zero}
use native.Mathlib.Omega.{arith}
use native.Mathlib.Numerals.{add-one}
use native.Mathlib.Decide.{dec_lt}
use borrow.Author.Count.{below_more}
use borrow.Author.Tests.{lt-ltb, le-ltb}
use lib.ListN.{get_or}
use Rattle.defs.specs.Meaning.Strip.{width_of, columns_of, first_of, low_of, high_of, next_of, IsFree}
use Rattle.chains.specs.Form.{rec_at, Within, ChainOf}
use Rattle.striprecords.specs.declared.Shape.{Shape}
use Rattle.striprecords.specs.Free.{Sized, InOrder}
use Rattle.chains.specs.Answers.{RunFrom, RunTo, NoRun, NoChain}
use Rattle.chains.proofs.Steps.{start, step, chain_most, within_most, goes_on_at}

-- the words that a chain begins with
head_column : (s : List ℕ) (c : ℕ) → c < columns_of s → get_or s (5 + c) 0 ≡ first_of s c
head_column s c l = simp (lt-ltb c (columns_of s) l)

head_free : (s : List ℕ) (c : ℕ) → columns_of s ≤ c → get_or s 3 0 ≡ first_of s c
head_free s c l = simp (le-ltb c (columns_of s) l)

-- k records of chain c are behind, and the next is `at`
pub record Walked (s : List ℕ) (Q c k at : ℕ) : Type 0 where
  pub here : at ≡ rec_at s c k
  pub within : Within s Q c k

module _ {s : List ℕ} {Q c : ℕ} where
  walk_start : {at : ℕ} → at ≡ first_of s c → Walked s Q c 0 at
  walk_start e =
      record {
        here = e ∙ sym (start s c);
        within = record { first = λ i l. absurd (omega arith); last = λ i l. absurd (omega arith) };
      }

  module _ {k at : ℕ} (w : Walked s Q c k at) where
    walk_next : {e : ℕ} → 0 < at → at ≤ Q → e ≡ next_of s at → Walked s Q c (k + 1) e
    walk_next p q e =
        record {
          here = e ∙ ap (next_of s) w.here ∙ sym (step s c k);
          within =
              record {
                first = below_more _ _ w.within.first (rw w.here at p);
                last = below_more _ _ w.within.last (rw w.here at q);
              };
        }

    -- a chain of n records has one here
    pub walk_inside : {n : ℕ} → ChainOf s Q c n → 0 < at → k < n
    walk_inside d p = goes_on_at d k (within_most d w.within) (rw w.here at p)

-- the row from which a run may begin that comes after i runs of column c
unfoldable pub above : List ℕ → ℕ → ℕ → ℕ
above s c zero = 0
above s c (suc i) = high_of s (rec_at s c i) + 1

above_next : (s : List ℕ) (c i : ℕ) → above s c (i + 1) ≡ high_of s (rec_at s c i) + 1
unfolding above
above_next s c i = ap (above s c) (add-one i)

-- each record of a chain is a run that begins after the one before it
chain_run : {s : List ℕ} {Q c n : ℕ} → ChainOf s Q c n → c < columns_of s → (i : ℕ) → i < n →
    RunFrom s Q c (above s c i) (rec_at s c i)
unfolding above rec_at
chain_run {s} {Q} {c} {n} d l i h =
    let r = d.column i h l in
    record { is_one = d.within.last i h; column = r.column; from = from i h; some = r.some; fits = r.fits }
  where
    from : (i : ℕ) → i < n → above s c i ≤ low_of s (rec_at s c i)
    from zero h = omega arith
    from (suc i) h = omega (arith, (d.column i (omega arith) l).apart (d.within.first (suc i) h))

-- k runs of column c are behind, the next record is `at`, and its run may begin at row m
pub record OnColumn (s : List ℕ) (Q c k at m : ℕ) : Type 0 where
  pub walked : Walked s Q c k at
  pub runs : (i : ℕ) → i < k → RunFrom s Q c (above s c i) (rec_at s c i)
  pub row : m ≡ above s c k
  pub few : k ≤ m
  pub most : m ≤ width_of s + 1

module _ {s : List ℕ} {Q c : ℕ} where
  pub column_start : {g : Shape} {at : ℕ} → Sized s g → c < g.columns → at ≡ get_or s (5 + c) 0 →
      OnColumn s Q c 0 at 0
  unfolding above
  column_start z l e =
      record {
        walked = walk_start (e ∙ head_column s c (omega (arith, z.columns)));
        runs = λ i l. absurd (omega arith);
        row = refl;
        few = omega arith;
        most = omega arith;
      }

  module _ {k at m : ℕ} (o : OnColumn s Q c k at m) where
    pub column_wrong : c < columns_of s → 0 < at → NoRun s Q c m at → NoChain s Q c
    column_wrong l p f =
        record { none = λ n d. f.none (rw (o.walked.here, o.row) (chain_run d l k (walk_inside o.walked d p))) }

    pub column_next : {e v : ℕ} → 0 < at → RunTo s Q c m at v → e ≡ next_of s at → OnColumn s Q c (k + 1) e (v + 1)
    column_next {e} {v} p f g =
        record {
          walked = walk_next o.walked p f.run.is_one g;
          runs = below_more _ _ o.runs (rw (o.walked.here, o.row) at f.run);
          row = omega (arith, above_next s c k, f.high, ap (high_of s) o.walked.here);
          few = omega (arith, o.few, f.run.from, f.run.some, f.high);
          most = omega (arith, f.run.fits, f.high);
        }

    pub column_end : c < columns_of s → at ≤ 0 → ChainOf s Q c k
    column_end l z =
        record {
          is_one = omega arith;
          ends = omega (arith, o.walked.here);
          within = o.walked.within;
          column =
              λ i h n.
              let r = o.runs i h in
              record { column = r.column; some = r.some; fits = r.fits; apart = apart i h (dec_lt (i + 1) k) };
          free = λ i h e. absurd (omega arith);
        }
      where
        apart : (i : ℕ) → i < k → Dec (i + 1 < k) → 0 < next_of s (rec_at s c i) →
            high_of s (rec_at s c i) < low_of s (next_of s (rec_at s c i))
        apart i h (yes m) p =
            omega (arith, (o.runs (i + 1) m).from, above_next s c i, ap (low_of s) (step s c i))
        apart i h (no m) p =
            let e : i + 1 ≡ k = omega arith in
            absurd (omega (arith, o.walked.here, ap (rec_at s c) e, step s c i))

-- k free records are behind, and the next is `at`
pub record OnFree (s : List ℕ) (Q c k at : ℕ) : Type 0 where
  pub walked : Walked s Q c k at
  pub frees : (i : ℕ) → i < k → IsFree s (rec_at s c i)
  pub few : k ≤ Q

pub free_start : {s : List ℕ} {g : Shape} {at : ℕ} → Sized s g → at ≡ get_or s 3 0 →
    OnFree s g.records g.columns 0 at
free_start {s} {g} z e =
    record {
      walked = walk_start (e ∙ head_free s g.columns (omega (arith, z.columns)));
      frees = λ i l. absurd (omega arith);
      few = omega arith;
    }

module _ {s : List ℕ} {Q c : ℕ} where
  module _ {k at : ℕ} (o : OnFree s Q c k at) where
    pub free_past : 0 < at → Q < at → NoChain s Q c
    free_past p q =
        record { none = λ n d. omega (arith, o.walked.here, d.within.last k (walk_inside o.walked d p)) }

    pub free_long : 0 < at → Q ≤ k → NoChain s Q c
    free_long p q = record { none = λ n d. omega (arith, walk_inside o.walked d p, chain_most d) }

    pub free_wrong : c ≡ columns_of s → 0 < at → (IsFree s at → ⊥) → NoChain s Q c
    free_wrong e p f =
        record { none = λ n d. f (rw o.walked.here (d.free k (walk_inside o.walked d p) e)) }

    pub free_next : {e : ℕ} → 0 < at → at ≤ Q → k < Q → IsFree s at → e ≡ next_of s at → OnFree s Q c (k + 1) e
    free_next p q l f g =
        record {
          walked = walk_next o.walked p q g;
          frees = below_more _ _ o.frees (rw o.walked.here at f);
          few = omega arith;
        }

    pub free_end : c ≡ columns_of s → at ≤ 0 → ChainOf s Q c k
    free_end e z =
        record {
          is_one = omega arith;
          ends = omega (arith, o.walked.here);
          within = o.walked.within;
          column = λ i h l. absurd (omega arith);
          free = λ i h l. o.frees i h;
        }

  -- records in order, the first of them the chain's first
  pub free_along : {r e : ℕ} → OnFree s Q c 0 r → InOrder s Q r e → OnFree s Q c (e - r) e
  free_along {r} {e} o d =
      let h : r + (e - r) ≡ e = omega (arith, d.from) in
      rw h at (go (e - r) (omega arith))
    where
      go : (n : ℕ) → r + n ≤ e → OnFree s Q c n (r + n)
      go zero l = rw add-zero o
      go (suc n) l =
          let x = d.each (r + n) (omega arith) (omega arith) in
          let first : 0 < r = d.first (omega arith) in
          let last : e ≤ Q = d.last (omega arith) in
          rw (sym (add-one n))
          (free_next (go n (omega arith)) (omega arith) (omega arith) (omega arith) x.free (omega (arith, x.next)))
