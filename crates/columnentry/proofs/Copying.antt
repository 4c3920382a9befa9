-- Words copied one by one, and a column's runs copied to the end of a table.
-- Assumes nothing.
use mathlib.Core.Path.{◌≡◌, refl, ◌∙◌}
use mathlib.Core.List.{List}
use Prim.Native.Nat.{ℕ, ◌+◌, ◌-◌, ◌≤◌, ◌<◌}
use native.Mathlib.Omega.{arith}
use native.Mathlib.Decide.{dec_lt}
use lib.ListN.{get_or, set, length, length-set}
use lib.Seq.{get_or-set_same, get_or-set_other}
use Rattle.runs.specs.Runs.{Holds, Apart}
use Rattle.columnentry.specs.Columns.{Kept, Copied}

pub kept_none : (s : List ℕ) (b : ℕ) → Kept s s b
kept_none s b = record { long = refl; before = λ i p. refl }

pub kept_more : {s t u : List ℕ} {a b : ℕ} → Kept s t a → Kept t u b → b ≤ a → Kept s u b
kept_more j k l = record { long = k.long ∙ j.long; before = λ i p. k.before i p ∙ j.before i (omega arith) }

pub copied_none : (s o : List ℕ) (a t : ℕ) → Copied s o o a a t
copied_none s o a t = record { kept = kept_none o t; moved = λ i j p q e. absurd (omega arith) }

pub copied_more : {s o n : List ℕ} {a i t j : ℕ} → Copied s o n a i t → j + a ≡ i + t → a ≤ i → j < length n →
    Copied s o (set n j (get_or s i 0)) a (i + 1) t
copied_more {s} {o} {n} {a} {i} {t} {j} c e ai l =
    record {
      kept =
          record {
            long = simp length-set c.kept.long;
            before = λ m p. get_or-set_other n j m _ 0 (omega arith) ∙ c.kept.before m p;
          };
      moved = λ m k p q d. at m k p q d (dec_lt m i);
    }
  where
    at : (m k : ℕ) → a ≤ m → m < i + 1 → k + a ≡ m + t → Dec (m < i) → get_or (set n j (get_or s i 0)) k 0 ≡ get_or s m 0
    at m k p q d (yes u) = get_or-set_other n j k _ 0 (omega arith) ∙ c.moved m k p u d
    at m k p q d (no u) =
        let x : k ≡ j = omega arith in
        let y : m ≡ i = omega arith in
        rw (x, y) (get_or-set_same n j _ 0 l)

-- The runs a to e - 1 of l, h, copied to t: they have the same rows, and are apart as they were.
module _ {l h l₁ h₁ l' h' : List ℕ} {a e t : ℕ} (lows : Copied l l₁ l' a e t) (highs : Copied h h₁ h' a e t) (rise : a ≤ e) where
  pub copied_holds : (x : ℕ) → Holds l h a e x → Holds l' h' t (t + (e - a)) x
  copied_holds x p = go (p.which + t - a) (omega (arith, p.from))
    where
      go : (j : ℕ) → j + a ≡ p.which + t → Holds l' h' t (t + (e - a)) x
      go j d =
          record {
            which = j;
            from = omega (arith, p.from);
            among = omega (arith, p.among);
            low = omega (arith, lows.moved p.which j p.from p.among d, p.low);
            high = omega (arith, highs.moved p.which j p.from p.among d, p.high);
          }

  pub holds_copied : (x : ℕ) → Holds l' h' t (t + (e - a)) x → Holds l h a e x
  holds_copied x p = go (p.which + a - t) (omega (arith, p.from))
    where
      go : (i : ℕ) → p.which + a ≡ i + t → Holds l h a e x
      go i d =
          let within : i < e = omega (arith, p.among) in
          let from : a ≤ i = omega (arith, p.from) in
          record {
            which = i;
            from = from;
            among = within;
            low = omega (arith, lows.moved i p.which from within d, p.low);
            high = omega (arith, highs.moved i p.which from within d, p.high);
          }

  pub copied_apart : Apart l h a e → Apart l' h' t (t + (e - a))
  copied_apart r =
      record {
        full = λ j p q. at j (j + a - t) (omega arith) (omega arith) (omega arith);
        apart = λ j k p q s. two j k (j + a - t) (k + a - t) (omega arith) (omega arith) (omega arith) (omega arith) (omega arith);
      }
    where
      at : (j i : ℕ) → j + a ≡ i + t → a ≤ i → i < e → get_or l' j 0 < get_or h' j 0
      at j i d p q = omega (arith, lows.moved i j p q d, highs.moved i j p q d, r.full i p q)

      two : (j k i m : ℕ) → j + a ≡ i + t → k + a ≡ m + t → a ≤ i → i < m → m < e → get_or h' j 0 < get_or l' k 0
      two j k i m d f p q s =
          omega (arith, highs.moved i j p (omega arith) d, lows.moved m k (omega arith) s f, r.apart i m p q s)
