-- Runs raised one by one, in place: the first m words are the runs so far, the words from i on are kept.
-- Assumes nothing.
use mathlib.Core.Path.{◌≡◌, refl, ap, subst, ◌∙◌}
use mathlib.Core.List.{List}
use mathlib.Core.Logic.{◌↔◌, ◌⊎◌, inl, inr}
use Prim.Native.Nat.{ℕ, ◌+◌, ◌-◌, ◌≤◌, ◌<◌}
use native.Mathlib.Omega.{arith}
use native.Mathlib.Decide.{dec_lt}
use lib.ListN.{length, get_or, set, length-set}
use lib.Seq.{get_or-set_same, get_or-set_other}
use Rattle.join.specs.Runs.{Apart, Holds}
use Rattle.geom.specs.Units.{Raised}
use Rattle.raise.specs.Raises.{Puts, Raises}

-- nothing to raise by
pub raised_by_none : {l h : List ℕ} {n g : ℕ} → g ≡ 0 → Apart l h n → Raises l h n g l h n
raised_by_none {l} {h} {n} e runs =
    record {
      few = omega arith;
      runs = runs;
      rows = λ y. (
        λ o. record { row = y; holds = o; below = omega arith; rows = omega arith },
        λ r. let same : r.row ≡ y = omega (arith, r.below, r.rows) in subst (Holds l h n) same r.holds,
      );
    }

-- i runs are raised, and are m
pub record Raising (l h : List ℕ) (g : ℕ) (l' h' : List ℕ) (i m : ℕ) : Type 0 where
  pub long : length l' ≡ length l
  pub high_long : length h' ≡ length h
  pub few : m ≤ i
  pub runs : Apart l' h' m
  pub lows_kept : (k : ℕ) → i ≤ k → get_or l' k 0 ≡ get_or l k 0
  pub highs_kept : (k : ℕ) → i ≤ k → get_or h' k 0 ≡ get_or h k 0
  pub last_low : (k : ℕ) → k + 1 ≡ m → (a : ℕ) → a + 1 ≡ i → get_or l' k 0 ≤ get_or l a 0
  pub last_high : (k : ℕ) → k + 1 ≡ m → (a : ℕ) → a + 1 ≡ i → get_or h' k 0 ≡ get_or h a 0 + g
  pub some : 0 < i → 0 < m
  pub rows : (y : ℕ) → Holds l' h' m y ↔ Raised g (Holds l h i) y

pub raising_start : (l h : List ℕ) (g : ℕ) → Raising l h g l h 0 0
raising_start l h g =
    record {
      long = refl;
      high_long = refl;
      few = omega arith;
      runs = record { full = λ i s. absurd (omega arith); apart = λ i j s t. absurd (omega arith) };
      lows_kept = λ k a. refl;
      highs_kept = λ k a. refl;
      last_low = λ k a. absurd (omega arith);
      last_high = λ k a. absurd (omega arith);
      some = λ a. a;
      rows = λ y. (λ o. absurd (omega (arith, o.among)), λ o. absurd (omega (arith, o.holds.among)));
    }

-- the rows of one run, raised
run_raised : {l h : List ℕ} {i n y : ℕ} (g : ℕ) → i < n → get_or l i 0 < get_or h i 0 → get_or l i 0 ≤ y → y < get_or h i 0 + g →
    Raised g (Holds l h n) y
run_raised {l} {h} {i} {n} {y} g s full a b = go (dec_lt y (get_or h i 0))
  where
    go : Dec (y < get_or h i 0) → Raised g (Holds l h n) y
    go (yes u) =
        record { row = y; holds = record { which = i; among = s; low = a; high = u }; below = omega arith; rows = omega arith }
    go (no u) =
        record {
          row = get_or h i 0 - 1;
          holds = record { which = i; among = s; low = omega arith; high = omega arith };
          below = omega arith;
          rows = omega arith;
        }

-- what is raised of fewer runs is raised of more
raised_more : {l h : List ℕ} {g n m y : ℕ} → n ≤ m → Raised g (Holds l h n) y → Raised g (Holds l h m) y
raised_more s r =
    record {
      row = r.row;
      holds = record { which = r.holds.which; among = omega (arith, r.holds.among); low = r.holds.low; high = r.holds.high };
      below = r.below;
      rows = r.rows;
    }

module _ {l h l' h' : List ℕ} {g n i m lo hi : ℕ} (apart : Apart l h n) (more : i < n) (room : n ≤ length l) (high-room : n ≤ length h)
    (r : Raising l h g l' h' i m) (low_is : lo ≡ get_or l i 0) (high_is : hi ≡ get_or h i 0 + g) where
  -- a row of the runs before, or of run i
  raised_cases : {y : ℕ} → Raised g (Holds l h (i + 1)) y → Holds l' h' m y ⊎ ((lo ≤ y) × (y < hi))
  raised_cases {y} w = go (dec_lt w.holds.which i)
    where
      go : Dec (w.holds.which < i) → Holds l' h' m y ⊎ ((lo ≤ y) × (y < hi))
      go (yes u) =
          inl
          ((r.rows y).1
          (record {
            row = w.row;
            holds = record { which = w.holds.which; among = u; low = w.holds.low; high = w.holds.high };
            below = w.below;
            rows = w.rows;
          }))
      go (no u) =
          let e : w.holds.which ≡ i = omega (arith, w.holds.among) in
          inr (omega (arith, ap (λ (x : ℕ). get_or l x 0) e, w.holds.low, w.below), omega (arith, ap (λ (x : ℕ). get_or h x 0) e, w.holds.high, w.rows))

  here : {y : ℕ} → lo ≤ y → y < hi → Raised g (Holds l h (i + 1)) y
  here a b = run_raised g (omega arith) (apart.full i more) (omega arith) (omega arith)

  before_more : {y : ℕ} → Holds l' h' m y → Raised g (Holds l h (i + 1)) y
  before_more {y} o = raised_more (omega arith) ((r.rows y).0 o)

  -- the last run goes on
  module _ (k : ℕ) (last : k + 1 ≡ m) (reaches : lo ≤ get_or h' k 0) where
    abbrev raised_highs : List ℕ
    raised_highs = set h' k hi

    at_last : get_or raised_highs k 0 ≡ hi
    at_last = get_or-set_same h' k hi 0 (omega (arith, r.few, r.high_long))

    others : (x : ℕ) → ¬ (x ≡ k) → get_or raised_highs x 0 ≡ get_or h' x 0
    others x d = get_or-set_other h' k x hi 0 (λ e. d (omega arith))

    -- the run before run i ends before it
    low_before : get_or l' k 0 < lo
    low_before = low_from (i - 1) (omega (arith, r.few))
      where
        low_from : (a : ℕ) → a + 1 ≡ i → get_or l' k 0 < lo
        low_from a e = omega (arith, r.last_low k last a e, apart.full a (omega arith), apart.apart a i (omega arith) more)

    longer : get_or h' k 0 ≤ hi
    longer = from (i - 1) (omega (arith, r.few))
      where
        from : (a : ℕ) → a + 1 ≡ i → get_or h' k 0 ≤ hi
        from a e = omega (arith, r.last_high k last a e, apart.full i more, apart.apart a i (omega arith) more)

    pub raising_join : Raising l h g l' raised_highs (i + 1) m
    raising_join =
        record {
          long = r.long;
          high_long = simp length-set r.high_long;
          few = omega (arith, r.few);
          runs =
              record {
                full = λ x s. full x s (dec_lt x k);
                apart = λ x y s t. omega (arith, others x (λ e. omega arith), r.runs.apart x y s t);
              };
          lows_kept = λ x a. r.lows_kept x (omega arith);
          highs_kept = λ x a. others x (λ e. omega (arith, r.few)) ∙ r.highs_kept x (omega arith);
          last_low = λ x a b c. let e : x ≡ k = omega arith in let f : b ≡ i = omega arith in rw (e, f) (omega (arith, low_before));
          last_high = λ x a b c. let e : x ≡ k = omega arith in let f : b ≡ i = omega arith in rw (e, f) (omega (arith, at_last));
          some = λ a. omega arith;
          rows = λ y. (λ o. forth y o (dec_lt o.which k) (dec_lt y (get_or h' k 0)), λ w. back y (raised_cases w));
        }
      where
        full : (x : ℕ) → x < m → Dec (x < k) → get_or l' x 0 < get_or raised_highs x 0
        full x s (yes u) = omega (arith, others x (λ e. omega arith), r.runs.full x s)
        full x s (no u) = let e : x ≡ k = omega arith in rw e (omega (arith, at_last, r.runs.full k (omega arith), longer))

        forth : (y : ℕ) (o : Holds l' raised_highs m y) → Dec (o.which < k) → Dec (y < get_or h' k 0) → Raised g (Holds l h (i + 1)) y
        forth y o (yes u) d =
            before_more
            (record { which = o.which; among = o.among; low = o.low; high = omega (arith, others o.which (λ e. omega arith), o.high) })
        forth y o (no u) (yes d) =
            let e : o.which ≡ k = omega (arith, o.among) in
            before_more (record { which = k; among = omega arith; low = omega (arith, ap (λ (x : ℕ). get_or l' x 0) e, o.low); high = d })
        forth y o (no u) (no d) =
            let e : o.which ≡ k = omega (arith, o.among) in
            here (omega arith) (omega (arith, ap (λ (x : ℕ). get_or raised_highs x 0) e, at_last, o.high))

        back : (y : ℕ) → Holds l' h' m y ⊎ ((lo ≤ y) × (y < hi)) → Holds l' raised_highs m y
        back y (inl o) = go (dec_lt o.which k)
          where
            go : Dec (o.which < k) → Holds l' raised_highs m y
            go (yes u) =
                record { which = o.which; among = o.among; low = o.low; high = omega (arith, others o.which (λ e. omega arith), o.high) }
            go (no u) =
                let e : o.which ≡ k = omega (arith, o.among) in
                record {
                  which = k;
                  among = omega arith;
                  low = omega (arith, ap (λ (x : ℕ). get_or l' x 0) e, o.low);
                  high = omega (arith, ap (λ (x : ℕ). get_or h' x 0) e, o.high, at_last, longer);
                }
        back y (inr p) =
            record { which = k; among = omega arith; low = omega (arith, low_before, p.0); high = omega (arith, at_last, p.1) }

  -- a run more
  module _ (over : (k : ℕ) → k + 1 ≡ m → get_or h' k 0 < lo) where
    abbrev more_lows : List ℕ
    more_lows = set l' m lo

    abbrev more_highs : List ℕ
    more_highs = set h' m hi

    low_here : get_or more_lows m 0 ≡ lo
    low_here = get_or-set_same l' m lo 0 (omega (arith, r.few, r.long))

    high_here : get_or more_highs m 0 ≡ hi
    high_here = get_or-set_same h' m hi 0 (omega (arith, r.few, r.high_long))

    low_other : (x : ℕ) → ¬ (x ≡ m) → get_or more_lows x 0 ≡ get_or l' x 0
    low_other x d = get_or-set_other l' m x lo 0 (λ e. d (omega arith))

    high_other : (x : ℕ) → ¬ (x ≡ m) → get_or more_highs x 0 ≡ get_or h' x 0
    high_other x d = get_or-set_other h' m x hi 0 (λ e. d (omega arith))

    -- all runs so far end below lo
    all_over : (x : ℕ) → x < m → get_or h' x 0 < lo
    all_over x s = go (m - 1) (omega arith)
      where
        go : (k : ℕ) → k + 1 ≡ m → get_or h' x 0 < lo
        go k e = at (dec_lt x k)
          where
            at : Dec (x < k) → get_or h' x 0 < lo
            at (yes u) = omega (arith, r.runs.apart x k u (omega arith), r.runs.full k (omega arith), over k e)
            at (no u) = let f : x ≡ k = omega arith in rw f (over k e)

    pub raising_follow : Raising l h g more_lows more_highs (i + 1) (m + 1)
    raising_follow =
        record {
          long = simp length-set r.long;
          high_long = simp length-set r.high_long;
          few = omega (arith, r.few);
          runs = record { full = λ x s. full x s (dec_lt x m); apart = λ x y s t. between x y s t (dec_lt y m) };
          lows_kept = λ x a. low_other x (λ e. omega (arith, r.few)) ∙ r.lows_kept x (omega arith);
          highs_kept = λ x a. high_other x (λ e. omega (arith, r.few)) ∙ r.highs_kept x (omega arith);
          last_low = λ x a b c. let e : x ≡ m = omega arith in let f : b ≡ i = omega arith in rw (e, f) (omega (arith, low_here));
          last_high = λ x a b c. let e : x ≡ m = omega arith in let f : b ≡ i = omega arith in rw (e, f) (omega (arith, high_here));
          some = λ a. omega arith;
          rows = λ y. (λ o. forth y o (dec_lt o.which m), λ w. back y (raised_cases w));
        }
      where
        full : (x : ℕ) → x < m + 1 → Dec (x < m) → get_or more_lows x 0 < get_or more_highs x 0
        full x s (yes u) = omega (arith, low_other x (λ e. omega arith), high_other x (λ e. omega arith), r.runs.full x u)
        full x s (no u) =
            let e : x ≡ m = omega arith in
            rw e (omega (arith, low_here, high_here, apart.full i more))

        between : (x y : ℕ) → x < y → y < m + 1 → Dec (y < m) → get_or more_highs x 0 < get_or more_lows y 0
        between x y s t (yes u) = omega (arith, high_other x (λ e. omega arith), low_other y (λ e. omega arith), r.runs.apart x y s u)
        between x y s t (no u) =
            let e : y ≡ m = omega arith in
            rw e (omega (arith, high_other x (λ e. omega arith), low_here, all_over x (omega arith)))

        forth : (y : ℕ) (o : Holds more_lows more_highs (m + 1) y) → Dec (o.which < m) → Raised g (Holds l h (i + 1)) y
        forth y o (yes u) =
            before_more
            (record {
              which = o.which;
              among = u;
              low = omega (arith, low_other o.which (λ e. omega arith), o.low);
              high = omega (arith, high_other o.which (λ e. omega arith), o.high);
            })
        forth y o (no u) =
            let e : o.which ≡ m = omega (arith, o.among) in
            here (omega (arith, ap (λ (x : ℕ). get_or more_lows x 0) e, low_here, o.low))
            (omega (arith, ap (λ (x : ℕ). get_or more_highs x 0) e, high_here, o.high))

        back : (y : ℕ) → Holds l' h' m y ⊎ ((lo ≤ y) × (y < hi)) → Holds more_lows more_highs (m + 1) y
        back y (inl o) =
            record {
              which = o.which;
              among = omega (arith, o.among);
              low = omega (arith, low_other o.which (λ e. omega (arith, o.among)), o.low);
              high = omega (arith, high_other o.which (λ e. omega (arith, o.among)), o.high);
            }
        back y (inr p) =
            record { which = m; among = omega arith; low = omega (arith, low_here, p.0); high = omega (arith, high_here, p.1) }

  pub raising_next : {l'' h'' : List ℕ} {m' : ℕ} → Puts l' h' m lo hi l'' h'' m' → Raising l h g l'' h'' (i + 1) m'
  raising_next {l''} {h''} {m'} (inl j) =
      rw (j.lows, j.highs, j.count) (raising_join (m - 1) (omega (arith, j.some)) j.reaches)
  raising_next {l''} {h''} {m'} (inr f) =
      rw (f.lows, f.highs, f.count)
      (raising_follow (λ k e. let d : m - 1 ≡ k = omega arith in rw d at (f.over (omega arith))))

pub raising_end : {l h l' h' : List ℕ} {g n i m : ℕ} → Raising l h g l' h' i m → i ≡ n → Raises l h n g l' h' m
raising_end {l} {h} {l'} {h'} {g} {n} {i} {m} r e =
    let f : n ≡ i = omega arith in
    rw f (record { few = r.few; runs = r.runs; rows = r.rows })
