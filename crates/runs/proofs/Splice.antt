-- A run put in the place of the runs a to b - 1.
-- Assumes nothing.
use mathlib.Core.Path.{◌≡◌, ap, ◌∙◌}
use mathlib.Core.List.{List}
use mathlib.Core.Logic.{◌⊎◌, inl, inr}
use Prim.Native.Nat.{ℕ, ◌+◌, ◌-◌, ◌≤◌, ◌<◌, min, max}
use native.Mathlib.Omega.{arith}
use native.Mathlib.Decide.{dec_lt}
use lib.ListN.{get_or, set, length}
use lib.Seq.{get_or-set_same, get_or-set_other}
use Rattle.runs.specs.Runs.{Apart, Holds, Joined, Up, Down, Reaches, Passes}

-- the words a to b - 1 of the first n give way to v
pub record Spliced (l l' : List ℕ) (n a b v : ℕ) : Type 0 where
  pub before : (k : ℕ) → k < a → get_or l' k 0 ≡ get_or l k 0
  pub here : get_or l' a 0 ≡ v
  pub after : (j k : ℕ) → b ≤ j → j < n → k + b ≡ j + a + 1 → get_or l' k 0 ≡ get_or l j 0

-- the rows u to v - 1 are those of the runs a to b - 1 and lo to hi - 1
pub record Merged (l h : List ℕ) (base n a b lo hi u v : ℕ) : Type 0 where
  pub some : u < v
  pub low : u ≤ lo
  pub high : hi ≤ v
  pub left : (k : ℕ) → base ≤ k → k < a → get_or h k 0 < u
  pub right : (k : ℕ) → b ≤ k → k < n → v < get_or l k 0
  pub takes_low : (k : ℕ) → a ≤ k → k < b → u ≤ get_or l k 0
  pub takes_high : (k : ℕ) → a ≤ k → k < b → get_or h k 0 ≤ v
  pub only : (y : ℕ) → u ≤ y → y < v → Holds l h base n y ⊎ ((lo ≤ y) × (y < hi))

pub splice :
    {l h l' h' : List ℕ} {base n a b lo hi u v : ℕ} (m : ℕ) → base ≤ a → Apart l h base n → a ≤ b → b ≤ n → m + b ≡ n + a + 1 → Merged l h base n a b lo hi u v → Spliced l l' n a b u → Spliced h h' n a b v → Joined l h l' h' base n m lo hi
splice {l} {h} {l'} {h'} {base} {n} {a} {b} {lo} {hi} {u} {v} m ba ok ab bn me mg sl sh =
    record {
      runs = record { full = λ i o p. full i o p (dec_lt i a) (dec_lt a i); apart = λ i j o p q. apart i j o p q (dec_lt j a) (dec_lt a j) (dec_lt i a) (dec_lt a i) };
      most = omega arith;
      some = omega arith;
      kept = λ y p. kept y p (dec_lt p.which a) (dec_lt p.which b);
      added = λ y p q. record { which = a; from = omega arith; among = omega arith; low = omega (arith, sl.here, mg.low); high = omega (arith, sh.here, mg.high) };
      only = λ y p. only y p (dec_lt p.which a) (dec_lt a p.which);
      lows_before = λ k p. sl.before k (omega arith);
      highs_before = λ k p. sh.before k (omega arith);
    }
  where
    old : ℕ → ℕ
    old k = k + b - (a + 1)

    old_is : (k : ℕ) → a < k → k + b ≡ old k + a + 1
    old_is k p = omega arith

    full : (i : ℕ) → base ≤ i → i < m → Dec (i < a) → Dec (a < i) → get_or l' i 0 < get_or h' i 0
    full i o p (yes x) y = omega (arith, sl.before i x, sh.before i x, ok.full i o (omega arith))
    full i o p (no x) (yes y) =
        let e = old_is i y in
        omega (arith, sl.after (old i) i (omega arith) (omega arith) e, sh.after (old i) i (omega arith) (omega arith) e, ok.full (old i) (omega arith) (omega arith))
    full i o p (no x) (no y) = let e : i ≡ a = omega arith in rw e (omega (arith, sl.here, sh.here, mg.some))

    apart : (i j : ℕ) → base ≤ i → i < j → j < m → Dec (j < a) → Dec (a < j) → Dec (i < a) → Dec (a < i) → get_or h' i 0 < get_or l' j 0
    apart i j o p q (yes x) y z w = omega (arith, sl.before j x, sh.before i (omega arith), ok.apart i j o p (omega arith))
    apart i j o p q (no x) (no y) z w =
        let e : j ≡ a = omega arith in
        rw e (omega (arith, sl.here, sh.before i (omega arith), mg.left i o (omega arith)))
    apart i j o p q (no x) (yes y) (yes z) w =
        let e = old_is j y in
        omega (arith, sl.after (old j) j (omega arith) (omega arith) e, sh.before i z, ok.apart i (old j) o (omega arith) (omega arith))
    apart i j o p q (no x) (yes y) (no z) (yes w) =
        let e = old_is j y in
        let f = old_is i w in
        omega
        (arith, sl.after (old j) j (omega arith) (omega arith) e, sh.after (old i) i (omega arith) (omega arith) f, ok.apart (old i) (old j) (omega arith) (omega arith) (omega arith))
    apart i j o p q (no x) (yes y) (no z) (no w) =
        let e = old_is j y in
        let f : i ≡ a = omega arith in
        rw f (omega (arith, sl.after (old j) j (omega arith) (omega arith) e, sh.here, mg.right (old j) (omega arith) (omega arith)))

    kept : (y : ℕ) (p : Holds l h base n y) → Dec (p.which < a) → Dec (p.which < b) → Holds l' h' base m y
    kept y p (yes x) z =
        record { which = p.which; from = p.from; among = omega arith; low = omega (arith, sl.before p.which x, p.low); high = omega (arith, sh.before p.which x, p.high) }
    kept y p (no x) (yes z) =
        record {
          which = a;
          from = omega arith;
          among = omega arith;
          low = omega (arith, sl.here, mg.takes_low p.which (omega arith) z, p.low);
          high = omega (arith, sh.here, mg.takes_high p.which (omega arith) z, p.high);
        }
    kept y p (no x) (no z) = at (p.which + a + 1 - b) (omega arith)
      where
        at : (k : ℕ) → k + b ≡ p.which + a + 1 → Holds l' h' base m y
        at k e =
            record {
              which = k;
              from = omega arith;
              among = omega (arith, p.among);
              low = omega (arith, sl.after p.which k (omega arith) p.among e, p.low);
              high = omega (arith, sh.after p.which k (omega arith) p.among e, p.high);
            }

    only : (y : ℕ) (p : Holds l' h' base m y) → Dec (p.which < a) → Dec (a < p.which) → Holds l h base n y ⊎ ((lo ≤ y) × (y < hi))
    only y p (yes x) z =
        inl (record { which = p.which; from = p.from; among = omega arith; low = omega (arith, sl.before p.which x, p.low); high = omega (arith, sh.before p.which x, p.high) })
    only y p (no x) (yes z) =
        let e = old_is p.which z in
        inl
        (record {
          which = old p.which;
          from = omega arith;
          among = omega (arith, p.among);
          low = omega (arith, sl.after (old p.which) p.which (omega arith) (omega (arith, p.among)) e, p.low);
          high = omega (arith, sh.after (old p.which) p.which (omega arith) (omega (arith, p.among)) e, p.high);
        })
    only y p (no x) (no z) = mid p.which (omega arith) p.low p.high
      where
        mid : (k : ℕ) → k ≡ a → get_or l' k 0 ≤ y → y < get_or h' k 0 → Holds l h base n y ⊎ ((lo ≤ y) × (y < hi))
        mid k e f g = mg.only y (omega (arith, sl.here, ap (λ (x : ℕ). get_or l' x 0) e)) (omega (arith, sh.here, ap (λ (x : ℕ). get_or h' x 0) e))

-- nothing is met: the run goes in between
pub apart_merged :
    {l h : List ℕ} {base n a b lo hi : ℕ} → Apart l h base n → lo < hi → a ≡ b → Reaches h base n lo a → Passes l a n hi b → Merged l h base n a b lo hi lo hi
apart_merged {l} {h} {base} {n} {a} {b} {lo} {hi} ok lh ab ra pb =
    record {
      some = lh;
      low = omega arith;
      high = omega arith;
      left = λ k o p. ra.below k p o;
      right = λ k p q. right k p q (dec_lt b k);
      takes_low = λ k p q. absurd (omega arith);
      takes_high = λ k p q. absurd (omega arith);
      only = λ y p q. inr (p, q);
    }
  where
    right : (k : ℕ) → b ≤ k → k < n → Dec (b < k) → hi < get_or l k 0
    right k p q (yes x) = omega (arith, pb.found (omega arith), ok.full b (omega (arith, ra.from)) (omega arith), ok.apart b k (omega (arith, ra.from)) x q)
    right k p q (no x) = let e : k ≡ b = omega arith in rw e (pb.found (omega arith))

-- the runs a to b - 1 are met
pub met_merged :
    {l h : List ℕ} {base n a b lo hi : ℕ} (z : ℕ) → Apart l h base n → lo < hi → a < b → z + 1 ≡ b → Reaches h base n lo a → Passes l a n hi b → Merged l h base n a b lo hi (min lo (get_or l a 0)) (max hi (get_or h z 0))
met_merged {l} {h} {base} {n} {a} {b} {lo} {hi} z ok lh ab zb ra pb =
    record {
      some = omega arith;
      low = omega arith;
      high = omega arith;
      left = λ k o p. omega (arith, ra.below k p o, ok.apart k a o p (omega (arith, pb.most)));
      right = λ k p q. right k p q (dec_lt b k);
      takes_low = λ k p q. low k p q (dec_lt a k);
      takes_high = λ k p q. high k p q (dec_lt k z);
      only = λ y p q. only y p q (dec_lt y lo) (dec_lt y hi);
    }
  where
    right : (k : ℕ) → b ≤ k → k < n → Dec (b < k) → max hi (get_or h z 0) < get_or l k 0
    right k p q (yes x) = omega (arith, pb.found (omega arith), ok.full b (omega (arith, ra.from)) (omega arith), ok.apart b k (omega (arith, ra.from)) x q, ok.apart z k (omega (arith, ra.from)) (omega arith) q)
    right k p q (no x) = let e : k ≡ b = omega arith in rw e (omega (arith, pb.found (omega arith), ok.apart z b (omega (arith, ra.from)) (omega arith) (omega arith)))

    low : (k : ℕ) → a ≤ k → k < b → Dec (a < k) → min lo (get_or l a 0) ≤ get_or l k 0
    low k p q (yes x) = omega (arith, pb.most, ok.full a ra.from (omega (arith, pb.most)), ok.apart a k ra.from x (omega (arith, pb.most)))
    low k p q (no x) = let e : k ≡ a = omega arith in rw e (omega arith)

    high : (k : ℕ) → a ≤ k → k < b → Dec (k < z) → get_or h k 0 ≤ max hi (get_or h z 0)
    high k p q (yes x) = omega (arith, pb.most, ok.full z (omega (arith, ra.from)) (omega (arith, pb.most)), ok.apart k z (omega (arith, ra.from)) x (omega (arith, pb.most)))
    high k p q (no x) = let e : k ≡ z = omega arith in rw e (omega arith)

    only : (y : ℕ) → min lo (get_or l a 0) ≤ y → y < max hi (get_or h z 0) → Dec (y < lo) → Dec (y < hi) → Holds l h base n y ⊎ ((lo ≤ y) × (y < hi))
    only y p q (yes x) w =
        inl (record { which = a; from = ra.from; among = omega (arith, pb.most); low = omega arith; high = omega (arith, ra.found (omega (arith, pb.most))) })
    only y p q (no x) (yes w) = inr (omega arith, w)
    only y p q (no x) (no w) =
        inl (record { which = z; from = omega (arith, ra.from); among = omega (arith, pb.most); low = omega (arith, pb.within z (omega arith) (omega arith)); high = omega arith })

-- what the two ways of the code leave
pub grown : {o s : List ℕ} {a b n : ℕ} (v : ℕ) → a ≡ b → Up o s a n → a < length s → Spliced o (set s a v) n a b v
grown {o} {s} {a} {b} {n} v ab u p =
    record {
      before = λ k q. get_or-set_other s a k v 0 (omega arith) ∙ u.before k q;
      here = get_or-set_same s a v 0 p;
      after = λ j k q r e. let f : k ≡ j + 1 = omega arith in rw f (get_or-set_other s a (j + 1) v 0 (omega arith) ∙ u.moved j (omega arith) r);
    }

pub shrunk : {o s : List ℕ} {a b n : ℕ} (v : ℕ) → Down (set o a v) s (a + 1) b n → a < b → a < length o → Spliced o s n a b v
shrunk {o} {s} {a} {b} {n} v d ab p =
    record {
      before = λ k q. d.before k (omega arith) ∙ get_or-set_other o a k v 0 (omega arith);
      here = d.before a (omega arith) ∙ get_or-set_same o a v 0 p;
      after = λ j k q r e. d.moved j k q r (omega arith) ∙ get_or-set_other o a j v 0 (omega arith);
    }
