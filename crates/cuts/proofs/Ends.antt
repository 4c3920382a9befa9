-- Where a slab may end, and entries that rise.
-- Assumes nothing.
use mathlib.Core.Path.{◌≡◌, sym, subst}
use mathlib.Core.Logic.{⊎_elim}
use mathlib.Core.List.{List}
use Prim.Native.Nat.{ℕ, ◌+◌, ◌*◌, ◌≤◌, ◌<◌}
use native.Mathlib.Omega.{arith}
use lib.ListN.{get_or}
use Rattle.defs.specs.Meaning.Outline.{vx, sides}
use Rattle.defs.specs.Meaning.Turn.{turned}
use Rattle.geom.proofs.Strip.{lt_or_le}
use Rattle.geom.proofs.Extent.{sides_turned}
use Rattle.entries.specs.Edges.{AllFit, Rising, NextAt, Nearer}
use Rattle.entries.proofs.Entries.{below_one, next_none, next_more, next_end, product}
use Rattle.entries.proofs.Sorting.{frac_trans}
use Rattle.cuts.specs.Cut.{CutAt}

pub cut_none : (v : List ℕ) (a c : ℕ) → a < c → CutAt v a 0 c
cut_none v a c h = record { more = h; next = next_none v a c }

pub cut_more : {v : List ℕ} {a i r x z : ℕ} → CutAt v a i r → x ≡ vx v i → Nearer a x r z → CutAt v a (i + 1) z
cut_more k e n = record { more = n.more k.more; next = next_more k.next e n }

pub cut_end : {v : List ℕ} {a i n r : ℕ} → CutAt v a i r → i ≡ n → CutAt v a n r
cut_end k e = record { more = k.more; next = next_end k.next e }

-- the slab after one that ends at b
pub cut_after : (o : List ℕ) (t : ℕ) {a b r : ℕ} → a ≡ b → NextAt (turned o t) b (sides (turned o t)) r → a < r → CutAt (turned o t) a (sides o) r
cut_after o t {a} {b} {r} e k h =
    record { more = h; next = subst (λ (x : ℕ). NextAt (turned o t) x (sides o) r) (sym e) (next_end k (sides_turned o t)) }

-- heights that rise from one entry to the next do so over any distance
pub rising_one : (h w : List ℕ) → Rising h w 1
rising_one h w = record { order = λ x y l k. absurd (omega arith) }

pub rising_more : {h0 h w : List ℕ} {m x : ℕ} (y : ℕ) → AllFit h0 h w m → x < m → x ≡ y + 1 → Rising h w x → get_or h y 0 * get_or w x 0 ≤ get_or h x 0 * get_or w y 0 →
    Rising h w (x + 1)
rising_more {h0} {h} {w} {m} {x} y f l e r n =
    record {
      order = λ a b p q.
          ⊎_elim (r.order a b p)
          (λ eb. subst (λ (b : ℕ). get_or h a 0 * get_or w b 0 ≤ get_or h b 0 * get_or w a 0) (sym eb) (last a (omega arith))) (below_one q);
    }
  where
    last : (a : ℕ) → a < x → get_or h a 0 * get_or w x 0 ≤ get_or h x 0 * get_or w a 0
    last a p =
        ⊎_elim
        (λ q. frac_trans (get_or h a 0) (get_or w a 0) (get_or h y 0) (get_or w y 0) (get_or h x 0) (get_or w x 0) (f.each y (omega arith)).some (r.order a y q (omega arith)) n)
        (λ q. let g : y ≡ a = omega arith in subst (λ (a : ℕ). get_or h a 0 * get_or w x 0 ≤ get_or h x 0 * get_or w a 0) g n) (lt_or_le a y)

pub side_fits : {h0 h1 w : List ℕ} {m : ℕ} → AllFit h0 h1 w m → (x y : ℕ) → x < m → y < m → get_or h1 x 0 * get_or w y 0 ≤ 4096000000000
side_fits {h0} {h1} {w} f x y l k = product (get_or h1 x 0) (get_or w y 0) 256000000 16000 (f.each x l).right (f.each y k).wide

pub rising_less : {h w : List ℕ} {m x : ℕ} → Rising h w x → m ≤ x → Rising h w m
rising_less r l = record { order = λ a b p q. r.order a b p (omega arith) }
