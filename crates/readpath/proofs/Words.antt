-- The coordinates still to look at decide the whole; the words still to store, where they go, give the whole. Assumes nothing.
use mathlib.Core.Path.{◌≡◌, refl, sym, ap, ◌∙◌}
use mathlib.Core.Bool.{Bool, true, false, ◌&&◌, false≢true}
use mathlib.Core.List.{List}
use Prim.Native.Nat.{ℕ, zero, suc, ◌+◌, ◌-◌, ◌*◌, ◌≤◌, ◌<◌}
use native.Mathlib.Omega.{arith}
use native.Mathlib.Nat.{zero-add}
use lib.ListN.{length, take, drop, set, length-set}
use lib.Seq.{sets, sets-eq, take-append_seam}
use Rattle.std.specs.Prelude.{Option, Some, None}
use Rattle.std.proofs.lemmas.Option.{none-some, some_pair_parts}
use Rattle.defs.specs.Computing.Test.{ask}
use Rattle.pathdefs.specs.Computing.Paths.{bits_at, units_of, acceptedb, acceptsb, vertices_in, q20b, vertex_units, path_words}
use Rattle.pathsteps.specs.Found.{vertex_here}
use Rattle.readpath.specs.Passed.{Shaped, Accepts}
use Rattle.readpath.proofs.Lines.{next_drop}

-- the two coordinates of a vertex
abbrev both : List ℕ → Bool
both b = acceptedb (bits_at b 1) && acceptedb (bits_at b 5)

-- what the vertex says of its coordinates
pub record Here (b : List ℕ) (x y : ℕ) : Type 0 where
  pub accepted : both b ≡ true
  pub is_x : x ≡ units_of (bits_at b 1)
  pub is_y : y ≡ units_of (bits_at b 5)

pub vertex_here_lem : (b : List ℕ) {x y : ℕ} {v : Option (ℕ × ℕ)} → v ≡ vertex_here b → v ≡ Some (x, y) → Here b x y
unfolding vertex_here
vertex_here_lem b {x} {y} {v} e f = go (both b) refl (sym e ∙ f)
  where
    go : (t : Bool) → both b ≡ t → ask {A = Option (ℕ × ℕ)} t None (λ _. Some (units_of (bits_at b 1), units_of (bits_at b 5))) ≡ Some (x, y) → Here b x y
    go true t h = record { accepted = t; is_x = sym (some_pair_parts _ _ _ _ h).0; is_y = sym (some_pair_parts _ _ _ _ h).1 }
    go false t h = absurd (none-some _ h)

pub vertex_other : (b : List ℕ) {v : Option (ℕ × ℕ)} → v ≡ vertex_here b → v ≡ None → both b ≡ false
unfolding vertex_here
vertex_other b {v} e f = go (both b) refl (sym e ∙ f)
  where
    go : (t : Bool) → both b ≡ t → ask {A = Option (ℕ × ℕ)} t None (λ _. Some (units_of (bits_at b 1), units_of (bits_at b 5))) ≡ None → both b ≡ false
    go true t h = absurd (none-some _ (sym h))
    go false t h = t

accepts_step : (b : List ℕ) (m i : ℕ) → both (drop (9 * i) b) ≡ true → acceptsb (suc m) (drop (9 * i) b) ≡ acceptsb m (drop (9 * (i + 1)) b)
unfolding acceptsb
accepts_step b m i e = rw (e, next_drop b i)

accepts_stop : (b : List ℕ) (m i : ℕ) → both (drop (9 * i) b) ≡ false → acceptsb (suc m) (drop (9 * i) b) ≡ false
unfolding acceptsb
accepts_stop b m i e = rw e

-- i vertices are accepted, and their words stored
pub record Keeping (b w₀ w : List ℕ) (n i : ℕ) : Type 0 where
  pub same : length w ≡ length w₀
  pub most : i ≤ n
  pub accepted : acceptsb n b ≡ acceptsb (n - i) (drop (9 * i) b)
  pub rest : sets w (2 * i) (vertex_units (n - i) (drop (9 * i) b)) ≡ sets w₀ 0 (vertex_units n b)

pub keeping_start : (b w : List ℕ) (n : ℕ) → Keeping b w w n 0
keeping_start b w n = let e : n - 0 ≡ n = omega arith in record { same = refl; most = omega arith; accepted = rw e; rest = rw e }

module _ {b w₀ w : List ℕ} {n i : ℕ} (s : Keeping b w₀ w n i) (h : i < n) where
  left : n - i ≡ suc (n - (i + 1))
  left = omega (arith, h)

  pub keeping_next : {x y : ℕ} {v : Option (ℕ × ℕ)} → v ≡ vertex_here (drop (9 * i) b) → v ≡ Some (x, y) →
      Keeping b w₀ (set (set w (2 * i) x) (2 * i + 1) y) n (i + 1)
  unfolding vertex_units
  keeping_next {x} {y} e f =
      let v = vertex_here_lem (drop (9 * i) b) e f in
      let a : 2 * i + 1 ≡ suc (2 * i) = omega arith in
      let c : 2 * (i + 1) ≡ suc (suc (2 * i)) = omega arith in
      record {
        same = length-set (set w (2 * i) x) (2 * i + 1) y ∙ length-set w (2 * i) x ∙ s.same;
        most = omega (arith, h);
        accepted = s.accepted ∙ ap (λ (m : ℕ). acceptsb m (drop (9 * i) b)) left ∙ accepts_step b (n - (i + 1)) i v.accepted;
        rest = rw (a, c, v.is_x, v.is_y, sym (next_drop b i)) (ap (λ (m : ℕ). sets w (2 * i) (vertex_units m (drop (9 * i) b))) (sym left) ∙ s.rest);
      }

  pub keeping_not : {v : Option (ℕ × ℕ)} → Shaped b n → v ≡ vertex_here (drop (9 * i) b) → v ≡ None → Accepts b n false w
  unfolding q20b
  keeping_not t e f =
      record {
        twenty = sym (ap (λ (k : ℕ). acceptsb k b) (sym t.count) ∙ s.accepted ∙ ap (λ (m : ℕ). acceptsb m (drop (9 * i) b)) left ∙
            accepts_stop b (n - (i + 1)) i (vertex_other (drop (9 * i) b) e f));
        kept = λ z. absurd (false≢true z);
      }

length_units : (n : ℕ) (b : List ℕ) → length (vertex_units n b) ≡ 2 * n
unfolding vertex_units
length_units zero b = refl
length_units (suc n) b = omega (arith, length_units n (drop 9 b))

pub length_words : {b : List ℕ} {n : ℕ} → Shaped b n → length (path_words b) ≡ 2 * n
unfolding path_words
length_words {b} {n} s = length_units (vertices_in b) b ∙ ap (λ (m : ℕ). 2 * m) (sym s.count)

first_words : (us w : List ℕ) → length us ≤ length w → take (length us) (sets w 0 us) ≡ us
first_words us w h =
    ap (take (length us)) (sets-eq us w 0 (rw (zero-add (length us)) h)) ∙ take-append_seam us (drop (0 + length us) w)

pub keeping_end : {b w₀ w : List ℕ} {n i : ℕ} → Shaped b n → 2 * n ≤ length w₀ → Keeping b w₀ w n i → n ≤ i → Accepts b n true w
unfolding q20b acceptsb vertex_units path_words
keeping_end {b} {w₀} {w} {n} {i} t l s h =
    let z : n - i ≡ 0 = omega (arith, h) in
    let e : w ≡ sets w₀ 0 (path_words b) =
    sym (ap (λ (m : ℕ). sets w (2 * i) (vertex_units m (drop (9 * i) b))) z) ∙ s.rest ∙ ap (λ (m : ℕ). sets w₀ 0 (vertex_units m b)) t.count in
    record {
      twenty = sym (ap (λ (k : ℕ). acceptsb k b) (sym t.count) ∙ s.accepted ∙ ap (λ (m : ℕ). acceptsb m (drop (9 * i) b)) z);
      kept = λ _. rw (e, sym (length_words t)) (first_words (path_words b) w₀ (rw (length_words t) l));
    }
