-- Records written one after another: what is left to write gives the whole.
-- Assumes nothing.
use mathlib.Core.Path.{◌≡◌, refl, sym, ap, ◌∙◌}
use mathlib.Core.List.{List, [], ◌∷◌, ◌++◌}
use Prim.Native.Nat.{ℕ, zero, suc, ◌+◌, ◌-◌, ◌*◌, ◌≤◌, ◌<◌}
use native.Mathlib.Omega.{arith}
use native.Mathlib.Numerals.{add-one}
use lib.ListN.{length, get_or, take, drop, length-drop}
use lib.Seq.{sets, length-sets, drop-cons}
use borrow.Author.Tests.{lt-leb}
use Rattle.defs.specs.Computing.Sheets.{record_bytes, outline_bytes}
use Rattle.laws.proofs.Stores.{sets_append}
use Rattle.onerecord.specs.Link.{link_of}
use Rattle.recordbytes.specs.Fits.{OutlineFits}

-- one vertex more
outline_step : (v x y l : ℕ) (L : List ℕ) → 2 * l ≤ length L →
    outline_bytes v (x ∷ (y ∷ take (2 * l) L)) ≡ record_bytes x y (link_of v (suc l)) ++ outline_bytes (v + 1) (take (2 * l) L)
unfolding outline_bytes link_of
outline_step v x y zero L h = refl
outline_step v x y (suc l) [] h = absurd (omega arith)
outline_step v x y (suc l) (z ∷ L) h =
    let i : 2 * suc l ≡ suc (suc (2 * l)) = omega arith in
    rw (i, lt-leb (suc (suc l)) 1 (omega arith))

two_words : (list : List ℕ) (a l : ℕ) → a + 2 * suc l ≤ length list →
    take (2 * suc l) (drop a list) ≡ get_or list a 0 ∷ (get_or list (a + 1) 0 ∷ take (2 * l) (drop (a + 2) list))
two_words list a l h =
    let i : 2 * suc l ≡ suc (suc (2 * l)) = omega arith in
    let j : a + 2 ≡ suc (suc a) = omega arith in
    rw (i, j, add-one a, drop-cons list a 0 (omega arith), drop-cons list (suc a) 0 (omega arith))

-- `left` vertices are left to write, from word a, record v, byte t; T is the whole
pub record Outlining (list out₀ out T : List ℕ) (a left v t : ℕ) : Type 0 where
  pub long : length out ≡ length out₀
  pub in_list : a + 2 * left ≤ length list
  pub in_out : t + 6 * left ≤ length out₀
  pub small : v + left < 65537
  pub rest : sets out t (outline_bytes v (take (2 * left) (drop a list))) ≡ T

pub outline_start : {list out : List ℕ} {from count first to : ℕ} → OutlineFits list from count first out to →
    Outlining list out out (sets out to (outline_bytes first (take (2 * count) (drop from list)))) from count first to
outline_start f = record { long = refl; in_list = f.in_list; in_out = f.in_out; small = f.small; rest = refl }

module _ {list out₀ out T : List ℕ} {a left v t : ℕ} (s : Outlining list out₀ out T a left v t) where
  pub outline_next : {out' : List ℕ} {n : ℕ} → 0 < left → n ≡ link_of v left →
      out' ≡ sets out t (record_bytes (get_or list a 0) (get_or list (a + 1) 0) n) →
      Outlining list out₀ out' T (a + 2) (left - 1) (v + 1) (t + 6)
  outline_next {out'} {n} p en eo = go (left - 1) (omega arith)
    where
      go : (l : ℕ) → left ≡ suc l → Outlining list out₀ out' T (a + 2) l (v + 1) (t + 6)
      go l e =
          let x : ℕ = get_or list a 0 in
          let y : ℕ = get_or list (a + 1) 0 in
          let h : a + 2 * suc l ≤ length list = omega (arith, s.in_list) in
          let more : List ℕ = outline_bytes (v + 1) (take (2 * l) (drop (a + 2) list)) in
          let w : outline_bytes v (take (2 * left) (drop a list)) ≡ record_bytes x y (link_of v (suc l)) ++ more =
          rw e (ap (outline_bytes v) (two_words list a l h) ∙
          outline_step v x y l (drop (a + 2) list) (omega (arith, length-drop (a + 2) list))) in
          let n' : n ≡ link_of v (suc l) = en ∙ ap (link_of v) e in
          record {
            long = ap length eo ∙ length-sets out t (record_bytes x y n) ∙ s.long;
            in_list = omega (arith, s.in_list);
            in_out = omega (arith, s.in_out);
            small = omega (arith, s.small);
            rest =
                rw (eo, n')
                (sym (sets_append out (record_bytes x y (link_of v (suc l))) more t) ∙ ap (sets out t) (sym w) ∙ s.rest);
          }

  pub outline_end : left ≡ 0 → out ≡ T
  unfolding outline_bytes
  outline_end e = rw e at s.rest

-- the same at the same places
pub outline_at : {list out₀ out T : List ℕ} {a a' left left' v v' t t' : ℕ} → a ≡ a' → left ≡ left' → v ≡ v' → t ≡ t' →
    Outlining list out₀ out T a left v t → Outlining list out₀ out T a' left' v' t'
outline_at e f g h s = rw (e, f, g, h) at s
