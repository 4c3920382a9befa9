-- The lines still to see decide the whole; the coordinates still to see, too. Assumes nothing.
use mathlib.Core.Path.{◌≡◌, refl, sym, ap, ◌∙◌}
use mathlib.Core.Bool.{Bool, true, false, false≢true}
use mathlib.Core.Logic.{◌⊎◌, inl, inr}
use mathlib.Core.List.{List}
use Prim.Native.Nat.{ℕ, zero, suc, ◌+◌, ◌-◌, ◌*◌, ◌≤◌, ◌<◌}
use native.Mathlib.Omega.{arith}
use lib.Dec.{eqb}
use lib.ListN.{length, get_or, drop}
use lib.Seq.{get_or-drop, drop-drop}
use borrow.Author.Tests.{eqb-true, eq-eqb, ne_eqb}
use Rattle.laws.proofs.Tests.{and_left, and_right, same_test}
use Rattle.pathdefs.specs.Computing.Paths.{linesb, vertices_in, q19b}
use Rattle.pathlaws.proofs.Shapes.{nineteen, long, least, most, tags}
use Rattle.pathsteps.specs.Found.{kind_at, VertexStep}
use Rattle.pathsteps.proofs.Cases.{kind_says, close_kind, move_kind, line_kind}
use Rattle.readpath.specs.Passed.{Long, Shaped, Unshaped}

head_drop : (b : List ℕ) (at : ℕ) → get_or (drop at b) 0 0 ≡ get_or b at 0
head_drop b at = let e : at + 0 ≡ at = omega arith in get_or-drop at b 0 0 ∙ rw e

pub next_drop : (b : List ℕ) (i : ℕ) → drop 9 (drop (9 * i) b) ≡ drop (9 * (i + 1)) b
next_drop b i = let e : 9 * i + 9 ≡ 9 * (i + 1) = omega arith in drop-drop 9 (9 * i) b ∙ rw e

-- i vertices are seen, the move and i − 1 lines
pub record Seen (b : List ℕ) (n i : ℕ) : Type 0 where
  pub least : 1 ≤ i
  pub most : i ≤ n
  pub rest : linesb (n - 1) (drop 9 b) ≡ linesb (n - i) (drop (9 * i) b)

pub seen_start : (b : List ℕ) (n : ℕ) → 3 ≤ n → Seen b n 1
seen_start b n h = record { least = omega arith; most = omega arith; rest = refl }

lines_step : (b : List ℕ) (m i : ℕ) → get_or b (9 * i) 0 ≡ 2 → linesb (suc m) (drop (9 * i) b) ≡ linesb m (drop (9 * (i + 1)) b)
unfolding linesb
lines_step b m i e = rw (head_drop b (9 * i), e, next_drop b i)

lines_stop : (b : List ℕ) (m i : ℕ) → (get_or b (9 * i) 0 ≡ 2 → ⊥) → linesb (suc m) (drop (9 * i) b) ≡ false
unfolding linesb
lines_stop b m i h = rw (head_drop b (9 * i), ne_eqb (get_or b (9 * i) 0) 2 h)

module _ {b : List ℕ} {n i : ℕ} (l : Long b n) (s : Seen b n i) (h : i < n) where
  left : n - i ≡ suc (n - (i + 1))
  left = omega (arith, h)

  pub seen_next : {k : ℕ} → k ≡ kind_at b (9 * i) → k ≡ 2 → Seen b n (i + 1)
  seen_next e k =
      record {
        least = omega arith;
        most = omega (arith, h);
        rest = s.rest ∙ ap (λ (m : ℕ). linesb m (drop (9 * i) b)) left ∙ lines_step b (n - (i + 1)) i (kind_says b (9 * i) (omega arith) (sym e ∙ k));
      }

  pub seen_other : {k : ℕ} → k ≡ kind_at b (9 * i) → (k ≡ 2 → ⊥) → false ≡ linesb (n - 1) (drop 9 b)
  seen_other e k =
      sym (s.rest ∙ ap (λ (m : ℕ). linesb m (drop (9 * i) b)) left ∙
      lines_stop b (n - (i + 1)) i (λ d. k (e ∙ line_kind b (9 * i) (omega (arith, l.long, h)) d)))

pub seen_end : {b : List ℕ} {n i k : ℕ} → Long b n → Seen b n i → n ≤ i → k ≡ kind_at b (9 * n) → eqb k 3 ≡ linesb (n - 1) (drop 9 b)
unfolding linesb
seen_end {b} {n} {i} {k} l s h e =
    let z : n - n ≡ 0 = omega arith in
    let t : eqb k 3 ≡ eqb (get_or b (9 * n) 0) 3 = same_test _ _
    (λ t. eq-eqb _ 3 (kind_says b (9 * n) (omega arith) (sym e ∙ eqb-true k 3 t)))
    (λ t. eq-eqb k 3 (e ∙ close_kind b (9 * n) (omega (arith, l.long)) (eqb-true _ 3 t))) in
    let same : i ≡ n = omega (arith, h, s.most) in
    t ∙ sym (s.rest ∙ ap (λ (j : ℕ). linesb (n - j) (drop (9 * j) b)) same ∙ ap (λ (m : ℕ). linesb m (drop (9 * n) b)) z ∙ ap (λ (x : ℕ). eqb x 3) (head_drop b (9 * n)))

-- 19: each way out
unshaped : (b : List ℕ) → (q19b b ≡ true → ⊥) → Unshaped b
unshaped b h = go (q19b b) refl
  where
    go : (t : Bool) → q19b b ≡ t → Unshaped b
    go true e = absurd (h e)
    go false e = record { fails = e }

module _ (b : List ℕ) where
  pub other_length : (length b ≡ 9 * vertices_in b + 1 → ⊥) → Unshaped b
  other_length h = unshaped b (λ t. h (long b t))

  too_few : vertices_in b < 3 → Unshaped b
  too_few h = unshaped b (λ t. omega (arith, h, least b t))

  too_many : 64 < vertices_in b → Unshaped b
  too_many h = unshaped b (λ t. omega (arith, h, most b t))

  pub other_count : (vertices_in b < 3) ⊎ ((3 ≤ vertices_in b) × (64 < vertices_in b)) → Unshaped b
  other_count (inl h) = too_few h
  other_count (inr q) = too_many q.1

  pub no_move : {k : ℕ} → k ≡ kind_at b 0 → (k ≡ 1 → ⊥) → Unshaped b
  no_move e h = unshaped b (λ t. h (e ∙ move_kind b 0 (omega (arith, long b t, least b t)) (tags b t).0))

  pub no_lines : {t : Bool} → t ≡ linesb (vertices_in b - 1) (drop 9 b) → t ≡ false → Unshaped b
  no_lines e f = unshaped b (λ t. false≢true (sym f ∙ e ∙ (tags b t).1))

  pub shaped : {k : ℕ} {t : Bool} → length b ≡ 9 * vertices_in b + 1 → 3 ≤ vertices_in b → vertices_in b ≤ 64 → k ≡ kind_at b 0 → k ≡ 1 →
      t ≡ linesb (vertices_in b - 1) (drop 9 b) → t ≡ true → Shaped b (vertices_in b)
  shaped l h m e k f t = record { nineteen = nineteen b l h m (kind_says b 0 (omega arith) (sym e ∙ k)) (sym f ∙ t); count = refl }

-- each vertex of a path that passes 19 is a move or a line
line_at : (m : ℕ) (b : List ℕ) (j : ℕ) → linesb m b ≡ true → j < m → get_or b (9 * j) 0 ≡ 2
unfolding linesb
line_at zero b j t h = absurd (omega (arith, h))
line_at (suc m) b zero t h = eqb-true (get_or b 0 0) 2 (and_left _ _ t)
line_at (suc m) b (suc j) t h =
    let e : 9 * suc j ≡ 9 + 9 * j = omega arith in
    ap (λ (k : ℕ). get_or b k 0) e ∙ sym (get_or-drop 9 b (9 * j) 0) ∙ line_at m (drop 9 b) j (and_right (eqb (get_or b 0 0) 2) _ t) (omega (arith, h))

pub drawn : {b : List ℕ} {n : ℕ} (i : ℕ) → Shaped b n → i < n → VertexStep b (9 * i)
drawn {b} {n} zero s h =
    let t = s.nineteen in
    let e = (tags b t).0 in
    record { whole = omega (arith, long b t, least b t); least = omega (arith, e); most = omega (arith, e) }
drawn {b} {n} (suc i) s h =
    let t = s.nineteen in
    let k : 9 * suc i ≡ 9 + 9 * i = omega arith in
    let e : get_or b (9 * suc i) 0 ≡ 2 =
    ap (λ (j : ℕ). get_or b j 0) k ∙ sym (get_or-drop 9 b (9 * i) 0) ∙
    line_at (vertices_in b - 1) (drop 9 b) i (tags b t).1 (omega (arith, h, s.count)) in
    record { whole = omega (arith, long b t, h, s.count); least = omega (arith, e); most = omega (arith, e) }
