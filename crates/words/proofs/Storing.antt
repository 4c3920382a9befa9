-- Words stored into a strip one after another: what is left to store gives the whole, and at the end nothing is left.
-- Assumes nothing.
use mathlib.Core.Path.{◌≡◌, refl, ap, sym, ◌∙◌}
use mathlib.Core.List.{List, [], ◌∷◌, ◌++◌, append-nil}
use Prim.Native.Nat.{ℕ, suc, ◌+◌, ◌≤◌}
use native.Mathlib.Omega.{arith}
use native.Mathlib.Numerals.{add-one}
use lib.ListN.{length, set, drop, length-set, drop_of_length-le}
use lib.Seq.{sets, length-sets, sets-eq}
use Rattle.laws.proofs.Stores.{sets_append}

-- Of the words ws, which go to s₀ from word `at` on, `rest` are left; s has the others, and the next goes to word p.
pub record Storing (s₀ : List ℕ) (at : ℕ) (ws s : List ℕ) (p : ℕ) (rest : List ℕ) : Type 0 where
  pub long : length s ≡ length s₀
  pub whole : sets s p rest ≡ sets s₀ at ws

pub storing_start : (s : List ℕ) (at : ℕ) (ws : List ℕ) → Storing s at ws s at ws
storing_start s at ws = record { long = refl; whole = refl }

module _ {s₀ : List ℕ} {at : ℕ} {ws s : List ℕ} {p : ℕ} where
  -- what is left, put in another way
  pub storing_as : {rest rest' : List ℕ} → rest ≡ rest' → Storing s₀ at ws s p rest → Storing s₀ at ws s p rest'
  storing_as e w = record { long = w.long; whole = ap (sets s p) (sym e) ∙ w.whole }

  -- one word, known by an equation
  pub storing_one : {v v' q : ℕ} {left rest : List ℕ} → v ≡ v' → q ≡ p + 1 → left ≡ v' ∷ rest →
      Storing s₀ at ws s p left → Storing s₀ at ws (set s p v) q rest
  storing_one e f g w =
      record { long = simp length-set w.long; whole = rw (e, f, add-one p) (ap (sets s p) (sym g) ∙ w.whole) }

  pub storing_many : (vs : List ℕ) {rest s' : List ℕ} {q : ℕ} → s' ≡ sets s p vs → q ≡ p + length vs →
      Storing s₀ at ws s p (vs ++ rest) → Storing s₀ at ws s' q rest
  storing_many vs {rest} e eq w =
      record {
        long = ap length e ∙ length-sets s p vs ∙ w.long;
        whole = rw (e, eq) (sym (sets_append s vs rest p) ∙ w.whole);
      }

  -- four words, the last known by an equation
  pub storing_four : {a b c d d' : ℕ} {left rest s' : List ℕ} → s' ≡ sets s p (a ∷ b ∷ c ∷ d ∷ []) → d ≡ d' →
      left ≡ a ∷ b ∷ c ∷ d' ∷ rest → Storing s₀ at ws s p left → Storing s₀ at ws s' (p + 4) rest
  storing_four {a} {b} {c} {d} {d'} e f g w =
      storing_many (a ∷ b ∷ c ∷ d' ∷ []) (e ∙ ap (λ (x : ℕ). sets s p (a ∷ b ∷ c ∷ x ∷ [])) f) refl (storing_as g w)

  pub storing_end : {rest : List ℕ} → rest ≡ [] → Storing s₀ at ws s p rest → s ≡ sets s₀ at ws
  storing_end e w = ap (sets s p) (sym e) ∙ w.whole

-- four stores, one after another
pub four_stored : (s : List ℕ) (p a b c d : ℕ) →
    set (set (set (set s p a) (p + 1) b) (p + 2) c) (p + 3) d ≡ sets s p (a ∷ b ∷ c ∷ d ∷ [])
four_stored s p a b c d =
    let two : p + 2 ≡ suc (suc p) = omega arith in
    let three : p + 3 ≡ suc (suc (suc p)) = omega arith in
    rw (add-one p, two, three)

-- as many words as the strip has leave nothing of it
pub sets_whole : (s ws : List ℕ) → length ws ≡ length s → sets s 0 ws ≡ ws
sets_whole s ws e =
    let past : length s ≤ 0 + length ws = omega arith in
    let none : drop (0 + length ws) s ≡ [] = drop_of_length-le s past in
    sets-eq ws s 0 (omega arith) ∙ rw none (append-nil ws)
