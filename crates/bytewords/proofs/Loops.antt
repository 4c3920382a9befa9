-- Words read from a buffer, put into it and cleared, one after another: what is done and what is left give the whole.
-- Assumes nothing.
use mathlib.Core.Path.{◌≡◌, refl, sym, ap, ap₂, ◌∙◌}
use mathlib.Core.List.{List, [], ◌∷◌, ◌++◌}
use Prim.Native.Nat.{ℕ, ◌+◌, ◌*◌, ◌/◌, ◌≤◌, ◌<◌}
use native.Mathlib.Omega.{arith}
use native.Mathlib.Numerals.{add-one}
use lib.ListN.{length, get_or, take, drop, set, replicate, length-set, length-replicate, drop_of_length-le}
use lib.Seq.{sets, sets-eq, drop-cons, take_all, take-suc, take-suc-set}
use Rattle.defs.specs.Meaning.Sheet.{number_at}
use Rattle.defs.specs.Computing.Calls.{cleared}
use Rattle.defs.specs.Computing.Sheets.{bytes_of}
use Rattle.defs.specs.Computing.Bytes.{words_in, word_bytes, bytes_left}
use Rattle.words.proofs.Storing.{Storing, storing_start, storing_as, storing_many, storing_end}
use Rattle.bytewords.proofs.Laws.{words_length, bytes_length, word_at, put_all, zero_bytes}

-- i words are read
pub record Taking (bs ws₀ ws : List ℕ) (i : ℕ) : Type 0 where
  pub long : length ws ≡ length ws₀
  pub within : i ≤ length ws₀
  pub read : take i ws ≡ take i (words_in bs)

pub taking_start : (bs ws : List ℕ) → Taking bs ws ws 0
taking_start bs ws = record { long = refl; within = omega arith; read = refl }

module _ {bs ws₀ ws : List ℕ} {i : ℕ} (t : Taking bs ws₀ ws i) where
  pub taking_next : {v : ℕ} → 2 * length ws₀ ≤ length bs → i < length ws₀ → v ≡ number_at bs (2 * i) →
      Taking bs ws₀ (set ws i v) (i + 1)
  taking_next {v} room l e =
      let here : i < length ws = omega (arith, t.long) in
      let there : i < length (words_in bs) = omega (arith, words_length bs) in
      record {
        long = simp length-set t.long;
        within = omega arith;
        read =
            rw (add-one i, take-suc-set ws i v here, take-suc (words_in bs) i 0 there)
            (ap₂ (λ (l : List ℕ) (x : ℕ). l ++ x ∷ []) t.read (e ∙ sym (word_at bs i (omega arith))));
      }

  pub taking_end : length ws₀ ≤ i → ws ≡ take (length ws₀) (words_in bs)
  taking_end l =
      let all : i ≡ length ws₀ = omega (arith, t.within) in
      sym (take_all i ws (omega (arith, t.long))) ∙ t.read ∙ ap (λ (n : ℕ). take n (words_in bs)) all

-- what was stored from the start on stands before what was there
stored_first : (bs ws : List ℕ) → 2 * length ws ≤ length bs →
    sets bs 0 (word_bytes ws) ≡ word_bytes ws ++ drop (2 * length ws) bs
stored_first bs ws l =
    let e : 0 + length (word_bytes ws) ≡ 2 * length ws = omega (arith, bytes_length ws) in
    sets-eq (word_bytes ws) bs 0 (omega arith) ∙ ap (λ (n : ℕ). word_bytes ws ++ drop n bs) e

-- i words are put
pub record Putting (ws bs₀ bs : List ℕ) (i : ℕ) : Type 0 where
  pub within : i ≤ length ws
  pub stored : Storing bs₀ 0 (word_bytes ws) bs (2 * i) (word_bytes (drop i ws))

pub putting_start : (ws bs : List ℕ) → Putting ws bs bs 0
putting_start ws bs = record { within = omega arith; stored = storing_start bs 0 (word_bytes ws) }

module _ {ws bs₀ bs : List ℕ} {i : ℕ} (p : Putting ws bs₀ bs i) where
  pub putting_next : {bs' : List ℕ} → i < length ws → bs' ≡ sets bs (2 * i) (bytes_of (get_or ws i 0)) → Putting ws bs₀ bs' (i + 1)
  unfolding word_bytes
  putting_next l e =
      let two : 2 * (i + 1) ≡ 2 * i + 2 = omega arith in
      let more : word_bytes (drop i ws) ≡ bytes_of (get_or ws i 0) ++ word_bytes (drop (i + 1) ws) = rw (add-one i, drop-cons ws i 0 l) in
      record { within = omega arith; stored = storing_many (bytes_of (get_or ws i 0)) e two (storing_as more p.stored) }

  pub putting_end : 2 * length ws ≤ length bs₀ → length ws ≤ i → bs ≡ word_bytes ws ++ drop (2 * length ws) bs₀
  unfolding word_bytes
  putting_end room l = storing_end (ap word_bytes (drop_of_length-le ws l)) p.stored ∙ stored_first bs₀ ws room

zeros : {m n : ℕ} → m ≡ n → ◌≡◌ {A = List ℕ} (replicate m 0) (replicate n 0)
zeros e = ap (λ (k : ℕ). replicate k 0) e

-- all words are cleared
pub cleared_is : (bs new : List ℕ) (n : ℕ) → n ≡ length bs / 2 * 2 → new ≡ replicate n 0 →
    new ++ drop n bs ≡ bytes_left bs (cleared (words_in bs))
cleared_is bs new n e f =
    let ws = cleared (words_in bs) in
    let twice : n ≡ 2 * length (words_in bs) = omega (arith, words_length bs) in
    let long : length ws ≡ length bs / 2 = length-replicate (length (words_in bs)) 0 ∙ words_length bs in
    let same : n ≡ 2 * length ws = omega (arith, long) in
    let zero_words : new ≡ word_bytes ws = f ∙ zeros twice ∙ sym (zero_bytes (length (words_in bs))) in
    rw (zero_words, same) (put_all bs ws long)
