-- The words of a buffer that is passed as bytes: how many there are, which number each is, and that words put into the buffer are the
-- words that are read from it again. Assumes nothing.
use mathlib.Core.Path.{◌≡◌, refl, sym, ap, ap₂, ◌∙◌}
use mathlib.Core.List.{List, [], ◌∷◌, ◌++◌}
use Prim.Native.Nat.{ℕ, zero, suc, ◌+◌, ◌*◌, ◌-◌, ◌/◌, ◌%◌, ◌≤◌, ◌<◌}
use native.Mathlib.Omega.{arith}
use lib.ListN.{length, get_or, drop, replicate, length-append, length-drop}
use lib.Seq.{drop-append-add, drop-drop}
use Rattle.defs.specs.Meaning.Sheet.{number_at}
use Rattle.defs.specs.Computing.Calls.{cleared}
use Rattle.defs.specs.Computing.Bytes.{words_in, word_bytes, odd_byte, bytes_left}

-- how many there are

pub words_length : (bs : List ℕ) → length (words_in bs) ≡ length bs / 2
unfolding words_in
words_length [] = refl
words_length (a ∷ []) = refl
words_length (a ∷ (b ∷ bs)) = omega (arith, words_length bs)

pub bytes_length : (ws : List ℕ) → length (word_bytes ws) ≡ 2 * length ws
unfolding word_bytes
bytes_length [] = refl
bytes_length (w ∷ ws) = omega (arith, bytes_length ws)

pub odd_length : (bs : List ℕ) → length (odd_byte bs) ≡ length bs % 2
unfolding odd_byte
odd_length [] = refl
odd_length (a ∷ []) = refl
odd_length (a ∷ (b ∷ bs)) = omega (arith, odd_length bs)

-- a buffer whose words have changed is as long as before
pub left_length : (bs ws : List ℕ) → length ws ≡ length (words_in bs) → length (bytes_left bs ws) ≡ length bs
unfolding bytes_left
left_length bs ws e =
    omega (arith, length-append (word_bytes ws) (odd_byte bs), bytes_length ws, odd_length bs, words_length bs)

-- which they are

pub word_at : (bs : List ℕ) (i : ℕ) → 2 * i + 1 < length bs → get_or (words_in bs) i 0 ≡ number_at bs (2 * i)
unfolding words_in
word_at [] i h = absurd (omega arith)
word_at (a ∷ []) i h = absurd (omega arith)
word_at (a ∷ (b ∷ bs)) zero h = refl
word_at (a ∷ (b ∷ bs)) (suc i) h =
    let e : 2 * suc i ≡ suc (suc (2 * i)) = omega arith in
    let f : suc (suc (2 * i)) + 1 ≡ suc (suc (2 * i + 1)) = omega arith in
    rw (e, f) (word_at bs i (omega arith))

-- the odd last byte is what stands past the words
pub odd_is : (bs : List ℕ) → odd_byte bs ≡ drop (2 * (length bs / 2)) bs
unfolding odd_byte
odd_is [] = refl
odd_is (a ∷ []) = refl
odd_is (a ∷ (b ∷ bs)) =
    let e : 2 * (suc (suc (length bs)) / 2) ≡ suc (suc (2 * (length bs / 2))) = omega arith in
    rw e (odd_is bs)

-- words put into the buffer are read from it again

odd_words : (bs : List ℕ) → words_in (odd_byte bs) ≡ []
unfolding words_in odd_byte
odd_words [] = refl
odd_words (a ∷ []) = refl
odd_words (a ∷ (b ∷ bs)) = odd_words bs

pub words_left : (bs ws : List ℕ) → words_in (bytes_left bs ws) ≡ ws
unfolding words_in word_bytes bytes_left
words_left bs [] = odd_words bs
words_left bs (w ∷ ws) = ap₂ ◌∷◌ (omega arith) (words_left bs ws)

-- an odd last byte is still there
odd_odd : (bs : List ℕ) → odd_byte (odd_byte bs) ≡ odd_byte bs
unfolding odd_byte
odd_odd [] = refl
odd_odd (a ∷ []) = refl
odd_odd (a ∷ (b ∷ bs)) = odd_odd bs

pub odd_left : (bs ws : List ℕ) → odd_byte (bytes_left bs ws) ≡ odd_byte bs
unfolding word_bytes odd_byte bytes_left
odd_left bs [] = odd_odd bs
odd_left bs (w ∷ ws) = odd_left bs ws

-- and bytes that are read and put back are the same bytes
pub bytes_back : (bs : List ℕ) → ((i : ℕ) → i < length bs → get_or bs i 0 < 256) → bytes_left bs (words_in bs) ≡ bs
unfolding words_in word_bytes odd_byte bytes_left
bytes_back [] h = refl
bytes_back (a ∷ []) h = refl
bytes_back (a ∷ (b ∷ bs)) h =
    let low : a < 256 = h 0 (omega arith) in
    ap₂ ◌∷◌ (omega arith) (ap₂ ◌∷◌ (omega arith) (bytes_back bs (λ i l. h (suc (suc i)) (omega arith))))

-- words in place of the first ones, and in place of all
pub put_first : (bs ws : List ℕ) → ((i : ℕ) → i < length bs → get_or bs i 0 < 256) → 2 * length ws ≤ length bs →
    word_bytes ws ++ drop (2 * length ws) bs ≡ bytes_left bs (ws ++ drop (length ws) (words_in bs))
unfolding words_in word_bytes odd_byte bytes_left
put_first bs [] h l = sym (bytes_back bs h)
put_first [] (w ∷ ws) h l = absurd (omega arith)
put_first (a ∷ []) (w ∷ ws) h l = absurd (omega arith)
put_first (a ∷ (b ∷ bs)) (w ∷ ws) h l =
    let e : 2 * suc (length ws) ≡ suc (suc (2 * length ws)) = omega arith in
    rw (e, put_first bs ws (λ i k. h (suc (suc i)) (omega arith)) (omega arith))

pub put_all : (bs ws : List ℕ) → length ws ≡ length bs / 2 → word_bytes ws ++ drop (2 * length ws) bs ≡ bytes_left bs ws
unfolding bytes_left
put_all bs ws e = rw (odd_is bs, e)

-- zero words are zero bytes
pub zero_bytes : (n : ℕ) → word_bytes (replicate n 0) ≡ replicate (2 * n) 0
unfolding word_bytes
zero_bytes zero = refl
zero_bytes (suc n) =
    let e : 2 * suc n ≡ suc (suc (2 * n)) = omega arith in
    rw (e, zero_bytes n)

-- what clearing a buffer's words leaves does not depend on its words
pub cleared_same : (bs cs : List ℕ) → length cs ≡ length bs → odd_byte cs ≡ odd_byte bs →
    bytes_left cs (cleared (words_in cs)) ≡ bytes_left bs (cleared (words_in bs))
unfolding bytes_left
cleared_same bs cs e f = rw (words_length cs, words_length bs, e, f)

pub odd_kept : (bs front : List ℕ) (n : ℕ) → length front ≡ n → n ≤ 2 * (length bs / 2) → odd_byte (front ++ drop n bs) ≡ odd_byte bs
odd_kept bs front n e l =
    let whole = front ++ drop n bs in
    let past = 2 * (length bs / 2) - n in
    let long : length whole ≡ length bs = omega (arith, length-append front (drop n bs), length-drop n bs) in
    let to : 2 * (length whole / 2) ≡ length front + past = omega arith in
    let on : n + past ≡ 2 * (length bs / 2) = omega arith in
    odd_is whole ∙ ap (λ (k : ℕ). drop k whole) to ∙ drop-append-add front (drop n bs) past ∙ drop-drop past n bs ∙
    ap (λ (k : ℕ). drop k bs) on ∙ sym (odd_is bs)
