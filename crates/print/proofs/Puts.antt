-- Bytes put one after another, and the digits of a number from the last to the first: what is left gives the whole.
-- Assumes nothing.
use mathlib.Core.Path.{◌≡◌, refl, sym, ap, ◌∙◌}
use mathlib.Core.Bool.{Bool, true, false, cond}
use mathlib.Core.List.{List, [], ◌∷◌, ◌++◌, append_assoc}
use Prim.Native.Nat.{ℕ, zero, suc, ◌+◌, ◌-◌, ◌*◌, ◌/◌, ◌%◌, ◌≤◌, ◌<◌}
use native.Mathlib.Omega.{arith}
use native.Mathlib.Numerals.{add-one}
use lib.ListN.{length, get_or, set, take, drop, length-set, length-append, drop_of_length-le}
use lib.Seq.{sets, sets-eq, length-sets, drop-cons, drop-drop, drop-set-lt, get_or-set_same}
use borrow.Rule.Slice.PartMut.{put_mid}
use lib.Dec.{ltb}
use borrow.Author.Tests.{lt-ltb, le-ltb}
use Rattle.defs.specs.Computing.Text.{digits, decimal, long_decimal, spaced}
use Rattle.laws.proofs.Stores.{sets_append}
use Rattle.words.specs.Put.{Put}
use Rattle.print.specs.Spelled.{Spelled}

-- digits

-- the digits from place i on are set; what is left to spell is `rest`, before place i
pub record Spelling (k n : ℕ) (text : List ℕ) (rest i : ℕ) : Type 0 where
  pub long : length text ≡ k
  pub left : digits i rest (drop i text) ≡ digits k n []

-- the digit at place i - 1
module _ {k n : ℕ} {text : List ℕ} {rest i d : ℕ} (s : Spelling k n text rest i) (some : 0 < i) (few : i ≤ k) (f : d ≡ 48 + rest % 10) where
  suc_is : i ≡ suc (i - 1)
  suc_is = omega arith

  here_on : drop (i - 1) (set text (i - 1) d) ≡ (48 + rest % 10) ∷ drop i text
  here_on =
      let long : length (set text (i - 1) d) ≡ length text = length-set text (i - 1) d in
      let at : get_or (set text (i - 1) d) (i - 1) 0 ≡ d = get_or-set_same text (i - 1) d 0 (omega (arith, s.long)) in
      let past : drop (suc (i - 1)) (set text (i - 1) d) ≡ drop i text =
      drop-set-lt (suc (i - 1)) text (i - 1) d (omega arith) ∙ ap (λ (j : ℕ). drop j text) (sym suc_is) in
      drop-cons (set text (i - 1) d) (i - 1) 0 (omega (arith, s.long)) ∙ rw (at, past, f)

  left_from : digits (suc (i - 1)) rest (drop i text) ≡ digits k n []
  left_from = ap (λ (j : ℕ). digits j rest (drop i text)) (sym suc_is) ∙ s.left

  pub spell_next : 10 ≤ rest → Spelling k n (set text (i - 1) d) (rest / 10) (i - 1)
  unfolding digits
  spell_next m =
      record {
        long = length-set text (i - 1) d ∙ s.long;
        left = ap (digits (i - 1) (rest / 10)) here_on ∙ rw (le-ltb rest 10 m) at left_from;
      }

  pub spell_end : rest < 10 → Spelled k n (set text (i - 1) d) (i - 1)
  unfolding digits
  spell_end m =
      record {
        within = omega arith;
        long = length-set text (i - 1) d ∙ s.long;
        is = here_on ∙ rw (lt-ltb rest 10 m) at left_from;
      }

-- all bytes are set
pub spell_all : {k n : ℕ} {text : List ℕ} {rest i : ℕ} → Spelling k n text rest i → i ≤ 0 → Spelled k n text 0
unfolding digits
spell_all {text = text} {rest} {i} s none =
    let e : i ≡ 0 = omega arith in
    record { within = omega arith; long = s.long; is = ap (λ (j : ℕ). digits j rest (drop j text)) (sym e) ∙ s.left }

pub either_few : (t : Bool) (xs ys : List ℕ) (k : ℕ) → length xs ≤ k → length ys ≤ k → length (cond t xs ys) ≤ k
either_few true xs ys k h l = h
either_few false xs ys k h l = l

digits_few : (k n : ℕ) (ds : List ℕ) → length (digits k n ds) ≤ k + length ds
unfolding digits
digits_few zero n ds = omega arith
digits_few (suc k) n ds =
    let here : List ℕ = (48 + n % 10) ∷ ds in
    either_few (ltb n 10) here (digits k (n / 10) here) (suc k + length ds) (omega arith) (omega (arith, digits_few k (n / 10) here))

pub decimal_few : (n : ℕ) → length (decimal n) ≤ 5
unfolding decimal
decimal_few n = digits_few 5 n []

pub long_few : (n : ℕ) → length (long_decimal n) ≤ 10
unfolding long_decimal
long_few n = digits_few 10 n []

-- a copy of the bytes from place at
pub put_copied : {o xs ys : List ℕ} {at : ℕ} → ys ≡ xs → at + length xs ≤ length o →
    Put o (put_mid at (at + length xs - at) o ys) at xs (at + length xs)
put_copied {o} {xs} {ys} {at} e l =
    let one : at + length xs - at ≡ length xs = omega arith in
    let past : drop (length xs) (drop at o) ≡ drop (at + length xs) o = drop-drop (length xs) at o in
    record { words = rw (e, one, past) (sym (append_assoc (take at o) xs (drop (at + length xs) o)) ∙ sym (sets-eq xs o at l)); after = refl }

-- one after another

pub put_long : {o o' : List ℕ} {at r : ℕ} {xs : List ℕ} → Put o o' at xs r → length o' ≡ length o
put_long {o} {at = at} {xs = xs} p = ap length p.words ∙ length-sets o at xs

pub then : {o o₁ o₂ : List ℕ} {at a b : ℕ} {xs ys : List ℕ} → Put o o₁ at xs a → Put o₁ o₂ a ys b → Put o o₂ at (xs ++ ys) b
then {o} {at = at} {xs = xs} {ys = ys} p q =
    record {
      words = q.words ∙ rw (p.after, p.words) (sym (sets_append o xs ys at));
      after = omega (arith, q.after, p.after, length-append xs ys);
    }

-- bytes of another name
pub same_put : {o o' : List ℕ} {at r : ℕ} {xs ys : List ℕ} → xs ≡ ys → Put o o' at xs r → Put o o' at ys r
same_put e p = rw e at p

pub one_then : {o o' : List ℕ} {at r : ℕ} {xs : List ℕ} (x : ℕ) → Put (set o at x) o' (at + 1) xs r → Put o o' at (x ∷ xs) r
one_then {at = at} x p = record { words = p.words ∙ rw (add-one at); after = omega (arith, p.after) }

-- `left` is still to put, from place `to`, of all that goes from place `at`
pub record Putting (out₀ out : List ℕ) (at : ℕ) (all : List ℕ) (to : ℕ) (left : List ℕ) : Type 0 where
  pub long : length out ≡ length out₀
  pub words : sets out to left ≡ sets out₀ at all
  pub after : to + length left ≡ at + length all

pub put_start : (out : List ℕ) (at : ℕ) (all : List ℕ) → Putting out out at all at all
put_start out at all = record { long = refl; words = refl; after = refl }

pub put_next : {out₀ out out' : List ℕ} {at : ℕ} {all : List ℕ} {to to' : ℕ} {left xs ys : List ℕ} → Putting out₀ out at all to left →
    left ≡ xs ++ ys → Put out out' to xs to' → Putting out₀ out' at all to' ys
put_next {out = out} {to = to} {xs = xs} {ys = ys} s e p =
    record {
      long = put_long p ∙ s.long;
      words = rw (p.after, p.words) (sym (sets_append out xs ys to) ∙ ap (sets out to) (sym e) ∙ s.words);
      after = omega (arith, s.after, p.after, ap length e, length-append xs ys);
    }

pub put_end : {out₀ out : List ℕ} {at : ℕ} {all : List ℕ} {to : ℕ} {left : List ℕ} → Putting out₀ out at all to left → left ≡ [] →
    Put out₀ out at all to
put_end s e = record { words = rw e at s.words; after = omega (arith, s.after, ap length e) }

-- numbers, each after a space

pub record Spacing (ns out₀ out : List ℕ) (at i to : ℕ) : Type 0 where
  pub within : i ≤ length ns
  pub room : to + 6 * (length ns - i) ≤ length out₀
  pub putting : Putting out₀ out at (spaced ns) to (spaced (drop i ns))

module _ {ns out₀ out : List ℕ} {at i to : ℕ} (s : Spacing ns out₀ out at i to) where
  pub space_next : {out' : List ℕ} {to' : ℕ} → i < length ns → Put (set out to 32) out' (to + 1) (decimal (get_or ns i 0)) to' →
      Spacing ns out₀ out' at (i + 1) to'
  unfolding spaced
  space_next {out'} {to'} l p =
      record {
        within = omega arith;
        room = omega (arith, s.room, p.after, decimal_few (get_or ns i 0));
        putting =
            rw (add-one i) (put_next {xs = 32 ∷ decimal (get_or ns i 0)} s.putting (ap spaced (drop-cons ns i 0 l)) (one_then 32 p));
      }

  pub space_end : length ns ≤ i → Put out₀ out at (spaced ns) to
  unfolding spaced
  space_end l = put_end s.putting (ap spaced (drop_of_length-le ns l))

pub spaced_few : (ns : List ℕ) → length (spaced ns) ≤ 6 * length ns
unfolding spaced
spaced_few [] = omega arith
spaced_few (n ∷ ns) = omega (arith, length-append (decimal n) (spaced ns), decimal_few n, spaced_few ns)
