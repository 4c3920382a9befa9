-- A number that is cut down to one more than a bound: it is the same number, or both are over the bound, and a question that is content
-- with so much does not tell them apart. The same of a list and its length. Assumes nothing.
use mathlib.Core.Path.{◌≡◌, sym, ap, subst, ◌∙◌}
use mathlib.Core.Logic.{◌⊎◌, inl, inr, ⊎_elim}
use mathlib.Core.List.{List}
use Prim.Native.Nat.{ℕ, ◌+◌, ◌/◌, ◌≤◌, ◌<◌, min}
use native.Mathlib.Omega.{arith}
use native.Mathlib.Decide.{dec_lt}
use lib.Dec.{leb}
use lib.ListN.{length, take, length-take}
use lib.Seq.{take_all, length-take-le}
use borrow.Author.Tests.{le-leb}
use Rattle.defs.specs.Computing.Bytes.{words_in, most_work, work_in}
use Rattle.bytewords.proofs.Laws.{words_length}

abbrev pub Capped : ℕ → ℕ → ℕ → Type 0
Capped most a b = (b ≡ a) ⊎ ((most < a) × (most < b))

pub capped : {most a b : ℕ} → b ≡ min a (most + 1) → Capped most a b
capped {most} {a} {b} e = go (dec_lt most a)
  where
    go : Dec (most < a) → Capped most a b
    go (yes l) = inr (l, omega arith)
    go (no l) = inl (omega arith)

pub uncapped : {most a b : ℕ} → Capped most a b → b ≤ most → b ≡ a
uncapped c l = ⊎_elim (λ e. e) (λ h. absurd (omega (arith, h.1))) c

-- what is needed is there in both or in neither
pub room_same : {most a b : ℕ} (need : ℕ) → need ≤ most + 1 → Capped most a b → leb need b ≡ leb need a
room_same {most} {a} {b} need l c =
    ⊎_elim (λ e. ap (leb need) e)
    (λ h. le-leb need b (omega (arith, h.1)) ∙ sym (le-leb need a (omega (arith, h.0)))) c

-- a list that is cut down
abbrev pub Cut : ℕ → List ℕ → List ℕ → Type 0
Cut most l k = (k ≡ l) ⊎ ((most < length l) × (most < length k))

pub uncut : {most : ℕ} {l k : List ℕ} → Cut most l k → length k ≤ most → k ≡ l
uncut c l = ⊎_elim (λ e. e) (λ h. absurd (omega (arith, h.1))) c

-- the words of a buffer that is passed as bytes, of which so many are counted, or read
pub words_capped : {most : ℕ} (bs : List ℕ) {n : ℕ} → n ≡ min (length bs / 2) (most + 1) → Capped most (length (words_in bs)) n
words_capped bs e = capped (rw (words_length bs) e)

-- as many of a work buffer's words as are used
pub work_long : (bs : List ℕ) → length (work_in bs) ≡ min (length bs / 2) most_work
unfolding work_in
work_long bs = length-take most_work (words_in bs) ∙ ap (min most_work) (words_length bs) ∙ omega arith

pub words_cut : {most : ℕ} (bs : List ℕ) {k : List ℕ} {n : ℕ} → n ≡ min (length bs / 2) (most + 1) → k ≡ take n (words_in bs) →
    Cut most (words_in bs) k
words_cut {most} bs {n = n} e f =
    let l = words_in bs in
    rw f
    (⊎_elim (λ g. inl (take_all n l (omega arith)))
    (λ h. inr (h.0, subst (λ (m : ℕ). most < m) (sym (length-take-le n l (omega (arith, words_length bs)))) h.1))
    (words_capped bs e))
