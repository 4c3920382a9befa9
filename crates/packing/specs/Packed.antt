-- Answers as numbers of 64 bits: the number, the ordinal and the values that document 01 has for each case of an answer (Answer of defs)
-- in one number, and how they are got back from it. Assumes nothing.
use Rattle.std.specs.Prelude.{◌≡◌, ◌≢◌, [], ◌∷◌, ℕ, ◌+◌, ◌*◌, ◌/◌, ◌%◌, length, get_or, take}
use Rattle.defs.specs.Answer.{Outcome}

-- four numbers of 16 bits, the first in the low bits
abbrev pub packed : ℕ → ℕ → ℕ → ℕ → ℕ
packed a b c d = a + 65536 * b + 4294967296 * c + 281474976710656 * d

-- What include/vikelodu.h reads from an answer: (uint16_t)answer, (uint16_t)(answer >> 16), (uint16_t)(answer >> 32),
-- (uint16_t)(answer >> 48), (uint32_t)(answer >> 32).
abbrev pub first16 : ℕ → ℕ
first16 n = n % 65536

abbrev pub second16 : ℕ → ℕ
second16 n = n / 65536 % 65536

abbrev pub third16 : ℕ → ℕ
third16 n = n / 4294967296 % 65536

abbrev pub fourth16 : ℕ → ℕ
fourth16 n = n / 281474976710656 % 65536

abbrev pub high32 : ℕ → ℕ
high32 n = n / 4294967296 % 4294967296

-- four numbers of 16 bits in n
pub record Four (n a b c d : ℕ) : Type 0 where
  pub is : n ≡ packed a b c d
  pub first : first16 n ≡ a
  pub second : second16 n ≡ b
  pub third : third16 n ≡ c
  pub fourth : fourth16 n ≡ d

-- two numbers of 16 bits in n and one of 32 bits, in the high ones
pub record Wide (n a b c : ℕ) : Type 0 where
  pub is : n ≡ packed a b c 0
  pub first : first16 n ≡ a
  pub second : second16 n ≡ b
  pub high : high32 n ≡ c

-- An answer in n: its number in the low 16 bits, then the ordinal of a refusal, or the values, each in 16 bits.
pub record Packs (n : ℕ) (a : Outcome) : Type 0 where
  pub is : n ≡ packed a.number (a.ordinal + get_or a.values 0 0) (get_or a.values 1 0) (get_or a.values 2 0)
  pub number : first16 n ≡ a.number
  pub ordinal : a.number ≢ 0 → second16 n ≡ a.ordinal
  pub values : take (length a.values) (second16 n ∷ third16 n ∷ fourth16 n ∷ []) ≡ a.values

-- The same with one value, in the high 32 bits.
pub record PacksWide (n : ℕ) (a : Outcome) : Type 0 where
  pub is : n ≡ packed a.number a.ordinal (get_or a.values 0 0) 0
  pub number : first16 n ≡ a.number
  pub ordinal : a.number ≢ 0 → second16 n ≡ a.ordinal
  pub values : take (length a.values) (high32 n ∷ []) ≡ a.values

-- The same with two values: one in 16 bits, where the ordinal of a refusal is, and one in the high 32 bits.
pub record PacksLong (n : ℕ) (a : Outcome) : Type 0 where
  pub is : n ≡ packed a.number (a.ordinal + get_or a.values 0 0) (get_or a.values 1 0) 0
  pub number : first16 n ≡ a.number
  pub ordinal : a.number ≢ 0 → second16 n ≡ a.ordinal
  pub values : take (length a.values) (second16 n ∷ high32 n ∷ []) ≡ a.values
