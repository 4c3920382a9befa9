-- Each answer by the numbers that it was packed from: they are its number, its ordinal and its values.
-- Assumes nothing.
use mathlib.Core.Path.{◌≡◌, refl}
use mathlib.Core.List.{[], ◌∷◌}
use Prim.Native.Nat.{ℕ, ◌<◌}
use native.Mathlib.Omega.{arith}
use Rattle.std.specs.Prelude.{Result, Ok, Err}
use Rattle.defs.specs.declared.Position.{Position}
use Rattle.defs.specs.declared.Refusal.{Refusal}
use Rattle.defs.specs.Answer.{opening, covering, placing, asking, committing, writing}
use Rattle.pathdefs.specs.Answer.{path_reading}
use Rattle.packing.specs.Packed.{packed, Four, Wide, Packs, PacksWide, PacksLong}

-- numbers of 16 and of 32 bits are got back from the number that they were packed in
pub wide : (n a b c : ℕ) → n ≡ packed a b c 0 → a < 65536 → b < 65536 → c < 4294967296 → Wide n a b c
wide n a b c e la lb lc = record { is = e; first = omega arith; second = omega arith; high = omega arith }

-- answers with three values and with two
pub three_values : {n a b c : ℕ} → Four n 0 a b c → Packs n (record { number = 0; ordinal = 0; values = a ∷ b ∷ c ∷ [] })
three_values f =
    record {
      is = omega (arith, f.is);
      number = f.first;
      ordinal = λ not-0. absurd (not-0 refl);
      values = rw (f.second, f.third, f.fourth);
    }

pub two_values : {n a b : ℕ} → Four n 0 a b 0 → Packs n (record { number = 0; ordinal = 0; values = a ∷ b ∷ [] })
two_values f =
    record {
      is = omega (arith, f.is);
      number = f.first;
      ordinal = λ not-0. absurd (not-0 refl);
      values = rw (f.second, f.third);
    }

-- two values 0
pub no_values : Packs 0 (record { number = 0; ordinal = 0; values = 0 ∷ 0 ∷ [] })
no_values = record { is = refl; number = refl; ordinal = λ _. refl; values = refl }

pub no_value : Packs 0 (record { number = 0; ordinal = 0; values = [] })
no_value = record { is = refl; number = refl; ordinal = λ _. refl; values = refl }

-- one value in the high 32 bits, and one of 16 bits before it
pub one_wide : {n v : ℕ} → Wide n 0 0 v → PacksWide n (record { number = 0; ordinal = 0; values = v ∷ [] })
one_wide w =
    record { is = w.is; number = w.first; ordinal = λ not-0. absurd (not-0 refl); values = rw w.high }

pub one_and_wide : {n v u : ℕ} → Wide n 0 v u → PacksLong n (record { number = 0; ordinal = 0; values = v ∷ u ∷ [] })
one_and_wide w =
    record {
      is = omega (arith, w.is);
      number = w.first;
      ordinal = λ not-0. absurd (not-0 refl);
      values = rw (w.second, w.high);
    }

-- calls that grant the same have the same bits
pub as_asking : {n : ℕ} (a : Result Position Refusal) → Packs n (placing a) → Packs n (asking a)
as_asking (Ok p) x = x
as_asking (Err r) x = x

pub as_committing : {n : ℕ} (a : Result Unit Refusal) → Packs n (opening a) → Packs n (committing a)
as_committing (Ok u) x = x
as_committing (Err r) x = x

pub as_writing : {n : ℕ} (a : Result ℕ Refusal) → PacksWide n (covering a) → PacksWide n (writing a)
as_writing (Ok k) x = x
as_writing (Err r) x = x

pub as_path_reading : {n : ℕ} (a : Result ℕ Refusal) → PacksWide n (covering a) → PacksWide n (path_reading a)
as_path_reading (Ok k) x = x
as_path_reading (Err r) x = x
