-- A refusal in 64 bits: its number and its ordinal, for each form of an answer. Assumes nothing.
use Rattle.std.specs.Prelude.{ℕ, [], refl}
use native.Mathlib.Omega.{arith}
use Rattle.packing.specs.Packed.{Four, Packs, PacksWide, PacksLong}

pub refused : {n number ordinal : ℕ} → Four n number ordinal 0 0 → Packs n (record { number = number; ordinal = ordinal; values = [] })
refused f = record { is = omega (arith, f.is); number = f.first; ordinal = λ _. f.second; values = refl }

pub refused_wide : {n number ordinal : ℕ} → Four n number ordinal 0 0 →
    PacksWide n (record { number = number; ordinal = ordinal; values = [] })
refused_wide f = record { is = f.is; number = f.first; ordinal = λ _. f.second; values = refl }

pub refused_long : {n number ordinal : ℕ} → Four n number ordinal 0 0 →
    PacksLong n (record { number = number; ordinal = ordinal; values = [] })
refused_long f = record { is = omega (arith, f.is); number = f.first; ordinal = λ _. f.second; values = refl }
