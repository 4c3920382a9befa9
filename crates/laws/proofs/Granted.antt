-- A refusal grants nothing, and two answers that grant and are the same grant the same. Assumes nothing.
use mathlib.Core.Path.{◌≡◌}
use Prim.Native.Nat.{ℕ}
use native.Mathlib.Omega.{arith}
use Rattle.std.specs.Prelude.{Result, Ok, Err}

pub no_grant : {A E : Type 0} {a : A} {r : E} → ¬ (◌≡◌ {A = Result A E} (Err r) (Ok a))
no_grant e = let z : ◌≡◌ {A = ℕ} 0 1 = cc in omega arith

pub same_grant : {A E : Type 0} {a b : A} → ◌≡◌ {A = Result A E} (Ok a) (Ok b) → a ≡ b
same_grant e = cc
