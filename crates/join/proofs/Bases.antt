-- Runs from base 0 on are runs without a base.
-- Assumes nothing.
use mathlib.Core.List.{List}
use mathlib.Core.Logic.{⊎_elim, inl, inr}
use Prim.Native.Nat.{ℕ, ◌+◌, ◌*◌, ◌≤◌, ◌<◌}
use native.Mathlib.Omega.{arith}
use Rattle.runs.specs.Runs as based
use Rattle.runs.proofs.Few as based-few
use Rattle.join.specs.Runs.{Apart, Holds, Joined}

pub based_apart : {l h : List ℕ} {n : ℕ} → Apart l h n → based.Apart l h 0 n
based_apart a = record { full = λ i b p. a.full i p; apart = λ i j b p q. a.apart i j p q }

based_holds : {l h : List ℕ} {n y : ℕ} → Holds l h n y → based.Holds l h 0 n y
based_holds p = record { which = p.which; from = omega arith; among = p.among; low = p.low; high = p.high }

holds : {l h : List ℕ} {n y : ℕ} → based.Holds l h 0 n y → Holds l h n y
holds p = record { which = p.which; among = p.among; low = p.low; high = p.high }

pub joined : {l h l' h' : List ℕ} {n m lo hi : ℕ} → based.Joined l h l' h' 0 n m lo hi → Joined l h l' h' n m lo hi
joined j =
    record {
      runs = record { full = λ i p. j.runs.full i (omega arith) p; apart = λ i k p q. j.runs.apart i k (omega arith) p q };
      most = j.most;
      some = j.some;
      kept = λ y p. holds (j.kept y (based_holds p));
      added = λ y p q. holds (j.added y p q);
      only = λ y p. ⊎_elim (λ q. inl (holds q)) inr (j.only y (based_holds p));
    }

pub few_runs : {l h : List ℕ} {n W : ℕ} → Apart l h n → ((y : ℕ) → Holds l h n y → y < W) → 2 * n ≤ W + 1
few_runs a rows = omega (arith, based-few.few_runs (based_apart a) (λ y p. rows y (holds p)))
