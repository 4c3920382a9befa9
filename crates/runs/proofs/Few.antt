-- Runs that do not touch are few: each but the last takes a row and leaves one.
-- Assumes nothing.
use mathlib.Core.Path.{◌≡◌}
use mathlib.Core.List.{List}
use Prim.Native.Nat.{ℕ, zero, suc, ◌+◌, ◌-◌, ◌*◌, ◌≤◌, ◌<◌}
use native.Mathlib.Omega.{arith}
use native.Mathlib.Decide.{dec_lt}
use lib.ListN.{get_or}
use Rattle.runs.specs.Runs.{Apart, Holds}

low_least : {l h : List ℕ} {b n : ℕ} → Apart l h b n → (i : ℕ) → b + i < n → 2 * i ≤ get_or l (b + i) 0
low_least a zero s = omega arith
low_least {b = b} a (suc i) s =
    omega (
      arith,
      low_least a i (omega arith),
      a.full (b + i) (omega arith) (omega arith),
      a.apart (b + i) (b + suc i) (omega arith) (omega arith) s,
    )

pub few_runs : {l h : List ℕ} {b n W : ℕ} → Apart l h b n → ((y : ℕ) → Holds l h b n y → y < W) → 2 * n ≤ 2 * b + W + 1
few_runs {l} {h} {b} {n} {W} a rows = go (dec_lt b n)
  where
    -- the last run
    last : (k : ℕ) → b + k + 1 ≡ n → 2 * n ≤ 2 * b + W + 1
    last k e =
        omega (
          arith,
          low_least a k (omega arith),
          rows (get_or l (b + k) 0)
              (record {
                which = b + k;
                from = omega arith;
                among = omega arith;
                low = omega arith;
                high = a.full (b + k) (omega arith) (omega arith);
              }),
        )

    go : Dec (b < n) → 2 * n ≤ 2 * b + W + 1
    go (yes s) = last (n - b - 1) (omega arith)
    go (no s) = omega arith
