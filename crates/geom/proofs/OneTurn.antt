-- Where one turn is given, its mask is 2 ^ t: that turn is the only one allowed, so questions 10 to 12 ask of it alone.
-- Assumes nothing.
use mathlib.Core.Path.{◌≡◌, ap}
use mathlib.Core.Bool.{and-true}
use mathlib.Core.List.{List}
use Prim.Native.Nat.{ℕ, zero, suc, ◌*◌, ◌^◌, ◌≤◌}
use native.Mathlib.Omega.{arith}
use lib.Dec.{leb, ltb}
use Rattle.defs.specs.Meaning.Turn.{turned, extent_x}
use Rattle.defs.specs.Computing.Test.{all_to}
use Rattle.defs.specs.Computing.Cells.{keeps_orderb, piece_runs, count_runs, allowedb, ordersb, most_runs}
use Rattle.defs.specs.Computing.Calls.{q11b, q12b}

by_turn : (P : ℕ → Type 0) → P 0 → P 1 → P 2 → P 3 → (t : ℕ) → t ≤ 3 → P t
by_turn P a b c d zero h = a
by_turn P a b c d (suc zero) h = b
by_turn P a b c d (suc (suc zero)) h = c
by_turn P a b c d (suc (suc (suc zero))) h = d
by_turn P a b c d (suc (suc (suc (suc t)))) h = absurd (omega arith)

pub orders_one : (o : List ℕ) (t : ℕ) → t ≤ 3 → ordersb o (2 ^ t) ≡ keeps_orderb (turned o t) (extent_x o t)
unfolding ordersb all_to allowedb
orders_one o =
    by_turn (λ t. ordersb o (2 ^ t) ≡ keeps_orderb (turned o t) (extent_x o t)) (and-true _) (and-true _) (and-true _) (and-true _)

pub most_one : (o : List ℕ) (R g t : ℕ) → t ≤ 3 → most_runs o (2 ^ t) R g 4 ≡ count_runs (piece_runs o t R g)
unfolding most_runs allowedb
most_one o R g =
    by_turn (λ t. most_runs o (2 ^ t) R g 4 ≡ count_runs (piece_runs o t R g)) (omega arith) (omega arith) (omega arith) (omega arith)

pub cell_one : (o : List ℕ) (R t : ℕ) → t ≤ 3 → q11b o (2 ^ t) R ≡ ltb 0 (count_runs (piece_runs o t R 0))
unfolding q11b
cell_one o R t h = ap (ltb 0) (most_one o R 0 t h)

pub room_one : (o : List ℕ) (R g words t : ℕ) → t ≤ 3 → q12b o (2 ^ t) R g words ≡ leb (3 * count_runs (piece_runs o t R g)) words
unfolding q12b
room_one o R g words t h = ap (λ (n : ℕ). leb (3 * n) words) (most_one o R g t h)
