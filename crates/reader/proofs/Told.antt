-- A record's numbers, read one after another and by a reader.
-- Assumes nothing.
use mathlib.Core.Path.{◌≡◌, ap, ◌∙◌}
use mathlib.Core.List.{List}
use Prim.Native.Nat.{ℕ, ◌+◌, ◌*◌, ◌≤◌}
use native.Mathlib.Omega.{arith}
use lib.ListN.{length}
use Rattle.std.specs.Borrow.{Bor}
use Rattle.defs.specs.Meaning.Sheet.{number_at}
use Rattle.reader.specs.declared.Numbers.{Numbers}
use Rattle.reader.specs.declared.Reader.{Reader}
use Rattle.reader.specs.Records.{record_number, numbers_at}

-- three numbers read one after another are a record's
pub told : (b : List ℕ) (r : ℕ) {x y z : ℕ} → x ≡ number_at b (10 + 6 * r) → y ≡ number_at b (10 + 6 * r + 2) →
    z ≡ number_at b (10 + 6 * r + 4) → ◌≡◌ {A = Numbers} (record { first = x; second = y; next = z }) (numbers_at b r)
told b r e f g =
    let z : 10 + 6 * r ≡ 10 + 6 * r + 2 * 0 = omega arith in
    rw (e ∙ ap (number_at b) z, f, g)

-- a reader that starts at a record of the sheet stands at one, and reads that record's numbers
module _ {sheet : Bor (List ℕ)} {at : ℕ} {r : Reader} (e : (r.sheet ≡ sheet) × (r.at ≡ at)) where
  pub reached : 16 + 6 * at ≤ length sheet.now → 16 + 6 * r.at ≤ length r.sheet.now
  reached l = rw (e.0, e.1) l

  module _ {n : Numbers} (f : n ≡ numbers_at r.sheet.now r.at) where
    read : n ≡ numbers_at sheet.now at
    read = f ∙ rw (e.0, e.1)

    pub first_read : n.first ≡ record_number sheet.now at 0
    first_read = ap (λ (n : Numbers). n.first) read

    pub second_read : n.second ≡ record_number sheet.now at 1
    second_read = ap (λ (n : Numbers). n.second) read

    pub next_read : n.next ≡ record_number sheet.now at 2
    next_read = ap (λ (n : Numbers). n.next) read
