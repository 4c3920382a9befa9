-- The lines of entries, one after another: how long they are, and what is left to put.
-- Assumes nothing.
use mathlib.Core.Path.{◌≡◌, ap}
use mathlib.Core.List.{List, [], ◌∷◌}
use Prim.Native.Nat.{ℕ, zero, suc, ◌+◌, ◌-◌, ◌*◌, ◌≤◌, ◌<◌}
use native.Mathlib.Omega.{arith}
use lib.ListN.{length, length-append}
use Rattle.defs.specs.declared.Fate.{Fate}
use Rattle.defs.specs.declared.Fate.TheVariants.{Placed, Refused}
use Rattle.defs.specs.declared.Totals.{Totals}
use Rattle.defs.specs.Computing.Ascii.{ascii}
use Rattle.defs.specs.Computing.Text.{decimal, long_decimal, spaced, line, entry_line, totals_line}
use Rattle.words.specs.Put.{Put}
use Rattle.layout.specs.Lines.{fate_at, entries_lines}
use Rattle.print.proofs.Puts.{decimal_few, long_few, spaced_few, Putting, put_next, put_end}

placed_few : (t c h : ℕ) → length (line " placed" (t ∷ c ∷ h ∷ [])) ≤ 26
unfolding line ascii
placed_few t c h = let ns : List ℕ = t ∷ c ∷ h ∷ [] in omega (arith, length-append (spaced ns) (10 ∷ []), spaced_few ns)

refused_few : (n : ℕ) → length (line " refused" (n ∷ [])) ≤ 26
unfolding line ascii
refused_few n = let ns : List ℕ = n ∷ [] in omega (arith, length-append (spaced ns) (10 ∷ []), spaced_few ns)

entry_few : (k : ℕ) (f : Fate) → length (entry_line (record { ordinal = k; fate = f })) ≤ 31
unfolding entry_line
entry_few k (Placed p) =
    let more : List ℕ = line " placed" (p.turn ∷ p.column ∷ p.height ∷ []) in
    omega (arith, length-append (decimal k) more, decimal_few k, placed_few p.turn p.column p.height)
entry_few k (Refused n) =
    let more : List ℕ = line " refused" (n ∷ []) in omega (arith, length-append (decimal k) more, decimal_few k, refused_few n)

-- the lines of i entries are put
pub record Listing (ws out₀ out : List ℕ) (at count i to : ℕ) : Type 0 where
  pub within : i ≤ count
  pub room : to + 31 * (count - i) ≤ length out₀
  pub putting : Putting out₀ out at (entries_lines ws 0 count) to (entries_lines ws i (count - i))

module _ {ws out₀ out : List ℕ} {at count i to : ℕ} (s : Listing ws out₀ out at count i to) where
  pub list_next : {out' : List ℕ} {to' : ℕ} → i < count →
      Put out out' to (entry_line (record { ordinal = i + 1; fate = fate_at ws (4 * i) })) to' →
      Listing ws out₀ out' at count (i + 1) to'
  unfolding entries_lines
  list_next {out'} {to'} l p =
      let one : count - i ≡ suc (count - (i + 1)) = omega arith in
      let few = entry_few (i + 1) (fate_at ws (4 * i)) in
      record {
        within = omega arith;
        room = omega (arith, s.room, p.after, few);
        putting = put_next s.putting (ap (entries_lines ws i) one) p;
      }

  pub list_end : count ≤ i → Put out₀ out at (entries_lines ws 0 count) to
  unfolding entries_lines
  list_end l = let none : count - i ≡ 0 = omega arith in put_end s.putting (ap (entries_lines ws i) none)

pub lines_few : (ws : List ℕ) (i n : ℕ) → length (entries_lines ws i n) ≤ 31 * n
unfolding entries_lines
lines_few ws i zero = omega arith
lines_few ws i (suc n) =
    let here = entry_line (record { ordinal = i + 1; fate = fate_at ws (4 * i) }) in
    let few = entry_few (i + 1) (fate_at ws (4 * i)) in
    omega (arith, length-append here (entries_lines ws (i + 1) n), few, lines_few ws (i + 1) n)

pub strip_few : (W R N : ℕ) → length (line "strip" (W ∷ R ∷ N ∷ [])) ≤ 24
unfolding line ascii
strip_few W R N = let ns : List ℕ = W ∷ R ∷ N ∷ [] in omega (arith, length-append (spaced ns) (10 ∷ []), spaced_few ns)

pub totals_few : (t : Totals) → length (totals_line t) ≤ 29
unfolding totals_line line ascii
totals_few t =
    let ns : List ℕ = t.placed ∷ [] in
    omega (
      arith,
      length-append (long_decimal t.used) (line " placed" ns),
      long_few t.used,
      length-append (spaced ns) (10 ∷ []),
      spaced_few ns,
    )
