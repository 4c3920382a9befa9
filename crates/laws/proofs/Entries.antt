-- How long the entries of a job and their words are.
-- Assumes nothing.
use mathlib.Core.Path.{◌≡◌, refl, ap}
use mathlib.Core.List.{List, [], ◌∷◌}
use Prim.Native.Nat.{ℕ, suc, ◌+◌, ◌*◌}
use native.Mathlib.Omega.{arith}
use lib.ListN.{length, length-append}
use Rattle.defs.specs.declared.Fate.{Fate}
use Rattle.defs.specs.declared.Fate.TheVariants.{Placed, Refused}
use Rattle.defs.specs.declared.Entry.{Entry}
use Rattle.defs.specs.Answer.{fate_words}
use Rattle.defs.specs.Meaning.Sheet.{Piece}
use Rattle.defs.specs.Computing.Cells.{Rows}
use Rattle.defs.specs.Computing.Calls.{place_on}
use Rattle.defs.specs.Computing.Lay.{held_after, entries_from, entries_words}

-- an entry for each piece
pub length-entries_from : (W R N g Q words k : ℕ) (held : List (List Rows)) (ps : List Piece) →
    length (entries_from W R N g Q words k held ps) ≡ length ps
unfolding entries_from
length-entries_from W R N g Q words k held [] = refl
length-entries_from W R N g Q words k held (p ∷ ps) =
    let a = place_on W R N g Q held p.outline p.mask words in
    ap suc (length-entries_from W R N g Q words (k + 1) (held_after W R g held p.outline a) ps)

-- four words for each entry
length-fate_words : (f : Fate) → length (fate_words f) ≡ 4
length-fate_words (Placed p) = refl
length-fate_words (Refused n) = refl

pub length-entries_words : (es : List Entry) → length (entries_words es) ≡ 4 * length es
unfolding entries_words
length-entries_words [] = refl
length-entries_words (e ∷ es) =
    omega (arith, length-append (fate_words e.fate) (entries_words es), length-fate_words e.fate, length-entries_words es)
