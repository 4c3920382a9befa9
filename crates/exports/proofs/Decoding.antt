-- What a decoded strip says of the definitions here.
-- Assumes nothing.
use mathlib.Core.Path.{◌≡◌, refl, sym, ap, ◌∙◌}
use mathlib.Core.Bool.{false}
use mathlib.Core.List.{List}
use Prim.Native.Nat.{ℕ, ◌≤◌}
use native.Mathlib.Omega.{arith}
use lib.ListN.{length}
use Rattle.defs.specs.Meaning.Limits.{leading_words}
use Rattle.defs.specs.Meaning.Strip.{width_of, resolution_of, columns_of, gap_of}
use Rattle.defs.specs.Computing.Cells.{count_runs}
use Rattle.defs.specs.Computing.Words.{well_formedb, records_of, written}
use Rattle.laws.proofs.Questions.{length_decides}
use Rattle.laws.proofs.Formed.{formed}
use Rattle.tables.specs.Flat.{table_of}
use Rattle.tables.proofs.Flats.{count_is}
use Rattle.decode.specs.Decodes.{Holds_runs}
use Rattle.encode.specs.Room.{Room}
use Rattle.exports.specs.Strips.{rewrite_answer, rewritten, decoded_answer}

module _ {s f l h : List ℕ} {t : ℕ} (held : Holds_runs s f l h t) where
  pub leading : leading_words ≤ length s
  leading = omega (arith, (formed s held.well_formed).long.words_are)

  pub few : t ≤ 16000
  few = omega (arith, held.few, (formed s held.well_formed).long.records.at_most)

  pub decoded_is : t ≡ decoded_answer s
  unfolding decoded_answer
  decoded_is = rw held.well_formed (sym (count_is held.flat) ∙ ap count_runs held.table)

  pub room : Room (columns_of s) t (length s)
  room =
      let w = formed s held.well_formed in
      record {
        columns = w.limits.columns.at_most;
        long = (length_decides (columns_of s) (length s)).1 w.long;
        fits = held.few;
      }

  pub rewritten_is : {s' : List ℕ} →
      s' ≡ written (width_of s) (resolution_of s) (columns_of s) (gap_of s) (records_of (columns_of s) (length s)) (table_of f l h (columns_of s)) →
      (0 ≡ rewrite_answer s) × (s' ≡ rewritten s)
  unfolding rewrite_answer rewritten
  rewritten_is e = (
    rw held.well_formed refl,
    rw held.well_formed
        (e ∙
        ap (written (width_of s) (resolution_of s) (columns_of s) (gap_of s) (records_of (columns_of s) (length s))) held.table),
  )

module _ (s : List ℕ) (ill : well_formedb s ≡ false) where
  pub none_decoded : 4294967295 ≡ decoded_answer s
  unfolding decoded_answer
  none_decoded = rw ill refl

  pub not_rewritten : (5 ≡ rewrite_answer s) × (s ≡ rewritten s)
  unfolding rewrite_answer rewritten
  not_rewritten = (rw ill refl, rw ill refl)
