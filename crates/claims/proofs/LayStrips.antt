-- The pieces of a job as place calls: for the strip that lay leaves there are strips before it, one for each call, between which the
-- calls go. Where a piece is refused the strip before is the strip after; where one is placed it is the table so far, written.
-- Assumes nothing.
use mathlib.Core.Path.{◌≡◌, refl, sym, ◌∙◌}
use mathlib.Core.List.{List, [], ◌∷◌}
use Prim.Native.Nat.{ℕ, zero, suc, ◌+◌, ◌<◌, ◌≤◌}
use native.Mathlib.Omega.{arith}
use lib.ListN.{length, get_or}
use Rattle.std.specs.Prelude.{Result, Ok, Err}
use Rattle.defs.specs.declared.Position.{Position}
use Rattle.defs.specs.declared.Refusal.{Refusal}
use Rattle.defs.specs.Meaning.Limits.{most_gap}
use Rattle.defs.specs.Meaning.Strip.{Limits, Length}
use Rattle.defs.specs.Meaning.Sheet.{Piece}
use Rattle.defs.specs.Computing.Cells.{Rows}
use Rattle.defs.specs.Computing.Words.{written}
use Rattle.defs.specs.Computing.Calls.{refusal, place_on, cleared, Left, PlaceLeaves, place_tries, PlaceStep}
use Rattle.defs.specs.Computing.Lay.{fate_of, held_after, entries_from, held_from}
use Rattle.tables.proofs.Written.{Writable, written_left}
use Rattle.claims.proofs.Fates.{fate_of_lem}
use Rattle.claims.specs.Laying.{piece_at}
use Rattle.claims.proofs.LayTotals.{fate_at}
use Rattle.claims.proofs.LayTables.{after_writable, answer_is, leaves_is}

-- the answers of a job's calls, with n words in the work buffer
module _ (W R N g Q n : ℕ) where
  abbrev answer_to : List (List Rows) → Piece → Result Position Refusal
  answer_to held p = place_on W R N g Q held p.outline p.mask n

  abbrev after : List (List Rows) → Piece → List (List Rows)
  after held p = held_after W R g held p.outline (answer_to held p)

  answers : List (List Rows) → List Piece → List (Result Position Refusal)
  answers held [] = []
  answers held (p ∷ ps) = answer_to held p ∷ answers (after held p) ps

  pub answer_at : List (List Rows) → List Piece → ℕ → Result Position Refusal
  answer_at held ps m = get_or (answers held ps) m (Err (refusal 0 0))

  -- lay's entries are of these answers
  pub fates_are : (k : ℕ) (held : List (List Rows)) (ps : List Piece) (m : ℕ) →
      fate_at (entries_from W R N g Q n k held ps) m ≡ fate_of (answer_at held ps m)
  unfolding entries_from answers answer_at
  fates_are k held [] m = refl
  fates_are k held (p ∷ ps) zero = refl
  fates_are k held (p ∷ ps) (suc m) = fates_are (k + 1) (after held p) ps m

-- strips between which the calls go, the last of them s'. Lay reports no tries; a call's are those that the definition counts.
pub record Strips (W R N g Q words : ℕ) (work : List ℕ) (held : List (List Rows)) (ps : List Piece) (s' : List ℕ) : Type 0 where
  pub strip : ℕ → List ℕ
  pub first : Left W R N g words (λ k. get_or held k []) (strip 0)
  pub last : strip (length ps) ≡ s'
  pub step :
      (m : ℕ) → m < length ps →
      PlaceStep (strip m) (piece_at ps m).outline (piece_at ps m).mask work (answer_at W R N g Q (length work) held ps m)
      (place_tries (strip m) (piece_at ps m).outline (piece_at ps m).mask (length work)) (strip (suc m)) (cleared work)

-- a strip before the one that a call leaves
record Before (W R N g words : ℕ) (held : List (List Rows)) (p : Piece) (work : List ℕ) (a : Result Position Refusal) (s' : List ℕ) : Type 0 where
  strip : List ℕ
  left : Left W R N g words (λ k. get_or held k []) strip
  step : PlaceStep strip p.outline p.mask work a (place_tries strip p.outline p.mask (length work)) s' (cleared work)

abbrev strips_from : List ℕ → (ℕ → List ℕ) → ℕ → List ℕ
strips_from s f zero = s
strips_from s f (suc m) = f m

module _ {W R N g Q words : ℕ} (limits : Limits W R N) (small : g ≤ most_gap) (long : Length N Q words) (work : List ℕ) where
  before : (held : List (List Rows)) (p : Piece) → Writable W N Q held → (a : Result Position Refusal) → a ≡ answer_to W R N g Q (length work) held p →
      (s' : List ℕ) → Left W R N g words (λ k. get_or (held_after W R g held p.outline a) k []) s' → Before W R N g words held p work a s'
  unfolding held_after PlaceLeaves
  before held p w (Ok q) e s' l =
      let left : Left W R N g words (λ k. get_or held k []) (written W R N g Q held) =
      rw long.words_are (written_left W R N g Q held limits small long.records w) in
      record {
        strip = written W R N g Q held;
        left = left;
        step =
            record {
              answer = e ∙ sym (answer_is held long w.long left p.outline p.mask (length work));
              counted = refl;
              strip = leaves_is held long w.long left p.outline q s' l;
              zeros = refl;
            };
      }
  before held p w (Err r) e s' l =
      record {
        strip = s';
        left = l;
        step =
            record {
              answer = e ∙ sym (answer_is held long w.long l p.outline p.mask (length work));
              counted = refl;
              strip = refl;
              zeros = refl;
            };
      }

  pub strips : (held : List (List Rows)) (ps : List Piece) (s' : List ℕ) → Writable W N Q held →
      Left W R N g words (λ k. get_or (held_from W R N g Q (length work) held ps) k []) s' → Strips W R N g Q words work held ps s'
  unfolding held_from answers answer_at
  strips held [] s' w l = record { strip = λ m. s'; first = l; last = refl; step = λ m h. absurd (omega arith) }
  strips held (p ∷ ps) s' w l =
      go
      (strips (after W R N g Q (length work) held p) ps s'
      (after_writable W R N g Q (length work) p.mask held p.outline (answer_to W R N g Q (length work) held p)
      (fate_of_lem W R N g Q held p.outline p.mask (length work)) w)
      l)
    where
      go : Strips W R N g Q words work (after W R N g Q (length work) held p) ps s' → Strips W R N g Q words work held (p ∷ ps) s'
      go i = record { strip = strips_from b.strip i.strip; first = b.left; last = i.last; step = step }
        where
          b : Before W R N g words held p work (answer_to W R N g Q (length work) held p) (i.strip 0)
          b = before held p w (answer_to W R N g Q (length work) held p) refl (i.strip 0) i.first

          step : (m : ℕ) → m < suc (length ps) →
              PlaceStep (strips_from b.strip i.strip m) (piece_at (p ∷ ps) m).outline (piece_at (p ∷ ps) m).mask work
              (answer_at W R N g Q (length work) held (p ∷ ps) m)
              (place_tries (strips_from b.strip i.strip m) (piece_at (p ∷ ps) m).outline (piece_at (p ∷ ps) m).mask (length work))
              (i.strip m) (cleared work)
          step zero h = b.step
          step (suc m) h = i.step m (omega arith)
