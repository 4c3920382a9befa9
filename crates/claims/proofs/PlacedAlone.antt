-- What one place call alone, or one commit, does to any strip that it is granted on.
-- Assumes nothing.
use mathlib.Core.Path.{◌≡◌, refl, sym, ◌∙◌}
use mathlib.Core.Logic.{◌⊎◌, ◌↔◌, inl, inr, ⊎_elim}
use mathlib.Core.Bool.{Bool, true, false}
use mathlib.Core.List.{List}
use Prim.Native.Nat.{ℕ}
use lib.ListN.{length}
use Rattle.std.specs.Prelude.{Ok}
use Rattle.defs.specs.declared.Position.{Position}
use Rattle.defs.specs.Meaning.Strip.{Holds, width_of, resolution_of, columns_of, gap_of}
use Rattle.defs.specs.Meaning.Placing.{cells_at}
use Rattle.defs.specs.Computing.Words.{well_formedb, columns_runs}
use Rattle.defs.specs.Computing.Calls.{refusal, PlaceStep, CommitStep, place_answer, commit_answer, PlaceLeaves, CommitLeaves}
use Rattle.laws.proofs.Complete.{question_5}
use Rattle.laws.proofs.Granted.{no_grant}
use Rattle.tables.proofs.Tables.{In}
use Rattle.tables.proofs.Sets.{Same}
use Rattle.tables.proofs.Held.{holds_table}
use Rattle.claims.proofs.Invariant.{Kept}
use Rattle.claims.proofs.KeptStrip.{holds_held}
use Rattle.claims.proofs.PlaceAnswers.{place_best}
use Rattle.claims.proofs.CommitAnswers.{commit_fits}
use Rattle.claims.proofs.Effects.{Entry, entry_cells, place_entry, commit_entry}
use Rattle.claims.specs.Numbers.{PlacedAlone, CommittedAlone}

-- one strip, which passes 5
module _ (s : List ℕ) (w : well_formedb s ≡ true) where
  alone : Kept (width_of s) (resolution_of s) (columns_of s) (gap_of s) (length s) s
  alone = record { well_formed = w; long = refl; width = refl; resolution = refl; columns = refl; gap = refl }

  held_alone : Same (In (columns_runs s)) (Holds s)
  held_alone i j = let t = holds_held alone i j in (t.1, t.0)

  -- an entry adds the piece's cells
  after : (o : List ℕ) (p : Position) (s' : List ℕ) → well_formedb s' ≡ true →
      Entry (width_of s) (resolution_of s) (columns_of s) s s' o p →
      (i j : ℕ) → Holds s' i j ↔ (Holds s i j ⊎ cells_at (width_of s) (resolution_of s) (columns_of s) (gap_of s) o p i j)
  after o p s' w' e i j =
      let t = holds_table s' w' i j in
      let c = entry_cells alone s' o p e i j in (
        λ h. ⊎_elim (λ a. inl ((held_alone i j).0 a)) inr (c.0 (t.0 h)),
        λ h. t.1 (c.1 (⊎_elim (λ a. inl ((held_alone i j).1 a)) inr h)),
      )

-- 5 has passed
place_passed_5 : (s o : List ℕ) (mask words : ℕ) (p : Position) (b : Bool) → well_formedb s ≡ b →
    Ok p ≡ place_answer s o mask words → well_formedb s ≡ true
unfolding place_answer
place_passed_5 s o mask words p true e q = e
place_passed_5 s o mask words p false e q = absurd (no_grant {r = refusal 5 0} (sym (q ∙ rw e refl)))

commit_passed_5 : (s o : List ℕ) (p : Position) (words : ℕ) (b : Bool) → well_formedb s ≡ b →
    (Ok tt) ≡ commit_answer s o p words → well_formedb s ≡ true
unfolding commit_answer
commit_passed_5 s o p words true e q = e
commit_passed_5 s o p words false e q = absurd (no_grant {r = refusal 5 0} (sym (q ∙ rw e refl)))

pub placed_alone : {s o : List ℕ} {mask : ℕ} {work : List ℕ} {p : Position} {n : ℕ} {s' work' : List ℕ} →
    PlaceStep s o mask work (Ok p) n s' work' → PlacedAlone s o mask p s'
unfolding PlaceLeaves
placed_alone {s} {o} {mask} {work} {p} {n} {s'} x =
    let w = place_passed_5 s o mask (length work) p (well_formedb s) refl x.answer in
    record {
      best = place_best (alone s w) o mask (length work) (Holds s) (held_alone s w) p (sym x.answer);
      well_formed = (question_5 s').0 x.strip.well_formed;
      long = x.strip.long;
      width = x.strip.width;
      resolution = x.strip.resolution;
      columns = x.strip.columns;
      gap = x.strip.gap;
      holds =
          after s w o p s' x.strip.well_formed
          (place_entry (alone s w) s' o mask (length work) p (sym x.answer) x.strip);
    }

pub committed_alone : {s o : List ℕ} {p : Position} {work s' work' : List ℕ} →
    CommitStep s o p work (Ok tt) s' work' → CommittedAlone s o p s'
unfolding CommitLeaves
committed_alone {s} {o} {p} {work} {s'} x =
    let w = commit_passed_5 s o p (length work) (well_formedb s) refl x.answer in
    record {
      fits = commit_fits (alone s w) o p (length work) (Holds s) (held_alone s w) (sym x.answer);
      well_formed = (question_5 s').0 x.strip.well_formed;
      long = x.strip.long;
      width = x.strip.width;
      resolution = x.strip.resolution;
      columns = x.strip.columns;
      gap = x.strip.gap;
      holds =
          after s w o p s' x.strip.well_formed (commit_entry (alone s w) s' o p (length work) (sym x.answer) x.strip);
    }
