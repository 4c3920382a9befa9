-- A strip that open or a call of a list has left: its table of runs, and the fates of the calls on it.
-- Assumes nothing.
use mathlib.Core.Path.{◌≡◌, refl, sym, ap, subst, subst₂, ◌∙◌}
use mathlib.Core.Logic.{◌↔◌}
use mathlib.Core.Bool.{true}
use mathlib.Core.List.{List}
use Prim.Native.Nat.{ℕ, ◌≤◌}
use lib.ListN.{length}
use Rattle.defs.specs.declared.Position.{Position}
use Rattle.defs.specs.Meaning.Strip.{WellFormed, Holds, width_of, resolution_of, columns_of, gap_of}
use Rattle.defs.specs.Computing.Cells.{Rows}
use Rattle.defs.specs.Computing.Words.{well_formedb, records_of, columns_runs}
use Rattle.defs.specs.Computing.Calls.{place_on, place_answer, commit_on, commit_answer}
use Rattle.laws.proofs.Formed.{formed}
use Rattle.tables.proofs.Tables.{Table, In}
use Rattle.tables.proofs.Held.{table_of_lem, holds_table}
use Rattle.claims.proofs.Invariant.{Kept}
use Rattle.claims.proofs.Fates.{Fate, fate_of_lem}
use Rattle.claims.proofs.CommitFates.{CommitFate, commit_fate}

-- figures with other names
same_figures : {A : Type 0} (f : ℕ → ℕ → ℕ → ℕ → ℕ → A) {W W' R R' N N' g g' Q Q' : ℕ} → W ≡ W' → R ≡ R' → N ≡ N' → g ≡ g' →
    Q ≡ Q' → f W R N g Q ≡ f W' R' N' g' Q'
same_figures f {W} {W'} {R} {R'} {N} {N'} {g} {g'} {Q} {Q'} ew er en eg eq =
    ap (λ (a : ℕ). f a R N g Q) ew ∙ ap (λ (a : ℕ). f W' a N g Q) er ∙ ap (λ (a : ℕ). f W' R' a g Q) en ∙
    ap (λ (a : ℕ). f W' R' N' a Q) eg ∙ ap (λ (a : ℕ). f W' R' N' g' a) eq

place_asked : (s o : List ℕ) (mask n : ℕ) → well_formedb s ≡ true →
    place_answer s o mask n ≡
    place_on (width_of s) (resolution_of s) (columns_of s) (gap_of s) (records_of (columns_of s) (length s)) (columns_runs s) o mask n
unfolding place_answer
place_asked s o mask n w = rw w refl

commit_asked : (s o : List ℕ) (p : Position) (n : ℕ) → well_formedb s ≡ true →
    commit_answer s o p n ≡
    commit_on (width_of s) (resolution_of s) (columns_of s) (gap_of s) (records_of (columns_of s) (length s)) (columns_runs s) o p n
unfolding commit_answer
commit_asked s o p n w = rw w refl

module _ {W R N g words : ℕ} {s : List ℕ} (k : Kept W R N g words s) where
  abbrev Q : ℕ
  Q = records_of N words

  abbrev held : List (List Rows)
  held = columns_runs s

  records_same : records_of (columns_of s) (length s) ≡ Q
  records_same = ap (λ (a : ℕ). records_of a (length s)) k.columns ∙ ap (λ (a : ℕ). records_of N a) k.long

  pub table : Table W N held
  table = subst₂ (λ (a b : ℕ). Table a b held) k.width k.columns (table_of_lem s k.well_formed)

  pub resolution_least : 1 ≤ R
  resolution_least = subst (λ (r : ℕ). 1 ≤ r) k.resolution (formed s k.well_formed).limits.resolution.at_least

  pub strip_formed : WellFormed s Q
  strip_formed = subst (WellFormed s) records_same (formed s k.well_formed)

  pub holds_held : (i j : ℕ) → Holds s i j ↔ In held i j
  holds_held = holds_table s k.well_formed

  pub place_fate : (o : List ℕ) (mask n : ℕ) → Fate W R N g Q held o mask n (place_answer s o mask n)
  place_fate o mask n =
      subst (Fate W R N g Q held o mask n)
      (sym
      (place_asked s o mask n k.well_formed ∙
      same_figures (λ W R N g Q. place_on W R N g Q held o mask n) k.width k.resolution k.columns k.gap records_same))
      (fate_of_lem W R N g Q held o mask n)

  pub commit_fate_on : (o : List ℕ) (p : Position) (n : ℕ) → CommitFate W R N g Q held o p n (commit_answer s o p n)
  commit_fate_on o p n =
      subst (CommitFate W R N g Q held o p n)
      (sym
      (commit_asked s o p n k.well_formed ∙
      same_figures (λ W R N g Q. commit_on W R N g Q held o p n) k.width k.resolution k.columns k.gap records_same))
      (commit_fate W R N g Q held o p n)
