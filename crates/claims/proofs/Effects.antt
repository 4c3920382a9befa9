-- What a call does to a strip: it leaves the strip as it was and has put no piece, or it has put one piece, whose cells the strip holds
-- then beside those that it held.
-- Assumes nothing.
use mathlib.Core.Path.{◌≡◌, refl, sym, ap, subst, ◌∙◌}
use mathlib.Core.Logic.{◌⊎◌}
use mathlib.Core.Bool.{true}
use mathlib.Core.List.{List, []}
use Prim.Native.Nat.{ℕ, ◌<◌}
use native.Mathlib.Omega.{arith}
use native.Mathlib.Decide.{dec_lt}
use lib.ListN.{length, get_or}
use Rattle.std.specs.Prelude.{Result, Ok, Err}
use Rattle.defs.specs.declared.Refusal.{Refusal}
use Rattle.defs.specs.declared.Position.{Position}
use Rattle.defs.specs.Meaning.Outline.{sides, KeepsOrder}
use Rattle.defs.specs.Meaning.Turn.{turned}
use Rattle.defs.specs.Meaning.Strip.{resolution_of, columns_of, gap_of}
use Rattle.defs.specs.Meaning.Placing.{cells_at, OnStrip}
use Rattle.defs.specs.Meaning.Question.{Question10}
use Rattle.defs.specs.Computing.Cells.{Rows, in_rows}
use Rattle.defs.specs.Computing.Words.{columns_runs}
use Rattle.defs.specs.Computing.Search.{entered}
use Rattle.defs.specs.Computing.Calls.{place_answer, commit_answer, EnteredLeaves, PlaceLeaves, CommitLeaves}
use Rattle.laws.proofs.Granted.{no_grant, same_grant}
use Rattle.tables.proofs.Tables.{In}
use Rattle.tables.proofs.Sets.{Same}
use Rattle.tables.proofs.Entered.{entered_cells}
use Rattle.tables.proofs.Columns.{column_at, column_past, entered_past}
use Rattle.claims.specs.Trace.{Call, PlaceCall, CommitCall, place_call, ask_call, commit_call, Step, Puts, Changes}
use Rattle.claims.proofs.Invariant.{Kept}
use Rattle.claims.proofs.Passing.{asked, some_side}
use Rattle.claims.proofs.KeptStrip.{table, resolution_least}
use Rattle.claims.proofs.PlaceAnswers.{found_there, best_there}
use Rattle.claims.proofs.CommitAnswers.{turn_keeps, free_there, enters_there}

-- an outline in order is entered at a position on the strip
pub record Entry (W R N : ℕ) (s s' o : List ℕ) (p : Position) : Type 0 where
  pub keeps : KeepsOrder (turned o p.turn)
  pub side : 0 < sides o
  pub on_strip : OnStrip W R N o p
  pub leaves : EnteredLeaves s o p s'

pub data Effect (W R N : ℕ) (s s' : List ℕ) (c : Call) : Type 0 where
  stays : ((o : List ℕ) (p : Position) → ¬ Puts c o p) → s' ≡ s → Effect W R N s s' c
  enters :
      (o : List ℕ) (p : Position) → Puts c o p → ((v : List ℕ) (q : Position) → Puts c v q → (o ≡ v) × (p ≡ q)) →
      Changes c → Entry W R N s s' o p → Effect W R N s s' c

module _ {W R N g words : ℕ} {s : List ℕ} (k : Kept W R N g words s) (s' : List ℕ) where
  module _ (o : List ℕ) (p : Position) (e : Entry W R N s s' o p) where
    rows : (i : ℕ) → get_or (columns_runs s') i [] ≡ get_or (entered W R g (columns_runs s) o p) i []
    rows i = go (dec_lt i (columns_of s'))
      where
        go : Dec (i < columns_of s') → get_or (columns_runs s') i [] ≡ get_or (entered W R g (columns_runs s) o p) i []
        go (yes q) =
            column_at s' i q ∙ e.leaves.holds i (subst (λ (n : ℕ). i < n) e.leaves.columns q) ∙
            ap (λ (a : ℕ). get_or (entered a (resolution_of s) (gap_of s) (columns_runs s) o p) i []) k.width ∙
            ap (λ (a : ℕ). get_or (entered W a (gap_of s) (columns_runs s) o p) i []) k.resolution ∙
            ap (λ (a : ℕ). get_or (entered W R a (columns_runs s) o p) i []) k.gap
        go (no q) =
            column_past s' i (omega arith) ∙
            sym (entered_past W R g (columns_runs s) o p i (omega (arith, (table k).long, e.leaves.columns, k.columns)))

    pub entry_cells : Same (In (columns_runs s')) (λ i j. In (columns_runs s) i j ⊎ cells_at W R N g o p i j)
    entry_cells i j =
        let cells = entered_cells W R N g (columns_runs s) o p e.keeps e.side (resolution_least k) (table k) i j in (
          λ a. cells.0 (subst (λ (rs : List Rows). in_rows rs j ≡ true) (rows i) a),
          λ c. subst (λ (rs : List Rows). in_rows rs j ≡ true) (sym (rows i)) (cells.1 c),
        )

  pub place_entry : (o : List ℕ) (mask n : ℕ) (p : Position) → place_answer s o mask n ≡ Ok p → EnteredLeaves s o p s' →
      Entry W R N s s' o p
  unfolding Question10
  place_entry o mask n p there l =
      let f = found_there k o mask n p there in
      let b = best_there k o mask n p there in
      record {
        keeps = (asked o mask R g _ f.passes).q10 p.turn b.fits.allowed;
        side = some_side o mask R g _ f.passes;
        on_strip = b.fits.on_strip;
        leaves = l;
      }

  pub commit_entry : (o : List ℕ) (p : Position) (n : ℕ) → commit_answer s o p n ≡ Ok tt → EnteredLeaves s o p s' →
      Entry W R N s s' o p
  commit_entry o p n there l =
      let f = enters_there k o p n there in
      record {
        keeps = turn_keeps o p.turn R g _ f.passes;
        side = some_side o _ R g _ f.passes;
        on_strip = ((free_there k o p n f.passes).0 f.free).on_strip;
        leaves = l;
      }

  place_effect : (c : PlaceCall) (a : Result Position Refusal) → c.answer ≡ a → Step (place_call c) s s' → PlaceLeaves s c.outline a s' →
      Effect W R N s s' (place_call c)
  unfolding Step Puts Changes PlaceLeaves
  place_effect c (Ok p) e t l =
      enters c.outline p (refl, e) (λ v q h. (h.0, same_grant (sym e ∙ h.1))) (p, e)
      (place_entry c.outline c.mask (length c.work) p (sym t.answer ∙ e) l)
  place_effect c (Err r) e t l = stays (λ o p h. no_grant (sym e ∙ h.1)) l

  commit_effect : (c : CommitCall) (a : Result Unit Refusal) → c.answer ≡ a → Step (commit_call c) s s' →
      CommitLeaves s c.outline c.at a s' → Effect W R N s s' (commit_call c)
  unfolding Step Puts Changes CommitLeaves
  commit_effect c (Ok tt) e t l =
      enters c.outline c.at (refl, refl, e) (λ v q h. (h.0, h.1)) e
      (commit_entry c.outline c.at (length c.work) (sym t.answer ∙ e) l)
  commit_effect c (Err r) e t l = stays (λ o p h. no_grant (sym e ∙ h.2)) l

  pub effect : (c : Call) → Step c s s' → Effect W R N s s' c
  unfolding Step Puts
  effect (place_call c) t = place_effect c c.answer refl t t.strip
  effect (ask_call c) t = stays (λ o p h. h) t.strip
  effect (commit_call c) t = commit_effect c c.answer refl t t.strip
