-- What the answer for a piece says of its copies, and where a copy's search begins. Assumes nothing.
use mathlib.Core.Path.{◌≡◌, refl}
use mathlib.Core.Bool.{Bool, true, false, cond}
use mathlib.Core.List.{List}
use Prim.Native.Nat.{ℕ, ◌≤◌, ◌<◌}
use native.Mathlib.Omega.{arith}
use native.Mathlib.Decide.{dec_lt}
use lib.Dec.{eqb}
use borrow.Author.Tests.{eqb-true}
use Rattle.std.specs.Prelude.{Result, Ok, Err}
use Rattle.defs.specs.declared.Position.{Position}
use Rattle.defs.specs.declared.Refusal.{Refusal}
use Rattle.defs.specs.Meaning.Outline.{sides}
use Rattle.defs.specs.Meaning.Question.{Question10}
use Rattle.defs.specs.Computing.Cells.{Rows}
use Rattle.defs.specs.Computing.Calls.{q9b, place_on}
use Rattle.defs.specs.Computing.Sheets.{piece_of}
use Rattle.defs.specs.Computing.Lay.{held_after}
use Rattle.laws.proofs.Questions.{question_7}
use Rattle.geom.proofs.Checks.{question_10, has_side}
use Rattle.tables.proofs.Tables.{Table}
use Rattle.tables.proofs.Flats.{table_flat}
use Rattle.tables.proofs.Copies.{NoneBefore, none_before_0, placed_before, refused_before}
use Rattle.asked.proofs.InOrder.{Ordered}
use Rattle.copies.specs.Copy.{StartsAt}
use Rattle.fates.specs.Fates.{edge_of, lower_by}
use Rattle.piece.specs.Boards.{held_by, Boards}

pub held_table : {f l h f₂ l₂ h₂ : List ℕ} {W R N g Q : ℕ} (second : Bool) → Boards second f l h f₂ l₂ h₂ W R N g Q →
    Table W N (held_by second f l h f₂ l₂ h₂ N)
held_table false x = table_flat x.current.laid
held_table true x = table_flat x.current.laid

module _ (W R N g Q words : ℕ) (held : List (List Rows)) (o : List ℕ) (mask : ℕ)
    (y : Ordered o (q9b mask) mask) (Rpos : 1 ≤ R) (table : Table W N held) where
  ten : Question10 o mask
  ten = (question_10 o mask).0 y.ten

  side : 0 < sides o
  side = has_side o ((question_7 o).0 y.seven)

  pub answer_tells : (a : Result Position Refusal) → place_on W R N g Q held o mask words ≡ a →
      NoneBefore W R N g (held_after W R g held o a) o mask (lower_by a (edge_of R o a))
  unfolding held_after
  answer_tells (Ok p) e = placed_before W R N g Q held o mask words ten side Rpos table p e
  answer_tells (Err r) e = go (eqb r.number 13) refl
    where
      go : (b : Bool) → eqb r.number 13 ≡ b → NoneBefore W R N g held o mask (cond b 4294967295 0)
      go true f = refused_before W R N g Q held o mask words ten side Rpos table r e (eqb-true r.number 13 f) 4294967295
      go false f = none_before_0 W R N g held o mask

-- a copy has the places of the piece before it
pub copy_starts : {b : List ℕ} {W R N g last at lower start : ℕ} {held : List (List Rows)} →
    NoneBefore W R N g held (piece_of b last).outline (piece_of b last).mask lower → StartsAt b last at lower start →
    NoneBefore W R N g held (piece_of b at).outline (piece_of b at).mask start
copy_starts {b} {W} {R} {N} {g} {last} {at} {lower} {start} {held} h s = go (dec_lt 0 start)
  where
    go : Dec (0 < start) → NoneBefore W R N g held (piece_of b at).outline (piece_of b at).mask start
    go (yes p) =
        let same : NoneBefore W R N g held (piece_of b at).outline (piece_of b at).mask lower = rw ((s.copy p).outline, (s.copy p).mask) at h in
        record { none = λ q f. omega (arith, s.most, same.none q f) }
    go (no p) = record { none = λ q f. omega arith }
