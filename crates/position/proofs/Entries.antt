-- A piece entered at a position on the strip: what entry asks, and what its answer says of question 14 and of the next table.
-- Assumes nothing.
use mathlib.Core.Path.{◌≡◌, refl, sym, ap, subst, ◌∙◌}
use mathlib.Core.Bool.{Bool, true, false}
use mathlib.Core.List.{List}
use Prim.Native.Nat.{ℕ, ◌*◌, ◌≤◌}
use native.Mathlib.Omega.{arith}
use lib.ListN.{length}
use borrow.Author.Tests.{le-leb, lt-leb}
use Rattle.std.specs.Prelude.{Result, Ok, Err}
use Rattle.defs.specs.declared.Refusal.{Refusal}
use Rattle.defs.specs.declared.Position.{Position}
use Rattle.defs.specs.Computing.Test.{ask}
use Rattle.defs.specs.Computing.Cells.{piece_runs, count_runs}
use Rattle.defs.specs.Computing.Search.{entered}
use Rattle.defs.specs.Computing.Calls.{refusal, q14b}
use Rattle.geom.proofs.PieceCells.{runs_apart}
use Rattle.cells.specs.Put.{PutRuns}
use Rattle.tables.specs.Flat.{Laid, table_of}
use Rattle.tables.specs.Piece.{Stands}
use Rattle.tables.proofs.Flats.{count_is}
use Rattle.tables.proofs.PieceWords.{piece_runs_lem, piece_feet}
use Rattle.best.specs.Choice.{Kept}
use Rattle.best.proofs.Turns.{stands}
use Rattle.columnentry.specs.declared.Entry.{Entry}
use Rattle.columnentry.specs.Columns.{Old, Fits}
use Rattle.enter.specs.Enters.{Entered, TooMany}
use Rattle.outline.specs.declared.Bounds.{Bounds}
use Rattle.best.specs.declared.laid.Board.{Board}
use Rattle.position.specs.On.{NextRoom}
use Rattle.position.specs.Table.{Enterable, EntersAt}

-- what entering asks of a table of a strip with Q records, and of the room for the next one
pub record Enters (f l h f' l' h' : List ℕ) (W R N g Q : ℕ) : Type 0 where
  pub least : 1 ≤ R
  pub gap : g ≤ 400
  pub width : W ≤ 16000
  pub columns : N ≤ 4096
  pub count : ℕ
  pub table : Laid f l h W N count
  pub room : NextRoom Q f' l' h'

pub on_board : (k : Board) {f' l' h' : List ℕ} → NextRoom k.records f' l' h' →
    Enters k.first.now k.lows.now k.highs.now f' l' h' k.figures.width k.figures.resolution k.figures.columns k.gap k.records
on_board k room =
    record {
      least = k.resolution.0;
      gap = k.limits.0;
      width = k.limits.1;
      columns = k.limits.2;
      count = _;
      table = k.table;
      room = room;
    }

-- runs that are put into the work buffer, and runs that stand there
pub put_stand : {o : List ℕ} {t R g k : ℕ} {work work' : List ℕ} → PutRuns o t R g work work' k →
    3 * count_runs (piece_runs o t R g) ≤ length work → Stands (piece_runs o t R g) work' k
put_stand put room = stands put (omega (arith, put.count, put.long))

pub kept_stand : {o : List ℕ} {t u R g k : ℕ} {work : List ℕ} → Kept o R g work u k → u ≡ t → t ≤ 3 →
    3 * count_runs (piece_runs o t R g) ≤ length work → Stands (piece_runs o t R g) work k
kept_stand {o} {R = R} {g = g} {k = k} {work = work} kept e few room =
    subst (λ (t : ℕ). Stands (piece_runs o t R g) work k) e
    (kept.stand (omega arith) (subst (λ (t : ℕ). 3 * count_runs (piece_runs o t R g) ≤ length work) (sym e) room))

module _
    {f l h f' l' h' o : List ℕ}
    {W R N g Q words : ℕ}
    {b : Bounds}
    {work : List ℕ}
    {k : ℕ}
    (p : Position)
    (board : Enters f l h f' l' h' W R N g Q)
    (at : Enterable f l h o W R N g b words p)
    (stand : Stands (piece_runs o p.turn R g) work k) where
  abbrev target : Entry
  target = record { columns = N; width = W; most = Q; runs = k; column = p.column; height = p.height }

  pub old : Old f l h target
  old = record { count = board.count; laid = board.table }

  pub fits : Fits work target
  fits =
      record {
        width = board.width;
        columns = board.columns;
        most = board.room.records;
        wide = _;
        tall = _;
        piece = piece_runs_lem o p.turn R g work k stand;
        right = omega (arith, at.on_strip.columns);
        height = omega (arith, at.on_strip.rows);
        rows = omega (arith, at.on_strip.rows, board.width, board.gap);
        feet =
            λ m l.
            omega (
              arith,
              at.on_strip.rows,
              piece_feet o p.turn R g at.keeps (omega (arith, at.lent.some)) board.least stand m l,
            );
      }

  answered : (a : Bool) → q14b W R g Q (table_of f l h N) o p ≡ a → (b : Result Position Refusal) →
      b ≡ (ask a (Err (refusal 14 1)) λ _. Ok p) →
      b ≡ (ask (q14b W R g Q (table_of f l h N) o p) (Err (refusal 14 1)) λ _. Ok p)
  answered a e b q = rw e q

  pub placed : {f₂ l₂ h₂ : List ℕ} {t : ℕ} → Entered f l h work f₂ l₂ h₂ target t →
      EntersAt f l h f₂ l₂ h₂ o W R N g Q p (Ok p)
  unfolding entered q14b
  placed {f₂} {l₂} {h₂} {t} e =
      let is = e.table (piece_runs o p.turn R g) stand (runs_apart o p.turn R g) p.turn in
      let count = sym (ap count_runs is) ∙ count_is e.laid.flat in
      record {
        answer = answered true (le-leb _ Q (omega (arith, count, e.few))) (Ok p) refl;
        next = record { count = t; laid = e.laid; few = e.few; is = is; turn = at.turn; on_strip = at.on_strip };
      }

  pub full : {f₂ l₂ h₂ : List ℕ} {a : Result Position Refusal} → TooMany f l h work target → a ≡ Err (refusal 14 1) →
      EntersAt f l h f₂ l₂ h₂ o W R N g Q p a
  unfolding entered q14b
  full m e =
      rw e
      (record {
        answer =
            answered false (lt-leb _ Q (m.more (piece_runs o p.turn R g) stand (runs_apart o p.turn R g) p.turn))
            (Err (refusal 14 1)) refl;
        next = tt;
      })
