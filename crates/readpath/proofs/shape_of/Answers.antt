-- Each way out by what its tests say. Assumes nothing.
use mathlib.Core.Path.{refl, sym, ◌∙◌}
use borrow.Author.Tests.{eqb-true, eqb-false}
use Rattle.readpath.proofs.Lines.{other_length, other_count, no_move, no_lines, shaped}
use Rattle.readpath.proofs.shape_of.Goals as goal

pub returns-then-path-n : goal.returns-then-path-n
returns-then-path-n c = other_length _ c.if-path-n.true

pub returns-then-n-lt-LEAST_VERTICES : goal.returns-then-n-lt-LEAST_VERTICES
returns-then-n-lt-LEAST_VERTICES c = other_count _ c.then-n-lt-LEAST_VERTICES.either

pub lines_then_close-requires : goal.lines_then_close-requires
lines_then_close-requires c = record { long = c.if-path-n.false; least = c.if-n-lt-LEAST_VERTICES.false; most = c.if-n-gt-MOST_VERTICES.false }

pub returns-then-not-is_move : goal.returns-then-not-is_move
returns-then-not-is_move c = no_move _ refl (eqb-false _ 1 (sym c.is_move.ensures ∙ c.if-not-is_move.true))

pub returns-then-not-lines_then_close : goal.returns-then-not-lines_then_close
returns-then-not-lines_then_close c = no_lines _ c.lines_then_close.ensures c.if-not-lines_then_close.true

pub returns : goal.returns
returns c =
    shaped _ c.if-path-n.false c.if-n-lt-LEAST_VERTICES.false c.if-n-gt-MOST_VERTICES.false refl
    (eqb-true _ 1 (sym c.is_move.ensures ∙ c.if-not-is_move.false)) c.lines_then_close.ensures c.if-not-lines_then_close.false
