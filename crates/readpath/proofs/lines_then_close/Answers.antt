-- The lines still to see decide the whole. Assumes nothing.
use mathlib.Core.Path.{refl, sym, ◌∙◌}
use borrow.Author.Tests.{eqb-true, eqb-false}
use Rattle.readpath.proofs.Lines.{seen_start, seen_next, seen_other, seen_end}
use Rattle.readpath.proofs.lines_then_close.Goals as goal

pub loop-i-init : goal.loop-i-init
loop-i-init c = seen_start _ _ c.requires.least

pub returns-then-not-is_line : goal.returns-then-not-is_line
returns-then-not-is_line c =
    seen_other c.requires c.loop-i.invariant c.loop-i-test.true refl (eqb-false _ 2 (sym c.is_line.ensures ∙ c.if-not-is_line.true))

pub loop-i-preserved : goal.loop-i-preserved
loop-i-preserved c =
    seen_next c.requires c.loop-i.invariant c.loop-i-test.true refl (eqb-true _ 2 (sym c.is_line.ensures ∙ c.if-not-is_line.false))

pub returns : goal.returns
returns c = c.is_close.ensures ∙ seen_end c.requires c.loop-i.invariant c.loop-i-test.false refl
