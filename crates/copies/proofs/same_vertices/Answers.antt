-- Both chains are followed while their vertices are the same. Assumes nothing.
use mathlib.Core.Path.{sym, ◌∙◌}
use native.Mathlib.Omega.{arith}
use borrow.Author.Rules.{rules}
use borrow.Author.Tests.{ltb-true}
use Rattle.reader.proofs.Told.{first_read, second_read, next_read}
use Rattle.copies.proofs.Alike.{alike_start, alike_next, alike_end, differ}
use Rattle.copies.proofs.same_vertices.Goals as goal

pub loop-i-init : goal.loop-i-init
loop-i-init c = (alike_start _ _ _, search rules, search rules)

pub returns-then-left-eq0 : goal.returns-then-left-eq0
returns-then-left-eq0 c = differ _ _ _

pub returns-then-not-same_vertex : goal.returns-then-not-same_vertex
returns-then-not-same_vertex c = differ _ _ _

pub loop-i-preserved : goal.loop-i-preserved
loop-i-preserved c =
    let same = c.same_vertex.ensures c.if-not-same_vertex.false in (
      alike_next c.loop-i.invariant.0 (omega arith) (omega arith) (omega arith)
          (sym (first_read c.start.ensures c.present-m.ensures) ∙ same.0 ∙ first_read c.start-in-loop-i.ensures c.present-n.ensures)
          (sym (second_read c.start.ensures c.present-m.ensures) ∙ same.1 ∙ second_read c.start-in-loop-i.ensures c.present-n.ensures)
          (next_read c.start.ensures c.present-m.ensures) (next_read c.start-in-loop-i.ensures c.present-n.ensures),
      search rules,
      search rules,
    )

pub returns : goal.returns
returns c = record { same = λ e. alike_end c.loop-i.invariant.0 (omega arith) (omega (arith, ltb-true c.loop-i.j 1 e)) }
