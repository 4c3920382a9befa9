-- The walk along the free chain. The measure: at most Q records. Assumes nothing.
use mathlib.Core.Path.{sym, ◌∙◌}
use mathlib.Core.Bool.{false≢true}
use native.Mathlib.Omega.{arith}
use Rattle.chains.proofs.Walks.{free_start, free_past, free_long, free_wrong, free_next, free_along, free_end}
use Rattle.chains.proofs.free_chain.Goals as goal
use Rattle.chains.proofs.free_chain.Goals.{then-g-at-via-then-g-at, then-g-at-via-else-g-at+then-g-k, then-g-at-via-else-g-at+else-g-k+then-not-is_free}

pub loop-at-init : goal.loop-at-init
loop-at-init c =
    free_along (free_start c.requires c.word-first.ensures.value) c.in_order-at.ensures

pub returns-then-g-at : goal.returns-then-g-at
returns-then-g-at c =
    elim c.then-g-at.branch [
      | then-g-at-via-then-g-at w ↦ free_past c.loop-at.invariant (omega arith) (omega arith)
      | then-g-at-via-else-g-at+then-g-k w ↦ free_long c.loop-at.invariant (omega arith) (omega arith)
      | then-g-at-via-else-g-at+else-g-k+then-not-is_free w ↦
          free_wrong c.loop-at.invariant c.requires.columns (omega arith)
          (λ x. false≢true (sym w.if-not-is_free.true ∙ w.is_free.ensures.1 x))
    ]

pub loop-at-preserved : goal.loop-at-preserved
loop-at-preserved c =
    let f = c.is_free.ensures.0 c.if-not-is_free.false in
    free_next c.loop-at.invariant (omega arith) (omega arith)
    (omega arith) f c.word_of-at.ensures.value
