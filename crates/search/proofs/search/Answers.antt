-- The walk searches all columns and counts, the way round those of a range. Assumes nothing.
use Rattle.search.proofs.Searched.{walked_looks, rounded_looks}
use Rattle.search.proofs.search.Goals as goal

pub returns-in-Walk : goal.returns-in-Walk
returns-in-Walk c = rw c.in-Walk.is (walked_looks _ _ _ _ _ _ _ _ _ _ c.walk_turn.result c.walk_turn.ensures)

pub returns-in-Round : goal.returns-in-Round
returns-in-Round c = rw c.in-Round.is (rounded_looks _ _ _ _ _ _ _ _ _ _ c.round_range.result c.requires.full c.columns_before-from.ensures c.columns_before-end.ensures c.round_range.ensures)
