-- 7 by the piece's words, 8 to 11 by its outline. Assumes nothing.
use mathlib.Core.Path.{sym, ◌∙◌}
use native.Mathlib.Omega.{arith}
use Rattle.lists.proofs.Asking.{no_7, piece_whole}
use Rattle.lists.proofs.ask_piece.Goals as goal

pub returns-then-not-complete : goal.returns-then-not-complete
returns-then-not-complete c = (no_7 c.args.list.now c.args.a (sym c.complete.ensures ∙ c.if-not-complete.true), omega arith)

pub ask_whole-requires : goal.ask_whole-requires
ask_whole-requires c = piece_whole c.args.list.now c.args.a (sym c.complete.ensures ∙ c.if-not-complete.false)
