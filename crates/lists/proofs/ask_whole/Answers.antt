-- The part of the list that is lent is the piece's outline. Assumes nothing.
use mathlib.Core.Path.{refl}
use Rattle.lists.proofs.Asking.{asked_of}
use Rattle.lists.proofs.ask_whole.Goals as goal

pub returns : goal.returns
returns c = asked_of c.args.list.now c.args.a refl c.requires refl c.nine.ensures c.ask_outline.result c.ask_outline.ensures
