-- The words still to come, stored from where they go, give the whole. Assumes nothing.
use lib.Seq.{sets}
use Rattle.defs.specs.Meaning.Sheet.{pieces_words}
use Rattle.defs.specs.Computing.Sheets.{sheet_pieces}
use Rattle.cutlist.proofs.Lists.{Listing}
use Rattle.cutlist.proofs.put_pieces.Given as goal

abbrev pub invariant-loop-at : goal.invariant-loop-at
invariant-loop-at l = Listing l.sheet l.v l.initial.out l.out (sets l.initial.out 1 (pieces_words (sheet_pieces l.sheet))) l.at-iterator l.to
