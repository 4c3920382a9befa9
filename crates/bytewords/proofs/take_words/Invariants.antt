-- Each word is the number at its two bytes. Assumes nothing.
use Rattle.bytewords.proofs.Loops.{Taking}
use Rattle.bytewords.proofs.take_words.Given as goal

abbrev pub invariant-loop-i : goal.invariant-loop-i
invariant-loop-i l = Taking l.bytes l.initial.words l.words l.i
