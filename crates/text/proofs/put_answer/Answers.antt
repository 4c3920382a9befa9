-- The text by the answer. Assumes nothing.
use native.Mathlib.Omega.{arith}
use Rattle.text.proofs.Answers.{laid_passes, laid_fits, laid_shows, refused_shows}
use Rattle.text.proofs.put_answer.Goals as goal

pub figures_of-f-requires : goal.figures_of-f-requires
figures_of-f-requires c = omega (arith, (laid_passes (rw c.in-Ok.is at c.requires.answered)).two)

pub pieces_of-requires : goal.pieces_of-requires
pieces_of-requires c = laid_passes (rw c.in-Ok.is at c.requires.answered)

pub put_laid-requires : goal.put_laid-requires
put_laid-requires c = laid_fits (rw c.in-Ok.is at c.requires.answered) c.pieces_of.ensures c.requires.room

pub returns-in-Ok : goal.returns-in-Ok
returns-in-Ok c = laid_shows (rw c.in-Ok.is at c.requires.answered) c.pieces_of.ensures c.requires.room c.figures_of-f.ensures c.put_laid.ensures

pub returns-in-Err : goal.returns-in-Err
returns-in-Err c = refused_shows (rw c.in-Err.is at c.requires.answered) c.requires.room c.put_refused.ensures
