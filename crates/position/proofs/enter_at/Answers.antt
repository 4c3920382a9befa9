-- The runs of the position's turn stand in the work buffer, and are entered. Assumes nothing.
use Rattle.position.proofs.Entries.{on_board, old, fits, placed, full}
use Rattle.position.proofs.enter_at.Goals as goal

pub stand_runs-k-requires : goal.stand_runs-k-requires
stand_runs-k-requires c = let at = c.requires.at in
    record { lent = at.lent; bounds = at.bounds; room = (at.turn, at.room); order = at.keeps; kept = c.requires.kept }

pub enter-requires : goal.enter-requires
enter-requires c = let board = on_board c.args.board c.requires.room in
    let at = c.requires.at in
    record {
      old = old c.args.p board at c.stand_runs-k.ensures;
      fits = fits c.args.p board at c.stand_runs-k.ensures;
      room = (board.room.firsts, board.room.lows, board.room.highs);
    }

pub returns-in-Some : goal.returns-in-Some
returns-in-Some c = placed c.args.p (on_board c.args.board c.requires.room) c.requires.at c.stand_runs-k.ensures (rw c.in-Some.is at c.enter.ensures)

pub returns-in-None : goal.returns-in-None
returns-in-None c = full c.args.p (on_board c.args.board c.requires.room) c.requires.at c.stand_runs-k.ensures (rw c.in-None.is at c.enter.ensures) c.refused.ensures
