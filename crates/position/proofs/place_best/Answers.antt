-- The questions are asked in their order, and each "no" ends them. Assumes nothing.
use mathlib.Core.Path.{refl}
use Rattle.geom.proofs.Checks.{question_10}
use Rattle.checks.proofs.Bounded.{lent_of}
use Rattle.position.proofs.Answers.{refused_on, untried_on, placed_on, eleven, twelve, thirteen, fourteen, tries_on_lem, enterable}
use borrow.Author.Rules.{rules}
use Rattle.position.proofs.place_best.Goals as goal

pub best_turn-s-requires : goal.best_turn-s-requires
best_turn-s-requires c = let y = c.requires.ordered in record {
  lent = lent_of _ y.seven y.eight;
  bounds = c.requires.bounds;
  ten = ((question_10 _ _).0 y.ten, c.requires.none_before);
}

pub returns-then-s-eq0 : goal.returns-then-s-eq0
returns-then-s-eq0 c = untried_on _ c.untried.ensures (eleven _ _ _ _ _ _ _ _ _ c.args.board.resolution.0 c.requires.ordered c.best_turn-s.ensures.tried c.if-s-eq0.true)

pub returns-then-room-s : goal.returns-then-room-s
returns-then-room-s c = untried_on _ c.untried-then-room-s.ensures (twelve _ _ _ _ _ _ _ _ _ c.args.board.resolution.0 c.requires.ordered c.best_turn-s.ensures.tried c.if-s-eq0.false c.if-room-s.true)

pub enter_at-requires : goal.enter_at-requires
enter_at-requires c = record {
  room = c.requires.room;
  at = enterable _ _ _ _ c.args.board.records _ _ _ _ c.args.board.resolution.0 c.requires.ordered c.best_turn-s.ensures.tried c.if-s-eq0.false c.if-room-s.false _ refl c.args.board.table c.requires.bounds c.in-Some.is (search rules);
  kept = c.best_turn-s.ensures.kept;
}

pub returns-in-Some : goal.returns-in-Some
returns-in-Some c =
    record {
      placed = placed_on _ c.enter_at.ensures (fourteen _ _ _ _ _ _ _ _ _ c.args.board.resolution.0 c.requires.ordered c.best_turn-s.ensures.tried c.if-s-eq0.false c.if-room-s.false _ c.in-Some.is);
      counted = tries_on_lem _ _ _ _ c.args.board.records _ _ _ _ c.args.board.resolution.0 c.requires.ordered c.best_turn-s.ensures.tried c.if-s-eq0.false c.if-room-s.false;
    }

pub returns-in-None : goal.returns-in-None
returns-in-None c =
    record {
      placed = refused_on c.refused.ensures (thirteen _ _ _ _ _ _ _ _ _ c.args.board.resolution.0 c.requires.ordered c.best_turn-s.ensures.tried c.if-s-eq0.false c.if-room-s.false c.in-None.is);
      counted = tries_on_lem _ _ _ _ c.args.board.records _ _ _ _ c.args.board.resolution.0 c.requires.ordered c.best_turn-s.ensures.tried c.if-s-eq0.false c.if-room-s.false;
    }
