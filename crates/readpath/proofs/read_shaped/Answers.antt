-- Questions 20 and 15, and then the words. Assumes nothing.
use mathlib.Core.Path.{refl, sym}
use native.Mathlib.Omega.{arith}
use Rattle.pathlaws.proofs.Shapes.{most}
use Rattle.readpath.proofs.Outputs.{not_accepted, words_kept, words_within, no_room, read}
use Rattle.readpath.proofs.read_shaped.Goals as goal

pub accepts-requires : goal.accepts-requires
accepts-requires c = record {
  fact_1 = c.requires;
  fact_2 = omega (arith, most _ c.requires.nineteen, c.requires.count);
}

pub returns-then-not-accepts : goal.returns-then-not-accepts
returns-then-not-accepts c = not_accepted c.requires c.accepts.ensures c.if-not-accepts.true c.refused.ensures refl

pub returns-then-out-n : goal.returns-then-out-n
returns-then-out-n c = no_room c.requires c.accepts.ensures c.if-not-accepts.false c.if-out-n.true c.refused-then-out-n.ensures refl

pub slice_bounds-kept-end : goal.slice_bounds-kept-end
slice_bounds-kept-end c = words_within c.requires c.accepts.ensures c.if-not-accepts.false

pub slice_bounds-copy_in-end : goal.slice_bounds-copy_in-end
slice_bounds-copy_in-end c = sym (words_kept c.requires c.accepts.ensures c.if-not-accepts.false)

pub copy_in-requires : goal.copy_in-requires
copy_in-requires c = omega (arith, words_kept c.requires c.accepts.ensures c.if-not-accepts.false, c.if-out-n.false)

pub overflow_cast-result : goal.overflow_cast-result
overflow_cast-result c = omega (arith, most _ c.requires.nineteen, c.requires.count)

pub returns : goal.returns
returns c = read c.requires c.accepts.ensures c.if-not-accepts.false c.if-out-n.false c.copy_in.ensures
