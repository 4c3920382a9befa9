-- The outline that a reading stands for. Assumes nothing.
use Rattle.std.specs.Prelude.{List, ℕ}
use Rattle.defs.specs.Meaning.Turn.{turned}
use Rattle.outline.specs.declared.Turned.{Turned}

abbrev pub shape : Turned → List ℕ
shape t = turned t.words.now t.frame.turn
