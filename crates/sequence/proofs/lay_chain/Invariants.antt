-- The pieces still to come, on top of those that are laid, give the whole. Assumes nothing.
use mathlib.Core.Path.{◌≡◌}
use lib.ListN.{length}
use Rattle.defs.specs.Computing.Sheets.{sheet_pieces}
use Rattle.tables.specs.Flat.{table_of}
use Rattle.sequence.proofs.Going.{Going, whole_from}
use Rattle.sequence.proofs.lay_chain.Given as goal

abbrev pub invariant-loop-at : goal.invariant-loop-at
invariant-loop-at l =
    Going l.sheet l.v l.g.width l.g.resolution l.g.columns l.gap l.q (length l.initial.work)
    (whole_from l.initial.out l.g.width l.g.resolution l.g.columns l.gap l.q (length l.initial.work) 1 (table_of l.initial.first l.initial.lows l.initial.highs l.g.columns) (sheet_pieces l.sheet) 0 0) l.at-iterator l.last l.t l.first l.lows l.highs
    l.first2 l.lows2 l.highs2 l.out (length l.initial.out) ×
    (length l.first ≡ length l.initial.first) × (length l.lows ≡ length l.initial.lows) × (length l.highs ≡ length l.initial.highs) × (length l.first2 ≡ length l.initial.first2) ×
    (length l.lows2 ≡ length l.initial.lows2) × (length l.highs2 ≡ length l.initial.highs2) × (length l.work ≡ length l.initial.work)
