-- The front, the vertex records and the piece records are the sheet. Assumes nothing.
use mathlib.Core.Path.{refl, ◌∙◌}
use native.Mathlib.Omega.{arith}
use Rattle.std.proofs.Math.Nat.{min_comm}
use Rattle.sheetbytes.proofs.Fronts.{sheet_is, still_fits, vertices_small}
use Rattle.sheetbytes.proofs.put_sheet.Goals as goal

pub overflow_cast-v : goal.overflow_cast-v
overflow_cast-v c = omega (arith, vertices_small c.requires)

pub put_pieces-requires : goal.put_pieces-requires
put_pieces-requires c = record {
  fact_1 = still_fits c.requires (omega arith);
  fact_2 = omega (arith, c.requires.room);
}

pub returns : goal.returns
returns c =
    let args = c.args in
    sheet_is args.list.now args.out.now c.put_front.new.out c.put_vertices.new.out
    c.put_pieces.new.out args.w args.r args.n c.min.result args.v _ c.requires.vertices refl
    (c.min.ensures ∙ min_comm _ _) c.put_front.ensures c.put_vertices.ensures c.put_pieces.ensures
