-- What is decoded is encoded. Assumes nothing.
use native.Mathlib.Omega.{arith}
use Rattle.exports.proofs.Decoding.{leading, room, rewritten_is, not_rewritten}
use Rattle.exports.proofs.vikelodu_rewrite.Goals as goal

pub bounds-strip-0 : goal.bounds-strip-0
bounds-strip-0 c =
    omega (
      arith,
      leading (rw c.in-Some.is at
          c.decode.ensures),
    )

pub bounds-strip-1 : goal.bounds-strip-1
bounds-strip-1 c =
    omega (
      arith,
      leading (rw c.in-Some.is at
          c.decode.ensures),
    )

pub bounds-strip-2 : goal.bounds-strip-2
bounds-strip-2 c =
    omega (
      arith,
      leading (rw c.in-Some.is at
          c.decode.ensures),
    )

pub bounds-strip-4 : goal.bounds-strip-4
bounds-strip-4 c =
    omega (
      arith,
      leading (rw c.in-Some.is at
          c.decode.ensures),
    )

pub encode-requires : goal.encode-requires
encode-requires c = let held =
    rw c.in-Some.is at
    c.decode.ensures in
    record {
      fact_1 = held.flat;
      fact_2 = room held;
    }

pub returns-in-Some : goal.returns-in-Some
returns-in-Some c = record {
  fact_1 = (rewritten_is
      (rw c.in-Some.is at
      c.decode.ensures)
      c.encode.ensures).0;
  fact_2 = (rewritten_is
      (rw c.in-Some.is at
      c.decode.ensures)
      c.encode.ensures).1;
}

pub returns-in-None : goal.returns-in-None
returns-in-None c = record {
  fact_1 = (not_rewritten _ (rw c.in-None.is at c.decode.ensures)).0;
  fact_2 = (not_rewritten _ (rw c.in-None.is at c.decode.ensures)).1;
}
