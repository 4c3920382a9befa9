-- Where there is a position, the next table is written. Assumes nothing.
use native.Mathlib.Omega.{arith}
use Rattle.wanted.proofs.Answered.{put_placed, put_refused}
use Rattle.wanted.proofs.put_with.Goals as goal

pub bounds-strip-0 : goal.bounds-strip-0
bounds-strip-0 c = omega (arith, (c.look-x.ensures.next _ c.in-Ok.is).leading)

pub bounds-strip-1 : goal.bounds-strip-1
bounds-strip-1 c = omega (arith, (c.look-x.ensures.next _ c.in-Ok.is).leading)

pub bounds-strip-2 : goal.bounds-strip-2
bounds-strip-2 c = omega (arith, (c.look-x.ensures.next _ c.in-Ok.is).leading)

pub bounds-strip-4 : goal.bounds-strip-4
bounds-strip-4 c = omega (arith, (c.look-x.ensures.next _ c.in-Ok.is).leading)

pub bounds-first2-g : goal.bounds-first2-g
bounds-first2-g c = (c.look-x.ensures.next _ c.in-Ok.is).flat.firsts

pub overflow_cast-n-in-Ok : goal.overflow_cast-n-in-Ok
overflow_cast-n-in-Ok c = omega (arith, (c.look-x.ensures.next _ c.in-Ok.is).few)

pub encode-requires : goal.encode-requires
encode-requires c = let next = c.look-x.ensures.next _ c.in-Ok.is in
    record {
      fact_1 = next.flat;
      fact_2 = next.room;
    }

pub returns-in-Ok : goal.returns-in-Ok
returns-in-Ok c = put_placed c.look-x.ensures c.in-Ok.is c.encode.ensures

pub returns-in-Err : goal.returns-in-Err
returns-in-Err c = put_refused c.look-x.ensures c.in-Err.is
