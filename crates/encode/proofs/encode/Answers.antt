-- The parts of a strip, one after another: each has room, since the strip is as long as all of them. Assumes nothing.
use native.Mathlib.Omega.{arith}
use Rattle.encode.proofs.Strips.{sizes, flat_last, strip_written}
use Rattle.encode.proofs.encode.Goals as goal

pub overflow_cast-t : goal.overflow_cast-t
overflow_cast-t c = let r = sizes c.requires.fact_2 in omega arith

pub overflow_cast-q : goal.overflow_cast-q
overflow_cast-q c = let r = sizes c.requires.fact_2 in omega arith

pub put_leading-requires : goal.put_leading-requires
put_leading-requires c = let r = sizes c.requires.fact_2 in omega arith

pub put_firsts-requires : goal.put_firsts-requires
put_firsts-requires c =
    let p = c.requires in
    let r = sizes p.fact_2 in (p.fact_1.firsts, omega arith)

pub put_records-requires : goal.put_records-requires
put_records-requires c = let p = c.requires in
    let r = sizes p.fact_2 in record {
      table = flat_last p.fact_1;
      room = (r.columns, omega (arith, p.fact_1.last));
    }

pub overflow_add-at-2 : goal.overflow_add-at-2
overflow_add-at-2 c = let r = sizes c.requires.fact_2 in omega arith

pub put_free-requires : goal.put_free-requires
put_free-requires c =
    let r = sizes c.requires.fact_2 in
    record { order = omega arith; few = omega arith; room = omega arith }

pub returns : goal.returns
returns c =
    let p = c.requires in
    let a = c.args in
    strip_written p.fact_1 a.strip.now a.g.width a.g.resolution a.gap p.fact_2
    c.records_of-q.ensures c.record_of-free.ensures
    c.put_leading.ensures c.put_firsts.ensures
    c.put_records.ensures c.put_free.ensures
