-- Each turn of the loop stores the first record of one column more. Assumes nothing.
use native.Mathlib.Omega.{arith}
use Rattle.defs.specs.Meaning.Limits.{leading_words}
use Rattle.freerecords.specs.Stored.{first_record, first_records}
use Rattle.words.proofs.Storing.{storing_start, storing_one, storing_as, storing_end}
use Rattle.freerecords.proofs.Words.{from_next, from_end, firsts_start}
use Rattle.encode.proofs.put_firsts.Goals as goal

pub loop-k-init : goal.loop-k-init
loop-k-init c =
    let a = c.args in
    storing_as (firsts_start a.first.now a.n) (storing_start a.strip.now leading_words (first_records a.first.now a.n))

pub loop-k-preserved : goal.loop-k-preserved
loop-k-preserved c =
    let a = c.args in
    let l = c.loop-k-test.true in
    storing_one c.record_of.ensures (omega arith) (from_next (first_record a.first.now) c.loop-k.k a.n l) c.loop-k.invariant

pub returns : goal.returns
returns c =
    let a = c.args in
    storing_end (from_end (first_record a.first.now) c.loop-k.k a.n (omega arith)) c.loop-k.invariant
