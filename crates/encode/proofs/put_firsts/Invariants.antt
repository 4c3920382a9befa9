-- Each turn of the loop stores the first record of one column more. Assumes nothing.
use Prim.Native.Nat.{◌+◌, ◌-◌, ◌≤◌}
use Rattle.defs.specs.Meaning.Limits.{leading_words}
use Rattle.defs.specs.Computing.Test.{list_from}
use Rattle.freerecords.specs.Stored.{first_record, first_records}
use Rattle.words.proofs.Storing.{Storing}
use Rattle.encode.proofs.put_firsts.Given as goal

abbrev pub invariant-loop-k : goal.invariant-loop-k
invariant-loop-k l = Storing l.initial.strip leading_words (first_records l.first l.n) l.strip (leading_words + l.k) (list_from (first_record l.first) l.k (l.n - l.k))
