-- The answer of the call, packed. Assumes nothing.
use Rattle.packing.proofs.Bits.{as_committing}
use Rattle.vikelodu.proofs.vikelodu_commit_bytes.Goals as goal

pub returns : goal.returns
returns c =
    let e = c.commit_bytes-a.ensures in
    record {
      words = _;
      strip_left = e.strip_left;
      work_left = e.work_left;
      step = record { answer = _; step = e.step; packs = as_committing c.commit_bytes-a.result c.pack_answer.ensures };
    }
