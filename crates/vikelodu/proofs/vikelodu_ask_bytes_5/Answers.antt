-- The answer of the call, packed. Assumes nothing.
use Rattle.packing.proofs.Bits.{as_asking}
use Rattle.vikelodu.proofs.vikelodu_ask_bytes_5.Goals as goal

pub returns : goal.returns
returns c =
    let e = c.ask_bytes-a.ensures in
    record {
      words = _;
      strip_left = e.strip_left;
      work_left = e.work_left;
      step = record { answer = _; step = e.step; packs = as_asking c.ask_bytes-a.result.placing c.pack_answer.ensures };
    }
