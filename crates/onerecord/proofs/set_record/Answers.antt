-- Three numbers one after another. Assumes nothing.
use Rattle.onerecord.proofs.Record.{three_numbers}
use Rattle.onerecord.proofs.set_record.Goals as goal

pub returns : goal.returns
returns c =
    let args = c.args in
    three_numbers args.out.now c.set_number.new.out c.set_number-2.new.out c.set_number-3.new.out args.to args.x
    args.y args.z c.set_number.ensures c.set_number-2.ensures c.set_number-3.ensures
