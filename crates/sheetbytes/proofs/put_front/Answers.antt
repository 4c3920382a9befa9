-- The mark and six numbers one after another. Assumes nothing.
use Rattle.sheetbytes.proofs.Fronts.{front_is}
use Rattle.sheetbytes.proofs.put_front.Goals as goal

pub returns : goal.returns
returns c =
    let args = c.args in
    front_is args.out.now c.put_mark.new.out c.set_number.new.out c.set_number-2.new.out c.set_number-3.new.out
    c.set_number-4.new.out c.set_number-5.new.out c.set_number-6.new.out args.w args.r args.n args.first args.v
    args.p c.put_mark.ensures c.set_number.ensures c.set_number-2.ensures c.set_number-3.ensures
    c.set_number-4.ensures c.set_number-5.ensures c.set_number-6.ensures
