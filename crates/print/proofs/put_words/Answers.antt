-- Word and numbers, one after another, and their room. Assumes nothing.
use native.Mathlib.Omega.{arith}
use Rattle.print.proofs.Puts.{then, spaced_few}
use Rattle.print.proofs.put_words.Goals as goal

pub returns : goal.returns
returns c =
    record {
      bytes = then c.put-a.ensures c.put_spaced.ensures;
      room = omega (arith, c.put-a.ensures.after, c.put_spaced.ensures.after, spaced_few c.args.numbers.now);
    }
