-- Placed, the strip's words are put back; refused, its bytes stay. Assumes nothing.
use mathlib.Core.Path.{sym, ◌∙◌}
use Rattle.byteput.proofs.Calls.{put_back, kept_back, was_ok, was_err}
use Rattle.std.proofs.Common.{rules}
use Rattle.byteput.proofs.put_back.Goals as goal

pub returns-then-is_ok : goal.returns-then-is_ok
returns-then-is_ok c =
    put_back c.put_copy-x.ensures (was_ok c.put_copy-x.result.placing (sym c.is_ok.ensures.value ∙ c.if-is_ok.true)).1 c.put_words.ensures

pub returns-else-is_ok : goal.returns-else-is_ok
returns-else-is_ok c =
    kept_back (λ i _. search rules) c.put_copy-x.ensures (was_err c.put_copy-x.result.placing (sym c.is_ok.ensures.value ∙ c.if-is_ok.false)).1
