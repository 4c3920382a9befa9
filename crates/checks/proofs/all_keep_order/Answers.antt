-- `all_keep_order` meets its contract: each turn below 4 is asked. Assumes nothing.
use mathlib.Core.Path.{◌≡◌, refl}
use mathlib.Core.Bool.{true, false}
use Prim.Native.Nat.{ℕ}
use borrow.Author.Tests.{tests}
use borrow.Author.Rules.{rules}
use Rattle.std.proofs.lemmas.Iterator.{cases_from_all, YieldsList-from_range}
use Rattle.checks.specs.Order.{turnb}
use Rattle.checks.proofs.Turned.{turns_asked}
use Rattle.checks.proofs.all_keep_order.Goals as goal

pub returns : goal.returns
returns c =
    let f = λ (t : ℕ). turnb c.args.o.now c.args.mask t in
    turns_asked _ _ _
    (cases_from_all _ _ _ (λ (t : ℕ). f t ≡ true) (λ (t : ℕ). f t ≡ false) c.all.ensures.ran (YieldsList-from_range 0 4 4 refl refl)
    (λ x q k. search (rules, tests)) (λ x q k. search (rules, tests)))
