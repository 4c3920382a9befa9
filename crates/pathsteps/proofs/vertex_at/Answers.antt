-- By what is found; a step that is drawn has two coordinates. Assumes nothing.
use mathlib.Core.Path.{◌≡◌, ◌∙◌}
use borrow.Author.Rules.{rules}
use Rattle.std.specs.Prelude.{None}
use Rattle.pathsteps.proofs.Cases.{vertex_found_lem, vertex_none}
use Rattle.pathsteps.proofs.vertex_at.Goals as goal

pub returns-in_err-step_at : goal.returns-in_err-step_at
returns-in_err-step_at c =
    let e : c.from_residual.result ≡ None = search rules in
    e ∙ vertex_none _ _ c.step_at.ensures c.requires c.in_err-step_at.was

pub returns : goal.returns
returns c = vertex_found_lem _ _ c.step_at.ensures c.requires c.in_ok-step_at.was c.vertex_of.ensures
