use Rattle.std.specs.Prelude.{Result, Ok, Err}
use Rattle.defs.specs.declared.Position.{Position}
use Rattle.defs.specs.declared.Refusal.{Refusal}

-- A commit's answer. Assumes nothing.

-- from the form of place's
abbrev pub as_commit : Result Position Refusal → Result Unit Refusal
as_commit (Ok p) = Ok tt
as_commit (Err r) = Err r
