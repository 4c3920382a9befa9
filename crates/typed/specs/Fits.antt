-- That a sheet and its notes are within their buffers.
-- Assumes nothing.
use Rattle.std.specs.Prelude.{ℕ, ◌≤◌}
use Rattle.typed.specs.declared.Sheet.{Sheet}

-- of so many bytes of output, and of notes
abbrev pub Fits : Sheet → ℕ → ℕ → Type 0
Fits s bytes notes = (s.bytes ≤ bytes) × (s.notes ≤ notes)
