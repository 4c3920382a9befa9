-- The next of a record. Assumes nothing.
use Rattle.std.specs.Prelude.{cond, ℕ, ◌+◌, leb}

-- "next": the following number, 0 at an end
unfoldable pub link_of : ℕ → ℕ → ℕ
link_of r left = cond (leb left 1) 0 (r + 1)
