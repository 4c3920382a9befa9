-- Points that differ by at least a gap, by products of whole numbers. Assumes nothing.
use Rattle.std.specs.Prelude.{◌⊎◌, ℕ, ◌+◌, ◌*◌, ◌≤◌}

-- The numbers a/d and b/e differ by at least g.
abbrev pub ApartBy : ℕ → ℕ → ℕ → ℕ → ℕ → Type 0
ApartBy g a d b e = (a * e + g * (d * e) ≤ b * d) ⊎ (b * d + g * (d * e) ≤ a * e)

-- The points (p/d, q/d) and (p'/d', q'/d') differ by at least g in x or in y.
abbrev pub Distant : ℕ → ℕ → ℕ → ℕ → ℕ → ℕ → ℕ → Type 0
Distant g p q d p' q' d' = ApartBy g p d p' d' ⊎ ApartBy g q d q' d'
