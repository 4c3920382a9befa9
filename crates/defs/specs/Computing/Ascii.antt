-- The bytes of a text in ASCII. Assumes nothing.
use Rattle.std.specs.Prelude.{List, [] as none_left, ◌∷◌ as ◌then◌, ℕ}
use Prim.Native.Char.{code}
use Prim.Native.String.{String, [], ◌∷◌}

unfoldable pub ascii : String → List ℕ
ascii [] = none_left
ascii (c ∷ s) = ◌then◌ (code c) (ascii s)
