-- A path that gives an outline, without the sign, has the bytes that writing the outline gives. Assumes nothing.
use mathlib.Core.Path.{◌≡◌, refl, sym, ap, ◌∙◌}
use mathlib.Core.List.{List, [], ◌∷◌, ◌++◌}
use Prim.Native.Nat.{ℕ, ◌/◌, ◌%◌, ◌<◌}
use native.Mathlib.Omega.{arith}
use Rattle.pathdefs.specs.Meaning.Path.{bits_of, sign_of, Accepted, Pair, move, Steps, the_end, a_move, a_line, a_close, lines_then_close, Units, no_more, vertex, PathGives, Unsigned}
use Rattle.pathdefs.specs.Computing.Paths.{written_bits, four_bytes, vertex_bytes, lines_bytes, path_bytes}
use Rattle.pathlaws.proofs.Only.{without_sign}
use Rattle.pathclaims.specs.Paths.{AreBytes}

-- four bytes are those of the bits that they make
four : (a b c d : ℕ) → a < 256 → b < 256 → c < 256 → d < 256 →
    (bits_of a b c d % 256 ≡ a) × (bits_of a b c d / 256 % 256 ≡ b) × (bits_of a b c d / 65536 % 256 ≡ c) × (bits_of a b c d / 16777216 ≡ d)
four a b c d ha hb hc hd = (omega arith, omega arith, omega arith, omega arith)

-- the bytes of one coordinate, and of what follows it
coordinate : (a b c d k : ℕ) (bs : List ℕ) → a < 256 → b < 256 → c < 256 → d < 256 → Accepted (bits_of a b c d) k → sign_of (bits_of a b c d) ≡ 0 →
    a ∷ (b ∷ (c ∷ (d ∷ bs))) ≡ four_bytes (written_bits k) ++ bs
coordinate a b c d k bs ha hb hc hd acc s =
    let f = four a b c d ha hb hc hd in
    let w : bits_of a b c d ≡ written_bits k = without_sign (bits_of a b c d) k acc s in
    rw (sym w, f.0, f.1, f.2, f.3)

-- the bytes of a move or a line, and of what follows it
vertex_only : (k a b c d e f g h x y : ℕ) (bs rest : List ℕ) → AreBytes (k ∷ a ∷ b ∷ c ∷ d ∷ e ∷ f ∷ g ∷ h ∷ bs) →
    Accepted (bits_of a b c d) x → Accepted (bits_of e f g h) y → sign_of (bits_of a b c d) ≡ 0 → sign_of (bits_of e f g h) ≡ 0 → bs ≡ rest →
    k ∷ a ∷ b ∷ c ∷ d ∷ e ∷ f ∷ g ∷ h ∷ bs ≡ vertex_bytes k x y ++ rest
vertex_only k a b c d e f g h x y bs rest w ax ay sx sy q =
    let v = w.1.1.1.1.1 in
    ap (λ (l : List ℕ). k ∷ l)
    (coordinate a b c d x (e ∷ (f ∷ (g ∷ (h ∷ bs)))) w.1.0 w.1.1.0 w.1.1.1.0 w.1.1.1.1.0 ax sx ∙
    ap (λ (l : List ℕ). four_bytes (written_bits x) ++ l)
    (coordinate e f g h y bs v.0 v.1.0 v.1.1.0 v.1.1.1.0 ay sy ∙ ap (λ (l : List ℕ). four_bytes (written_bits y) ++ l) q))

lines_only : {b : List ℕ} (ps : List Pair) {ws : List ℕ} → AreBytes b → Steps b (lines_then_close ps) → Units ps ws → Unsigned ps → b ≡ lines_bytes ws
unfolding lines_bytes
lines_only [] w (a_close the_end) no_more u = refl
lines_only (p ∷ ps) w (a_line {a} {b} {c} {d} {e} {f} {g} {h} {bs} s) (vertex {x} {y} {ws} ax ay t) u =
    vertex_only 2 a b c d e f g h x y bs (lines_bytes ws) w ax ay u.0.0 u.0.1
    (lines_only ps w.1.1.1.1.1.1.1.1.1 s t u.1)

path_only : {b : List ℕ} (p : Pair) (ps : List Pair) {ws : List ℕ} → AreBytes b → Steps b (move p ∷ lines_then_close ps) → Units (p ∷ ps) ws →
    Unsigned (p ∷ ps) → b ≡ path_bytes ws
unfolding path_bytes
path_only p ps w (a_move {a} {b} {c} {d} {e} {f} {g} {h} {bs} s) (vertex {x} {y} {ws} ax ay t) u =
    vertex_only 1 a b c d e f g h x y bs (lines_bytes ws) w ax ay u.0.0 u.0.1
    (lines_only ps w.1.1.1.1.1.1.1.1.1 s t u.1)

pub only_path : {path o : List ℕ} → AreBytes path → (g : PathGives path o) → Unsigned (g.first ∷ g.others) → path ≡ path_bytes o
only_path h g u = path_only g.first g.others h g.shape.steps g.units u
