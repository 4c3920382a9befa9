-- The test of a path's shape decides question 19, the test of its coordinates question 20, and a path gives the words computed.
-- Assumes nothing.
use mathlib.Core.Path.{◌≡◌, refl, sym, ap, ◌∙◌, subst}
use mathlib.Core.Bool.{true, ◌&&◌}
use mathlib.Core.List.{List, [], ◌∷◌}
use Prim.Native.Nat.{ℕ, zero, suc, ◌+◌, ◌-◌, ◌*◌, ◌≤◌}
use native.Mathlib.Omega.{arith}
use lib.Dec.{leb, eqb}
use lib.ListN.{length, get_or, drop, length-drop}
use lib.Seq.{drop-cons}
use borrow.Author.Tests.{eqb-true, leb-true, eq-eqb, le-leb}
use Rattle.laws.proofs.Tests.{Decides, and_left, and_right, and_both}
use Rattle.pathdefs.specs.Meaning.Path.{Accepted, Pair, pair, Drawn, move, line, close, Steps, the_end, a_move, a_line, a_close, lines_then_close, Shape, Question19, Units, no_more, vertex, PathGives, Question20}
use Rattle.pathdefs.specs.Computing.Paths.{bits_at, acceptedb, linesb, vertices_in, q19b, acceptsb, q20b, vertex_units, path_words}
use Rattle.pathlaws.proofs.Coordinates.{units_is, coordinate_decides, accepted_is}

lines_long : {b : List ℕ} (ps : List Pair) → Steps b (lines_then_close ps) → length b ≡ 9 * length ps + 1
lines_long [] (a_close the_end) = refl
lines_long (p ∷ ps) (a_line s) = omega (arith, lines_long ps s)

lines_pass : {b : List ℕ} (ps : List Pair) → Steps b (lines_then_close ps) → linesb (length ps) b ≡ true
unfolding linesb
lines_pass [] (a_close the_end) = refl
lines_pass (p ∷ ps) (a_line s) = lines_pass ps s

move_long : {b : List ℕ} {p : Pair} (ps : List Pair) → Steps b (move p ∷ lines_then_close ps) → length b ≡ 9 * suc (length ps) + 1
move_long ps (a_move s) = omega (arith, lines_long ps s)

move_pass : {b : List ℕ} {p : Pair} (ps : List Pair) → Steps b (move p ∷ lines_then_close ps) → (eqb (get_or b 0 0) 1 && linesb (length ps) (drop 9 b)) ≡ true
move_pass ps (a_move s) = lines_pass ps s

-- a path of the right shape has so many vertices
module _ {b : List ℕ} {p : Pair} {ps : List Pair} (s : Shape b p ps) where
  pub shape_long : length b ≡ 9 * suc (length ps) + 1
  shape_long = move_long ps s.steps

  pub shape_vertices : vertices_in b ≡ suc (length ps)
  shape_vertices = rw shape_long (omega arith)

  pub shape_passes : q19b b ≡ true
  unfolding q19b
  shape_passes =
      let l : suc (length ps) - 1 ≡ length ps = omega arith in
      rw (shape_vertices, l)
      (and_both
      (and_both (eq-eqb _ _ shape_long)
      (and_both (le-leb 3 (suc (length ps)) (omega (arith, s.lines.at_least))) (le-leb (suc (length ps)) 64 (omega (arith, s.lines.at_most)))))
      (move_pass ps s.steps))

-- And the other way round: the coordinates of n vertices, and the steps that they are.
unfoldable pub pairs_of : ℕ → List ℕ → List Pair
pairs_of zero b = []
pairs_of (suc n) b = pair (bits_at b 1) (bits_at b 5) ∷ pairs_of n (drop 9 b)

pub length_pairs : (n : ℕ) (b : List ℕ) → length (pairs_of n b) ≡ n
unfolding pairs_of
length_pairs zero b = refl
length_pairs (suc n) b = ap suc (length_pairs n (drop 9 b))

nine : (b : List ℕ) → 9 ≤ length b →
    b ≡ get_or b 0 0 ∷ get_or b 1 0 ∷ get_or b 2 0 ∷ get_or b 3 0 ∷ get_or b 4 0 ∷ get_or b 5 0 ∷ get_or b 6 0 ∷ get_or b 7 0 ∷ get_or b 8 0 ∷ drop 9 b
nine b h =
    drop-cons b 0 0 (omega (arith, h)) ∙ ap (λ (l : List ℕ). get_or b 0 0 ∷ l) (
    drop-cons b 1 0 (omega (arith, h)) ∙ ap (λ (l : List ℕ). get_or b 1 0 ∷ l) (
    drop-cons b 2 0 (omega (arith, h)) ∙ ap (λ (l : List ℕ). get_or b 2 0 ∷ l) (
    drop-cons b 3 0 (omega (arith, h)) ∙ ap (λ (l : List ℕ). get_or b 3 0 ∷ l) (
    drop-cons b 4 0 (omega (arith, h)) ∙ ap (λ (l : List ℕ). get_or b 4 0 ∷ l) (
    drop-cons b 5 0 (omega (arith, h)) ∙ ap (λ (l : List ℕ). get_or b 5 0 ∷ l) (
    drop-cons b 6 0 (omega (arith, h)) ∙ ap (λ (l : List ℕ). get_or b 6 0 ∷ l) (
    drop-cons b 7 0 (omega (arith, h)) ∙ ap (λ (l : List ℕ). get_or b 7 0 ∷ l) (
    drop-cons b 8 0 (omega (arith, h))))))))))

-- the bytes of a move or a line, and those after it
nine_from : (b : List ℕ) (k : ℕ) → 9 ≤ length b → get_or b 0 0 ≡ k →
    k ∷ get_or b 1 0 ∷ get_or b 2 0 ∷ get_or b 3 0 ∷ get_or b 4 0 ∷ get_or b 5 0 ∷ get_or b 6 0 ∷ get_or b 7 0 ∷ get_or b 8 0 ∷ drop 9 b ≡ b
nine_from b k h e = rw (← e) (sym (nine b h))

line_here : (b : List ℕ) {ss : List Drawn} → 9 ≤ length b → get_or b 0 0 ≡ 2 → Steps (drop 9 b) ss →
    Steps b (line (pair (bits_at b 1) (bits_at b 5)) ∷ ss)
line_here b {ss} h e s = subst (λ (l : List ℕ). Steps l (line (pair (bits_at b 1) (bits_at b 5)) ∷ ss)) (nine_from b 2 h e) (a_line s)

move_here : (b : List ℕ) {ss : List Drawn} → 9 ≤ length b → get_or b 0 0 ≡ 1 → Steps (drop 9 b) ss →
    Steps b (move (pair (bits_at b 1) (bits_at b 5)) ∷ ss)
move_here b {ss} h e s = subst (λ (l : List ℕ). Steps l (move (pair (bits_at b 1) (bits_at b 5)) ∷ ss)) (nine_from b 1 h e) (a_move s)

close_here : (b : List ℕ) → length b ≡ 1 → get_or b 0 0 ≡ 3 → Steps b (close ∷ [])
close_here [] h e = absurd (omega (arith, h))
close_here (x ∷ (y ∷ b)) h e = absurd (omega (arith, h))
close_here (x ∷ []) h e = subst (λ (k : ℕ). Steps (k ∷ []) (close ∷ [])) (sym e) (a_close the_end)

lines_steps : (n : ℕ) (b : List ℕ) → linesb n b ≡ true → length b ≡ 9 * n + 1 → Steps b (lines_then_close (pairs_of n b))
unfolding linesb pairs_of
lines_steps zero b t h = close_here b (omega (arith, h)) (eqb-true (get_or b 0 0) 3 t)
lines_steps (suc n) b t h =
    line_here b (omega (arith, h)) (eqb-true (get_or b 0 0) 2 (and_left _ _ t))
    (lines_steps n (drop 9 b) (and_right (eqb (get_or b 0 0) 2) _ t) (length-drop 9 b ∙ omega (arith, h)))

pub nineteen : (b : List ℕ) → length b ≡ 9 * vertices_in b + 1 → 3 ≤ vertices_in b → vertices_in b ≤ 64 → get_or b 0 0 ≡ 1 →
    linesb (vertices_in b - 1) (drop 9 b) ≡ true → q19b b ≡ true
unfolding q19b
nineteen b l h m e t =
    and_both (and_both (eq-eqb _ _ l) (and_both (le-leb 3 (vertices_in b) h) (le-leb (vertices_in b) 64 m)))
    (and_both (eq-eqb (get_or b 0 0) 1 e) t)

-- of a path whose shape passes
module _ (b : List ℕ) (t : q19b b ≡ true) where
  sizes : (length b ≡ 9 * vertices_in b + 1) × (3 ≤ vertices_in b) × (vertices_in b ≤ 64)
  unfolding q19b
  sizes =
      let a = and_left _ _ t in
      let c = and_right (eqb (length b) (9 * vertices_in b + 1)) _ a in
      (eqb-true _ _ (and_left (eqb (length b) (9 * vertices_in b + 1)) _ a), leb-true _ _ (and_left (leb 3 (vertices_in b)) _ c), leb-true _ _ (and_right (leb 3 (vertices_in b)) _ c))

  pub long : length b ≡ 9 * vertices_in b + 1
  long = sizes.0

  pub least : 3 ≤ vertices_in b
  least = sizes.1

  pub most : vertices_in b ≤ 64
  most = sizes.2

  pub tags : (get_or b 0 0 ≡ 1) × (linesb (vertices_in b - 1) (drop 9 b) ≡ true)
  unfolding q19b
  tags =
      let a = and_right (eqb (length b) (9 * vertices_in b + 1) && (leb 3 (vertices_in b) && leb (vertices_in b) 64)) _ t in
      (eqb-true _ _ (and_left (eqb (get_or b 0 0) 1) _ a), and_right (eqb (get_or b 0 0) 1) _ a)

  pub shape_of : Shape b (pair (bits_at b 1) (bits_at b 5)) (pairs_of (vertices_in b - 1) (drop 9 b))
  shape_of =
      let n = length_pairs (vertices_in b - 1) (drop 9 b) in
      record {
        lines = record { at_least = rw n (omega (arith, least)); at_most = rw n (omega (arith, most)) };
        steps =
            move_here b (omega (arith, long, least)) tags.0
            (lines_steps (vertices_in b - 1) (drop 9 b) tags.1 (length-drop 9 b ∙ omega (arith, long, least)));
      }

pub question_19 : (b : List ℕ) → Decides (q19b b) (Question19 b)
question_19 b = (λ t. record { first = _; others = _; shape = shape_of b t }, λ q. shape_passes q.shape)

-- the coordinates of n vertices are accepted, and these are their units
abbrev Pass : ℕ → List ℕ → List ℕ → Type 0
Pass n b ws = (acceptsb n b ≡ true) × (vertex_units n b ≡ ws)

-- a move or a line more before them
one_more : (n x y : ℕ) (b ws : List ℕ) → Accepted (bits_at b 1) x → Accepted (bits_at b 5) y → Pass n (drop 9 b) ws →
    Pass (suc n) b (x ∷ y ∷ ws)
unfolding acceptsb vertex_units
one_more n x y b ws ax ay p = (
  and_both (and_both (accepted_is _ _ ax) (accepted_is _ _ ay)) p.0,
  let ex = units_is _ _ ax in let ey = units_is _ _ ay in let e = p.1 in rw (ex, ey, e),
)

lines_units : {b : List ℕ} (ps : List Pair) {ws : List ℕ} → Steps b (lines_then_close ps) → Units ps ws → Pass (length ps) b ws
unfolding acceptsb vertex_units
lines_units {b} [] s no_more = (refl, refl)
lines_units {b} (p ∷ ps) (a_line s) (vertex {x} {y} {ws} ax ay u) = one_more (length ps) x y b ws ax ay (lines_units ps s u)

units_of : (n : ℕ) (b : List ℕ) → acceptsb n b ≡ true → Units (pairs_of n b) (vertex_units n b)
unfolding acceptsb vertex_units pairs_of
units_of zero b t = no_more
units_of (suc n) b t =
    let here = and_left (acceptedb (bits_at b 1) && acceptedb (bits_at b 5)) _ t in
    vertex ((coordinate_decides (bits_at b 1)).0 (and_left _ _ here)) ((coordinate_decides (bits_at b 5)).0 (and_right (acceptedb (bits_at b 1)) _ here))
    (units_of n (drop 9 b) (and_right (acceptedb (bits_at b 1) && acceptedb (bits_at b 5)) _ t))

-- what a path gives is what is computed
pub record Computed (b o : List ℕ) : Type 0 where
  pub nineteen : q19b b ≡ true
  pub twenty : q20b b ≡ true
  pub words : path_words b ≡ o
  pub size : length o ≡ 2 * vertices_in b

move_units : {b : List ℕ} (p : Pair) (ps : List Pair) {ws : List ℕ} → Steps b (move p ∷ lines_then_close ps) → Units (p ∷ ps) ws →
    Pass (suc (length ps)) b ws
move_units {b} p ps (a_move s) (vertex {x} {y} {ws} ax ay u) = one_more (length ps) x y b ws ax ay (lines_units ps s u)

length_units : {ps : List Pair} {ws : List ℕ} → Units ps ws → length ws ≡ 2 * length ps
length_units no_more = refl
length_units (vertex ax ay u) = omega (arith, length_units u)

pub computed : {b o : List ℕ} → PathGives b o → Computed b o
unfolding q20b path_words
computed {b} {o} g =
    let v : vertices_in b ≡ suc (length g.others) = shape_vertices g.shape in
    let u = move_units g.first g.others g.shape.steps g.units in
    record {
      nineteen = shape_passes g.shape;
      twenty = rw v u.0;
      words = rw v u.1;
      size = length_units g.units ∙ rw v;
    }

all_units : (b : List ℕ) (m n : ℕ) → n ≡ suc m → acceptsb n b ≡ true → Units (pair (bits_at b 1) (bits_at b 5) ∷ pairs_of m (drop 9 b)) (vertex_units n b)
unfolding pairs_of
all_units b m n e t =
    subst (λ (k : ℕ). Units (pair (bits_at b 1) (bits_at b 5) ∷ pairs_of m (drop 9 b)) (vertex_units k b)) (sym e)
    (units_of (suc m) b (subst (λ (k : ℕ). acceptsb k b ≡ true) e t))

pub path_gives : (b : List ℕ) → q19b b ≡ true → q20b b ≡ true → PathGives b (path_words b)
unfolding q20b path_words
path_gives b t u =
    let v : vertices_in b ≡ suc (vertices_in b - 1) = omega (arith, least b t) in
    record {
      first = pair (bits_at b 1) (bits_at b 5);
      others = pairs_of (vertices_in b - 1) (drop 9 b);
      shape = shape_of b t;
      units = all_units b (vertices_in b - 1) (vertices_in b) v u;
    }

pub question_20 : (b : List ℕ) → q19b b ≡ true → Decides (q20b b) (Question20 b)
question_20 b t = (λ u. record { outline = _; gives = path_gives b t u }, λ q. (computed q.gives).twenty)
