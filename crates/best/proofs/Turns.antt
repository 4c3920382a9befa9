-- One turn: its runs in the work buffer, and what a search with them says of the definition's search.
-- Assumes nothing.
use mathlib.Core.Path.{◌≡◌, refl, sym, ap, subst, ◌∙◌}
use mathlib.Core.Logic.{⊎_elim}
use mathlib.Core.Bool.{Bool, true, false, cond}
use mathlib.Core.List.{List}
use Prim.Native.Nat.{ℕ, ◌+◌, ◌-◌, ◌*◌, ◌/◌, ◌≤◌, ◌<◌}
use native.Mathlib.Omega.{arith}
use lib.ListN.{length, take, drop}
use lib.Seq.{sets, sets-eq, take_at}
use Rattle.std.specs.Prelude.{Option, Some, None}
use Rattle.std.proofs.lemmas.Option.{same_Some, none-some}
use Rattle.ranks.specs.declared.Ranked.{Ranked}
use Rattle.defs.specs.declared.Position.{Position}
use Rattle.defs.specs.Meaning.Outline.{KeepsOrder}
use Rattle.defs.specs.Meaning.Turn.{turned, extent_x, extent_y}
use Rattle.defs.specs.Meaning.Question.{Question10}
use Rattle.defs.specs.Meaning.Placing.{columns_for, right_edge, top}
use Rattle.defs.specs.Computing.Cells.{Rows, piece_runs, allowedb}
use Rattle.defs.specs.Computing.Calls.{runs_words}
use Rattle.defs.specs.Computing.Search.{freeb, drop_n, first_free}
use Rattle.defs.specs.Computing.Walk.{turn_walk, tries_in}
use Rattle.laws.proofs.Questions.{allowed}
use Rattle.laws.proofs.Order.{before_edge, edge_within}
use Rattle.geom.proofs.Strip.{lt_or_le}
use Rattle.geom.proofs.RunWords.{runs_length}
use Rattle.cells.specs.Put.{PutRuns}
use Rattle.outline.specs.declared.Bounds.{Bounds}
use Rattle.outline.specs.Vertex.{Lent, BoundsOf}
use Rattle.tables.specs.Flat.{Laid, table_of}
use Rattle.tables.specs.Piece.{Stands}
use Rattle.laws.proofs.First.{first_at}
use Rattle.tables.proofs.Flats.{table_flat}
use Rattle.tables.proofs.Copies.{NoneBefore, not_free}
use Rattle.walk.specs.declared.WithTries.{WithTries}
use Rattle.walk.specs.Free.{Frame, NoHeight}
use Rattle.walk.proofs.Searches.{frame_of, free_is, found_is}
use Rattle.walk.proofs.Walks.{tries_are}
use Rattle.search.specs.declared.Way.{Way}
use Rattle.search.specs.declared.Way.TheVariants.{Walk as ByWalk, Round}
use Rattle.search.specs.Searched.{FullBefore, SearchedTo, StepsBy, Looks}
use Rattle.best.specs.declared.laid.Board.{Board}
use Rattle.best.specs.Choice.{ranked, FindsTo, TriesAre, Ready, NoneInTurn, OneTurn, Kept}

-- words written at the start are read there
stored_front : (l ws : List ℕ) → length ws ≤ length l → take (length ws) (sets l 0 ws) ≡ ws
stored_front l ws h = ap (take (length ws)) (sets-eq ws l 0 (omega arith)) ∙ take_at ws (drop (0 + length ws) l) (length ws) refl

module _ {o : List ℕ} {t R g : ℕ} {work work' : List ℕ} {k : ℕ} (put : PutRuns o t R g work work' k) where
  -- more runs than the work buffer has room for
  pub too_many : (W N : ℕ) (held : List (List Rows)) (limit : ℕ) (way : Way) → length work' / 3 < k →
      OneTurn W R N g held o t (length work) limit way (record { most = k; best = None; tries = 0; stands = record { turn = t; runs = k } })
  too_many W N held limit way m =
      record {
        most = put.count;
        few = omega arith;
        tries = λ r. absurd (omega (arith, put.long));
        best = λ r. absurd (omega (arith, put.long));
      }

  pub stands : k ≤ length work' / 3 → Stands (piece_runs o t R g) work' k
  stands m =
      let fits : 3 * k ≤ length work = omega (arith, put.long) in
      let words = runs_length 0 (piece_runs o t R g) in
      let same : 3 * k ≡ length (runs_words 0 (piece_runs o t R g)) = omega (arith, words, put.count) in
      record {
        count = put.count;
        long = omega (arith, put.long);
        words = rw (same, put.written fits) (stored_front work (runs_words 0 (piece_runs o t R g)) (omega arith));
      }

  pub put_kept : Kept o R g work' t k
  put_kept = record { stand = λ _ fits. stands (omega (arith, put.count)) }

-- what is found where a test passes
found_where : (b : Bool) {x q : Position} → cond b (Some x) None ≡ Some q → (b ≡ true) × (x ≡ q)
found_where true e = (refl, same_Some _ _ e)
found_where false {q = q} e = absurd (none-some q e)

-- The search with the runs of turn t, whose columns and height were worked out.
module _
    {f l h r : List ℕ}
    {W N n p w wide tall : ℕ}
    (o : List ℕ)
    (t R g : ℕ)
    (Rpos : 1 ≤ R)
    (small : g ≤ 400)
    (laid : Laid f l h W N n)
    (stood : Stands (piece_runs o t R g) r p)
    (across : w ≡ extent_x o t)
    (columns : wide ≡ columns_for w R)
    (up : tall ≡ extent_y o t) where
  wide_is : wide ≡ columns_for (extent_x o t) R
  wide_is = columns ∙ ap (λ (x : ℕ). columns_for x R) across

  pub frame : Frame f l h r N W p wide tall
  frame = rw (wide_is, up) (frame_of o t R g small laid stood)

  -- where no position of the turn with a right edge before `lower` is free, no column from which it ends there has a free height
  pub full_before : (lower : ℕ) → NoneInTurn W R N g (table_of f l h N) o t lower →
      FullBefore f l h r N W p wide tall (columns_for (lower - w) R)
  full_before lower h =
      rw (wide_is, up)
      (record {
        none =
            λ c before fits.
            record {
              none =
                  λ y rows free.
                  let edge = (before_edge R w lower c Rpos).0 before in
                  h.none c y (omega (arith, across, edge)) fits rows ((free_is o t R g small laid stood c y fits).0 free);
            };
      })

  pub spot_fits : {end c y : ℕ} {way : Way} {a : WithTries (Option (ℕ × ℕ))} → W ≤ 16000 → N ≤ 4096 → Looks f l h r N W p wide tall end way a →
      a.found ≡ Some (c, y) → (c ≤ 65535) × (y + tall ≤ 65535)
  spot_fits {end} few many e q =
      let s = subst (SearchedTo f l h r N W p wide tall end) q e.spot in
      (omega (arith, s.fits), omega (arith, s.height.fits))

  -- a position that the definition finds is free, so it is in none of the columns that have no free height
  after_limit : (limit : ℕ) →
      ((c : ℕ) → c < columns_for (limit + 1 - extent_x o t) R → c + columns_for (extent_x o t) R ≤ N → NoHeight f l h r N W p (extent_y o t) c) →
      (q : Position) → first_free W R N g (table_of f l h N) o t ≡ Some q → (limit < right_edge R o q) × (right_edge R o q ≤ N * R)
  unfolding first_free right_edge
  after_limit limit full q e =
      let column = first_at _ 0 _ q e in
      let c = column.at in
      let height = first_at _ 0 _ q column.finds in
      let y = height.at in
      let here = found_where (freeb y (piece_runs o t R g) (drop_n c (table_of f l h N))) height.finds in
      let on_strip : c + columns_for (extent_x o t) R ≤ N = omega (arith, column.below) in
      subst (λ (a : Position). (limit < a.column * R + extent_x o a.turn) × (a.column * R + extent_x o a.turn ≤ N * R)) here.1 (
        ⊎_elim
            (λ u.
            absurd
            ((full c ((before_edge R (extent_x o t) (limit + 1) c Rpos).1 u) on_strip).none y (omega (arith, height.below))
            ((free_is o t R g small laid stood c y on_strip).1 here.0)))
            (λ u. omega arith) (lt_or_le (c * R + extent_x o t) (limit + 1)),
        edge_within R (extent_x o t) Rpos c N on_strip,
      )

  finds : (limit : ℕ) (s : Option (ℕ × ℕ)) →
      SearchedTo f l h r N W p (columns_for (extent_x o t) R) (extent_y o t) (columns_for (limit + 1 - extent_x o t) R) s →
      FindsTo R N o (first_free W R N g (table_of f l h N) o t) limit (ranked s t (extent_x o t) (extent_y o t) R)
  unfolding right_edge top
  finds limit (Some (c, y)) e =
      record { is = sym (found_is o t R g small laid stood e); ranks = record { right = refl; top = refl } }
  finds limit None e = after_limit limit e

  -- the walk counts the tries of the definition's walk
  tries : (way : Way) (n : ℕ) → StepsBy f l h r N W p (columns_for (extent_x o t) R) (extent_y o t) way n →
      TriesAre way n (tries_in (turn_walk W R N g (table_of f l h N) o t))
  tries ByWalk n e = tries_are o t R g small laid stood e
  tries Round n e = tt

  pub turn_tried : (words limit : ℕ) (way : Way) (a : WithTries (Option (ℕ × ℕ))) {c : Option Ranked} →
      Looks f l h r N W p wide tall (columns_for (limit + 1 - w) R) way a → c ≡ ranked a.found t w tall R →
      OneTurn W R N g (table_of f l h N) o t words limit way
      (record { most = p; best = c; tries = a.tries; stands = record { turn = t; runs = p } })
  turn_tried words limit way a e q =
      record {
        most = stood.count;
        few = e.few;
        tries = λ _. tries way a.tries (rw (wide_is, up) at e.steps);
        best = λ _. rw (q, across, up) (finds limit a.found (rw (wide_is, up, across) at e.spot));
      }

-- question 10 says that an allowed turn keeps its order
pub keeps_turn : (o : List ℕ) (mask t : ℕ) {r : Bool} → t ≤ 3 → Question10 o mask → r ≡ allowedb mask t → r ≡ true →
    KeepsOrder (turned o t)
unfolding Question10
keeps_turn o mask t l q e y = q t ((allowed mask t l).0 (sym e ∙ y))

-- in an allowed turn, none with its right edge before `lower` is free
pub none_in_turn : {f l h : List ℕ} {W R N g n : ℕ} (o : List ℕ) (mask t : ℕ) {lower : ℕ} {r : Bool} → Lent o → 1 ≤ R → Laid f l h W N n →
    t ≤ 3 → Question10 o mask → r ≡ allowedb mask t → r ≡ true → NoneBefore W R N g (table_of f l h N) o mask lower →
    NoneInTurn W R N g (table_of f l h N) o t lower
none_in_turn o mask t lent Rpos laid few q e y h =
    record {
      none = not_free h ((allowed mask t few).0 (sym e ∙ y)) (keeps_turn o mask t few q e y) (omega (arith, lent.some)) Rpos (table_flat laid);
    }

-- an outline that passes 7 and 8, on a board
pub ready : (k : Board) {o : List ℕ} {b : Bounds} → Lent o → BoundsOf o b →
    Ready k.first.now k.lows.now k.highs.now o k.figures.width k.figures.resolution k.figures.columns k.gap b
ready k lent bounds =
    record {
      lent = lent;
      bounds = bounds;
      least = k.resolution.0;
      most = k.resolution.1;
      gap = k.limits.0;
      width = k.limits.1;
      columns = k.limits.2;
      count = _;
      table = k.table;
    }
