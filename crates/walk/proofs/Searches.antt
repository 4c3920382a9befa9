-- What the walk answers is what the definition of the search computes: over a table laid flat and a piece's runs in words, a position is
-- free exactly when its test passes, and the walk's position is the first that passes, by column then height.
-- Assumes nothing.
use mathlib.Core.Path.{◌≡◌, refl, sym, ap, subst}
use mathlib.Core.Logic.Iff
use mathlib.Core.Logic.{◌↔◌}
use mathlib.Core.Bool.{Bool, true, cond}
use mathlib.Core.List.{List, []}
use Prim.Native.Nat.{ℕ, ◌+◌, ◌-◌, ◌≤◌, ◌<◌}
use native.Mathlib.Omega.{arith}
use lib.ListN.{get_or}
use borrow.Author.Tests.{not-true}
use Rattle.std.specs.Prelude.{Option, Some, None}
use Rattle.defs.specs.declared.Position.{Position}
use Rattle.defs.specs.Meaning.Turn.{extent_x, extent_y}
use Rattle.defs.specs.Meaning.Placing.{columns_for}
use Rattle.defs.specs.Computing.Test.{first_from}
use Rattle.defs.specs.Computing.Cells.{Rows, piece_runs}
use Rattle.defs.specs.Computing.Search.{freeb, drop_n, position, first_free}
use Rattle.geom.proofs.Stretches.{Valid, among_of, of_among}
use Rattle.geom.proofs.PieceCells.{runs_apart, runs_valid}
use Rattle.laws.proofs.Tests.{not_decides, decides_by}
use Rattle.tables.specs.Flat.{table_of, Laid}
use Rattle.tables.specs.Piece.{run_column, Stands}
use Rattle.tables.proofs.Flats.{in_flat, in_columns, table_flat}
use Rattle.tables.proofs.PieceWords.{piece_rows, piece_runs_lem}
use Rattle.tables.proofs.FreeTest.{Shares, test_by_column, drop_n_at}
use Rattle.laws.proofs.First.{first_of, none_of}
use Rattle.walk.specs.Free.{Frame, FreeTo, NoHeight, Searched}

module _ {f l h r : List ℕ} {W N n p : ℕ} (o : List ℕ) (t R g : ℕ) (small : g ≤ 400) (laid : Laid f l h W N n) (stands : Stands (piece_runs o t R g) r p) where
  abbrev wide : ℕ
  wide = columns_for (extent_x o t) R

  abbrev tall : ℕ
  tall = extent_y o t

  pub frame_of : Frame f l h r N W p wide tall
  frame_of =
      let piece = piece_runs_lem o t R g r p stands in
      record {
        table = rw laid.flat.last laid;
        columns = record { long = piece.long; order = piece.order };
        some = piece.some;
        tall = λ k u. omega (arith, piece.tall k u);
      }

  abbrev held : List (List Rows)
  held = table_of f l h N

  abbrev test : ℕ → ℕ → Bool
  test c y = freeb y (piece_runs o t R g) (drop_n c held)

  -- a row that the piece's column i shares with column c + i at height y
  abbrev Shared : ℕ → ℕ → ℕ → Type 0
  Shared c y i = Shares y (get_or (piece_runs o t R g) i []) (get_or (drop_n c held) i [])

  free_apart : (c y : ℕ) → FreeTo f l h r N c y p → (i : ℕ) → ¬ Shared c y i
  free_apart c y free i s =
      let run = (piece_rows stands (runs_apart o t R g) i s.0).0 (of_among _ s.0 s.1) in
      let taken = of_among _ (s.0 + y) (rw drop_n_at at s.2) in
      let e : s.0 + y ≡ y + s.0 = omega arith in
      let here : c + run_column r run.which < N = rw run.column (in_columns f l h (c + i) (s.0 + y) taken) in
      free.clear run.which run.to here s.0 run.low run.high
      (rw (run.column, sym e) ((in_flat laid.flat (in_columns f l h (c + i) (s.0 + y) taken) (s.0 + y)).1 taken))

  apart_free : (c y : ℕ) → ((i : ℕ) → ¬ Shared c y i) → FreeTo f l h r N c y p
  apart_free c y apart =
      record {
        clear =
            λ m l here j low high taken.
            let own =
            (piece_rows stands (runs_apart o t R g) (run_column r m) j).1
            (record { which = m; from = omega arith; to = l; column = refl; low = low; high = high }) in
            let e : j + y ≡ y + j = omega arith in
            apart (run_column r m)
            (j, among_of _ j own, rw (drop_n_at, e) (among_of _ (y + j) ((in_flat laid.flat here (y + j)).0 taken)));
      }

  -- a position is free exactly when its test passes
  pub free_is : (c y : ℕ) → c + wide ≤ N → FreeTo f l h r N c y p ↔ (test c y ≡ true)
  free_is c y fits =
      Iff.symm
      (decides_by (apart_free c y) (free_apart c y)
      (test_by_column y (piece_runs o t R g) (drop_n c held) (runs_valid o t R g)
      (λ i. subst Valid (sym (drop_n_at c held i)) ((table_flat laid).valid (c + i)))))

  abbrev at_height_lem : ℕ → ℕ → Option Position
  at_height_lem c y = cond (test c y) (Some (position t c y)) None

  found_at : (c y : ℕ) → c + wide ≤ N → FreeTo f l h r N c y p → at_height_lem c y ≡ Some (position t c y)
  found_at c y fits free = rw ((free_is c y fits).0 free)

  none_at : (c y : ℕ) → c + wide ≤ N → ¬ FreeTo f l h r N c y p → at_height_lem c y ≡ None
  none_at c y fits taken =
      ap (λ (b : Bool). cond b (Some (position t c y)) None) (not-true (test c y) ((not_decides (Iff.symm (free_is c y fits))).1 taken))

  none_in : (c : ℕ) → c + wide ≤ N → NoHeight f l h r N W p tall c → first_from (at_height_lem c) 0 (W + 1 - tall) ≡ None
  none_in c fits no-height = none_of (at_height_lem c) 0 _ (λ y a b. none_at c y fits (no-height.none y (omega arith)))

  pub found_is : {c y : ℕ} → Searched f l h r N W p wide tall (Some (c, y)) →
      first_free W R N g held o t ≡ Some (position t c y)
  unfolding first_free
  found_is {c} {y} spot =
      first_of (λ c. first_from (at_height_lem c) 0 (W + 1 - tall)) 0 _ (position t c y)
      (record {
        at = c;
        from = omega arith;
        below = omega (arith, spot.fits);
        finds =
            first_of (at_height_lem c) 0 _ (position t c y)
            (record {
              at = y;
              from = omega arith;
              below = omega (arith, spot.height.fits);
              finds = found_at c y spot.fits spot.height.free;
              before = λ z a b. none_at c z spot.fits (spot.height.least z b);
            });
        before = λ b a u. none_in b (omega (arith, spot.fits)) (spot.least b u);
      })

  pub none_is : Searched f l h r N W p wide tall None → first_free W R N g held o t ≡ None
  unfolding first_free
  none_is no-spot = none_of _ 0 _ (λ c a u. none_in c (omega arith) (no-spot c (omega arith)))
