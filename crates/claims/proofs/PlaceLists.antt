-- Demand 3 of lists of place calls alone, from that of lists of calls.
-- Assumes nothing.
use mathlib.Core.Path.{refl, sym, subst}
use mathlib.Core.List.{List}
use Prim.Native.Nat.{ℕ}
use native.Mathlib.Omega.{arith}
use Rattle.defs.specs.Meaning.Cell.{Cells}
use Rattle.defs.specs.Meaning.Placing.{cells_at, Free}
use Rattle.defs.specs.Meaning.Question.{Question13}
use Rattle.tables.proofs.Sets.{Same, same_sym, best_same, q13_same, q14_same}
use Rattle.claims.specs.Trace.{place_call, Step, Trace, number_in, Puts, Occupied}
use Rattle.claims.specs.Demand3.{StripIs, Demand3, Demand3_holds}
use Rattle.claims.specs.Places.{PlaceCalls, PlaceTrace, as_calls, PlacedCells, PlaceDemand3, PlaceDemand3_holds, Places_follow}
use Rattle.claims.proofs.Whole.{demand3_holds}

strip_same : {W R N g Q : ℕ} {s : List ℕ} (C D : Cells) → Same C D → StripIs W R N g Q s C → StripIs W R N g Q s D
strip_same C D h x =
    record {
      well_formed = x.well_formed;
      width = x.width;
      resolution = x.resolution;
      columns = x.columns;
      gap = x.gap;
      holds = λ i j. (λ a. (h i j).0 ((x.holds i j).0 a), λ d. (x.holds i j).1 ((h i j).1 d));
    }

pub as_trace : {W R N g : ℕ} {x : PlaceCalls} → PlaceTrace W R N g x → Trace W R N g (as_calls x)
unfolding Step
as_trace t = record { open_step = t.open_step; step = t.place_step }

module _ (W R N g : ℕ) (x : PlaceCalls) where
  abbrev Taken : ℕ → Cells
  Taken m = Occupied W R N g (λ l. place_call (x.call l)) m

  abbrev Cells_placed : ℕ → Cells
  Cells_placed m = PlacedCells W R N g x.call m

  -- what the calls have put is what they have placed
  same_cells : (m : ℕ) → Same (Taken m) (Cells_placed m)
  unfolding Puts
  same_cells m i j = (
    λ c.
        record {
          earlier = c.call;
          is_earlier = c.lies.earlier;
          position = c.position;
          places = c.lies.puts.1;
          covered = subst (λ (o : List ℕ). cells_at W R N g o c.position i j) (sym c.lies.puts.0) c.covered;
        },
    λ c.
        record {
          call = c.earlier;
          outline = (x.call c.earlier).outline;
          position = c.position;
          lies = record { earlier = c.is_earlier; puts = (refl, c.places) };
          covered = c.covered;
        },
  )

-- a list of place calls of which demand 3 holds, whoever made it
module _ {W R N g : ℕ} (x : PlaceCalls) (d : Demand3 W R N g (as_calls x)) where
  same : (m : ℕ) → Same (Taken W R N g x m) (Cells_placed W R N g x m)
  same = same_cells W R N g x

  pub place_demand3 : PlaceDemand3 W R N g x
  unfolding Puts Free number_in Question13
  place_demand3 =
      record {
        Q = d.Q;
        opened_with = d.opened_with;
        no_point_in_two =
            λ l m p q a b e lm h el em.
            d.no_point_in_two x.count l m (x.call l).outline (x.call m).outline p q a b e (omega arith) lm
            (record { earlier = omega arith; puts = (refl, el) }) (record { earlier = h; puts = (refl, em) });
        points_apart =
            λ l m p q a b e a' b' e' lm h el em.
            d.points_apart x.count l m (x.call l).outline (x.call m).outline p q a b e a' b' e' (omega arith) lm
            (record { earlier = omega arith; puts = (refl, el) }) (record { earlier = h; puts = (refl, em) });
        on_strip = λ m p h e. d.on_strip m (x.call m).outline p h (refl, e);
        free = λ m p h e i j c t. d.free m (x.call m).outline p h (refl, e) i j c ((same m i j).1 t);
        best = λ m p h e. best_same _ _ (same m) W R N g _ _ p (d.best_place m (x.call m) p (h, refl) e);
        no_position =
            λ m h.
            let n = d.no_position m (x.call m) (h, refl) in (
              λ e. let r = n.0 e in (r.0, λ q. r.1 (q13_same _ _ (same_sym (same m)) W R N g _ _ q)),
              λ a. n.1 (a.0, λ q. a.1 (q13_same _ _ (same m) W R N g _ _ q)),
            );
        never_5 = λ m h. d.never_5 m h;
        places_it =
            λ m h a f room.
            d.places_it m (x.call m) (h, refl) a (q13_same _ _ (same_sym (same m)) W R N g _ _ f)
            (λ p b. q14_same _ _ (same_sym (same m)) W R N g _ _ p (room p (best_same _ _ (same m) W R N g _ _ p b)));
        strip_is = λ m h. strip_same _ _ (same m) (d.strip_is m h);
      }

pub places_follow : Places_follow
unfolding Places_follow
places_follow W R N g x d = place_demand3 x d

pub place_demand3_holds : PlaceDemand3_holds
unfolding PlaceDemand3_holds Demand3_holds
place_demand3_holds W R N g x t = place_demand3 x (demand3_holds W R N g (as_calls x) (as_trace t))
