-- With no gap a whole list of calls is as before: each piece that it has put is in order and on the strip, so its cells are the former
-- ones, and each outline that it has placed, shown or refused with 13 has passed 7 to 12, so its positions are.
-- Assumes nothing.
use mathlib.Core.Path.{◌≡◌, sym, ◌∙◌}
use mathlib.Core.Logic.{◌↔◌}
use mathlib.Core.List.{List}
use Prim.Native.Nat.{ℕ, ◌≤◌}
use native.Mathlib.Omega.{arith}
use lib.ListN.{length}
use Rattle.std.specs.Prelude.{Ok}
use Rattle.defs.specs.declared.Position.{Position}
use Rattle.defs.specs.Meaning.Turn.{turned}
use Rattle.defs.specs.Meaning.Placing.{cells_at, Best}
use Rattle.defs.specs.Meaning.Question.{Asked7to12, Question13}
use Rattle.defs.specs.Computing.Calls.{place_answer, ask_answer}
use Rattle.geom.proofs.Checks.{has_side}
use Rattle.geom.proofs.Windows.{no_gap}
use Rattle.tables.proofs.Sets.{Same, best_same, fits_same, same_sym}
use Rattle.claims.specs.Trace.{Calls, Trace, Step, Lies, place_call, ask_call}
use Rattle.claims.specs.Demand3.{Taken}
use Rattle.claims.proofs.Invariant.{kept}
use Rattle.claims.proofs.KeptStrip.{resolution_least}
use Rattle.claims.proofs.Passing.{asked}
use Rattle.claims.proofs.PlaceAnswers.{found_there}
use Rattle.claims.proofs.Whole.{step_of, puts_entry, demand3}
use Rattle.former.specs.Former.{former_cells, FormerFits, FormerBest}
use Rattle.former.specs.List.{FormerTaken, FormerList, NoGap}
use Rattle.former.proofs.Former.{former_cells_lem, former_fits, former_best, former_runs_lem}

module _ {W R N : ℕ} {x : Calls} (t : Trace W R N 0 x) where
  least : 1 ≤ R
  least = resolution_least (kept t 0 (omega arith))

  -- the cells of a piece on the strip before call m
  lying_cells : {m l : ℕ} {o : List ℕ} {p : Position} → m ≤ x.count → Lies x.call m l o p →
      (i j : ℕ) → cells_at W R N 0 o p i j ↔ former_cells R o p i j
  lying_cells {m} {l} {o} {p} h u =
      let e = puts_entry t l o p (omega (arith, u.earlier)) u.puts in
      former_cells_lem W R N o p e.keeps e.side least e.on_strip

  taken : (m : ℕ) → m ≤ x.count → Same (Taken x W R N 0 m) (FormerTaken x R m)
  taken m h i j = (
    λ c.
        record {
          call = c.call;
          outline = c.outline;
          position = c.position;
          lies = c.lies;
          covered = (lying_cells h c.lies i j).0 c.covered;
        },
    λ c.
        record {
          call = c.call;
          outline = c.outline;
          position = c.position;
          lies = c.lies;
          covered = (lying_cells h c.lies i j).1 c.covered;
        },
  )

  -- an outline that has passed 7 to 12 before call m
  module _ (m : ℕ) (h : m ≤ x.count) (o : List ℕ) (mask words : ℕ) (passed : Asked7to12 o mask R 0 words) where
    best_then : (p : Position) → Best W R N 0 (Taken x W R N 0 m) o mask p → FormerBest W R N (FormerTaken x R m) o mask p
    best_then p b =
        (former_best W R N _ o mask passed.q10 (has_side o passed.q7) least p).0 (best_same _ _ (taken m h) W R N 0 o mask p b)

    none_then : ¬ Question13 W R N 0 (Taken x W R N 0 m) o mask → ¬ ((p : Position) × FormerFits W R N (FormerTaken x R m) o mask p)
    unfolding Question13
    none_then none f =
        none (
          f.0,
          fits_same _ _ (same_sym (taken m h)) W R N 0 o mask f.0
              ((former_fits W R N _ o mask passed.q10 (has_side o passed.q7) least f.0).1 f.1),
        )

  -- an outline for which place finds a position, so that an ask shows it, has passed
  best_found : (m : ℕ) (o : List ℕ) (mask words : ℕ) (p : Position) → m ≤ x.count → place_answer (x.strip m) o mask words ≡ Ok p →
      Best W R N 0 (Taken x W R N 0 m) o mask p → FormerBest W R N (FormerTaken x R m) o mask p
  best_found m o mask words p h e =
      best_then m h o mask words (asked o mask R 0 words (found_there (kept t m h) o mask words p e).passes) p

  list_former : FormerList W R N x
  unfolding Step ask_answer
  list_former =
      record {
        taken = λ m i j h. taken m h i j;
        best_place =
            λ m c p h e.
            best_found m c.outline c.mask _ p (omega (arith, h.0)) (sym (step_of t m (place_call c) h.0 h.1).answer ∙ e)
            ((demand3 t).best_place m c p h e);
        best_ask =
            λ m c p h e.
            best_found m c.outline c.mask _ p (omega (arith, h.0))
            (sym (step_of t m (ask_call c) h.0 h.1).answer ∙ e) ((demand3 t).best_ask m c p h e);
        no_position =
            λ m c h e.
            let none = ((demand3 t).no_position m c h).0 e in
            none_then m (omega (arith, h.0)) c.outline c.mask (length c.work) none.0.q7to12 none.1;
      }

pub no_gap_is_former : NoGap
no_gap_is_former =
    record {
      cells = λ o t R. no_gap (turned o t) R;
      runs = former_runs_lem;
      positions = former_best;
      lists = λ W R N x t. list_former t;
    }
