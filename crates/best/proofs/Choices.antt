-- Choices by rank are the choices of the definitions.
-- Assumes nothing.
use mathlib.Core.Path.{◌≡◌, refl, sym, ap, ap₂, subst, ◌∙◌}
use mathlib.Core.Bool.{Bool, true, false, cond}
use mathlib.Core.List.{List}
use Prim.Native.Nat.{ℕ, suc, ◌+◌, ◌*◌, ◌≤◌, ◌<◌, max}
use native.Mathlib.Omega.{arith}
use native.Mathlib.Nat.{mul-le-mul}
use borrow.Author.Tests.{ne_eqb, le-ltb}
use Rattle.std.specs.Prelude.{Option, Some, None}
use Rattle.defs.specs.declared.Position.{Position}
use Rattle.defs.specs.Meaning.Placing.{right_edge}
use Rattle.defs.specs.Computing.Cells.{Rows, piece_runs, count_runs, allowedb, most_runs}
use Rattle.defs.specs.Computing.Search.{first_free, beats, better, best_below}
use Rattle.defs.specs.Computing.Walk.{turn_walk, tries_in, tries_below}
use Rattle.ranks.specs.Ranks.{beats_by, better_by, merged, limit_of}
use Rattle.search.specs.declared.Way.{Way}
use Rattle.search.specs.declared.Way.TheVariants.{Walk as ByWalk, Round}
use Rattle.best.specs.Choice.{place_of, RankOf, Ranks, Finds, FindsTo, TriesAre, OneTurn, TurnsTo, Kept}
use Rattle.ranks.specs.declared.Ranked.{Ranked}
use Rattle.ranks.specs.declared.Tried.{Tried}

module _ (R : ℕ) (o : List ℕ) where
  beats_rank : (q p : Ranked) → RankOf R o q → RankOf R o p → beats_by q p ≡ beats R o q.at p.at
  unfolding beats
  beats_rank q p f g = rw (f.right, f.top, g.right, g.top) refl

  -- the better of two choices is the definition's
  better_place : (a b : Option Ranked) → Ranks R o a → Ranks R o b → place_of (better_by a b) ≡ better R o (place_of a) (place_of b)
  unfolding better
  better_place None None f g = refl
  better_place (Some p) None f g = refl
  better_place None (Some q) f g = refl
  better_place (Some p) (Some q) f g = rw (sym (beats_rank q p g f)) (go (beats_by q p))
    where
      go : (b : Bool) → place_of (cond b (Some q) (Some p)) ≡ cond b (Some q.at) (Some p.at)
      go true = refl
      go false = refl

  better_ranks : (a b : Option Ranked) → Ranks R o a → Ranks R o b → Ranks R o (better_by a b)
  better_ranks None None f g = f
  better_ranks (Some p) None f g = f
  better_ranks None (Some q) f g = g
  better_ranks (Some p) (Some q) f g = go (beats_by q p)
    where
      go : (b : Bool) → Ranks R o (cond b (Some q) (Some p))
      go true = g
      go false = f

  better_finds : {x y : Option Position} {a b : Option Ranked} → Finds R o x a → Finds R o y b → Finds R o (better R o x y) (better_by a b)
  better_finds {a = a} {b = b} f g =
      record {
        is = better_place a b f.ranks g.ranks ∙ ap₂ (better R o) f.is g.is;
        ranks = better_ranks a b f.ranks g.ranks;
      }

  -- a position with a greater right edge does not beat another
  later_loses : (q p : Position) → right_edge R o p < right_edge R o q → beats R o q p ≡ false
  unfolding beats
  later_loses q p l = rw (le-ltb (right_edge R o q) (right_edge R o p) (omega arith), ne_eqb (right_edge R o q) (right_edge R o p) (λ e. omega arith)) refl

  -- and so a search that is stopped at the right edge of the best so far is as good as a whole one
  better_to : (N : ℕ) → N * R ≤ 4294967295 → {x : Option Position} (y : Option Position) {a : Option Ranked} (b : Option Ranked) → Finds R o x a →
      FindsTo R N o y (limit_of a) b → Finds R o (better R o x y) (better_by a b)
  unfolding better
  better_to N fits y (Some q) f g = better_finds f g
  better_to N fits y {a} None f g =
      record { is = go a y f.ranks g ∙ ap (λ (z : Option Position). better R o z y) f.is; ranks = f.ranks }
    where
      go : (a : Option Ranked) (y : Option Position) → Ranks R o a → FindsTo R N o y (limit_of a) None →
          place_of a ≡ better R o (place_of a) y
      go None None k h = refl
      go None (Some q) k h = absurd (omega (arith, (h q refl).0, (h q refl).1))
      go (Some p) None k h = refl
      go (Some p) (Some q) k h =
          ap (λ (b : Bool). cond b (Some q) (Some p.at))
          (sym (later_loses q p.at (omega (arith, k.right, (h q refl).0))))

pub all_turns : {W R N g : ℕ} {held : List (List Rows)} {o : List ℕ} {mask t words : ℕ} {way : Way} {s : Tried} → t ≤ 4 → 4 ≤ t →
    TurnsTo W R N g held o mask t words way s → TurnsTo W R N g held o mask 4 words way s
all_turns {t = t} a b h = let e : t ≡ 4 = omega arith in rw e at h

-- no runs were put yet
pub none_kept : (o : List ℕ) (R g : ℕ) (work : List ℕ) → Kept o R g work 4 0
none_kept o R g work = record { stand = λ few. absurd (omega arith) }

-- The turns below 0, and one turn more.
pub no_turns : (W R N g : ℕ) (held : List (List Rows)) (o : List ℕ) (mask words : ℕ) (way : Way) →
    TurnsTo W R N g held o mask 0 words way (record { most = 0; best = None; tries = 0; stands = record { turn = 4; runs = 0 } })
unfolding most_runs best_below tries_below
no_turns W R N g held o mask words ByWalk =
    record { most = refl; few = omega arith; tries = λ h. refl; best = λ h. record { is = refl; ranks = tt } }
no_turns W R N g held o mask words Round =
    record { most = refl; few = omega arith; tries = λ h. tt; best = λ h. record { is = refl; ranks = tt } }

-- the tries of one turn more
tries_more : (way : Way) (a b m n : ℕ) → TriesAre way a m → TriesAre way b n → TriesAre way (a + b) (m + n)
tries_more ByWalk a b m n e f = ap₂ ◌+◌ e f
tries_more Round a b m n e f = tt

pub tries_same : (way : Way) (a m n : ℕ) → m ≡ n → TriesAre way a m → TriesAre way a n
tries_same ByWalk a m n q e = e ∙ q
tries_same Round a m n q e = tt

module _ {W R N g : ℕ} {held : List (List Rows)} {o : List ℕ} {mask t words : ℕ} (way : Way) {s : Tried} (so_far : TurnsTo W R N g held o mask t words way s) where
  -- the tries counted so far, by whether turn t is allowed
  abbrev tries_to : Bool → ℕ
  tries_to b = tries_below W R N g held o mask t + cond b (tries_in (turn_walk W R N g held o t)) 0

  pub turn_more : {x : Tried} {limit : ℕ} → N ≤ 4096 → R ≤ 400 → allowedb mask t ≡ true → limit ≡ limit_of s.best → OneTurn W R N g held o t words limit way x →
      TurnsTo W R N g held o mask (t + 1) words way (merged s x)
  unfolding most_runs best_below tries_below
  turn_more {x} {limit} many fine e stop one = let n : t + 1 ≡ suc t = omega arith in rw n (go e)
    where
      go : allowedb mask t ≡ true → TurnsTo W R N g held o mask (suc t) words way (merged s x)
      go e =
          record {
            most = ap₂ max so_far.most one.most ∙ ap (λ (b : Bool). max (most_runs o mask R g t) (cond b (count_runs (piece_runs o t R g)) 0)) (sym e);
            few = omega (arith, so_far.few, one.few);
            tries =
                λ h.
                tries_same way _ _ _ (ap tries_to (sym e)) (tries_more way _ _ _ _ (so_far.tries (omega arith)) (one.tries (omega arith)));
            best =
                λ h.
                subst (λ (b : Bool). Finds R o (better R o (best_below W R N g held o mask t) (cond b (first_free W R N g held o t) None)) (better_by s.best x.best))
                (sym e) (better_to R o N (omega (arith, mul-le-mul many fine)) _ x.best (so_far.best (omega arith)) (rw stop at (one.best (omega arith))));
          }

  better_none : (x : Option Position) → better R o x None ≡ x
  unfolding better
  better_none None = refl
  better_none (Some p) = refl

  keep : (n : ℕ) → n ≡ max n 0
  keep n = omega arith

  none_more : (n : ℕ) → n ≡ n + 0
  none_more n = omega arith

  pub turn_skipped : allowedb mask t ≡ false → TurnsTo W R N g held o mask (t + 1) words way s
  unfolding most_runs best_below tries_below
  turn_skipped e = let n : t + 1 ≡ suc t = omega arith in rw n (go e)
    where
      go : allowedb mask t ≡ false → TurnsTo W R N g held o mask (suc t) words way s
      go e =
          record {
            most =
                so_far.most ∙ keep (most_runs o mask R g t) ∙
                ap (λ (b : Bool). max (most_runs o mask R g t) (cond b (count_runs (piece_runs o t R g)) 0)) (sym e);
            few = omega (arith, so_far.few);
            tries = λ h. tries_same way _ _ _ (none_more (tries_below W R N g held o mask t) ∙ ap tries_to (sym e)) (so_far.tries h);
            best =
                λ h.
                subst (λ (x : Option Position). Finds R o x s.best)
                (sym (better_none (best_below W R N g held o mask t)) ∙
                ap (λ (b : Bool). better R o (best_below W R N g held o mask t) (cond b (first_free W R N g held o t) None)) (sym e))
                (so_far.best h);
          }
