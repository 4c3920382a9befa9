-- The tables that take turns: what place asks of them, and what its answer leaves. Assumes nothing.
use mathlib.Core.Path.{◌≡◌, refl, ap, subst, ◌∙◌}
use mathlib.Core.Bool.{true, false}
use mathlib.Core.List.{List}
use Prim.Native.Nat.{ℕ, ◌*◌, ◌-◌}
use native.Mathlib.Omega.{arith}
use lib.ListN.{length}
use lib.Seq.{sets}
use Rattle.std.specs.Prelude.{Result, Ok, Err}
use Rattle.defs.specs.declared.Position.{Position}
use Rattle.defs.specs.declared.Refusal.{Refusal}
use Rattle.defs.specs.declared.Fate.{Fate}
use Rattle.defs.specs.Answer.{fate_words}
use Rattle.defs.specs.Computing.Lay.{fate_of, held_after}
use Rattle.laws.proofs.Granted.{no_grant, same_grant}
use Rattle.position.specs.Table.{Tabled, NextIf, PlacedOn}
use Rattle.fates.specs.declared.Tally.{Tally}
use Rattle.fates.specs.Fates.{edge_of, tallied}
use Rattle.piece.specs.Boards.{Roomy, Boards, Turns}
use Rattle.piece.specs.Pieces.{PlaceFits, PlacedBy, PieceLaid}

module _ {f l h f₂ l₂ h₂ : List ℕ} {W R N g Q : ℕ} where
  pub tabled : Boards false f l h f₂ l₂ h₂ W R N g Q → Tabled f l h f₂ l₂ h₂ W R N g Q
  tabled x =
      record {
        limits = x.limits;
        gap = x.gap;
        records = x.records;
        count = x.current.count;
        table = x.current.laid;
        firsts = x.room₂.firsts;
        lows = x.room₂.lows;
        highs = x.room₂.highs;
      }

  -- the tables, the other one named first
  pub swapped : Boards true f l h f₂ l₂ h₂ W R N g Q → Boards false f₂ l₂ h₂ f l h W R N g Q
  swapped x = record { limits = x.limits; gap = x.gap; records = x.records; room = x.room₂; room₂ = x.room; current = x.current }

  pub swapped_back : Boards false f₂ l₂ h₂ f l h W R N g Q → Boards true f l h f₂ l₂ h₂ W R N g Q
  swapped_back x = record { limits = x.limits; gap = x.gap; records = x.records; room = x.room₂; room₂ = x.room; current = x.current }

-- the answer of place on the first table: a piece that is placed makes the other table current
module _ (f l h f₂ l₂ h₂ f₂' l₂' h₂' o : List ℕ) (W R N g Q : ℕ) where
  next_fits : (a : Result Position Refusal) → NextIf f l h f₂' l₂' h₂' o W R N g Q a → PlaceFits W R N o a
  next_fits (Ok p) n =
      record {
        turn = λ q e. rw (same_grant e) at n.turn;
        on_strip = λ q e. rw (same_grant e) at n.on_strip;
      }
  next_fits (Err r) n = record { turn = λ q e. absurd (no_grant e); on_strip = λ q e. absurd (no_grant e) }

  next_turns : (a : Result Position Refusal) → Boards false f l h f₂ l₂ h₂ W R N g Q → Roomy f₂' l₂' h₂' →
      NextIf f l h f₂' l₂' h₂' o W R N g Q a → Turns false f l h f₂ l₂ h₂ f l h f₂' l₂' h₂' o W R N g Q a
  unfolding held_after
  next_turns (Ok p) x r n =
      record {
        boards =
            record {
              limits = x.limits;
              gap = x.gap;
              records = x.records;
              room = x.room;
              room₂ = r;
              current = record { count = n.count; laid = n.laid; few = n.few };
            };
        held = n.is;
      }
  next_turns (Err q) x r n =
      record {
        boards = record { limits = x.limits; gap = x.gap; records = x.records; room = x.room; room₂ = r; current = x.current };
        held = refl;
      }

pub placed_first : {f l h f₂ l₂ h₂ f₂' l₂' h₂' o : List ℕ} {W R N g Q mask words : ℕ} {a : Result Position Refusal} → Boards false f l h f₂ l₂ h₂ W R N g Q →
    Roomy f₂' l₂' h₂' → PlacedOn f l h f₂' l₂' h₂' o W R N g Q mask words a →
    PlacedBy false f l h f₂ l₂ h₂ f l h f₂' l₂' h₂' o W R N g Q mask words a
placed_first {f} {l} {h} {f₂} {l₂} {h₂} {f₂'} {l₂'} {h₂'} {o} {W} {R} {N} {g} {Q} {a = a} x r on =
    record {
      answer = on.answer;
      turns = next_turns f l h f₂ l₂ h₂ f₂' l₂' h₂' o W R N g Q a x r on.next;
      fits = next_fits f l h f₂ l₂ h₂ f₂' l₂' h₂' o W R N g Q a on.next;
    }

-- on the second table, by the first
swapped_turns : {f l h f₂ l₂ h₂ f' l' h' f₂' l₂' h₂' o : List ℕ} {W R N g Q : ℕ} (a : Result Position Refusal) →
    Turns false f₂ l₂ h₂ f l h f₂' l₂' h₂' f' l' h' o W R N g Q a → Turns true f l h f₂ l₂ h₂ f' l' h' f₂' l₂' h₂' o W R N g Q a
swapped_turns (Ok p) t = record { boards = swapped t.boards; held = t.held }
swapped_turns (Err r) t = record { boards = swapped_back t.boards; held = t.held }

pub placed_second : {f l h f₂ l₂ h₂ f' l' h' o : List ℕ} {W R N g Q mask words : ℕ} {a : Result Position Refusal} → Boards true f l h f₂ l₂ h₂ W R N g Q →
    Roomy f' l' h' → PlacedOn f₂ l₂ h₂ f' l' h' o W R N g Q mask words a → PlacedBy true f l h f₂ l₂ h₂ f' l' h' f₂ l₂ h₂ o W R N g Q mask words a
placed_second {a = a} x r on =
    let p = placed_first (swapped x) r on in
    record { answer = p.answer; turns = swapped_turns a p.turns; fits = p.fits }

-- arrays that keep their lengths keep their room
pub roomy : {f l h f' l' h' : List ℕ} → Roomy f l h → length f' ≡ length f → length l' ≡ length l → length h' ≡ length h → Roomy f' l' h'
roomy r a b c =
    record { firsts = omega (arith, r.firsts, a); lows = omega (arith, r.lows, b); highs = omega (arith, r.highs, c) }

-- one piece, by what its parts gave
module _
    {f l h f₂ l₂ h₂ f' l' h' f₂' l₂' h₂' out out' o : List ℕ}
    {W R N g Q mask words : ℕ}
    {t t' : Tally}
    {a : Result Position Refusal}
    {e : ℕ}
    {fate : Fate}
    (x : PlacedBy t.second f l h f₂ l₂ h₂ f' l' h' f₂' l₂' h₂' o W R N g Q mask words a) where
  pub piece_laid : fate ≡ fate_of a → out' ≡ sets out (4 * (t.ordinal - 1)) (fate_words fate) → e ≡ edge_of R o a → t' ≡ tallied t a e →
      PieceLaid f l h f₂ l₂ h₂ f' l' h' f₂' l₂' h₂' out out' o W R N g Q mask words t t'
  piece_laid ef eo ee et =
      record {
        turns = subst (Turns t.second f l h f₂ l₂ h₂ f' l' h' f₂' l₂' h₂' o W R N g Q) x.answer x.turns;
        output = eo ∙ ap (λ (f : Fate). sets out (4 * (t.ordinal - 1)) (fate_words f)) (ef ∙ ap fate_of x.answer);
        tally = et ∙ ap (tallied t a) ee ∙ ap (λ (b : Result Position Refusal). tallied t b (edge_of R o b)) x.answer;
      }
