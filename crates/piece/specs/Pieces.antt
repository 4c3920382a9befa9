-- What laying one piece leaves. Assumes nothing.
use Rattle.std.specs.Prelude.{◌≡◌, Bool, List, ℕ, ◌*◌, ◌-◌, ◌≤◌, Result, Ok}
use Rattle.std.proofs.lemmas.List.Edits.{sets}
use Rattle.defs.specs.declared.Refusal.{Refusal}
use Rattle.defs.specs.declared.Position.{Position}
use Rattle.defs.specs.Answer.{fate_words}
use Rattle.defs.specs.Meaning.Placing.{OnStrip}
use Rattle.defs.specs.Computing.Calls.{place_on}
use Rattle.defs.specs.Computing.Lay.{fate_of}
use Rattle.fates.specs.declared.Tally.{Tally}
use Rattle.fates.specs.Fates.{edge_of, tallied}
use Rattle.piece.specs.Boards.{held_by, Turns}

-- the position of a piece that is placed is on the strip
pub record PlaceFits (W R N : ℕ) (o : List ℕ) (a : Result Position Refusal) : Type 0 where
  pub turn : (p : Position) → a ≡ Ok p → p.turn ≤ 3
  pub on_strip : (p : Position) → a ≡ Ok p → OnStrip W R N o p

-- the answer of the current table
abbrev pub answer_by : Bool → (f l h f₂ l₂ h₂ o : List ℕ) → (W R N g Q mask words : ℕ) → Result Position Refusal
answer_by second f l h f₂ l₂ h₂ o W R N g Q mask words = place_on W R N g Q (held_by second f l h f₂ l₂ h₂ N) o mask words

pub record PlacedBy (second : Bool) (f l h f₂ l₂ h₂ f' l' h' f₂' l₂' h₂' o : List ℕ) (W R N g Q mask words : ℕ) (a : Result Position Refusal) : Type 0 where
  pub answer : a ≡ answer_by second f l h f₂ l₂ h₂ o W R N g Q mask words
  pub turns : Turns second f l h f₂ l₂ h₂ f' l' h' f₂' l₂' h₂' o W R N g Q a
  pub fits : PlaceFits W R N o a

-- one piece: its entry in the output, the tally and the tables after it
pub record PieceLaid (f l h f₂ l₂ h₂ f' l' h' f₂' l₂' h₂' out out' o : List ℕ) (W R N g Q mask words : ℕ) (t t' : Tally) : Type 0 where
  pub turns :
      Turns t.second f l h f₂ l₂ h₂ f' l' h' f₂' l₂' h₂' o W R N g Q (answer_by t.second f l h f₂ l₂ h₂ o W R N g Q mask words)
  pub output :
      out' ≡
      sets out (4 * (t.ordinal - 1)) (fate_words (fate_of (answer_by t.second f l h f₂ l₂ h₂ o W R N g Q mask words)))
  pub tally :
      let a = answer_by t.second f l h f₂ l₂ h₂ o W R N g Q mask words in
      t' ≡ tallied t a (edge_of R o a)
