-- "Only record numbers and free-chain order are the program's choice: say so, and what every choice has in common." Any two strips that
-- one and the same granted call may leave differ only in how the records are numbered. Assumes nothing.
use Rattle.std.specs.Prelude.{◌≡◌, List, ℕ, ◌≤◌, length, Ok}
use Rattle.defs.specs.declared.Position.{Position}
use Rattle.defs.specs.declared.Totals.{Totals}
use Rattle.defs.specs.Meaning.Limits.{Between}
use Rattle.defs.specs.Meaning.Strip.{Length, width_of, resolution_of, columns_of, gap_of, first_of, column_of, low_of, high_of, next_of}
use Rattle.defs.specs.Meaning.Sheet.{sheet_n}
use Rattle.defs.specs.Computing.Calls.{OpenStep, PlaceStep, CommitStep}
use Rattle.defs.specs.Computing.Lay.{LayStep}

-- s' is s with its records 1 to Q numbered anew, record r as `to r`: each word of s' is told by s and the numbering.
pub record Renumbered (Q : ℕ) (s s' : List ℕ) : Type 0 where
  pub long : length s' ≡ length s
  pub width : width_of s' ≡ width_of s
  pub resolution : resolution_of s' ≡ resolution_of s
  pub columns : columns_of s' ≡ columns_of s
  pub gap : gap_of s' ≡ gap_of s
  -- one to one on 1 to Q; 0, which ends a chain, stays
  pub to : ℕ → ℕ
  pub back : ℕ → ℕ
  pub there_and_back : (r : ℕ) → Between 1 r Q → Between 1 (to r) Q × (back (to r) ≡ r)
  pub back_and_there : (r : ℕ) → Between 1 r Q → Between 1 (back r) Q × (to (back r) ≡ r)
  pub zero_stays : to 0 ≡ 0
  -- the first record of each column and, at k = N, of the free chain
  pub first : (k : ℕ) → k ≤ columns_of s → first_of s' k ≡ to (first_of s k)
  -- the four words of each record
  pub column : (r : ℕ) → Between 1 r Q → column_of s' (to r) ≡ column_of s r
  pub low : (r : ℕ) → Between 1 r Q → low_of s' (to r) ≡ low_of s r
  pub high : (r : ℕ) → Between 1 r Q → high_of s' (to r) ≡ high_of s r
  pub next : (r : ℕ) → Between 1 r Q → next_of s' (to r) ≡ to (next_of s r)

pub record OnlyNumbersOpen : Type 0 where
  pub open_leaves :
      {W R N g Q : ℕ} {s s₁ s₂ : List ℕ} → Length N Q (length s) → OpenStep W R N g s (Ok tt) s₁ → OpenStep W R N g s (Ok tt) s₂ →
      Renumbered Q s₁ s₂
  pub place_leaves :
      {Q : ℕ} {s o : List ℕ} {mask : ℕ} {work : List ℕ} {p : Position} {n₁ n₂ : ℕ} {s₁ work₁ s₂ work₂ : List ℕ} →
      Length (columns_of s) Q (length s) → PlaceStep s o mask work (Ok p) n₁ s₁ work₁ →
      PlaceStep s o mask work (Ok p) n₂ s₂ work₂ → Renumbered Q s₁ s₂
  pub commit_leaves :
      {Q : ℕ} {s o : List ℕ} {p : Position} {work s₁ work₁ s₂ work₂ : List ℕ} → Length (columns_of s) Q (length s) →
      CommitStep s o p work (Ok tt) s₁ work₁ → CommitStep s o p work (Ok tt) s₂ work₂ → Renumbered Q s₁ s₂
  pub lay_leaves :
      {g Q : ℕ} {b s out work : List ℕ} {t : Totals} {s₁ out₁ work₁ s₂ out₂ work₂ : List ℕ} → Length (sheet_n b) Q (length s) →
      LayStep b g s out work (Ok t) s₁ out₁ work₁ → LayStep b g s out work (Ok t) s₂ out₂ work₂ → Renumbered Q s₁ s₂

-- And each numbering will do: what a call may leave, numbered anew, it may leave as well.
pub record AnyNumbers : Type 0 where
  pub open_may :
      {W R N g Q : ℕ} {s s₁ s₂ : List ℕ} → Length N Q (length s) → OpenStep W R N g s (Ok tt) s₁ → Renumbered Q s₁ s₂ →
      OpenStep W R N g s (Ok tt) s₂
  pub place_may :
      {Q : ℕ} {s o : List ℕ} {mask : ℕ} {work : List ℕ} {p : Position} {n : ℕ} {s₁ s₂ work' : List ℕ} →
      Length (columns_of s) Q (length s) → PlaceStep s o mask work (Ok p) n s₁ work' → Renumbered Q s₁ s₂ →
      PlaceStep s o mask work (Ok p) n s₂ work'
  pub commit_may :
      {Q : ℕ} {s o : List ℕ} {p : Position} {work s₁ s₂ work' : List ℕ} → Length (columns_of s) Q (length s) →
      CommitStep s o p work (Ok tt) s₁ work' → Renumbered Q s₁ s₂ → CommitStep s o p work (Ok tt) s₂ work'
  pub lay_may :
      {g Q : ℕ} {b s out work : List ℕ} {t : Totals} {s₁ s₂ out' work' : List ℕ} → Length (sheet_n b) Q (length s) →
      LayStep b g s out work (Ok t) s₁ out' work' → Renumbered Q s₁ s₂ → LayStep b g s out work (Ok t) s₂ out' work'
