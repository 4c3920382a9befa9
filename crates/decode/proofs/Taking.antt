-- Runs copied while a chain is walked.
-- Assumes nothing.
use mathlib.Core.Path.{◌≡◌, refl, ◌∙◌}
use mathlib.Core.Logic.{◌≢◌}
use mathlib.Core.List.{List}
use Prim.Native.Nat.{ℕ, ◌+◌, ◌≤◌, ◌<◌}
use native.Mathlib.Omega.{arith}
use native.Mathlib.Decide.{dec_lt}
use lib.ListN.{get_or, set, length, length-set}
use lib.Seq.{get_or-set_same, get_or-set_other}
use Rattle.defs.specs.Meaning.Strip.{columns_of, low_of, next_of}
use Rattle.tables.specs.Flat.{row_at}
use Rattle.chains.specs.Form.{rec_at}
use Rattle.striprecords.specs.declared.Shape.{Shape}
use Rattle.striprecords.specs.Free.{Sized}
use Rattle.chains.specs.Answers.{RunTo, NoChain}
use Rattle.chains.proofs.Walks.{OnColumn, walk_inside, column_start, column_next, column_end}
use Rattle.decode.specs.Takes.{run_at, Room, Copied, Taken}

-- k runs of column c are taken, the next record is `at`, and its run may begin at row m
pub record Taking (s l₀ h₀ l h : List ℕ) (Q c t k at m : ℕ) : Type 0 where
  pub on : OnColumn s Q c k at m
  pub copied : Copied s l₀ h₀ l h c t k
  pub room : t + k ≤ Q

pub taking_start : {s : List ℕ} {g : Shape} {Q c t at : ℕ} (l h : List ℕ) → Sized s g → c < g.columns → t ≤ Q →
    at ≡ get_or s (5 + c) 0 → Taking s l h l h Q c t 0 at 0
taking_start l h z n q e =
    record {
      on = column_start z n e;
      copied = record { lows = refl; highs = refl; before = λ x m. refl; here = λ i m. absurd (omega arith) };
      room = omega arith;
    }

module _ {s l₀ h₀ l h : List ℕ} {Q c t k at m : ℕ} (w : Taking s l₀ h₀ l h Q c t k at m) where
  -- no room is left, though the chain goes on: there is no such chain
  pub no_room : 0 < at → Room s Q c t → Q ≤ t + k → NoChain s Q c
  no_room p r q = record { none = λ n d. omega (arith, walk_inside w.on.walked d p, r.fits n d) }

  pub taking_next : {e v u : ℕ} → 0 < at → t + k < Q → Q ≤ length l₀ → Q ≤ length h₀ → RunTo s Q c m at u →
      v ≡ low_of s at → e ≡ next_of s at →
      Taking s l₀ h₀ (set l (t + k) v) (set h (t + k) u) Q c t (k + 1) e (u + 1)
  taking_next {e} {v} {u} p q a b f low next =
      record {
        on = column_next w.on p f next;
        copied =
            record {
              lows = simp length-set w.copied.lows;
              highs = simp length-set w.copied.highs;
              before = λ x n. other x (omega arith) ∙ w.copied.before x n;
              here = λ i n. here i n (dec_lt i k);
            };
        room = omega arith;
      }
    where
      other : (x : ℕ) → x ≢ t + k → row_at (set l (t + k) v) (set h (t + k) u) x ≡ row_at l h x
      other x n = rw (get_or-set_other l (t + k) x v 0 n, get_or-set_other h (t + k) x u 0 n)

      here : (i : ℕ) → i < k + 1 → Dec (i < k) → row_at (set l (t + k) v) (set h (t + k) u) (t + i) ≡ run_at s (rec_at s c i)
      here i n (yes y) = other (t + i) (omega arith) ∙ w.copied.here i y
      here i n (no y) =
          let z : i ≡ k = omega arith in
          rw (
            z,
            get_or-set_same l (t + k) v 0 (omega (arith, w.copied.lows)),
            get_or-set_same h (t + k) u 0 (omega (arith, w.copied.highs)),
            low,
            ← f.high,
            w.on.walked.here,
          )

  pub taking_end : c < columns_of s → at ≤ 0 → Taken s l₀ h₀ l h Q c t k
  taking_end n z = record { chain = column_end w.on n z; copied = w.copied }
