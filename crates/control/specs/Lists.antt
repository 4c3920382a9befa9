-- Demand 3 over lists of calls of the C functions vikelodu_open, vikelodu_place, vikelodu_ask and vikelodu_commit, each answer taken
-- apart as include/vikelodu.h does it; and for vikelodu_lay. Assumes nothing.
use Rattle.std.specs.Prelude.{◌≡◌, cond, List, ℕ, suc, ◌<◌, eqb, Result, Ok, Err}
use Rattle.defs.specs.declared.Refusal.{Refusal}
use Rattle.defs.specs.declared.Position.{Position}
use Rattle.packing.specs.Packed.{first16, second16, third16, fourth16, high32}
use Rattle.defs.specs.Meaning.Sheet.{sheet_w, sheet_r, sheet_n}
use Rattle.packing.specs.Steps.{OpenPacked, PlacePacked, AskPacked, CommitPacked, LayPacked}
use Rattle.claims.specs.Trace.{Call, place_call, ask_call, commit_call, Calls}
use Rattle.claims.specs.Demand3.{Demand3}
use Rattle.claims.specs.Places.{PlaceDemand3}
use Rattle.claims.specs.Laying.{LaysList}

-- vikelodu_number; vikelodu_turn, vikelodu_column and vikelodu_height, or vikelodu_ordinal
abbrev pub unpacked : ℕ → Result Position Refusal
unpacked n =
    cond (eqb (first16 n) 0) (Ok (record { turn = second16 n; column = third16 n; height = fourth16 n }))
    (Err (record { number = first16 n; ordinal = second16 n }))

-- the same of an ask
abbrev pub unpacked_ask : ℕ → Result Position Refusal
unpacked_ask n = unpacked n

-- vikelodu_number; vikelodu_ordinal
abbrev pub unpacked_commit : ℕ → Result Unit Refusal
unpacked_commit n = cond (eqb (first16 n) 0) (Ok tt) (Err (record { number = first16 n; ordinal = second16 n }))

-- what each of place, ask and commit is lent and answers
pub record Packed : Type 0 where
  pub outline : List ℕ
  pub work : List ℕ
  pub answer : ℕ
  pub work_after : List ℕ

-- beside it a mask and the tries reported, or the position of a commit
pub data PackedCall : Type 0 where
  place_with : ℕ → ℕ → Packed → PackedCall
  ask_with : ℕ → ℕ → Packed → PackedCall
  commit_at_lem : Position → Packed → PackedCall

-- the contract of the C function that is called, from strip s to strip s'
unfoldable pub PackedStep : PackedCall → List ℕ → List ℕ → Type 0
PackedStep (place_with mask tries c) s s' = PlacePacked s c.outline mask c.work c.answer tries s' c.work_after
PackedStep (ask_with mask tries c) s s' = AskPacked s c.outline mask c.work c.answer tries s' c.work_after
PackedStep (commit_at_lem p c) s s' = CommitPacked s c.outline p c.work c.answer s' c.work_after

pub record PackedCalls : Type 0 where
  pub lent : List ℕ
  pub count : ℕ
  pub call : ℕ → PackedCall
  pub strip : ℕ → List ℕ

-- a list of the C functions' own calls, the open granted
pub record PackedTrace (W R N g : ℕ) (x : PackedCalls) : Type 0 where
  pub opened : ℕ
  pub is_granted : first16 opened ≡ 0
  pub open_step : OpenPacked W R N g x.lent opened (x.strip 0)
  pub step : (m : ℕ) → m < x.count → PackedStep (x.call m) (x.strip m) (x.strip (suc m))

unfoldable pub plain_call : PackedCall → Call
plain_call (place_with mask tries c) =
    place_call
    (record {
      outline = c.outline;
      mask = mask;
      work = c.work;
      answer = unpacked c.answer;
      tries = tries;
      work_after = c.work_after;
    })
plain_call (ask_with mask tries c) =
    ask_call
    (record {
      outline = c.outline;
      mask = mask;
      work = c.work;
      answer = unpacked_ask c.answer;
      tries = tries;
      work_after = c.work_after;
    })
plain_call (commit_at_lem p c) =
    commit_call
    (record { outline = c.outline; at = p; work = c.work; answer = unpacked_commit c.answer; work_after = c.work_after })

abbrev pub plain : PackedCalls → Calls
plain x = record { lent = x.lent; count = x.count; call = λ m. plain_call (x.call m); strip = x.strip }

unfoldable pub Packed_demand3 : Type 0
Packed_demand3 = (W R N g : ℕ) (x : PackedCalls) → PackedTrace W R N g x → Demand3 W R N g (plain x)

-- A granted vikelodu_lay is one list of place calls, of which demand 3 holds, with the totals vikelodu_placed and
-- vikelodu_used_length.
unfoldable pub Packed_lay : Type 0
Packed_lay =
    (b : List ℕ) (g : ℕ) (s out work : List ℕ) (n : ℕ) (s' out' work' : List ℕ) →
    LayPacked b g s out work n s' out' work' → first16 n ≡ 0 →
    (l : LaysList b g s (record { placed = second16 n; used = high32 n }) s' out' work) ×
    PlaceDemand3 (sheet_w b) (sheet_r b) (sheet_n b) g l.list
