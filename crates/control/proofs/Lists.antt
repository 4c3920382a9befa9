-- Demand 3 over lists of the C functions' calls: what is read from each answer is the answer of the step, so the list is one of steps.
-- And for a laid job.
-- Assumes nothing.
use mathlib.Core.Path.{◌≡◌, refl, sym, ap, subst, ◌∙◌}
use mathlib.Core.Logic.{◌≢◌}
use mathlib.Core.Bool.{Bool, true, false}
use mathlib.Core.List.{List}
use Prim.Native.Nat.{ℕ, zero, suc, ◌^◌}
use native.Mathlib.Omega.{arith}
use lib.Dec.{leb, eqb, eqb-suc-zero}
use lib.ListN.{length, get_or}
use Rattle.std.specs.Prelude.{Result, Ok, Err}
use Rattle.defs.specs.declared.Position.{Position}
use Rattle.defs.specs.declared.Refusal.{Refusal}
use Rattle.defs.specs.declared.Totals.{Totals}
use Rattle.defs.specs.Answer.{opening, placing, asking, committing, laying}
use Rattle.defs.specs.Meaning.Limits.{most_turn}
use Rattle.defs.specs.Meaning.Strip.{Holds, width_of, resolution_of, columns_of, gap_of}
use Rattle.defs.specs.Computing.Test.{ask}
use Rattle.defs.specs.Computing.Words.{figures_no, lengthb, well_formedb, records_of, columns_runs}
use Rattle.defs.specs.Computing.Calls.{refusal, q12b, q14b, q18b, outline_no, open_answer, commit_on, commit_answer, OpenStep, PlaceStep, AskStep, CommitStep}
use Rattle.defs.specs.Computing.Lay.{LayStep}
use Rattle.packing.specs.Packed.{first16, second16, third16, fourth16, high32, Packs, PacksLong}
use Rattle.packing.specs.Steps.{OpenPacked, CommitPacked, LayPacked}
use Rattle.claims.specs.Trace.{Step, Trace}
use Rattle.claims.specs.Demand3.{Demand3_holds}
use Rattle.claims.specs.Laying.{Lay_demand3}
use Rattle.claims.specs.Numbers.{Answers, place_questions, ask_questions, lay_questions}
use Rattle.claims.proofs.Numbers.{demand1_numbers}
use Rattle.claims.proofs.Whole.{demand3_holds}
use Rattle.claims.proofs.LayList.{lay_demand3}
use Rattle.control.specs.Lists.{unpacked, unpacked_ask, unpacked_commit, place_with, ask_with, commit_at_lem, PackedCall, PackedStep, PackedCalls, PackedTrace, plain_call, plain, Packed_demand3, Packed_lay}
use Rattle.control.proofs.Ends.{where_0, where_not, number_0, place_ended, lay_ended}

-- a refused open has a number
refused_number : (W R N g words : ℕ) (r : Refusal) → Err r ≡ open_answer W R N g words → r.number ≢ 0
unfolding open_answer
refused_number W R N g words r = go (figures_no W R N g) (lengthb N words)
  where
    go : (m : ℕ) (l : Bool) →
        ◌≡◌ {A = Result Unit Refusal} (Err r) (ask (eqb m 0) (Err (refusal m 0)) λ _. ask l (Err (refusal 4 0)) λ _. Ok tt) → r.number ≢ 0
    go zero true e z = let u : ◌≡◌ {A = ℕ} 0 1 = cc in omega arith
    go zero false e z = let u : r ≡ refusal 4 0 = cc in omega (arith, ap (λ (x : Refusal). x.number) u)
    go (suc m) l e z =
        let f = rw (eqb-suc-zero m) at e in
        let u : r ≡ refusal (suc m) 0 = cc in
        omega (arith, ap (λ (x : Refusal). x.number) u)

opened_by : {W R N g : ℕ} {s s' : List ℕ} {n : ℕ} → OpenPacked W R N g s n s' → first16 n ≡ 0 → OpenStep W R N g s (Ok tt) s'
opened_by {W} {R} {N} {g} {s} {s'} {n} x z = go x.answer x.step x.packs
  where
    go : (a : Result Unit Refusal) → OpenStep W R N g s a s' → Packs n (opening a) → OpenStep W R N g s (Ok tt) s'
    go (Ok tt) y p = y
    go (Err r) y p = absurd (refused_number W R N g (length s) r y.answer (sym p.number ∙ z))

position_is : (p : Position) (t c y : ℕ) → t ≡ p.turn → c ≡ p.column → y ≡ p.height →
    p ≡ record { turn = t; column = c; height = y }
position_is p t c y et ec ey = rw (et, ec, ey)

refusal_is : (r : Refusal) (n k : ℕ) → n ≡ r.number → k ≡ r.ordinal → r ≡ record { number = n; ordinal = k }
refusal_is r n k en ek = rw (en, ek)

-- what is read is what place answered
placing_read : (s o : List ℕ) (mask words n : ℕ) (a : Result Position Refusal) → Packs n (placing a) →
    Answers (place_questions s (Holds s) o mask words) (placing a) → a ≡ unpacked n
placing_read s o mask words n = go
  where
    go : (a : Result Position Refusal) → Packs n (placing a) → Answers (place_questions s (Holds s) o mask words) (placing a) → a ≡ unpacked n
    go (Ok p) u h =
        ap Ok
        (position_is p (second16 n) (third16 n) (fourth16 n) (ap (λ (vs : List ℕ). get_or vs 0 0) u.values)
        (ap (λ (vs : List ℕ). get_or vs 1 0) u.values) (ap (λ (vs : List ℕ). get_or vs 2 0) u.values)) ∙
        sym (where_0 (first16 n) _ _ u.number)
    go (Err r) u h = by_number r.number refl
      where
        by_number : (m : ℕ) → r.number ≡ m → Err r ≡ unpacked n
        by_number zero z =
            absurd (omega (arith, (number_0 3 _ (placing (Err r)) (place_ended s (Holds s) o mask words) h z).values))
        by_number (suc m) z =
            ap Err (refusal_is r (first16 n) (second16 n) u.number (u.ordinal (λ e. omega (arith, e, z)))) ∙
            sym (where_not (first16 n) m _ _ (u.number ∙ z))

-- and ask, which answers as place does
asking_read : (s o : List ℕ) (mask words n : ℕ) (a : Result Position Refusal) → Packs n (asking a) →
    Answers (ask_questions s (Holds s) o mask words) (asking a) → a ≡ unpacked_ask n
asking_read s o mask words n (Ok p) u h = placing_read s o mask words n (Ok p) u h
asking_read s o mask words n (Err r) u h = placing_read s o mask words n (Err r) u h

-- a refused commit has a number
commit_number : (s o : List ℕ) (p : Position) (words : ℕ) (r : Refusal) → Err r ≡ commit_answer s o p words → r.number ≢ 0
unfolding commit_answer commit_on
commit_number s o p words r =
    go (well_formedb s) (outline_no o (leb p.turn most_turn) (2 ^ p.turn) (resolution_of s))
    (q12b o (2 ^ p.turn) (resolution_of s) (gap_of s) words)
    (q18b (width_of s) (resolution_of s) (columns_of s) (gap_of s) (columns_runs s) o p)
    (q14b (width_of s) (resolution_of s) (gap_of s) (records_of (columns_of s) (length s)) (columns_runs s) o p)
  where
    told : (m k : ℕ) → ◌≡◌ {A = Result Unit Refusal} (Err r) (Err (refusal (suc m) k)) → r.number ≢ 0
    told m k e z = let u : r ≡ refusal (suc m) k = cc in omega (arith, ap (λ (x : Refusal). x.number) u)

    go : (w : Bool) (m : ℕ) (b12 b18 b14 : Bool) →
        ◌≡◌ {A = Result Unit Refusal} (Err r)
        (ask w (Err (refusal 5 0)) λ _.
        ask (eqb m 0) (Err (refusal m 1)) λ _.
        ask b12 (Err (refusal 12 1)) λ _.
        ask b18 (Err (refusal 18 0)) λ _. ask b14 (Err (refusal 14 1)) λ _. Ok tt) →
        r.number ≢ 0
    go false m b12 b18 b14 e z = told 4 0 e z
    go true (suc m) b12 b18 b14 e z = told m 1 (rw (eqb-suc-zero m) at e) z
    go true zero false b18 b14 e z = told 11 1 e z
    go true zero true false b14 e z = told 17 0 e z
    go true zero true true false e z = told 13 1 e z
    go true zero true true true e z = let u : ◌≡◌ {A = ℕ} 0 1 = cc in omega arith

-- and commit
committing_read : {s o : List ℕ} {p : Position} {work : List ℕ} {n : ℕ} {s' work' : List ℕ} (x : CommitPacked s o p work n s' work') →
    x.answer ≡ unpacked_commit n
committing_read {s} {o} {p} {work} {n} {s'} {work'} x = go x.answer x.step x.packs
  where
    go : (a : Result Unit Refusal) → CommitStep s o p work a s' work' → Packs n (committing a) → a ≡ unpacked_commit n
    go (Ok tt) y u = sym (where_0 (first16 n) _ _ u.number)
    go (Err r) y u = by_number r.number refl
      where
        by_number : (m : ℕ) → r.number ≡ m → Err r ≡ unpacked_commit n
        by_number zero z = absurd (commit_number s o p (length work) r y.answer z)
        by_number (suc m) z =
            ap Err (refusal_is r (first16 n) (second16 n) u.number (u.ordinal (λ e. omega (arith, e, z)))) ∙
            sym (where_not (first16 n) m _ _ (u.number ∙ z))

step_read : (c : PackedCall) (s s' : List ℕ) → PackedStep c s s' → Step (plain_call c) s s'
unfolding PackedStep plain_call Step
step_read (place_with mask tries c) s s' x =
    subst (λ (a : Result Position Refusal). PlaceStep s c.outline mask c.work a tries s' c.work_after)
    (placing_read s c.outline mask (length c.work) c.answer x.answer x.packs (demand1_numbers.place_asks x.step))
    x.step
step_read (ask_with mask tries c) s s' x =
    subst (λ (a : Result Position Refusal). AskStep s c.outline mask c.work a tries s' c.work_after)
    (asking_read s c.outline mask (length c.work) c.answer x.answer x.packs (demand1_numbers.ask_asks x.step))
    x.step
step_read (commit_at_lem p c) s s' x =
    subst (λ (a : Result Unit Refusal). CommitStep s c.outline p c.work a s' c.work_after) (committing_read x) x.step

trace : {W R N g : ℕ} {x : PackedCalls} → PackedTrace W R N g x → Trace W R N g (plain x)
trace {x = x} t =
    record {
      open_step = opened_by t.open_step t.is_granted;
      step = λ m h. step_read (x.call m) (x.strip m) (x.strip (suc m)) (t.step m h);
    }

pub packed_demand3 : Packed_demand3
unfolding Packed_demand3 Demand3_holds
packed_demand3 W R N g x t = demand3_holds W R N g (plain x) (trace t)

-- lay

totals_are : (t : Totals) (placed used : ℕ) → placed ≡ t.placed → used ≡ t.used → t ≡ record { placed = placed; used = used }
totals_are t placed used ep eu = rw (ep, eu)

laid_by : {b : List ℕ} {g : ℕ} {s out work : List ℕ} {n : ℕ} {s' out' work' : List ℕ} → LayPacked b g s out work n s' out' work' → first16 n ≡ 0 →
    LayStep b g s out work (Ok (record { placed = second16 n; used = high32 n })) s' out' work'
laid_by {b} {g} {s} {out} {work} {n} {s'} {out'} {work'} x z =
    go x.answer x.step x.packs (demand1_numbers.lay_asks x.step)
  where
    go : (a : Result Totals Refusal) → LayStep b g s out work a s' out' work' → PacksLong n (laying a) →
        Answers (lay_questions b g (length s) (length out) (length work)) (laying a) →
        LayStep b g s out work (Ok (record { placed = second16 n; used = high32 n })) s' out' work'
    go (Ok t) y u h =
        subst (λ (v : Totals). LayStep b g s out work (Ok v) s' out' work')
        (totals_are t (second16 n) (high32 n) (ap (λ (vs : List ℕ). get_or vs 0 0) u.values)
        (ap (λ (vs : List ℕ). get_or vs 1 0) u.values)) y
    go (Err r) y u h =
        absurd
        (omega (arith, (number_0 2 _ (laying (Err r)) (lay_ended b g (length s) (length out) (length work)) h (sym u.number ∙ z)).values))

pub packed_lay : Packed_lay
unfolding Packed_lay Lay_demand3
packed_lay b g s out work n s' out' work' x z = lay_demand3 b g s out work _ s' out' work' (laid_by x z)
