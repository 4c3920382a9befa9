-- From the tests and the written runs to the step of cover.
-- Assumes nothing.
use mathlib.Core.Path.{◌≡◌, sym, ap, ◌∙◌}
use mathlib.Core.Bool.{Bool, true, false, cond}
use mathlib.Core.List.{List, [], ◌∷◌, ◌++◌}
use Prim.Native.Nat.{ℕ, zero, suc, ◌+◌, ◌*◌, ◌/◌, ◌^◌, ◌≤◌, ◌<◌}
use native.Mathlib.Omega.{arith}
use native.Mathlib.Nat.{zero-add, mul-le-mul, mul-le-mul_left, div-lt_iff_lt-mul}
use lib.Dec.{eqb}
use lib.ListN.{length, take, drop}
use lib.Seq.{sets, sets-eq, take_at}
use Rattle.std.specs.Prelude.{Result, Ok, Err}
use Rattle.defs.specs.declared.Refusal.{Refusal}
use Rattle.defs.specs.Meaning.Limits.{most_gap}
use Rattle.defs.specs.Meaning.Outline.{sides, KeepsOrder}
use Rattle.defs.specs.Meaning.Turn.{turned, extent_x, extent_y}
use Rattle.defs.specs.Meaning.Placing.{columns_for}
use Rattle.defs.specs.Computing.Test.{list_from}
use Rattle.defs.specs.Computing.Cells.{Rows, join_row, stretches, coveredb, piece_runs, count_runs}
use Rattle.defs.specs.Computing.Calls.{refusal, runs_words, cover_answer, cover_output, CoverStep}
use Rattle.laws.proofs.Questions.{question_16, question_21}
use Rattle.geom.proofs.Checks.{keeps_decides}
use Rattle.outline.specs.Vertex.{Lent}
use Rattle.checks.proofs.Bounded.{lent_of, has_vertex}
use Rattle.cells.specs.Put.{PutRuns, Resolution}
use Rattle.geom.proofs.RunWords.{runs_length}
use Rattle.cover.specs.Turn.{turn_no}
use Rattle.cover.specs.Written.{CoverRuns, Counted}
use Rattle.cover.proofs.Answers.{passed, some_without, none_without, cover_11, cover_12, cover_runs}

-- what 7 to 10 give
pub vertices : (o : List ℕ) (t : ℕ) → turn_no o t ≡ 0 → 1 ≤ sides o
vertices o t e = has_vertex o (passed o t (sym e)).seven

pub turn_limit : (o : List ℕ) (t : ℕ) → turn_no o t ≡ 0 → t ≤ 3
turn_limit o t e = (passed o t (sym e)).nine

pub lent_at : (o : List ℕ) (t : ℕ) → turn_no o t ≡ 0 → Lent o
lent_at o t e = let p = passed o t (sym e) in lent_of o p.seven p.eight

-- what 16, 21 and 7 to 10 give
pub keeps : {o : List ℕ} {t R g : ℕ} → CoverRuns o t R g → KeepsOrder (turned o t)
keeps {o} {t} c = (keeps_decides o t).0 (passed o t c.none_no).ten

pub in_limits : {o : List ℕ} {t R g : ℕ} → CoverRuns o t R g → Resolution R
in_limits {R = R} c = let b = (question_16 R).0 c.resolution in record { least = b.at_least; most = b.at_most }

pub gap_limit : {o : List ℕ} {t R g : ℕ} → CoverRuns o t R g → g ≤ most_gap
gap_limit {g = g} c = (question_21 g).0 c.gap

words_long : {o : List ℕ} {t R g : ℕ} {out out' : List ℕ} {k : ℕ} → PutRuns o t R g out out' k →
    length (runs_words 0 (piece_runs o t R g)) ≡ 3 * k
words_long {o} {t} {R} {g} p = runs_length 0 (piece_runs o t R g) ∙ ap (λ (n : ℕ). 3 * n) (sym p.count)

pub refused_step : {o : List ℕ} {t R g : ℕ} {out out' : List ℕ} {a : Result ℕ Refusal} {n k : ℕ} → a ≡ Err (refusal n k) →
    Err (refusal n k) ≡ cover_answer o t R g (length out) → out' ≡ out → CoverStep o t R g out a out'
unfolding cover_output
refused_step {o} {t} {R} {g} {out} e f same =
    record { answer = e ∙ f; output = same ∙ ap (cover_output o t R g out) (sym e) }

pub step_11 : {o : List ℕ} {t R g : ℕ} {out out' none none' : List ℕ} {a : Result ℕ Refusal} {k : ℕ} → CoverRuns o t R g →
    PutRuns o t R g none none' k → k ≡ 0 → a ≡ Err (refusal 11 1) → out' ≡ out → CoverStep o t R g out a out'
step_11 {o} {t} {R} {g} {out} c p z e same =
    refused_step e
    (cover_11 o t R g (length out) c.resolution c.gap c.none_no
    (none_without o t R g c.none_no (in_limits c).least (sym p.count ∙ z))) same

pub step_12 : {o : List ℕ} {t R g : ℕ} {out out' none none' : List ℕ} {a : Result ℕ Refusal} {k : ℕ} → CoverRuns o t R g →
    PutRuns o t R g none none' k → (k ≡ 0 → ⊥) → length out / 3 < k → a ≡ Err (refusal 12 1) → out' ≡ out →
    CoverStep o t R g out a out'
step_12 {o} {t} {R} {g} {out} c p z l e same =
    refused_step e
    (cover_12 o t R g (length out) c.resolution c.gap c.none_no
    ((some_without o t R g c.none_no (in_limits c).least).0 (omega (arith, p.count)))
    (omega (arith, p.count))) same

pub step_runs : {o : List ℕ} {t R g : ℕ} {out out' none none' : List ℕ} {k : ℕ} → CoverRuns o t R g →
    PutRuns o t R g none none' k → (k ≡ 0 → ⊥) → (length out / 3 < k → ⊥) →
    out' ≡ sets out 0 (runs_words 0 (piece_runs o t R g)) → CoverStep o t R g out (Ok k) out'
unfolding cover_output
step_runs {o} {t} {R} {g} {out} {k = k} c p z l q =
    record {
      answer =
          cover_runs o t R g (length out) c.resolution c.gap c.none_no p.count
          ((some_without o t R g c.none_no (in_limits c).least).0 (omega (arith, p.count))) (omega arith);
      output =
          q ∙ sets-eq (runs_words 0 (piece_runs o t R g)) out 0 (omega (arith, words_long p)) ∙
          ap (λ (n : ℕ). runs_words 0 (piece_runs o t R g) ++ drop n out) (zero-add (length (runs_words 0 (piece_runs o t R g))) ∙ words_long p);
    }

-- what was kept while the runs were counted
pub counted : {o : List ℕ} {t R g : ℕ} {out none kept : List ℕ} {k : ℕ} → CoverRuns o t R g → PutRuns o t R g none kept k →
    length none ≡ 1536 → (length out / 3 < k → ⊥) → Counted o t R g k kept out
counted {o} {t} {R} {g} {out} {none} {kept} {k} c p e l =
    record {
      resolution = in_limits c;
      gap = gap_limit c;
      count = p.count;
      fits = omega arith;
      kept_long = p.long ∙ e;
      kept_runs = λ h.
          ap (take (3 * k))
          (p.written (omega arith) ∙ sets-eq (runs_words 0 (piece_runs o t R g)) none 0 (omega (arith, words_long p))) ∙
          take_at (runs_words 0 (piece_runs o t R g)) _ (3 * k) (words_long p);
    }

-- The number of runs fits 32 bits: a column has at most a run for each of its rows.
join_few : (n : ℕ) (rs : List Rows) → length (join_row n rs) ≤ length rs + 1
unfolding join_row
join_few n [] = omega arith
join_few n (r ∷ rs) = go (eqb r.low (n + 1))
  where
    go : (b : Bool) →
        length (cond b (record { low = n; high = r.high } ∷ rs) (record { low = n; high = n + 1 } ∷ (r ∷ rs))) ≤ suc (length rs) + 1
    go true = omega arith
    go false = omega arith

stretches_few : (f : ℕ → Bool) (n : ℕ) (rs : List Rows) → length (stretches f n rs) ≤ length rs + n
unfolding stretches
stretches_few f zero rs = omega arith
stretches_few f (suc n) rs = go (f n) (λ rs. stretches_few f n rs)
  where
    go : (b : Bool) → ((rs : List Rows) → length (stretches f n rs) ≤ length rs + n) →
        length (stretches f n (cond b (join_row n rs) rs)) ≤ length rs + suc n
    go true k = omega (arith, k (join_row n rs), join_few n rs)
    go false k = omega (arith, k rs)

columns_few : (g : ℕ → List Rows) (h k n : ℕ) → ((i : ℕ) → length (g i) ≤ h) → count_runs (list_from g k n) ≤ n * h
unfolding count_runs list_from
columns_few g h k zero few = omega arith
columns_few g h k (suc n) few = omega (arith, few k, columns_few g h (suc k) n few)

runs_few : (o : List ℕ) (t R g : ℕ) → count_runs (piece_runs o t R g) ≤ columns_for (extent_x o t + g) R * (extent_y o t + g)
unfolding piece_runs
runs_few o t R g =
    columns_few _ (extent_y o t + g) 0 (columns_for (extent_x o t + g) R)
    (λ i. omega (arith, stretches_few (coveredb (turned o t) R g i) (extent_y o t + g) []))

columns_most : (w R : ℕ) → 1 ≤ R → columns_for w R ≤ w
columns_most w R h =
    let wide = mul-le-mul_left w h in
    let below : columns_for w R < w + 1 = (div-lt_iff_lt-mul h).1 (omega arith) in
    omega arith

pub count_fits : {o : List ℕ} {t R g : ℕ} {out out' : List ℕ} {k w h : ℕ} → 1 ≤ R → PutRuns o t R g out out' k → w ≡ extent_x o t →
    h ≡ extent_y o t → w ≤ 16000 → g ≤ most_gap → h ≤ 65535 → k < 2 ^ 32
count_fits {o} {t} {R} {g} {w = w} {h = h} Rpos p ew eh lw lg lh =
    let across : columns_for (extent_x o t + g) R ≤ 16400 = omega (arith, columns_most (extent_x o t + g) R Rpos) in
    let up : extent_y o t + g ≤ 65935 = omega arith in
    omega (arith, p.count, runs_few o t R g, mul-le-mul across up)
