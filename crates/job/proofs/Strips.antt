-- From empty tables to the strip. Assumes nothing.
use mathlib.Core.Path.{◌≡◌, refl, sym, ap, subst, ◌∙◌}
use mathlib.Core.Bool.{true, false}
use mathlib.Core.List.{List, []}
use Prim.Native.Nat.{ℕ, ◌+◌, ◌≤◌, ◌<◌}
use native.Mathlib.Omega.{arith}
use lib.ListN.{length, get_or, replicate, length-replicate}
use lib.Seq.{sets}
use Rattle.defs.specs.declared.Figures.{Figures}
use Rattle.defs.specs.declared.Entry.{Entry}
use Rattle.defs.specs.Meaning.Strip.{Limits}
use Rattle.defs.specs.Meaning.Sheet.{sheet_w, sheet_r, sheet_n, sheet_v}
use Rattle.defs.specs.Computing.Words.{lengthb, records_of, written}
use Rattle.defs.specs.Computing.Calls.{Left}
use Rattle.defs.specs.Computing.Sheets.{sheet_pieces}
use Rattle.defs.specs.Computing.Lay.{entries_from, held_from, placed_in, used_in, entries_words, lay_entries, LayLeaves}
use Rattle.laws.proofs.Questions.{question_2, question_21, limits_none, length_decides}
use Rattle.tables.specs.Flat.{Flat, table_of}
use Rattle.tables.proofs.Flats.{table_apart, table_flat, table_length, count_is}
use Rattle.tables.proofs.Written.{Writable, written_left}
use Rattle.encode.specs.Room.{Room}
use Rattle.open.proofs.Empty.{zeros, zeros_flat, empty_table}
use Rattle.sheets.proofs.Answers.{figures_of}
use Rattle.reads.proofs.Outputs.{chain_ends}
use Rattle.fates.specs.declared.Tally.{Tally}
use Rattle.piece.specs.Boards.{held_by, Roomy}
use Rattle.sequence.specs.Chained.{JobReady, JobLaid}
use Rattle.job.specs.Jobs.{StripReady, JobPassed, Fresh, JobDone}

-- writing a table

module _ {f l h : List ℕ} {W R N g words : ℕ} (s : StripReady f l h W R N g words) where
  last_is : get_or f N 0 ≡ s.board.count
  last_is = s.board.laid.flat.last

  pub firsts : N < length f
  firsts = s.board.laid.flat.firsts

  pub few : get_or f N 0 ≤ 16000
  few = omega (arith, last_is, s.board.few, ((length_decides N words).0 s.long).records.at_most)

  pub flat : Flat f l h N (get_or f N 0)
  flat = rw last_is s.board.laid.flat

  pub room : Room N (get_or f N 0) words
  room = record { columns = s.limits.columns.at_most; long = s.long; fits = omega (arith, last_is, s.board.few) }

  writable : Writable W N (records_of N words) (table_of f l h N)
  writable =
      record {
        long = table_length f l h N;
        apart = λ k b. table_apart s.board.laid k;
        below = λ k j b e. (table_flat s.board.laid).below k j e;
        fits = omega (arith, count_is s.board.laid.flat, s.board.few);
      }

  pub strip_left : {s' : List ℕ} → s' ≡ written W R N g (records_of N words) (table_of f l h N) →
      Left W R N g words (λ k. get_or (table_of f l h N) k []) s'
  strip_left e =
      let long = (length_decides N words).0 s.long in
      rw e
      (subst (λ (n : ℕ). Left W R N g n (λ k. get_or (table_of f l h N) k []) (written W R N g (records_of N words) (table_of f l h N)))
      (sym long.words_are) (written_left W R N g (records_of N words) (table_of f l h N) s.limits s.gap long.records writable))

-- from empty tables

pub fresh : {b : List ℕ} {gap n o : ℕ} {g : Figures} (m : ℕ) (l h f₂ l₂ h₂ : List ℕ) → JobPassed b gap n o → g ≡ figures_of b → 4097 ≤ m →
    24001 ≤ length l → 24001 ≤ length h → Roomy f₂ l₂ h₂ →
    Fresh b (replicate m 0) l h f₂ l₂ h₂ g.width g.resolution g.columns gap n
fresh {b} {gap} {n} {o} {g} m l h f₂ l₂ h₂ j e long lows highs r =
    let limits : Limits g.width g.resolution g.columns =
    subst (λ (g : Figures). Limits g.width g.resolution g.columns) (sym e)
    ((limits_none (sheet_w b) (sheet_r b) (sheet_n b)).0 j.passed.counted.begun.limits) in
    let four : lengthb g.columns n ≡ true = subst (λ (g : Figures). lengthb g.columns n ≡ true) (sym e) j.four in
    record {
      width = ap (λ (g : Figures). g.width) e;
      resolution = ap (λ (g : Figures). g.resolution) e;
      columns = ap (λ (g : Figures). g.columns) e;
      boards =
          record {
            limits = limits;
            gap = (question_21 gap).0 j.gap;
            records = ((length_decides g.columns n).0 four).records.at_most;
            room = record { firsts = omega (arith, length-replicate {A = ℕ} m 0); lows = lows; highs = highs };
            room₂ = r;
            current =
                record {
                  count = 0;
                  laid =
                      record {
                        flat = zeros_flat m g.columns l h (omega (arith, limits.columns.at_most));
                        runs =
                            λ k b.
                            record {
                              full = λ i a c. absurd (omega (arith, zeros m (k + 1)));
                              apart = λ i j a c d. absurd (omega (arith, zeros m (k + 1)));
                            };
                        within = λ k y b x. absurd (omega (arith, x.among, zeros m (k + 1)));
                      };
                  few = omega arith;
                };
          };
      empty = empty_table m l h g.columns;
    }

-- the job that is laid

module _
    {b : List ℕ}
    {g n o : ℕ}
    {f l h f₂ l₂ h₂ : List ℕ}
    {W R N q : ℕ}
    (j : JobPassed b g n o)
    (s : Fresh b f l h f₂ l₂ h₂ W R N g n)
    (eq : q ≡ records_of N n) where
  pub job_ready : {v : ℕ} {out : List ℕ} → v ≡ sheet_v b → length out ≡ o → JobReady b v f l h f₂ l₂ h₂ out W R N g q
  job_ready ev eo =
      record {
        chain = chain_ends j.passed.counted ev;
        none_no = j.passed.none_no;
        bytes = ((question_2 b).0 j.passed.counted.begun.two).most;
        boards = rw eq s.boards;
        room = omega (arith, j.room, eo);
      }

  four : lengthb N n ≡ true
  four = rw s.columns j.four

  module _ {f' l' h' f₂' l₂' h₂' out out' : List ℕ} {words : ℕ} {t : Tally}
      (x : JobLaid b (table_of f l h N) f' l' h' f₂' l₂' h₂' out out' W R N g q words t) where
    pub ready_first : t.second ≡ false → StripReady f' l' h' W R N g n
    ready_first e =
        let y = rw (e, eq) at x.boards in
        record { limits = y.limits; gap = y.gap; long = four; board = y.current }

    pub ready_second : t.second ≡ true → StripReady f₂' l₂' h₂' W R N g n
    ready_second e =
        let y = rw (e, eq) at x.boards in
        record { limits = y.limits; gap = y.gap; long = four; board = y.current }

    entries_are : entries_from W R N g q words 1 (table_of f l h N) (sheet_pieces b) ≡ lay_entries b g n words
    unfolding lay_entries
    entries_are = rw (eq, s.empty, s.width, s.resolution, s.columns) refl

    held_are : held_from W R N g q words (table_of f l h N) (sheet_pieces b) ≡
        held_from (sheet_w b) (sheet_r b) (sheet_n b) g (records_of (sheet_n b) n) words (replicate (sheet_n b) []) (sheet_pieces b)
    held_are = rw (eq, s.empty, s.width, s.resolution, s.columns) refl

    pub job_done : {s₀ s' : List ℕ} → length s₀ ≡ n →
        Left W R N g n (λ k. get_or (held_by t.second f' l' h' f₂' l₂' h₂' N) k []) s' →
        JobDone b g s₀ out words (record { placed = t.placed; used = t.used }) s' out'
    unfolding LayLeaves
    job_done {s₀} {s'} en left =
        let entries : entries_from W R N g q words 1 (table_of f l h N) (sheet_pieces b) ≡ lay_entries b g (length s₀) words =
        entries_are ∙ ap (λ (m : ℕ). lay_entries b g m words) (sym en) in
        record {
          placed = x.placed ∙ ap placed_in entries;
          used =
              x.used ∙ ap (used_in R (sheet_pieces b)) entries ∙
              ap (λ (r : ℕ). used_in r (sheet_pieces b) (lay_entries b g (length s₀) words)) s.resolution;
          output = x.output ∙ ap (λ (es : List Entry). sets out 0 (entries_words es)) entries;
          strip = rw (x.holds, held_are, s.width, s.resolution, s.columns, ← en) at left;
        }
