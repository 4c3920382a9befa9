-- From a strip's words to the table of its runs, and to the strip that is written from the next table.
-- Assumes nothing.
use mathlib.Core.Path.{◌≡◌, refl, sym, ap, subst, ◌∙◌}
use mathlib.Core.List.{List, []}
use Prim.Native.Nat.{ℕ, ◌≤◌}
use native.Mathlib.Omega.{arith}
use lib.ListN.{length, get_or}
use Rattle.std.specs.Prelude.{Result}
use Rattle.defs.specs.declared.Refusal.{Refusal}
use Rattle.defs.specs.declared.Position.{Position}
use Rattle.defs.specs.Meaning.Limits.{leading_words}
use Rattle.defs.specs.Meaning.Strip.{Limits, width_of, resolution_of, columns_of, gap_of}
use Rattle.defs.specs.Computing.Cells.{Rows}
use Rattle.defs.specs.Computing.Words.{records_of, columns_runs, written}
use Rattle.defs.specs.Computing.Search.{entered}
use Rattle.defs.specs.Computing.Calls.{Left, place_on, place_answer, tries_on, place_tries, commit_on, commit_answer}
use Rattle.laws.proofs.Questions.{length_decides}
use Rattle.laws.proofs.Formed.{formed}
use Rattle.tables.specs.Flat.{Flat, Laid, table_of}
use Rattle.tables.proofs.Flats.{laid_of, table_apart, table_flat, table_length, count_is}
use Rattle.tables.proofs.Tables.{In}
use Rattle.tables.proofs.Held.{table_of_lem}
use Rattle.tables.proofs.Strips.{runs_apart}
use Rattle.tables.proofs.Written.{Writable, written_left}
use Rattle.decode.specs.Decodes.{Holds_runs}
use Rattle.encode.specs.Room.{Room}
use Rattle.position.specs.Table.{Next, NextIf}
use Rattle.commiton.specs.Commits.{placed_at}
use Rattle.wanted.specs.declared.Wanted.{Wanted}
use Rattle.wanted.specs.declared.Wanted.TheVariants.{Best, At}
use Rattle.wanted.specs.Answers.{answer_on, answer_to, count_on, count_to, OnTable, Entered, Looked}

module _ {s f l h : List ℕ} {t : ℕ} (held : Holds_runs s f l h t) where
  abbrev W : ℕ
  W = width_of s

  abbrev R : ℕ
  R = resolution_of s

  abbrev N : ℕ
  N = columns_of s

  abbrev g : ℕ
  g = gap_of s

  abbrev Q : ℕ
  Q = records_of (columns_of s) (length s)

  -- the table's runs are the strip's
  laid : Laid f l h W N t
  laid =
      let w = held.well_formed in
      laid_of held.flat (λ k b. rw held.table (runs_apart s w k b))
      (λ k y e. (table_of_lem s w).below k y (subst (λ (c : List (List Rows)). In c k y) held.table e))

  -- what a board with the strip's figures and table needs
  pub limits_of : Limits W R N
  limits_of = (formed s held.well_formed).limits

  pub gap_of_lem : g ≤ 400
  gap_of_lem = (formed s held.well_formed).gap

  pub records_few : {q : ℕ} → q ≡ Q → q ≤ 16000
  records_few e = let w = formed s held.well_formed in omega (arith, w.long.records.at_most)

  pub laid_on : Laid f l h W N (get_or f N 0)
  laid_on = rw held.flat.last laid

  -- the words of the strip before its records
  pub leading : leading_words ≤ length s
  leading = omega (arith, (formed s held.well_formed).long.words_are)

  columns_few : N ≤ 4096
  columns_few = (formed s held.well_formed).limits.columns.at_most

  table_is : (w : Wanted) (o : List ℕ) (words : ℕ) → answer_on w W R N g Q (table_of f l h N) o words ≡ answer_to w s o words
  unfolding answer_on answer_to place_answer commit_answer
  table_is (Best mask) o words =
      rw held.well_formed (ap (λ (c : List (List Rows)). place_on W R N g Q c o mask words) held.table)
  table_is (At p) o words =
      rw held.well_formed (ap (λ (c : List (List Rows)). placed_at p (commit_on W R N g Q c o p words)) held.table)

  count_is_to : (w : Wanted) (o : List ℕ) (words : ℕ) → count_on w W R N g (table_of f l h N) o words ≡ count_to w s o words
  unfolding count_on count_to place_tries
  count_is_to (Best mask) o words =
      rw held.well_formed (ap (λ (c : List (List Rows)). tries_on W R N g c o mask words) held.table)
  count_is_to (At p) o words = refl

  module _ {f' l' h' o : List ℕ} (p : Position) (next : Next f l h f' l' h' o W R N g Q p) where
    n_is : get_or f' N 0 ≡ next.count
    n_is = next.laid.flat.last

    next_flat : Flat f' l' h' N (get_or f' N 0)
    next_flat = rw n_is next.laid.flat

    room : Room N (get_or f' N 0) (length s)
    room =
        record {
          columns = columns_few;
          long = (length_decides N (length s)).1 (formed s held.well_formed).long;
          fits = omega (arith, n_is, next.few);
        }

    next_few : get_or f' N 0 ≤ 16000
    next_few = omega (arith, n_is, next.few, (formed s held.well_formed).long.records.at_most)

    held_is : table_of f' l' h' N ≡ entered W R g (columns_runs s) o p
    held_is = next.is ∙ ap (λ (c : List (List Rows)). entered W R g c o p) held.table

    writable : Writable W N Q (table_of f' l' h' N)
    writable =
        record {
          long = table_length f' l' h' N;
          apart = λ k b. table_apart next.laid k;
          below = λ k j b e. (table_flat next.laid).below k j e;
          fits = omega (arith, count_is next.laid.flat, next.few);
        }

    left : Left W R N g (length s) (λ k. get_or (entered W R g (columns_runs s) o p) k []) (written W R N g Q (table_of f' l' h' N))
    left =
        let w = formed s held.well_formed in
        subst (λ (c : List (List Rows)). Left W R N g (length s) (λ k. get_or c k []) (written W R N g Q (table_of f' l' h' N))) held_is
        (subst (λ (n : ℕ). Left W R N g n (λ k. get_or (table_of f' l' h' N) k []) (written W R N g Q (table_of f' l' h' N)))
        (sym w.long.words_are) (written_left W R N g Q (table_of f' l' h' N) w.limits w.gap w.long.records writable))

    entered_of : Entered s o p f' l' h'
    entered_of = record { leading = leading; flat = next_flat; few = next_few; room = room; left = left }

  pub looked : {f' l' h' o : List ℕ} {w : Wanted} {words q : ℕ} {a : Result Position Refusal} {n : ℕ} → q ≡ Q →
      OnTable f l h f' l' h' o W R N g q w words a n → Looked s o w words a n f' l' h'
  looked {f'} {l'} {h'} {o} {w} {words} e on =
      record {
        answer = on.answer ∙ ap (λ (n : ℕ). answer_on w W R N g n (table_of f l h N) o words) e ∙ table_is w o words;
        counted = on.counted ∙ count_is_to w o words;
        next = λ p t. entered_of p (rw e at (subst (NextIf f l h f' l' h' o W R N g _) t on.next));
      }
