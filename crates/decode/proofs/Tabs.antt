-- The table, column after column: what was laid down stays, and at the end its columns are those of the strip.
-- Assumes nothing.
use mathlib.Core.Path.{◌≡◌, ap, sym, ◌∙◌}
use mathlib.Core.Bool.{false}
use mathlib.Core.List.{List, []}
use Prim.Native.Nat.{ℕ, ◌+◌, ◌≤◌, ◌<◌}
use native.Mathlib.Omega.{arith}
use borrow.Author.Count.{below_more}
use borrow.Author.Tests.{eq-eqb, ne_eqb}
use lib.ListN.{get_or, set, length}
use lib.Seq.{get_or-set_same, get_or-set_other}
use Rattle.defs.specs.Meaning.Strip.{columns_of}
use Rattle.defs.specs.Computing.Words.{records_of, well_formedb, runs_of, columns_runs}
use Rattle.laws.proofs.Questions.{records_are}
use Rattle.tables.specs.Flat.{row_at, rows_from, rows_in, table_of}
use Rattle.striprecords.specs.declared.Shape.{Shape}
use Rattle.chains.specs.Form.{rec_at, ChainOf, Counted}
use Rattle.form.proofs.Seen.{seen_most}
use Rattle.form.proofs.Totals.{On, on_next, on_fits, ended}
use Rattle.decode.specs.Takes.{run_at, Room, Taken}
use Rattle.decode.specs.Decodes.{Holds_runs}
use Rattle.decode.proofs.Rows.{list_from_same, rows_are}

-- the runs of column b stand in the table, below t
pub record Tab (s f l h : List ℕ) (Q t b : ℕ) : Type 0 where
  pub counted : Counted s Q b
  pub next : get_or f (b + 1) 0 ≡ get_or f b 0 + counted.count
  pub most : get_or f (b + 1) 0 ≤ t
  pub runs : (i : ℕ) → i < counted.count → row_at l h (get_or f b 0 + i) ≡ run_at s (rec_at s b i)

-- the columns before c stand in the table, t runs
pub record Tabs (s f l h : List ℕ) (g : Shape) (c t : ℕ) : Type 0 where
  pub on : On s g c t
  pub start : get_or f 0 0 ≡ 0
  pub here : get_or f c 0 ≡ t
  pub columns : (b : ℕ) → b < c → Tab s f l h g.records t b

pub tabs_start : {s l h : List ℕ} {g : Shape} (f : List ℕ) → 0 < length f → On s g 0 0 →
    Tabs s (set f 0 0) l h g 0 0
tabs_start f p o =
    let z = get_or-set_same f 0 0 0 p in
    record { on = o; start = z; here = z; columns = λ b l. absurd (omega arith) }

-- a column's part of the table stays where the words that it rests on do
kept : {s f l h f' l' h' : List ℕ} {Q t t' b : ℕ} → get_or f' b 0 ≡ get_or f b 0 → get_or f' (b + 1) 0 ≡ get_or f (b + 1) 0 →
    ((x : ℕ) → x < t → row_at l' h' x ≡ row_at l h x) → t ≤ t' → Tab s f l h Q t b → Tab s f' l' h' Q t' b
kept {l' = l'} {h' = h'} u v same le a =
    record {
      counted = a.counted;
      next = v ∙ a.next ∙ omega (arith, u);
      most = omega (arith, v, a.most);
      runs = λ i m. rw u (same _ (omega (arith, a.next, a.most)) ∙ a.runs i m);
    }

module _ {s f l h : List ℕ} {g : Shape} {c t : ℕ} (a : Tabs s f l h g c t) where
  pub tabs_room : Room s g.records c t
  tabs_room = record { fits = on_fits a.on }

  pub tabs_most : t ≤ g.records
  tabs_most = seen_most a.on.seen

  pub tabs_next : {l' h' : List ℕ} {k : ℕ} → c < g.columns → c + 1 < length f → Taken s l h l' h' g.records c t k →
      Tabs s (set f (c + 1) (t + k)) l' h' g (c + 1) (t + k)
  tabs_next {l'} {h'} {k} cn p d =
      record {
        on = on_next a.on cn d.chain;
        start = other 0 (omega arith) ∙ a.start;
        here = same;
        columns =
            below_more _ _
            (λ b m. kept (other b (omega arith)) (other (b + 1) (omega arith)) d.copied.before (omega arith) (a.columns b m))
            (record {
              counted = record { count = k; chain = d.chain };
              next = same ∙ omega (arith, other c (omega arith), a.here);
              most = omega (arith, same);
              runs = λ i m. rw (other c (omega arith), a.here) (d.copied.here i m);
            });
      }
    where
      same : get_or (set f (c + 1) (t + k)) (c + 1) 0 ≡ t + k
      same = get_or-set_same f (c + 1) (t + k) 0 p

      other : (x : ℕ) → x < c + 1 → get_or (set f (c + 1) (t + k)) x 0 ≡ get_or f x 0
      other x m = get_or-set_other f (c + 1) x (t + k) 0 (omega arith)

  module _ {k : ℕ} (last : g.columns ≤ c) (d : ChainOf s g.records g.columns k) where
    pub tabs_short : (t + k ≡ g.records → ⊥) → well_formedb s ≡ false
    tabs_short e = sym (ended a.on last d) ∙ ne_eqb (t + k) g.records e

    pub tabs_end : t + k ≡ g.records → 4097 ≤ length f → 16000 ≤ length l → 16000 ≤ length h → Holds_runs s f l h t
    unfolding table_of columns_runs
    tabs_end e firsts lows highs =
        let x : c ≡ columns_of s = omega (arith, a.on.most, a.on.sized.columns) in
        record {
          well_formed = sym (ended a.on last d) ∙ eq-eqb (t + k) g.records e;
          flat =
              record {
                firsts = omega (arith, a.on.sized.limits.columns.at_most);
                lows = omega (arith, tabs_most, a.on.sized.long.records.at_most);
                highs = omega (arith, tabs_most, a.on.sized.long.records.at_most);
                start = a.start;
                rise = λ b m. omega (arith, (a.columns b (omega arith)).next);
                last = rw x at a.here;
              };
          table = list_from_same [] (rows_in f l h) (runs_of s) (columns_of s) (λ b m. column b (a.columns b (omega arith)));
          few = omega (arith, tabs_most, records);
        }
      where
        records : records_of (columns_of s) (length s) ≡ g.records
        records = records_are _ _ _ a.on.sized.long

        column : (b : ℕ) → Tab s f l h g.records t b → rows_in f l h b ≡ runs_of s b
        column b y =
            ap (rows_from l h (get_or f b 0)) (omega (arith, y.next)) ∙
            rows_are l h y.counted.chain (get_or f b 0) y.runs (sym records)
