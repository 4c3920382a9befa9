-- The new table, column by column: what the columns before the last one hold is kept while the last one is made.
-- Assumes nothing.
use mathlib.Core.Path.{◌≡◌, sym, ◌∙◌}
use mathlib.Core.List.{List}
use Prim.Native.Nat.{ℕ, ◌+◌, ◌≤◌, ◌<◌}
use native.Mathlib.Omega.{arith}
use native.Mathlib.Decide.{dec_lt}
use lib.ListN.{length, get_or, set, length-set}
use lib.Seq.{get_or-set_same, get_or-set_other}
use Rattle.runs.specs.Runs.{Holds}
use Rattle.tables.specs.Flat.{Flat}
use Rattle.tables.proofs.Flats.{firsts_most}
use Rattle.columnentry.specs.declared.Entry.{Entry}
use Rattle.columnentry.specs.declared.Built.{Built}
use Rattle.columnentry.specs.Columns.{Kept, Split, ColumnIs, EntersColumn}
use Rattle.columnentry.proofs.Adding.{room_left}

-- the first k columns of the new table are entered
pub record Building (f l h r f' l' h' : List ℕ) (g : Entry) (k : ℕ) (b : Built) : Type 0 where
  pub long : g.columns < length f'
  pub flat : Flat f' l' h' k b.runs
  pub columns : (i : ℕ) → i < k → ColumnIs f l h r l' h' g i (get_or f' i 0) (get_or f' (i + 1) 0)
  pub split : Split r g k b.used

pub building_none : (f l h r f' l' h' : List ℕ) (g : Entry) → g.columns < length f' →
    Building f l h r (set f' 0 0) l' h' g 0 (record { runs = 0; used = 0 })
building_none f l h r f' l' h' g p =
    let first = get_or-set_same f' 0 0 0 (omega arith) in
    record {
      long = simp length-set p;
      flat =
          record {
            firsts = simp length-set (omega arith);
            lows = omega arith;
            highs = omega arith;
            start = first;
            rise = λ i q. absurd (omega arith);
            last = first;
          };
      columns = λ i q. absurd (omega arith);
      split = record { among = omega arith; before = λ m q. absurd (omega arith); others = λ m q s. omega arith };
    }

holds_kept : {l h l' h' : List ℕ} {b u t x : ℕ} → Kept l l' t → Kept h h' t → u ≤ t → Holds l h b u x → Holds l' h' b u x
holds_kept kl kh ut p =
    record {
      which = p.which;
      from = p.from;
      among = p.among;
      low = omega (arith, kl.before p.which (omega (arith, p.among)), p.low);
      high = omega (arith, kh.before p.which (omega (arith, p.among)), p.high);
    }

kept_back : {l l' : List ℕ} {t : ℕ} → Kept l l' t → Kept l' l t
kept_back k = record { long = sym k.long; before = λ i p. sym (k.before i p) }

column_kept : {f l h r l₁ h₁ l₂ h₂ : List ℕ} {g : Entry} {i b u t : ℕ} → Kept l₁ l₂ t → Kept h₁ h₂ t → u ≤ t →
    ColumnIs f l h r l₁ h₁ g i b u → ColumnIs f l h r l₂ h₂ g i b u
column_kept kl kh ut c =
    record {
      a = c.a;
      e = c.e;
      from = c.from;
      to = c.to;
      runs =
          record {
            full = λ i p q. omega (arith, kl.before i (omega arith), kh.before i (omega arith), c.runs.full i p q);
            apart =
                λ i j p q s. omega (arith, kh.before i (omega arith), kl.before j (omega arith), c.runs.apart i j p q s);
          };
      held = λ x p. holds_kept kl kh ut (c.held x p);
      added = λ x p. holds_kept kl kh ut (c.added x p);
      only = λ x p. c.only x (holds_kept (kept_back kl) (kept_back kh) ut p);
    }

pub building_next : {f l h r f' l₁ h₁ l₂ h₂ : List ℕ} {g : Entry} {k : ℕ} {b d : Built} → Building f l h r f' l₁ h₁ g k b →
    EntersColumn f l h r l₁ h₁ l₂ h₂ g k b d → k < g.columns →
    Building f l h r (set f' (k + 1) d.runs) l₂ h₂ g (k + 1) d
building_next {f} {l} {h} {r} {f'} {l₁} {h₁} {l₂} {h₂} {g} {k} {b} {d} o n p =
    record {
      long = simp length-set o.long;
      flat =
          record {
            firsts = simp length-set (omega (arith, o.long));
            lows = omega (arith, room_left n.room, n.room.lows);
            highs = omega (arith, room_left n.room, n.room.highs);
            start = other 0 (omega arith) ∙ o.flat.start;
            rise = λ i q. rise i q (dec_lt i k);
            last = here;
          };
      columns = λ i q. column i q (dec_lt i k);
      split = n.split;
    }
  where
    v : ℕ
    v = d.runs

    here : get_or (set f' (k + 1) v) (k + 1) 0 ≡ v
    here = get_or-set_same f' (k + 1) v 0 (omega (arith, o.long))

    other : (i : ℕ) → i ≤ k → get_or (set f' (k + 1) v) i 0 ≡ get_or f' i 0
    other i q = get_or-set_other f' (k + 1) i v 0 (omega arith)

    rise : (i : ℕ) → i < k + 1 → Dec (i < k) → get_or (set f' (k + 1) v) i 0 ≤ get_or (set f' (k + 1) v) (i + 1) 0
    rise i q (yes u) = omega (arith, other i (omega arith), other (i + 1) (omega arith), o.flat.rise i u)
    rise i q (no u) =
        let e : i ≡ k = omega arith in
        rw e (omega (arith, other k (omega arith), here, o.flat.last, n.room.start))

    column : (i : ℕ) → i < k + 1 → Dec (i < k) →
        ColumnIs f l h r l₂ h₂ g i (get_or (set f' (k + 1) v) i 0) (get_or (set f' (k + 1) v) (i + 1) 0)
    column i q (yes u) =
        let x = other i (omega arith) in
        let y = other (i + 1) (omega arith) in
        rw (x, y) (column_kept n.lows n.highs (firsts_most o.flat (i + 1) (omega arith)) (o.columns i u))
    column i q (no u) =
        let e : i ≡ k = omega arith in
        let x : get_or (set f' (k + 1) v) k 0 ≡ b.runs = other k (omega arith) ∙ o.flat.last in
        rw (e, x, here) n.column
