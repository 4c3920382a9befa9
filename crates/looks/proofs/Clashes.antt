-- The first clash: there is none exactly where the position is free, and by the numbers of the piece's runs it is that of the first run
-- that meets an occupied one. Assumes nothing.
use mathlib.Core.Path.{◌≡◌, refl, sym, ap, ap₂, subst, ◌∙◌}
use mathlib.Core.Logic.{⊎_elim}
use mathlib.Core.Bool.{Bool, true, false, cond, not, ◌&&◌, ◌||◌, false≢true}
use mathlib.Core.List.{List, [], ◌∷◌, ◌++◌}
use Prim.Native.Nat.{ℕ, zero, suc, ◌+◌, ◌*◌, ◌≤◌, ◌<◌}
use native.Mathlib.Omega.{arith}
use lib.ListN.{length, get_or, drop, take-append-drop}
use Rattle.std.specs.Prelude.{Option, Some, None}
use Rattle.std.proofs.lemmas.Option.{none-some}
use Rattle.defs.specs.Computing.Test.{any, list_from}
use Rattle.defs.specs.Computing.Cells.{Rows, count_runs}
use Rattle.defs.specs.Computing.Search.{meets, freeb}
use Rattle.defs.specs.Computing.Walk.{Clash, lowest_met, clash_or, clash_in, first_of, first_clash}
use Rattle.geom.proofs.Strip.{lt_or_le}
use Rattle.geom.proofs.Counting.{number_of, spot, spot_number, none as no_rows}
use Rattle.geom.proofs.RunWords.{RunAt, run_words_lem}
use Rattle.tables.specs.Piece.{run_low, Stands}

-- The test of a position, by its first clash.

unfoldable pub clashed : {A : Type 0} → Option A → Bool
clashed None = false
clashed (Some a) = true

run_test : (y : ℕ) (r : Rows) (bs : List Rows) → any (meets y r) bs ≡ clashed (lowest_met y r bs)
unfolding any lowest_met clashed
run_test y r [] = refl
run_test y r (b ∷ bs) = go (meets y r b) (run_test y r bs)
  where
    go : (m : Bool) → any (meets y r) bs ≡ clashed (lowest_met y r bs) →
        (m || any (meets y r) bs) ≡ clashed (cond m (Some b) (lowest_met y r bs))
    go true e = refl
    go false e = e

column_test : (y : ℕ) (c b : List Rows) → any (λ (x : Rows). any (meets y x) b) c ≡ clashed (clash_in y c b)
unfolding any clash_in clash_or clashed
column_test y [] b = refl
column_test y (r ∷ rs) b = ap₂ ◌||◌ (run_test y r b) (column_test y rs b) ∙ go (lowest_met y r b)
  where
    go : (x : Option Rows) → (clashed x || clashed (clash_in y rs b)) ≡ clashed (clash_or r x (clash_in y rs b))
    go None = refl
    go (Some m) = refl

pub free_test : (y : ℕ) (piece there : List (List Rows)) → freeb y piece there ≡ not (clashed (first_clash y piece there))
unfolding freeb first_clash first_of clashed
free_test y [] there = refl
free_test y (c ∷ cs) [] = refl
free_test y (c ∷ cs) (b ∷ bs) = ap₂ (λ (u v : Bool). not u && v) (column_test y c b) (free_test y cs bs) ∙ go (clash_in y c b)
  where
    go : (x : Option Clash) → (not (clashed x) && not (clashed (first_clash y cs bs))) ≡ not (clashed (first_of x (first_clash y cs bs)))
    go None = refl
    go (Some m) = refl

-- where the test passes there is no clash
pub free_none : (y : ℕ) (piece there : List (List Rows)) → freeb y piece there ≡ true → first_clash y piece there ≡ None
unfolding clashed
free_none y piece there e = go (first_clash y piece there) (sym (free_test y piece there) ∙ e)
  where
    go : (x : Option Clash) → not (clashed x) ≡ true → x ≡ None
    go None e = refl
    go (Some m) e = absurd (false≢true e)

pub clash_taken : (y : ℕ) (piece there : List (List Rows)) {m : Clash} → first_clash y piece there ≡ Some m → freeb y piece there ≡ false
unfolding clashed
clash_taken y piece there e = free_test y piece there ∙ ap (λ (x : Option Clash). not (clashed x)) e

-- The lowest run of a row of runs that is met.

module _ (y : ℕ) (r : Rows) (g : ℕ → Rows) where
  pub met_none : (a n : ℕ) → ((m : ℕ) → a ≤ m → m < a + n → meets y r (g m) ≡ false) → lowest_met y r (list_from g a n) ≡ None
  unfolding lowest_met list_from
  met_none a zero h = refl
  met_none a (suc n) h =
      ap (λ (b : Bool). cond b (Some (g a)) (lowest_met y r (list_from g (suc a) n))) (h a (omega arith) (omega arith)) ∙
      met_none (suc a) n (λ m u v. h m (omega arith) (omega arith))

  pub met_first : (a n i : ℕ) → a ≤ i → i < a + n → ((m : ℕ) → a ≤ m → m < i → meets y r (g m) ≡ false) → meets y r (g i) ≡ true →
      lowest_met y r (list_from g a n) ≡ Some (g i)
  unfolding lowest_met list_from
  met_first a zero i u v h e = absurd (omega arith)
  met_first a (suc n) i u v h e =
      ⊎_elim
      (λ l.
      ap (λ (b : Bool). cond b (Some (g a)) (lowest_met y r (list_from g (suc a) n))) (h a (omega arith) l) ∙
      met_first (suc a) n i l (omega arith) (λ m s z. h m (omega arith) z) e)
      (λ l.
      let q : a ≡ i = omega arith in
      ap (λ (b : Bool). cond b (Some (g a)) (lowest_met y r (list_from g (suc a) n))) (ap (λ (k : ℕ). meets y r (g k)) q ∙ e) ∙
      ap (λ (k : ℕ). Some (g k)) q)
      (lt_or_le a i)

-- The first clash by the numbers of the piece's runs.

-- in one column
clash_at : (y : ℕ) (c b : List Rows) (k : ℕ) {x : Rows} → k < length c → ((m : ℕ) → m < k → lowest_met y (get_or c m no_rows) b ≡ None) →
    lowest_met y (get_or c k no_rows) b ≡ Some x → clash_in y c b ≡ Some (record { own = get_or c k no_rows; met = x })
unfolding clash_in clash_or
clash_at y [] b k l before e = absurd (omega arith)
clash_at y (r ∷ rs) b zero l before e = ap (λ (z : Option Rows). clash_or r z (clash_in y rs b)) e
clash_at y (r ∷ rs) b (suc k) l before e =
    ap (λ (z : Option Rows). clash_or r z (clash_in y rs b)) (before 0 (omega arith)) ∙
    clash_at y rs b k (omega arith) (λ m u. before (suc m) (omega arith)) e

no_clash_at : (y : ℕ) (c b : List Rows) → ((m : ℕ) → m < length c → lowest_met y (get_or c m no_rows) b ≡ None) → clash_in y c b ≡ None
unfolding clash_in clash_or
no_clash_at y [] b h = refl
no_clash_at y (r ∷ rs) b h =
    ap (λ (z : Option Rows). clash_or r z (clash_in y rs b)) (h 0 (omega arith)) ∙
    no_clash_at y rs b (λ m u. h (suc m) (omega arith))

-- stretch k of column i
abbrev stretch_at : List (List Rows) → ℕ → ℕ → Rows
stretch_at piece i k = get_or (get_or piece i []) k no_rows

-- the first clash is that of the stretch with the least number that meets something
first_clash_lem : (y : ℕ) (piece there : List (List Rows)) (i k : ℕ) {x : Rows} → k < length (get_or piece i []) →
    ((i' k' : ℕ) → k' < length (get_or piece i' []) → number_of piece i' k' < number_of piece i k →
    lowest_met y (stretch_at piece i' k') (get_or there i' []) ≡ None) →
    lowest_met y (stretch_at piece i k) (get_or there i []) ≡ Some x →
    first_clash y piece there ≡ Some (record { own = stretch_at piece i k; met = x })
unfolding lowest_met first_clash first_of number_of count_runs
first_clash_lem y [] there i k l before e = absurd (omega arith)
first_clash_lem y (c ∷ cs) [] i k {x} l before e = absurd (none-some x e)
first_clash_lem y (c ∷ cs) (b ∷ bs) zero k l before e =
    ap (λ (z : Option Clash). first_of z (first_clash y cs bs))
    (clash_at y c b k l (λ m u. before 0 m (omega arith) (omega arith)) e)
first_clash_lem y (c ∷ cs) (b ∷ bs) (suc i) k l before e =
    ap (λ (z : Option Clash). first_of z (first_clash y cs bs)) (no_clash_at y c b (λ m u. before 0 m u (omega arith))) ∙
    first_clash_lem y cs bs i k l (λ i' k' u v. before (suc i') k' u (omega arith)) e

-- the first clash, and the low of the piece's run
pub record FirstMet (y : ℕ) (piece there : List (List Rows)) (low : ℕ) (met : Rows) : Type 0 where
  pub own : Rows
  pub is : first_clash y piece there ≡ Some (record { own = own; met = met })
  pub low_is : own.low ≡ low

-- The piece's runs in words: run k meets x, and no run before it meets anything.
module _ {piece : List (List Rows)} {r : List ℕ} {p : ℕ} (stands : Stands piece r p) where
  abbrev rest : List ℕ
  rest = drop (3 * p) r

  run_at : (i k : ℕ) → k < length (get_or piece i []) → RunAt r (number_of piece i k) i (stretch_at piece i k)
  run_at i k l =
      subst (λ (ws : List ℕ). RunAt ws (number_of piece i k) i (stretch_at piece i k))
      (ap (λ (ws : List ℕ). ws ++ rest) (sym stands.words) ∙ take-append-drop (3 * p) r) (run_words_lem piece rest i k l)

  pub first_met : (y : ℕ) (there : List (List Rows)) (k : ℕ) (x : Rows) → k < p →
      ((m i : ℕ) (rows : Rows) → m < k → RunAt r m i rows → lowest_met y rows (get_or there i []) ≡ None) →
      ((i : ℕ) (rows : Rows) → RunAt r k i rows → lowest_met y rows (get_or there i []) ≡ Some x) →
      FirstMet y piece there (run_low r k) x
  first_met y there k x l before here =
      let s = spot piece k in
      let at = spot_number piece k (omega (arith, stands.count)) in
      let own = stretch_at piece s.0 s.1 in
      let run : RunAt r k s.0 own = subst (λ (m : ℕ). RunAt r m s.0 own) at.1 (run_at s.0 s.1 at.0) in
      record {
        own = own;
        is =
            first_clash_lem y piece there s.0 s.1 at.0
            (λ i' k' u v. before (number_of piece i' k') i' (stretch_at piece i' k') (omega (arith, at.1)) (run_at i' k' u))
            (here s.0 own run);
        low_is = sym run.low;
      }
