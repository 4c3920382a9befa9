-- What lay says of its entries: pieces placed and used length are those of the entries' fates, and the output has four words an entry.
-- Assumes nothing.
use mathlib.Core.Path.{◌≡◌, refl, sym, ap, subst, ◌∙◌}
use mathlib.Core.Logic.{◌⊎◌, ◌≢◌, inl, inr, ⊎_elim, ⊎_map}
use mathlib.Core.List.{List, [], ◌∷◌, ◌++◌, append_assoc}
use Prim.Native.Nat.{ℕ, zero, suc, ◌+◌, ◌*◌, ◌≤◌, ◌<◌, max}
use native.Mathlib.Omega.{arith}
use lib.ListN.{length, get_or, get_or-append}
use lib.Seq.{get_or-append-add}
use Rattle.defs.specs.declared.Position.{Position}
use Rattle.defs.specs.declared.Entry.{Entry}
use Rattle.defs.specs.declared.Fate.{Fate}
use Rattle.defs.specs.declared.Fate.TheVariants.{Placed, Refused}
use Rattle.defs.specs.Answer.{fate_words}
use Rattle.defs.specs.Meaning.Placing.{right_edge}
use Rattle.defs.specs.Meaning.Sheet.{Piece}
use Rattle.defs.specs.Meaning.Job.{Used, CountPlaced, none_yet, one_more, refused}
use Rattle.defs.specs.Computing.Lay.{placed_in, used_in, entries_words}
use Rattle.geom.proofs.Strip.{le_or_lt}
use Rattle.claims.specs.Laying.{piece_at}

-- the fate with number m
abbrev pub fate_at : List Entry → ℕ → Fate
fate_at es m = (get_or es m (record { ordinal = 0; fate = Refused 0 })).fate

-- pieces placed, with one more before them
module _ (f : ℕ → Fate) where
  placed_before : {n c : ℕ} (p : Position) → f 0 ≡ Placed p → CountPlaced (λ m. f (suc m)) n c → CountPlaced f (suc n) (suc c)
  placed_before p e none_yet = one_more p e none_yet
  placed_before p e (one_more q d h) = one_more q d (placed_before p e h)
  placed_before p e (refused k d h) = refused k d (placed_before p e h)

  refused_before : {n c : ℕ} (k : ℕ) → f 0 ≡ Refused k → CountPlaced (λ m. f (suc m)) n c → CountPlaced f (suc n) c
  refused_before k e none_yet = refused k e none_yet
  refused_before k e (one_more q d h) = one_more q d (refused_before k e h)
  refused_before k e (refused j d h) = refused j d (refused_before k e h)

pub placed_counted : (es : List Entry) → CountPlaced (fate_at es) (length es) (placed_in es)
unfolding placed_in
placed_counted [] = none_yet
placed_counted (e ∷ es) = go e.fate refl (placed_counted es)
  where
    go : (f : Fate) → e.fate ≡ f → CountPlaced (fate_at es) (length es) (placed_in es) →
        CountPlaced (fate_at (e ∷ es)) (suc (length es)) (elim f [ Placed p ↦ 1 | Refused n ↦ 0 ] + placed_in es)
    go (Placed p) q h = subst (CountPlaced (fate_at (e ∷ es)) (suc (length es))) (omega arith) (placed_before (fate_at (e ∷ es)) p q h)
    go (Refused n) q h = subst (CountPlaced (fate_at (e ∷ es)) (suc (length es))) (omega arith) (refused_before (fate_at (e ∷ es)) n q h)

same_place : {p q : Position} → Placed p ≡ Placed q → p ≡ q
same_place e = cc

not_placed : {n : ℕ} {p : Position} → Refused n ≢ Placed p
not_placed e = let z : ◌≡◌ {A = ℕ} 0 1 = cc in omega arith

-- the two ways to have used length u: some piece ends there, or none is placed
abbrev Reaches : ℕ → (ℕ → List ℕ) → (ℕ → Fate) → ℕ → ℕ → Type 0
Reaches R o f n u = (k : ℕ) × (p : Position) × (k < n) × (f k ≡ Placed p) × (right_edge R (o k) p ≡ u)

abbrev NonePlaced : (ℕ → Fate) → ℕ → Type 0
NonePlaced f n = (k : ℕ) (p : Position) → k < n → f k ≢ Placed p

-- used length, with one piece more before them
module _ (R : ℕ) (o : ℕ → List ℕ) (f : ℕ → Fate) {n u : ℕ} (rest : Used R (λ m. o (suc m)) (λ m. f (suc m)) n u) where
  reaches_later : {v : ℕ} → u ≡ v → Reaches R (λ m. o (suc m)) (λ m. f (suc m)) n u → Reaches R o f (suc n) v
  reaches_later e r = (suc r.0, r.1, omega (arith, r.2), r.3, r.4 ∙ e)

  used_placed : (p : Position) → f 0 ≡ Placed p → Used R o f (suc n) (max (right_edge R (o 0) p) u)
  used_placed p e = record { greatest = greatest; reached = inl (reached (le_or_lt u (right_edge R (o 0) p))) }
    where
      greatest : (k : ℕ) (q : Position) → k < suc n → f k ≡ Placed q → right_edge R (o k) q ≤ max (right_edge R (o 0) p) u
      greatest zero q h d = let z = ap (right_edge R (o 0)) (same_place (sym e ∙ d)) in omega arith
      greatest (suc k) q h d = omega (arith, rest.greatest k q (omega arith) d)

      reached : (u ≤ right_edge R (o 0) p) ⊎ (right_edge R (o 0) p < u) →
          Reaches R o f (suc n) (max (right_edge R (o 0) p) u)
      reached (inl l) = (0, p, omega arith, e, omega arith)
      reached (inr l) = ⊎_elim (reaches_later (omega arith)) (λ r. absurd (omega (arith, r.1))) rest.reached

  used_refused : (m : ℕ) → f 0 ≡ Refused m → Used R o f (suc n) (max 0 u)
  used_refused m e =
      record {
        greatest = greatest;
        reached = ⊎_map (reaches_later (omega arith)) (λ r. (none r.0, omega (arith, r.1))) rest.reached;
      }
    where
      greatest : (k : ℕ) (q : Position) → k < suc n → f k ≡ Placed q → right_edge R (o k) q ≤ max 0 u
      greatest zero q h d = absurd (not_placed (sym e ∙ d))
      greatest (suc k) q h d = omega (arith, rest.greatest k q (omega arith) d)

      none : NonePlaced (λ m. f (suc m)) n → NonePlaced f (suc n)
      none r zero q h d = not_placed (sym e ∙ d)
      none r (suc k) q h d = r k q (omega arith) d

-- used length of the whole list
pub used_reached : (R : ℕ) (ps : List Piece) (es : List Entry) → length es ≡ length ps →
    Used R (λ m. (piece_at ps m).outline) (fate_at es) (length ps) (used_in R ps es)
unfolding used_in
used_reached R [] es e =
    record { greatest = λ k p h. absurd (omega arith); reached = inr (λ k p h. absurd (omega arith), refl) }
used_reached R (p ∷ ps) [] e = absurd (omega arith)
used_reached R (p ∷ ps) (x ∷ es) e = go x.fate refl (used_reached R ps es (omega arith))
  where
    go : (f : Fate) → x.fate ≡ f → Used R (λ m. (piece_at ps m).outline) (fate_at es) (length ps) (used_in R ps es) →
        Used R (λ m. (piece_at (p ∷ ps) m).outline) (fate_at (x ∷ es)) (suc (length ps))
        (max (elim f [ Placed q ↦ right_edge R p.outline q | Refused n ↦ 0 ]) (used_in R ps es))
    go (Placed q) d h = used_placed R (λ m. (piece_at (p ∷ ps) m).outline) (fate_at (x ∷ es)) h q d
    go (Refused n) d h = used_refused R (λ m. (piece_at (p ∷ ps) m).outline) (fate_at (x ∷ es)) h n d

length_fate : (f : Fate) → length (fate_words f) ≡ 4
length_fate (Placed p) = refl
length_fate (Refused n) = refl

pub entries_words_lem : (es : List Entry) (rest : List ℕ) (m i : ℕ) → m < length es → i < 4 →
    get_or (entries_words es ++ rest) (4 * m + i) 0 ≡ get_or (fate_words (fate_at es m)) i 0
unfolding entries_words
entries_words_lem [] rest m i h l = absurd (omega arith)
entries_words_lem (e ∷ es) rest zero i h l =
    rw (append_assoc (fate_words e.fate) (entries_words es) rest)
    (ap (λ (k : ℕ). get_or (fate_words e.fate ++ (entries_words es ++ rest)) k 0) (omega arith) ∙
    get_or-append (fate_words e.fate) (entries_words es ++ rest) 0 i (omega (arith, length_fate e.fate)))
entries_words_lem (e ∷ es) rest (suc m) i h l =
    rw (append_assoc (fate_words e.fate) (entries_words es) rest)
    (ap (λ (k : ℕ). get_or (fate_words e.fate ++ (entries_words es ++ rest)) k 0) (omega (arith, length_fate e.fate)) ∙
    get_or-append-add (fate_words e.fate) (entries_words es ++ rest) (4 * m + i) 0 ∙ entries_words_lem es rest m i (omega arith) l)
