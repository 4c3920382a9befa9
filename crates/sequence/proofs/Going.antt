-- The pieces of a chain laid one after another: what is left gives the whole. Assumes nothing.
use mathlib.Core.Path.{◌≡◌, refl, sym, ap, ◌∙◌}
use mathlib.Core.Bool.{false}
use mathlib.Core.List.{List, [], ◌∷◌, ◌++◌, map}
use Prim.Native.Nat.{ℕ, ◌+◌, ◌-◌, ◌*◌, ◌≤◌, ◌<◌, max}
use native.Mathlib.Omega.{arith}
use native.Mathlib.Decide.{dec_lt}
use lib.ListN.{length, length-append}
use lib.Seq.{sets, length-sets}
use Rattle.std.specs.Prelude.{Some, None, Result, Ok, Err}
use Rattle.defs.specs.declared.Position.{Position}
use Rattle.defs.specs.declared.Refusal.{Refusal}
use Rattle.defs.specs.declared.Entry.{Entry}
use Rattle.defs.specs.declared.Fate.TheVariants.{Placed as FatePlaced, Refused as FateRefused}
use Rattle.defs.specs.Answer.{fate_words}
use Rattle.defs.specs.Meaning.Placing.{right_edge}
use Rattle.defs.specs.Meaning.Sheet.{Piece, first_piece}
use Rattle.defs.specs.Computing.Cells.{Rows}
use Rattle.defs.specs.Computing.Calls.{place_on}
use Rattle.defs.specs.Computing.Sheets.{piece_of, sheet_pieces, sheet_piece_no, first_no}
use Rattle.defs.specs.Computing.Lay.{fate_of, held_after, entries_from, held_from, placed_in, used_in, entries_words}
use Rattle.tables.specs.Flat.{table_of}
use Rattle.tables.proofs.Copies.{NoneBefore, none_before_0}
use Rattle.defs.specs.Computing.Test.{chain_by}
use Rattle.laws.proofs.Walks.{chain_zero}
use Rattle.laws.proofs.Stores.{sets_append}
use Rattle.sheets.proofs.Asking.{first_none}
use Rattle.cutlist.specs.declared.chain.PieceRecords.{PieceRecords}
use Rattle.cutlist.specs.Pieces.{PieceAt, ChainEnds, next_piece}
use Rattle.cutlist.specs.Along.{records_left, Along, Starts, Steps}
use Rattle.cutlist.proofs.Chained.{starts, all, here}
use Rattle.cutlist.proofs.Lists.{few_left, step_along, step_here}
use Rattle.fates.specs.declared.Tally.{Tally}
use Rattle.fates.specs.Fates.{edge_of, one_if, tallied, Few}
use Rattle.piece.specs.Boards.{held_by, Boards}
use Rattle.piece.specs.Pieces.{PieceLaid}
use Rattle.sequence.specs.Chained.{JobReady, JobLaid}
use Rattle.piece.proofs.Pieces.{piece_ordered}
use Rattle.sequence.proofs.Copied.{held_table, answer_tells}

-- entries and runs, one piece after another
module _ (W R N g Q words k : ℕ) (held : List (List Rows)) (p : Piece) (ps : List Piece) where
  abbrev a : Result Position Refusal
  a = place_on W R N g Q held p.outline p.mask words

  abbrev after : List Entry
  after = entries_from W R N g Q words (k + 1) (held_after W R g held p.outline a) ps

  held_step : held_from W R N g Q words held (p ∷ ps) ≡ held_from W R N g Q words (held_after W R g held p.outline a) ps
  unfolding held_from
  held_step = refl

  words_step : entries_words (entries_from W R N g Q words k held (p ∷ ps)) ≡ fate_words (fate_of a) ++ entries_words after
  unfolding entries_from entries_words
  words_step = refl

  placed_step : placed_in (entries_from W R N g Q words k held (p ∷ ps)) ≡ one_if a + placed_in after
  unfolding entries_from placed_in
  placed_step = ap (λ (n : ℕ). n + placed_in after) (go a)
    where
      go : (a : Result Position Refusal) → (elim (fate_of a) [ FatePlaced p ↦ 1 | FateRefused n ↦ 0 ]) ≡ one_if a
      go (Ok p) = refl
      go (Err r) = refl

  used_step : used_in R (p ∷ ps) (entries_from W R N g Q words k held (p ∷ ps)) ≡ max (edge_of R p.outline a) (used_in R ps after)
  unfolding entries_from used_in
  used_step = ap (λ (n : ℕ). max n (used_in R ps after)) (go a)
    where
      go : (a : Result Position Refusal) → (elim (fate_of a) [ FatePlaced q ↦ right_edge R p.outline q | FateRefused n ↦ 0 ]) ≡ edge_of R p.outline a
      go (Ok q) = refl
      go (Err r) = refl

four_words : (a : Result Position Refusal) → length (fate_words (fate_of a)) ≡ 4
four_words (Ok p) = refl
four_words (Err r) = refl

-- four words an entry
pub words_long : (W R N g Q words k : ℕ) (held : List (List Rows)) (ps : List Piece) →
    length (entries_words (entries_from W R N g Q words k held ps)) ≡ 4 * length ps
unfolding entries_from entries_words
words_long W R N g Q words k held [] = refl
words_long W R N g Q words k held (p ∷ ps) =
    let a = place_on W R N g Q held p.outline p.mask words in
    omega (
      arith,
      ap length (words_step W R N g Q words k held p ps),
      length-append (fate_words (fate_of a)) (entries_words (entries_from W R N g Q words (k + 1) (held_after W R g held p.outline a) ps)),
      four_words a,
      words_long W R N g Q words (k + 1) (held_after W R g held p.outline a) ps,
    )

one_most : (a : Result Position Refusal) → one_if a ≤ 1
one_most (Ok p) = omega arith
one_most (Err r) = omega arith

-- what the whole job comes to: its output, pieces placed, used length and runs
pub record Whole : Type 0 where
  pub output : List ℕ
  pub placed : ℕ
  pub used : ℕ
  pub held : List (List Rows)

abbrev pub whole_from : (out : List ℕ) (W R N g Q words k : ℕ) (held : List (List Rows)) (ps : List Piece) (placed used : ℕ) → Whole
whole_from out W R N g Q words k held ps placed used =
    let es = entries_from W R N g Q words k held ps in
    record {
      output = sets out (4 * (k - 1)) (entries_words es);
      placed = placed + placed_in es;
      used = max used (used_in R ps es);
      held = held_from W R N g Q words held ps;
    }

whole_by : {o o' : List ℕ} {p p' u u' : ℕ} {c c' : List (List Rows)} → o ≡ o' → p ≡ p' → u ≡ u' → c ≡ c' →
    ◌≡◌ {A = Whole} (record { output = o; placed = p; used = u; held = c }) (record { output = o'; placed = p'; used = u'; held = c' })
whole_by a b c d = rw (a, b, c, d) refl

-- the pieces before those that are left are laid, and the others on top of them give the whole; `last` is the last of them, or the first
pub record Going (b : List ℕ) (v : ℕ) (W R N g Q words : ℕ) (x : Whole) (s : PieceRecords) (last : ℕ) (t : Tally) (f l h f₂ l₂ h₂ : List ℕ) (out : List ℕ) (long : ℕ) : Type 0 where
  pub along : Along b v s
  pub passes : first_no (sheet_piece_no b) t.ordinal (records_left s) ≡ None
  pub place : t.ordinal + length (records_left s) ≤ 201
  pub placed : t.placed + length (records_left s) ≤ 200
  pub first : 1 ≤ t.ordinal
  pub boards : Boards t.second f l h f₂ l₂ h₂ W R N g Q
  pub same : length out ≡ long
  pub room : 4 * (t.ordinal - 1) + 4 * length (records_left s) ≤ long
  pub whole :
      whole_from out W R N g Q words t.ordinal (held_by t.second f l h f₂ l₂ h₂ N) (map (piece_of b) (records_left s)) t.placed t.used ≡ x
  pub last_here : 0 < length (records_left s) → PieceAt b v last
  pub copies :
      NoneBefore W R N g (held_by t.second f l h f₂ l₂ h₂ N) (piece_of b last).outline (piece_of b last).mask t.lower

abbrev pub started : Tally
started = record { ordinal = 1; placed = 0; used = 0; second = false; lower = 0 }

first_here : {b : List ℕ} {v last : ℕ} (n : ℕ) → ChainEnds b v → last ≡ first_piece b →
    0 < length (chain_by (next_piece b) n last) → PieceAt b v last
first_here {b} {v} {last} n c e l = go (dec_lt 0 last)
  where
    go : Dec (0 < last) → PieceAt b v last
    go (yes p) = here (starts c e) (λ z. omega (arith, p, z))
    go (no z) =
        let none : last ≡ 0 = omega (arith, z) in
        absurd (omega (arith, l, ap length (ap (chain_by (next_piece b) n) none ∙ chain_zero (next_piece b) n)))

pub going_start : {b : List ℕ} {v last : ℕ} {s : PieceRecords} {f l h f₂ l₂ h₂ out : List ℕ} {W R N g Q : ℕ} (words : ℕ) →
    JobReady b v f l h f₂ l₂ h₂ out W R N g Q → Starts b v s → last ≡ first_piece b →
    Going b v W R N g Q words (whole_from out W R N g Q words 1 (table_of f l h N) (sheet_pieces b) 0 0) s last started f l h f₂ l₂ h₂ out (length out)
unfolding sheet_pieces
going_start {b} {s = s} words r y e =
    record {
      along = y.along;
      passes = rw y.all r.none_no.is;
      place = omega (arith, few_left s);
      placed = omega (arith, few_left s);
      first = omega arith;
      boards = r.boards;
      same = refl;
      room = rw y.all (omega (arith, r.room));
      whole = rw y.all refl;
      last_here = λ l. first_here 200 r.chain e (rw e (rw (y.all ∙ sym (all b refl)) at l));
      copies = none_before_0 _ _ _ _ _ _ _;
    }

module _
    {b : List ℕ}
    {v W R N g Q words : ℕ}
    {x : Whole}
    {r r' : PieceRecords}
    {at last : ℕ}
    {t : Tally}
    {f l h f₂ l₂ h₂ out : List ℕ}
    {long : ℕ}
    (s : Going b v W R N g Q words x r last t f l h f₂ l₂ h₂ out long)
    (step : Steps r (Some at) r') where
  abbrev later : List ℕ
  later = records_left r'

  rest_is : records_left r ≡ at ∷ later
  rest_is = step.yields

  pub going_here : PieceAt b v at
  going_here = step_here s.along step

  pub going_last : PieceAt b v last
  going_last = s.last_here (omega (arith, ap length rest_is))

  pass : (sheet_piece_no b at ≡ 0) × (first_no (sheet_piece_no b) (t.ordinal + 1) later ≡ None)
  pass = (first_none (sheet_piece_no b) t.ordinal at later).0 (ap (first_no (sheet_piece_no b) t.ordinal) (sym rest_is) ∙ s.passes)

  pub going_passes : sheet_piece_no b at ≡ 0
  going_passes = pass.0

  pub going_few : Few t
  going_few =
      let long = ap length rest_is in
      record { ordinal = omega (arith, s.place, long); placed = omega (arith, s.placed, long); first = s.first }

  long_is : length (records_left r) ≡ 1 + length later
  long_is = omega (arith, ap length rest_is)

  pub going_room : 4 * t.ordinal ≤ length out
  going_room = omega (arith, s.room, s.same, s.first, long_is)

  module _ {f' l' h' f₂' l₂' h₂' out' : List ℕ} {t' : Tally}
      (y : PieceLaid f l h f₂ l₂ h₂ f' l' h' f₂' l₂' h₂' out out' (piece_of b at).outline W R N g Q (piece_of b at).mask words t t') where
    abbrev piece : Piece
    piece = piece_of b at

    abbrev now_held : List (List Rows)
    now_held = held_by t.second f l h f₂ l₂ h₂ N

    abbrev answer : Result Position Refusal
    answer = place_on W R N g Q now_held piece.outline piece.mask words

    abbrev then_held : List (List Rows)
    then_held = held_after W R g now_held piece.outline answer

    abbrev entries : List Entry
    entries = entries_from W R N g Q words (t.ordinal + 1) then_held (map (piece_of b) later)

    abbrev next_tally : Tally
    next_tally = tallied t answer (edge_of R piece.outline answer)

    -- the whole by the pieces after this one
    whole_next :
        whole_from out' W R N g Q words (t.ordinal + 1) then_held (map (piece_of b) later) next_tally.placed next_tally.used ≡ x
    whole_next =
        let k = t.ordinal in
        let to : 4 * (k - 1) + length (fate_words (fate_of answer)) ≡ 4 * ((k + 1) - 1) = omega (arith, s.first, four_words answer) in
        let output =
        ap (λ (w : List ℕ). sets w (4 * ((k + 1) - 1)) (entries_words entries)) y.output ∙
        ap (λ (n : ℕ). sets (sets out (4 * (k - 1)) (fate_words (fate_of answer))) n (entries_words entries)) (sym to) ∙
        sym (sets_append out (fate_words (fate_of answer)) (entries_words entries) (4 * (k - 1))) ∙
        ap (sets out (4 * (k - 1))) (sym (words_step W R N g Q words k now_held piece (map (piece_of b) later))) in
        whole_by output
        (omega (arith, placed_step W R N g Q words k now_held piece (map (piece_of b) later)))
        (omega (arith, used_step W R N g Q words k now_held piece (map (piece_of b) later)))
        (sym (held_step W R N g Q words k now_held piece (map (piece_of b) later))) ∙
        ap (λ (rs : List ℕ). whole_from out W R N g Q words k now_held (map (piece_of b) rs) t.placed t.used) (sym rest_is) ∙ s.whole

    pub going_next : Going b v W R N g Q words x r' at t' f' l' h' f₂' l₂' h₂' out' long
    going_next =
        rw y.tally
        (record {
          along = step_along s.along step;
          passes = pass.1;
          place = omega (arith, s.place, long_is);
          placed = omega (arith, s.placed, long_is, one_most answer);
          first = omega arith;
          boards = y.turns.boards;
          same = ap length y.output ∙ length-sets out (4 * (t.ordinal - 1)) (fate_words (fate_of answer)) ∙ s.same;
          room = omega (arith, s.room, s.first, long_is);
          whole = rw y.turns.held whole_next;
          last_here = λ _. going_here;
          copies =
              rw y.turns.held
              (answer_tells W R N g Q words now_held piece.outline piece.mask (piece_ordered b at pass.0)
              s.boards.limits.resolution.at_least (held_table t.second s.boards) answer refl);
        })

pub going_end : {b : List ℕ} {v W R N g Q words : ℕ} {out₀ : List ℕ} {held : List (List Rows)} {r r' : PieceRecords} {last : ℕ} {t : Tally}
    {f l h f₂ l₂ h₂ out : List ℕ} {long : ℕ} →
    Going b v W R N g Q words (whole_from out₀ W R N g Q words 1 held (sheet_pieces b) 0 0) r last t f l h f₂ l₂ h₂ out long → Steps r None r' →
    JobLaid b held f l h f₂ l₂ h₂ out₀ out W R N g Q words t
unfolding entries_from entries_words held_from placed_in used_in
going_end {b} {W = W} {R} {N} {g} {Q} {words} {out₀} {held} {t = t} {f} {l} {h} {f₂} {l₂} {h₂} {out} s step =
    let ended = step.yields.0 in
    let w =
    ap (λ (rs : List ℕ). whole_from out W R N g Q words t.ordinal (held_by t.second f l h f₂ l₂ h₂ N) (map (piece_of b) rs) t.placed t.used) (sym ended) ∙ s.whole in
    record {
      output = ap (λ (x : Whole). x.output) w;
      placed = omega (arith, ap (λ (x : Whole). x.placed) w);
      used = omega (arith, ap (λ (x : Whole). x.used) w);
      boards = s.boards;
      holds = ap (λ (x : Whole). x.held) w;
    }
