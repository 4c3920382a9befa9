-- Demand 3 from the contracts of the calls: over every list of place, ask and commit calls, by induction over the calls. What a strip
-- holds is what the list has put on it, so that the answer of each call, computed on the strip's runs, is about the pieces put.
-- Assumes nothing.
use mathlib.Core.Path.{◌≡◌, refl, sym, ap, subst, subst₂, ◌∙◌}
use mathlib.Core.Logic.{◌↔◌, ◌≢◌, ◌⊎◌, inl, inr, ⊎_elim}
use mathlib.Core.Bool.{true}
use mathlib.Core.List.{List, []}
use Prim.Native.Nat.{ℕ, zero, suc, ◌^◌, ◌≤◌, ◌<◌}
use native.Mathlib.Omega.{arith}
use native.Mathlib.Decide.{dec_lt}
use lib.ListN.{length, get_or}
use Rattle.std.specs.Prelude.{Result, Ok, Err}
use Rattle.defs.specs.declared.Refusal.{Refusal}
use Rattle.defs.specs.declared.Position.{Position}
use Rattle.defs.specs.Answer.{number_of, number_of_ask, number_of_commit}
use Rattle.defs.specs.Meaning.Limits.{most_turn}
use Rattle.defs.specs.Meaning.Cell.{Cells}
use Rattle.defs.specs.Meaning.Strip.{Length, columns_of}
use Rattle.defs.specs.Meaning.Placing.{moved, cells_at, Free, Best}
use Rattle.defs.specs.Meaning.Question.{Question18}
use Rattle.defs.specs.Computing.Cells.{Rows, in_rows}
use Rattle.defs.specs.Computing.Words.{records_of, columns_runs}
use Rattle.defs.specs.Computing.Calls.{refusal, place_answer, ask_answer, OpenLeaves, Left}
use Rattle.geom.proofs.Stretches.{no_rows}
use Rattle.tables.proofs.Tables.{In}
use Rattle.tables.proofs.Sets.{Same}
use Rattle.tables.proofs.Columns.{column_at, column_past}
use Rattle.claims.specs.Trace.{Call, PlaceCall, AskCall, CommitCall, place_call, ask_call, commit_call, Step, Calls, Trace, number_in, Puts, Changes, Lies, Occupied}
use Rattle.claims.specs.Demand3.{Place, Ask, Commit, Asked, SomeFree, NoChange, Demand3, Demand3_holds}
use Rattle.claims.proofs.Invariant.{Kept, kept}
use Rattle.claims.proofs.KeptStrip.{resolution_least, strip_formed, holds_held}
use Rattle.claims.proofs.PlaceAnswers.{place_not_5, place_best, place_13, place_granted}
use Rattle.claims.proofs.CommitAnswers.{commit_turn, commit_not_5, commit_not_13, commit_fits, commit_is_18, commit_granted}
use Rattle.claims.proofs.AskCommit.{commit_found}
use Rattle.claims.proofs.Effects.{Entry, Effect, stays, enters, effect, entry_cells}
use Rattle.claims.proofs.Distance.{Separate, pieces_separate}

-- an ask's number is that of the place call
shown_number : (a : Result Position Refusal) → number_of_ask a ≡ number_of a
shown_number (Ok p) = refl
shown_number (Err r) = refl

module _ {W R N g : ℕ} {x : Calls} (t : Trace W R N g x) where
  abbrev Q : ℕ
  Q = records_of N (length x.lent)

  abbrev held : ℕ → List (List Rows)
  held m = columns_runs (x.strip m)

  abbrev Occ : ℕ → Cells
  Occ m = Occupied W R N g x.call m

  pub step_of : (m : ℕ) (c : Call) → m < x.count → x.call m ≡ c → Step c (x.strip m) (x.strip (suc m))
  step_of m c h e = subst (λ (d : Call). Step d (x.strip m) (x.strip (suc m))) e (t.step m h)

  effect_of : (m : ℕ) → m < x.count → Effect W R N (x.strip m) (x.strip (suc m)) (x.call m)
  effect_of m h = effect (kept t m (omega arith)) (x.strip (suc m)) (x.call m) (t.step m h)

  -- the pieces on the strip after a call are those before it, and the one that it has put
  lies_cases : (m l : ℕ) (o : List ℕ) (p : Position) → Lies x.call (suc m) l o p →
      Lies x.call m l o p ⊎ Puts (x.call m) o p
  lies_cases m l o p c = go (dec_lt l m)
    where
      go : Dec (l < m) → Lies x.call m l o p ⊎ Puts (x.call m) o p
      go (yes h) = inl (record { earlier = h; puts = c.puts })
      go (no h) =
          let e : l ≡ m = omega (arith, c.earlier) in
          inr (subst (λ (n : ℕ). Puts (x.call n) o p) e c.puts)

  occupied_before : (m i j : ℕ) → Occ m i j → Occ (suc m) i j
  occupied_before m i j c =
      record {
        call = c.call;
        outline = c.outline;
        position = c.position;
        lies = record { earlier = omega (arith, c.lies.earlier); puts = c.lies.puts };
        covered = c.covered;
      }

  occupied_new : (m i j : ℕ) (o : List ℕ) (p : Position) → Puts (x.call m) o p → cells_at W R N g o p i j → Occ (suc m) i j
  occupied_new m i j o p u c =
      record { call = m; outline = o; position = p; lies = record { earlier = omega arith; puts = u }; covered = c }

  occupied_cases : (m i j : ℕ) → Occ (suc m) i j →
      Occ m i j ⊎ ((o : List ℕ) × (p : Position) × Puts (x.call m) o p × cells_at W R N g o p i j)
  occupied_cases m i j c =
      ⊎_elim
      (λ h. inl (record { call = c.call; outline = c.outline; position = c.position; lies = h; covered = c.covered }))
      (λ u. inr (c.outline, c.position, u, c.covered)) (lies_cases m c.call c.outline c.position c.lies)

  -- the strip holds what is occupied, by its table
  opened_empty : (i : ℕ) → get_or (held 0) i [] ≡ []
  unfolding OpenLeaves
  opened_empty i = go (dec_lt i (columns_of (x.strip 0)))
    where
      left : Left W R N g (length x.lent) (λ k. []) (x.strip 0)
      left = t.open_step.strip

      go : Dec (i < columns_of (x.strip 0)) → get_or (held 0) i [] ≡ []
      go (yes l) = column_at (x.strip 0) i l ∙ left.holds i (subst (λ (n : ℕ). i < n) left.columns l)
      go (no l) = column_past (x.strip 0) i (omega arith)

  abbrev Agree : ℕ → Type 0
  Agree m = Same (In (held m)) (Occ m)

  still_agree : (m : ℕ) → ((o : List ℕ) (p : Position) → ¬ Puts (x.call m) o p) → x.strip (suc m) ≡ x.strip m → Agree m → Agree (suc m)
  still_agree m none e h i j = (
    λ a. occupied_before m i j ((h i j).0 (subst (λ (s : List ℕ). In (columns_runs s) i j) e a)),
    λ c. subst (λ (s : List ℕ). In (columns_runs s) i j) (sym e)
        ((h i j).1 (⊎_elim (λ b. b) (λ n. absurd (none n.0 n.1 n.2)) (occupied_cases m i j c))),
  )

  grown_agree : (m : ℕ) (o : List ℕ) (p : Position) → Puts (x.call m) o p →
      ((v : List ℕ) (q : Position) → Puts (x.call m) v q → (o ≡ v) × (p ≡ q)) →
      Same (In (held (suc m))) (λ i j. In (held m) i j ⊎ cells_at W R N g o p i j) → Agree m → Agree (suc m)
  grown_agree m o p u only cells h i j = (
    λ a. ⊎_elim (λ b. occupied_before m i j ((h i j).0 b)) (λ c. occupied_new m i j o p u c) ((cells i j).0 a),
    λ c.
        (cells i j).1
        (⊎_elim (λ b. inl ((h i j).1 b))
        (λ n.
        let e = only n.0 n.1 n.2 in
        inr (subst₂ (λ (v : List ℕ) (q : Position). cells_at W R N g v q i j) (sym e.0) (sym e.1) n.3))
        (occupied_cases m i j c)),
  )

  held_is : (m : ℕ) → m ≤ x.count → Agree m
  held_is zero h =
      λ i j. (
        λ a. absurd (no_rows j (subst (λ (rs : List Rows). in_rows rs j ≡ true) (opened_empty i) a)),
        λ c. absurd (omega (arith, c.lies.earlier)),
      )
  held_is (suc m) h = go (effect_of m h) (held_is m (omega arith))
    where
      go : Effect W R N (x.strip m) (x.strip (suc m)) (x.call m) → Agree m → Agree (suc m)
      go (stays none e) a = still_agree m none e a
      go (enters o p u only changes entry) a =
          grown_agree m o p u only (entry_cells (kept t m (omega arith)) (x.strip (suc m)) o p entry) a

  -- each piece put is on the strip, and free of those there
  place_puts : (m : ℕ) (c : PlaceCall) (o : List ℕ) (p : Position) → Place x m c → (c.outline ≡ o) × (c.answer ≡ Ok p) →
      Question18 W R N g (Occ m) o p
  unfolding Step
  place_puts m c o p h u =
      let b =
      place_best (kept t m (omega (arith, h.0))) c.outline c.mask _ (Occ m) (held_is m (omega (arith, h.0))) p
      (sym (step_of m (place_call c) h.0 h.1).answer ∙ u.1) in
      subst (λ (v : List ℕ). Question18 W R N g (Occ m) v p) u.0 (record { on_strip = b.fits.on_strip; free = b.fits.free })

  commit_puts : (m : ℕ) (c : CommitCall) (o : List ℕ) (p : Position) → Commit x m c →
      (c.outline ≡ o) × (c.at ≡ p) × (c.answer ≡ Ok tt) → Question18 W R N g (Occ m) o p
  unfolding Step
  commit_puts m c o p h u =
      subst₂ (Question18 W R N g (Occ m)) u.0 u.1
      (commit_fits (kept t m (omega (arith, h.0))) c.outline c.at _ (Occ m) (held_is m (omega (arith, h.0)))
      (sym (step_of m (commit_call c) h.0 h.1).answer ∙ u.2))

  puts_fits : (m : ℕ) (o : List ℕ) (p : Position) → m < x.count → Puts (x.call m) o p → Question18 W R N g (Occ m) o p
  unfolding Puts
  puts_fits m o p h u = go (x.call m) refl u
    where
      go : (c : Call) → x.call m ≡ c → Puts c o p → Question18 W R N g (Occ m) o p
      go (place_call c) e u = place_puts m c o p (h, e) u
      go (ask_call c) e u = absurd u
      go (commit_call c) e u = commit_puts m c o p (h, e) u

  -- and entered, its outline in order
  pub puts_entry : (m : ℕ) (o : List ℕ) (p : Position) → m < x.count → Puts (x.call m) o p →
      Entry W R N (x.strip m) (x.strip (suc m)) o p
  puts_entry m o p h u = go (effect_of m h)
    where
      go : Effect W R N (x.strip m) (x.strip (suc m)) (x.call m) → Entry W R N (x.strip m) (x.strip (suc m)) o p
      go (stays none e) = absurd (none o p u)
      go (enters v q w only changes entry) =
          let e = only o p u in
          subst₂ (Entry W R N (x.strip m) (x.strip (suc m))) e.0 e.1 entry

  -- two pieces put: no cell that counts is covered for both, so their points keep the distance
  module _ (k l : ℕ) (o v : List ℕ) (p q : Position) (kl : k < l) (h : l < x.count) (uk : Puts (x.call k) o p)
      (ul : Puts (x.call l) v q) where
    cells_apart : (i j : ℕ) → cells_at W R N g o p i j → ¬ cells_at W R N g v q i j
    unfolding Free
    cells_apart i j c c' =
        (puts_fits l v q h ul).free i j c'
        (record { call = k; outline = o; position = p; lies = record { earlier = kl; puts = uk }; covered = c })

    first : Entry W R N (x.strip k) (x.strip (suc k)) o p
    first = puts_entry k o p (omega arith) uk

    second : Entry W R N (x.strip l) (x.strip (suc l)) v q
    second = puts_entry l v q h ul

    separate : Separate g (moved R o p) (moved R v q)
    separate =
        pieces_separate W R N g o v p q (resolution_least (kept t l (omega arith))) first.keeps second.keeps first.side
        second.side first.on_strip second.on_strip cells_apart

  -- and in a turn
  puts_turn : (m : ℕ) (o : List ℕ) (p : Position) → m < x.count → Puts (x.call m) o p → p.turn ≤ most_turn
  unfolding Puts Step
  puts_turn m o p h u = go (x.call m) refl u
    where
      go : (c : Call) → x.call m ≡ c → Puts c o p → p.turn ≤ most_turn
      go (place_call c) e u =
          (place_best (kept t m (omega arith)) c.outline c.mask _ (Occ m) (held_is m (omega arith)) p
          (sym (step_of m (place_call c) h e).answer ∙ u.1)).fits.allowed.turn
      go (ask_call c) e u = absurd u
      go (commit_call c) e u =
          subst (λ (q : Position). q.turn ≤ most_turn) u.1
          (commit_turn (kept t m (omega arith)) c.outline c.at _ (sym (step_of m (commit_call c) h e).answer ∙ u.2))

  -- where no call between changes the strip, it is the same
  unchanged : (l m : ℕ) → l ≤ m → m ≤ x.count → ((k : ℕ) → l ≤ k → k < m → ¬ Changes (x.call k)) → x.strip m ≡ x.strip l
  unchanged l zero b h none = ap x.strip (omega arith)
  unchanged l (suc m) b h none = go (dec_lt m l) (λ b. unchanged l m b (omega arith) (λ k u v. none k u (omega arith)))
    where
      one : l ≤ m → Effect W R N (x.strip m) (x.strip (suc m)) (x.call m) → x.strip (suc m) ≡ x.strip m
      one b (stays n e) = e
      one b (enters o p u only changes entry) = absurd (none m b (omega arith) changes)

      go : Dec (m < l) → (l ≤ m → x.strip m ≡ x.strip l) → x.strip (suc m) ≡ x.strip l
      go (yes q) rest = ap x.strip (omega arith)
      go (no q) rest = one (omega arith) (effect_of m h) ∙ rest (omega arith)

  module _ (l m : ℕ) (a : AskCall) (c : CommitCall) (before : l < m) (hl : Ask x l a) (hm : Commit x m c)
      (same : a.outline ≡ c.outline) (answered : a.answer ≡ Ok c.at) (none : NoChange x l m) where
    strip_same : x.strip m ≡ x.strip l
    unfolding Changes
    strip_same =
        unchanged l m (omega arith) (omega (arith, hm.0)) (λ k u v. go k u v (dec_lt l k))
      where
        go : (k : ℕ) → l ≤ k → k < m → Dec (l < k) → ¬ Changes (x.call k)
        go k u v (yes q) = none k q v
        go k u v (no q) =
            let e : l ≡ k = omega arith in
            subst (λ (n : ℕ). ¬ Changes (x.call n)) e (subst (λ (d : Call). ¬ Changes d) (sym hl.1) (λ z. z))

    -- a place call in the commit's place would give the ask's position
    placed_there : place_answer (x.strip m) c.outline a.mask (length a.work) ≡ Ok c.at
    unfolding Step ask_answer
    placed_there =
        ap (λ (s : List ℕ). place_answer s c.outline a.mask (length a.work)) strip_same ∙
        ap (λ (o : List ℕ). place_answer (x.strip l) o a.mask (length a.work)) (sym same) ∙
        sym (step_of l (ask_call a) hl.0 hl.1).answer ∙ answered

    commit_best : Best W R N g (Occ m) c.outline a.mask c.at
    commit_best =
        place_best (kept t m (omega (arith, hm.0))) c.outline a.mask _ (Occ m) (held_is m (omega (arith, hm.0))) c.at
        placed_there

    commit_as_asked :
        (c.answer ≡ Ok tt) ⊎ ((c.answer ≡ Err (refusal 12 1)) × (length c.work < length a.work))
    unfolding Step
    commit_as_asked =
        rw (step_of m (commit_call c) hm.0 hm.1).answer
        (commit_found (kept t m (omega (arith, hm.0))) c.outline a.mask _ c.at placed_there _)

  never_5_at : (m : ℕ) → m < x.count → number_in (x.call m) ≢ 5
  unfolding Step number_in ask_answer
  never_5_at m h = go (x.call m) (t.step m h)
    where
      k : Kept W R N g (length x.lent) (x.strip m)
      k = kept t m (omega arith)

      go : (c : Call) → Step c (x.strip m) (x.strip (suc m)) → number_in c ≢ 5
      go (place_call c) t e = place_not_5 k c.outline c.mask (length c.work) (ap number_of (sym t.answer) ∙ e)
      go (ask_call c) t e =
          place_not_5 k c.outline c.mask (length c.work)
          (sym (shown_number (place_answer (x.strip m) c.outline c.mask (length c.work))) ∙
          ap number_of_ask (sym t.answer) ∙ e)
      go (commit_call c) t e = commit_not_5 k c.outline c.at (length c.work) (ap number_of_commit (sym t.answer) ∙ e)

  pub demand3 : Demand3 W R N g x
  unfolding Free Step ask_answer
  demand3 =
      record {
        Q = Q;
        opened_with =
            subst₂ (λ (n w : ℕ). Length n Q w) (kept t 0 (omega arith)).columns (kept t 0 (omega arith)).long
            (strip_formed (kept t 0 (omega arith))).long;
        no_point_in_two =
            λ m k l o v p q a b d h kl lk ll.
            (separate k l o v p q kl (omega (arith, ll.earlier)) lk.puts ll.puts).none_in_both a b d;
        points_apart =
            λ m k l o v p q a b d a' b' d' h kl lk ll.
            (separate k l o v p q kl (omega (arith, ll.earlier)) lk.puts ll.puts).distant a b d a' b' d';
        in_turn = puts_turn;
        on_strip = λ m o p h u. (puts_fits m o p h u).on_strip;
        free = λ m o p h u. (puts_fits m o p h u).free;
        best_place =
            λ m c p h e.
            place_best (kept t m (omega (arith, h.0))) c.outline c.mask _ (Occ m) (held_is m (omega (arith, h.0))) p
            (sym (step_of m (place_call c) h.0 h.1).answer ∙ e);
        best_ask =
            λ m c p h e.
            place_best (kept t m (omega (arith, h.0))) c.outline c.mask _ (Occ m) (held_is m (omega (arith, h.0))) p
            (sym (step_of m (ask_call c) h.0 h.1).answer ∙ e);
        best_commit = λ l m a c b hl hm same answered none e. commit_best l m a c b hl hm same answered none;
        no_position =
            λ m c h.
            subst
            (λ (a : Result Position Refusal).
            (number_of a ≡ 13) ↔ (Asked x R g m c.outline c.mask c.work × ¬ SomeFree x W R N g m c.outline c.mask))
            (sym (step_of m (place_call c) h.0 h.1).answer)
            (place_13 (kept t m (omega (arith, h.0))) c.outline c.mask _ (Occ m) (held_is m (omega (arith, h.0))));
        ask_no_position =
            λ m c h.
            subst
            (λ (n : ℕ).
            (n ≡ 13) ↔ (Asked x R g m c.outline c.mask c.work × ¬ SomeFree x W R N g m c.outline c.mask))
            (sym
            (ap number_of_ask (step_of m (ask_call c) h.0 h.1).answer ∙
            shown_number (place_answer (x.strip m) c.outline c.mask (length c.work))))
            (place_13 (kept t m (omega (arith, h.0))) c.outline c.mask _ (Occ m) (held_is m (omega (arith, h.0))));
        commit_18 =
            λ m c h.
            subst
            (λ (a : Result Unit Refusal).
            (number_of_commit a ≡ 18) ↔
            (Asked x R g m c.outline (2 ^ c.at.turn) c.work × ¬ Question18 W R N g (Occ m) c.outline c.at))
            (sym (step_of m (commit_call c) h.0 h.1).answer)
            (commit_is_18 (kept t m (omega (arith, h.0))) c.outline c.at _ (Occ m) (held_is m (omega (arith, h.0))));
        commit_never_13 =
            λ m c h e.
            commit_not_13 (kept t m (omega (arith, h.0))) c.outline c.at _
            (ap number_of_commit (sym (step_of m (commit_call c) h.0 h.1).answer) ∙ e);
        never_5 = never_5_at;
        places_it =
            λ m c h a f room.
            let granted =
            place_granted (kept t m (omega (arith, h.0))) c.outline c.mask _ (Occ m) (held_is m (omega (arith, h.0))) a f room in
            (granted.0, (step_of m (place_call c) h.0 h.1).answer ∙ granted.1);
        finds_it =
            λ m c h a f room.
            let granted =
            place_granted (kept t m (omega (arith, h.0))) c.outline c.mask _ (Occ m) (held_is m (omega (arith, h.0))) a f room in
            (granted.0, (step_of m (ask_call c) h.0 h.1).answer ∙ granted.1);
        commits_it =
            λ m c h a f room.
            (step_of m (commit_call c) h.0 h.1).answer ∙
            commit_granted (kept t m (omega (arith, h.0))) c.outline c.at _ (Occ m) (held_is m (omega (arith, h.0))) a f room;
        as_asked = commit_as_asked;
        ask_as_place = λ m c b n s' work' h t. (step_of m (ask_call c) h.0 h.1).answer ∙ sym t.answer;
        ask_keeps = λ m c h. (step_of m (ask_call c) h.0 h.1).strip;
        strip_is =
            λ m h.
            let k = kept t m h in
            record {
              well_formed = strip_formed k;
              width = k.width;
              resolution = k.resolution;
              columns = k.columns;
              gap = k.gap;
              holds =
                  λ i j.
                  let t = holds_held k i j in
                  (λ a. (held_is m h i j).0 (t.0 a), λ c. t.1 ((held_is m h i j).1 c));
            };
      }

pub demand3_holds : Demand3_holds
unfolding Demand3_holds
demand3_holds W R N g x t = demand3 t
