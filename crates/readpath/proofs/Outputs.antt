-- What the call answers and leaves, by the questions passed. Assumes nothing.
use mathlib.Core.Path.{◌≡◌, sym, ap, ◌∙◌}
use mathlib.Core.Bool.{Bool, true, false}
use mathlib.Core.List.{List}
use Prim.Native.Nat.{ℕ, ◌*◌, ◌≤◌, ◌<◌}
use native.Mathlib.Omega.{arith}
use native.Mathlib.Nat.{zero-add}
use lib.Dec.{leb}
use lib.ListN.{length, take, length-take}
use lib.Seq.{sets, sets-eq}
use borrow.Author.Tests.{le-leb, lt-leb}
use Rattle.std.specs.Prelude.{Result, Ok, Err}
use Rattle.defs.specs.declared.Refusal.{Refusal}
use Rattle.defs.specs.Computing.Calls.{refusal}
use Rattle.pathdefs.specs.Computing.Paths.{vertices_in, q20b, path_words, read_path_answer, read_path_output, PathReadStep}
use Rattle.readpath.specs.Passed.{Shaped, Unshaped, Accepts}
use Rattle.readpath.proofs.Words.{length_words}

refused_step : {b out out' : List ℕ} {a : Result ℕ Refusal} {r : Refusal} → read_path_answer b (length out) ≡ Err r → a ≡ Err r → out' ≡ out →
    PathReadStep b out a out'
unfolding read_path_output
refused_step {b} {out} h e o = record { answer = e ∙ sym h; output = o ∙ sym (ap (read_path_output b out) e) }

pub other_shape : {b out out' : List ℕ} {a : Result ℕ Refusal} → Unshaped b → a ≡ Err (refusal 19 0) → out' ≡ out → PathReadStep b out a out'
unfolding read_path_answer
other_shape u e o = refused_step (rw u.fails) e o

module _ {b : List ℕ} {n : ℕ} (s : Shaped b n) {t : Bool} {w : List ℕ} (q : Accepts b n t w) where
  pub not_accepted : {out out' : List ℕ} {a : Result ℕ Refusal} → t ≡ false → a ≡ Err (refusal 20 0) → out' ≡ out → PathReadStep b out a out'
  unfolding read_path_answer
  not_accepted f g o = let h : q20b b ≡ false = sym q.twenty ∙ f in refused_step (rw (s.nineteen, h)) g o

  module _ (f : t ≡ true) where
    twenty : q20b b ≡ true
    twenty = sym q.twenty ∙ f

    pub words_kept : length (take (2 * n) w) ≡ 2 * n
    words_kept = ap length (q.kept f) ∙ length_words s

    pub words_within : 2 * n ≤ length w
    words_within = omega (arith, length-take (2 * n) w, words_kept)

    pub no_room : {out out' : List ℕ} {a : Result ℕ Refusal} → length out < 2 * n → a ≡ Err (refusal 15 0) → out' ≡ out → PathReadStep b out a out'
    unfolding read_path_answer
    no_room {out} l g o =
        let h : leb (2 * vertices_in b) (length out) ≡ false = lt-leb (2 * vertices_in b) (length out) (omega (arith, l, s.count)) in
        refused_step (rw (s.nineteen, twenty, h)) g o

    pub read : {out out' : List ℕ} → 2 * n ≤ length out → out' ≡ sets out 0 (take (2 * n) w) → PathReadStep b out (Ok (2 * n)) out'
    unfolding read_path_answer read_path_output
    read {out} l o =
        let h : leb (2 * vertices_in b) (length out) ≡ true = le-leb (2 * vertices_in b) (length out) (omega (arith, l, s.count)) in
        let k : length (path_words b) ≡ 2 * n = length_words s in
        record {
          answer = ap (λ (m : ℕ). Ok (2 * m)) s.count ∙ sym (rw (s.nineteen, twenty, h));
          output = o ∙ ap (sets out 0) (q.kept f) ∙ sets-eq (path_words b) out 0 (rw (zero-add (length (path_words b)), k) l) ∙ rw (zero-add (length (path_words b)), k);
        }
