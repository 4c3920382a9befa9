-- Demand 1 from the steps of the calls: each says of a refusal that what was lent stays, of a granted call that what is past the output
-- stays, and of a work buffer that it is zeros.
-- Assumes nothing.
use mathlib.Core.Path.{◌≡◌, refl, ap, ◌∙◌}
use mathlib.Core.List.{List}
use Prim.Native.Nat.{ℕ, zero, suc}
use lib.ListN.{length, get_or, replicate, length-replicate}
use Rattle.defs.specs.Computing.Calls.{OpenLeaves, PlaceLeaves, CommitLeaves, cover_output, cleared}
use Rattle.defs.specs.Computing.Sheets.{read_output, write_output}
use Rattle.defs.specs.Computing.Lay.{lay_output, LayLeaves}
use Rattle.claims.specs.Demand1.{Zero, Demand1}
use Rattle.claims.proofs.Past.{cover_past, read_past, write_past, lay_past}

zeros_at : (n i : ℕ) → ◌≡◌ {A = ℕ} (get_or (replicate n 0) i 0) 0
zeros_at zero i = refl
zeros_at (suc n) zero = refl
zeros_at (suc n) (suc i) = zeros_at n i

zeros : (work work' : List ℕ) → work' ≡ cleared work → Zero work work'
zeros work work' e =
    record {
      long = ap length e ∙ length-replicate (length work) 0;
      zero = λ i. ap (λ (l : List ℕ). get_or l i 0) e ∙ zeros_at (length work) i;
    }

pub demand1 : Demand1
unfolding OpenLeaves PlaceLeaves CommitLeaves cover_output read_output write_output lay_output LayLeaves
demand1 =
    record {
      open_keeps = λ x. x.strip;
      cover_keeps = λ x. x.output;
      place_keeps = λ x. x.strip;
      ask_keeps = λ x. x.strip;
      commit_keeps = λ x. x.strip;
      read_keeps = λ x. x.output;
      write_keeps = λ x. x.output;
      lay_keeps = λ x. (x.strip, x.output);
      cover_past = cover_past;
      read_past = read_past;
      write_past = write_past;
      lay_past = lay_past;
      place_clears = λ x. zeros _ _ x.zeros;
      ask_clears = λ x. zeros _ _ x.zeros;
      commit_clears = λ x. zeros _ _ x.zeros;
      lay_clears = λ x. zeros _ _ x.zeros;
    }
