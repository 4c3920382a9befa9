-- From an open call on local words to one on the strip's bytes. Assumes nothing.
use mathlib.Core.Path.{◌≡◌, refl, sym, ap, ◌∙◌}
use mathlib.Core.List.{List, ◌++◌}
use Prim.Native.Nat.{ℕ, ◌*◌, ◌/◌, ◌<◌, min}
use lib.Dec.{eqb}
use lib.ListN.{length, get_or, drop}
use borrow.Author.Tests.{eqb-true}
use Rattle.std.specs.Prelude.{Ok, Err}
use Rattle.defs.specs.declared.Refusal.{Refusal}
use Rattle.defs.specs.Computing.Words.{figures_no}
use Rattle.defs.specs.Computing.Calls.{open_answer, OpenLeaves, OpenStep}
use Rattle.defs.specs.Computing.Bytes.{words_in, word_bytes, OpenBytesStep}
use Rattle.laws.proofs.Tests.{ask_same}
use Rattle.laws.proofs.Questions.{figures_none}
use Rattle.bytewords.proofs.Laws.{words_length, put_all, bytes_back}
use Rattle.byteput.proofs.Caps.{Capped, uncapped, words_capped}
use Rattle.byteput.proofs.Strips.{left_short, length_same}

open_same : (W R N g : ℕ) {a b : ℕ} → Capped 68101 a b → open_answer W R N g b ≡ open_answer W R N g a
unfolding open_answer
open_same W R N g c =
    let first = figures_no W R N g in
    ask_same (eqb first 0) _ _ _ (λ e. rw (length_same N ((figures_none W R N g).0 (eqb-true first 0 e)).0.columns.at_most c))

module _ {W R N g : ℕ} {bs s s' : List ℕ} (long : length s ≡ min (length bs / 2) 68102) where
  pub opened_bytes : {bs' : List ℕ} → OpenStep W R N g s (Ok tt) s' → bs' ≡ word_bytes s' ++ drop (2 * length s') bs →
      OpenBytesStep W R N g bs (Ok tt) bs'
  unfolding OpenLeaves
  opened_bytes x put =
      let same : length s ≡ length (words_in bs) = uncapped (words_capped bs long) (left_short x.strip) in
      record {
        words = s';
        step = record { answer = x.answer ∙ ap (open_answer W R N g) same; strip = rw same at x.strip };
        strip_left = put ∙ put_all bs s' (x.strip.long ∙ same ∙ words_length bs);
      }

  pub unopened_bytes : {r : Refusal} → OpenStep W R N g s (Err r) s' → ((i : ℕ) → i < length bs → get_or bs i 0 < 256) →
      OpenBytesStep W R N g bs (Err r) bs
  unfolding OpenLeaves
  unopened_bytes x bytes =
      record {
        words = words_in bs;
        step = record { answer = x.answer ∙ open_same W R N g (words_capped bs long); strip = refl };
        strip_left = sym (bytes_back bs bytes);
      }
