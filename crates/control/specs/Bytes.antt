-- Buffers passed as bytes: a call on them is the call on their words, so that all that is proved of calls on words holds of it; and demand
-- 3 over lists of such calls. Of a work buffer the first 1,536,000 words are lent to the call, and all are zero after it; with no gap these
-- serve as all of them do. Assumes nothing.
use Rattle.std.specs.Prelude.{◌≡◌, List, ℕ, suc, ◌<◌, length}
use Rattle.defs.specs.declared.Position.{Position}
use Rattle.defs.specs.Meaning.Strip.{gap_of}
use Rattle.defs.specs.Computing.Calls.{cleared, place_answer, place_tries, commit_answer}
use Rattle.defs.specs.Computing.Lay.{lay_entries}
use Rattle.defs.specs.Computing.Bytes.{words_in, work_in, odd_byte, OnBytes}
use Rattle.packing.specs.Packed.{first16}
use Rattle.packing.specs.Steps.{OpenPacked, LayPacked, OpenBytesPacked, PlaceBytesPacked, AskBytesPacked, CommitBytesPacked, LayBytesPacked}
use Rattle.claims.specs.Demand3.{Demand3}
use Rattle.control.specs.Lists.{Packed, PackedCall, place_with, ask_with, commit_at_lem, PackedCalls, plain}

-- "an odd last byte is no part of it and stays"
abbrev pub OddStays : List ℕ → List ℕ → Type 0
OddStays bytes bytes' = odd_byte bytes' ≡ odd_byte bytes

pub record BytesAreWords : Type 1 where
  pub open_words :
      {W R N g : ℕ} {strip : List ℕ} {n : ℕ} {strip' : List ℕ} → OpenBytesPacked W R N g strip n strip' →
      OpenPacked W R N g (words_in strip) n (words_in strip') × OddStays strip strip'
  -- place, ask and commit, and any call with such buffers
  pub same_words :
      {Step : List ℕ → List ℕ → List ℕ → List ℕ → List ℕ → Type 0} {strip o work strip' work' : List ℕ} →
      OnBytes Step strip o work strip' work' →
      Step (words_in strip) (words_in o) (work_in work) (words_in strip') (work_in work') × OddStays strip strip' ×
      (words_in work' ≡ cleared (words_in work)) × OddStays work work'
  pub lay_words :
      {sheet : List ℕ} {g : ℕ} {strip out work : List ℕ} {n : ℕ} {strip' out' work' : List ℕ} →
      LayBytesPacked sheet g strip out work n strip' out' work' →
      LayPacked sheet g (words_in strip) (words_in out) (work_in work) n (words_in strip') (words_in out') (work_in work') ×
      OddStays strip strip' × OddStays out out' × (words_in work' ≡ cleared (words_in work)) × OddStays work work'
  -- with no gap the answers, and the tries, are those of a call that is lent all words of the work buffer
  pub place_work :
      (s o : List ℕ) (mask : ℕ) (work : List ℕ) → gap_of s ≡ 0 →
      place_answer s o mask (length (work_in work)) ≡ place_answer s o mask (length (words_in work))
  pub tries_work :
      (s o : List ℕ) (mask : ℕ) (work : List ℕ) → gap_of s ≡ 0 →
      place_tries s o mask (length (work_in work)) ≡ place_tries s o mask (length (words_in work))
  pub commit_work :
      (s o : List ℕ) (p : Position) (work : List ℕ) → gap_of s ≡ 0 →
      commit_answer s o p (length (work_in work)) ≡ commit_answer s o p (length (words_in work))
  pub lay_work :
      (b : List ℕ) (strip : ℕ) (work : List ℕ) →
      lay_entries b 0 strip (length (work_in work)) ≡ lay_entries b 0 strip (length (words_in work))

-- the contract of the C function that is called with buffers of bytes
unfoldable pub BytesStep : PackedCall → List ℕ → List ℕ → Type 0
BytesStep (place_with mask tries c) s s' = PlaceBytesPacked s c.outline mask c.work c.answer tries s' c.work_after
BytesStep (ask_with mask tries c) s s' = AskBytesPacked s c.outline mask c.work c.answer tries s' c.work_after
BytesStep (commit_at_lem p c) s s' = CommitBytesPacked s c.outline p c.work c.answer s' c.work_after

-- a list of such calls, the open granted
pub record BytesTrace (W R N g : ℕ) (x : PackedCalls) : Type 0 where
  pub opened : ℕ
  pub is_granted : first16 opened ≡ 0
  pub open_step : OpenBytesPacked W R N g x.lent opened (x.strip 0)
  pub step : (m : ℕ) → m < x.count → BytesStep (x.call m) (x.strip m) (x.strip (suc m))

-- the same list with the words of each buffer that are lent
abbrev pub buffers_in_words : Packed → Packed
buffers_in_words c =
    record {
      outline = words_in c.outline;
      work = work_in c.work;
      answer = c.answer;
      work_after = work_in c.work_after;
    }

unfoldable pub call_in_words : PackedCall → PackedCall
call_in_words (place_with mask tries c) = place_with mask tries (buffers_in_words c)
call_in_words (ask_with mask tries c) = ask_with mask tries (buffers_in_words c)
call_in_words (commit_at_lem p c) = commit_at_lem p (buffers_in_words c)

abbrev pub in_words : PackedCalls → PackedCalls
in_words x =
    record { lent = words_in x.lent; count = x.count; call = λ m. call_in_words (x.call m); strip = λ m. words_in (x.strip m) }

unfoldable pub Bytes_demand3 : Type 0
Bytes_demand3 = (W R N g : ℕ) (x : PackedCalls) → BytesTrace W R N g x → Demand3 W R N g (plain (in_words x))
