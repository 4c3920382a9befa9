-- All that is promised, on one page; proofs/Promises has each theorem. A call's contract is its step, and nothing else, for every input:
-- open::open OpenStep, cover::cover CoverStep, place::place PlaceStep, ask::ask AskStep, commit::commit CommitStep, reads::read ReadStep,
-- writes::write WriteStep, laying::lay LayStep, retrace::retrace RetraceStep, readpath::read_path PathReadStep, writepath::write_path
-- PathWriteStep; vikelodu's C functions the same steps, packed (packing/specs/Steps); text::lay_text, what program lay prints, lay_text;
-- outline::x_at and y_at read_x and read_y. So the promises hold of every program whose calls keep these contracts. Assumes nothing.
use Rattle.std.specs.Prelude.{◌↔◌, List, ℕ, ◌≤◌, ◌<◌}
use Rattle.defs.specs.Meaning.Limits.{most_turn}
use Rattle.defs.specs.Meaning.Outline.{sides}
use Rattle.defs.specs.Meaning.Turn.{turned}
use Rattle.defs.specs.Meaning.Question.{Question7, Question8, Question9, Question10, Question11, Question12}
use Rattle.strokes.specs.Stroke.{DrawnOnce}
use Rattle.claims.specs.Demand1.{Demand1}
use Rattle.claims.specs.Numbers.{Demand1_numbers, One_answer}
use Rattle.claims.specs.Demand2.{Demand2_cells, Demand2_sheets, Demand2_again}
use Rattle.claims.specs.Demand3.{Demand3_holds}
use Rattle.claims.specs.Places.{PlaceDemand3_holds, Places_follow}
use Rattle.claims.specs.Asking.{Place_is_ask_and_commit, Commit_as_asked}
use Rattle.claims.specs.Tries.{Tries}
use Rattle.claims.specs.Vertices.{Vertices_read}
use Rattle.claims.specs.Laying.{Lay_demand3}
use Rattle.claims.specs.Wrong.{WrongLists}
use Rattle.claims.specs.Choice.{OnlyNumbersOpen, AnyNumbers}
use Rattle.former.specs.List.{NoGap}
use Rattle.knife.specs.Safe.{Knife_safe, List_knife_safe, Lay_knife_safe}
use Rattle.knife.specs.Retraced.{Retrace_asks}
use Rattle.pathclaims.specs.Paths.{Paths}
use Rattle.control.specs.Answered.{PackedNumbers}
use Rattle.control.specs.Lists.{Packed_demand3, Packed_lay}
use Rattle.control.specs.Bytes.{BytesAreWords, Bytes_demand3}

pub record Promises : Type 1 where
  -- Demand 1. Each call's answer is the first question that gets "no", with its number and ordinal, else its values; there is no choice.
  pub numbers : Demand1_numbers
  pub no_choice : One_answer
  -- A refusal leaves strip and output as they were, a work buffer is zero after each call, what is past an output stays.
  pub buffers : Demand1
  -- 11 does not depend on turn and resolution, and with no gap no outline needs more than 1,536,000 words of work (12).
  pub same_11 :
      (o : List ℕ) → Question7 o → (mask mask' R R' : ℕ) → Question9 mask → Question9 mask' → 1 ≤ R → 1 ≤ R' →
      Question11 o mask R ↔ Question11 o mask' R'
  pub enough : (o : List ℕ) (mask R : ℕ) → Question7 o → Question8 o → Question10 o mask → 1 ≤ R → Question12 o mask R 0 1536000
  -- Demand 2. Cover gives the cells that hold a point inside, with a gap those of S-4; S-6: what is read of an outline in a turn is the
  -- turned outline, vertex by vertex; sheets read back. What a strip holds: demand 3, and `numbers` (place_alone, commit_alone).
  pub cells : Demand2_cells
  pub vertices : Vertices_read
  pub sheets : Demand2_sheets
  pub sheets_again : Demand2_again
  -- Demand 3, of every list of place, ask and commit calls; so, in document 01's own words, of place calls alone, and of every laid job.
  -- S-4's "Two points inside different pieces must then differ by at least g in x or in y" is points_apart in `list`. The best position is
  -- that of S-7, "the least right edge wins, then least top, then least turn"; a laid job's used length is in `job`.
  pub list : Demand3_holds
  pub place_list : PlaceDemand3_holds
  pub follows : Places_follow
  pub job : Lay_demand3
  -- "With g = 0 every position is the former one.": of one outline, and of every list of calls.
  pub no_gap : NoGap
  -- Place is ask and then commit at its answer; a commit at an ask's answer is granted, if its work buffer is no shorter.
  pub ask_and_commit : Place_is_ask_and_commit
  pub asked_commit : Commit_as_asked
  -- S-5: the tries that place and ask report are the steps of a walk that finds each turn's least free position, and are bounded.
  pub tries : Tries
  -- The buying office's wrong programs break demand 3; only record numbers and the order of the free chain are open.
  pub wrong : WrongLists
  pub numbering : OnlyNumbersOpen
  pub any_numbering : AnyNumbers
  -- The knife, of every list of which demand 3 holds, so of laid jobs too; and what an outline draws twice, the same in every turn.
  pub knife : Knife_safe
  pub list_knife : List_knife_safe
  pub job_knife : Lay_knife_safe
  pub retraced : Retrace_asks
  pub same_retraced : (o : List ℕ) → 0 < sides o → (t : ℕ) → t ≤ most_turn → DrawnOnce (turned o t) ↔ DrawnOnce o
  -- Paths of the drawing program: the questions of both calls and what they leave; a path reads back; nothing is rounded.
  pub paths : Paths
  -- The C functions: what include/vikelodu.h reads from an answer, lists of their calls, a laid job; buffers passed as bytes.
  pub c_numbers : PackedNumbers
  pub c_list : Packed_demand3
  pub c_job : Packed_lay
  pub c_bytes : BytesAreWords
  pub c_bytes_list : Bytes_demand3
