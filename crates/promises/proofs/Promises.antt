-- Each promise, and the theorem that holds it. Assumes nothing.
use Rattle.turns.proofs.Every.{question_11_agree}
use Rattle.mostruns.proofs.Most.{enough_work}
use Rattle.strokes.proofs.Turning.{turn_keeps}
use Rattle.claims.proofs.Refused.{demand1}
use Rattle.claims.proofs.Numbers.{demand1_numbers}
use Rattle.claims.proofs.Asked.{one_answer}
use Rattle.claims.proofs.CoverCells.{demand2_cells}
use Rattle.claims.proofs.SheetsBack.{demand2_sheets, demand2_again}
use Rattle.claims.proofs.Whole.{demand3_holds}
use Rattle.claims.proofs.PlaceLists.{place_demand3_holds, places_follow}
use Rattle.claims.proofs.AskCommit.{place_is_ask_and_commit, commit_as_asked}
use Rattle.claims.proofs.Tries.{tries}
use Rattle.claims.proofs.Vertices.{vertices_read}
use Rattle.claims.proofs.LayList.{lay_demand3}
use Rattle.claims.proofs.Wrong.{wrong_lists}
use Rattle.claims.proofs.Choice.{only_numbers_open}
use Rattle.claims.proofs.AnyNumbers.{any_numbers}
use Rattle.former.proofs.List.{no_gap_is_former}
use Rattle.knife.proofs.Safe.{knife_safe, list_knife_safe, lay_knife_safe}
use Rattle.knife.proofs.Retraced.{retrace_asks}
use Rattle.pathclaims.proofs.Paths.{paths}
use Rattle.control.proofs.Numbers.{packed_numbers}
use Rattle.control.proofs.Lists.{packed_demand3, packed_lay}
use Rattle.control.proofs.Bytes.{bytes_are_words, bytes_demand3}
use Rattle.promises.specs.Promises.{Promises}

pub promises : Promises
promises =
    record {
      numbers = demand1_numbers;
      no_choice = one_answer;
      buffers = demand1;
      same_11 = question_11_agree;
      enough = enough_work;
      cells = demand2_cells;
      vertices = vertices_read;
      sheets = demand2_sheets;
      sheets_again = demand2_again;
      list = demand3_holds;
      place_list = place_demand3_holds;
      follows = places_follow;
      job = lay_demand3;
      no_gap = no_gap_is_former;
      ask_and_commit = place_is_ask_and_commit;
      asked_commit = commit_as_asked;
      tries = tries;
      wrong = wrong_lists;
      numbering = only_numbers_open;
      any_numbering = any_numbers;
      knife = knife_safe;
      list_knife = list_knife_safe;
      job_knife = lay_knife_safe;
      retraced = retrace_asks;
      same_retraced = turn_keeps;
      paths = paths;
      c_numbers = packed_numbers;
      c_list = packed_demand3;
      c_job = packed_lay;
      c_bytes = bytes_are_words;
      c_bytes_list = bytes_demand3;
    }
