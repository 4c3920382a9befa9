-- What is known of a list after each of the questions of write.
-- Assumes nothing.
use Rattle.std.specs.Prelude.{◌≡◌, true, List, ℕ}
use Rattle.defs.specs.Computing.Words.{limits_no}
use Rattle.defs.specs.Computing.Sheets.{q6_listb}
use Rattle.lists.specs.Asked.{NoneRefused}

-- 3, 16, 17 and 6 are passed
pub record Begun (W R N : ℕ) (list : List ℕ) : Type 0 where
  pub limits : limits_no W R N ≡ 0
  pub six : q6_listb list ≡ true

-- 7 to 11 are passed
pub record Passed (W R N : ℕ) (list : List ℕ) (v : ℕ) : Type 0 where
  pub begun : Begun W R N list
  pub none_no : NoneRefused list v
