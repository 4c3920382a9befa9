-- The table of trial pieces: every starred piece of document 01, those without a star that the calls can run, and rows for
-- what the starred ones leave open. Each row is proved by computation against the definitions of specs/.
-- Assumes nothing.
use mathlib.Core.Path.{◌≡◌, refl}
use mathlib.Core.Bool.{true, false}
use mathlib.Core.List.{List, [], ◌∷◌, ◌++◌}
use Prim.Native.Nat.{ℕ}
use lib.ListN.{replicate, take}
use Rattle.std.specs.Prelude.{Some, Result, Ok, Err}
use Rattle.defs.specs.declared.Position.{Position}
use Rattle.defs.specs.declared.Refusal.{Refusal}
use Rattle.defs.specs.declared.Fate.TheVariants.{Placed as FatePlaced}
use Rattle.defs.specs.Meaning.Outline.{sides}
use Rattle.defs.specs.Meaning.Turn.{outline_from, turned}
use Rattle.defs.specs.Meaning.Sheet.{Piece, list_words}
use Rattle.defs.specs.Computing.Cells.{Rows, piece_runs}
use Rattle.defs.specs.Computing.Words.{well_formedb}
use Rattle.defs.specs.Computing.Search.{position}
use Rattle.defs.specs.Computing.Walk.{turn_walk, walk_end, tries_bound}
use Rattle.defs.specs.Computing.Vertices.{read_x, read_y}
use Rattle.defs.specs.Computing.Calls.{refusal, open_answer, cover_answer, cover_output, place_answer, ask_answer, commit_answer, opened_strip, placed_strip, list_answers, list_tries, Lent}
use Rattle.defs.specs.Computing.Sheets.{sheet_bytes, read_answer, read_output, write_answer, write_output}
use Rattle.defs.specs.Computing.Lay.{used_in, lay_answer, lay_output}
use Rattle.defs.specs.Computing.Ascii.{ascii}
use Rattle.defs.specs.Computing.Text.{totals_line, lay_text}
use Rattle.defs.specs.Computing.Bytes.{words_in, bytes_left}
use Rattle.defs.specs.Computing.Runs.{runs}

-- How a row is written: runs low to high, a piece with its mask (lent with 30 work words), and the answers.
infixl 90 ◌to◌
abbrev ◌to◌ : ℕ → ℕ → Rows
◌to◌ l h = record { low = l; high = h }

abbrev lent : List ℕ → ℕ → ℕ → Lent
lent o mask words = record { outline = o; mask = mask; words = words }

abbrev piece : List ℕ → ℕ → Lent
piece o mask = lent o mask 30

abbrev at : ℕ → ℕ → ℕ → Result Position Refusal
at t c y = Ok (position t c y)

abbrev no : ℕ → Result Position Refusal
no n = Err (refusal n 1)

-- a commit on a strip, with 30 work words
abbrev commit : List ℕ → List ℕ → ℕ → ℕ → ℕ → Result Unit Refusal
commit s o t c y = commit_answer s o (position t c y) 30

abbrev in_list : List ℕ → Piece
in_list o = record { mask = 1; outline = o }

-- The outlines.
abbrev S : List ℕ
S = 0 ∷ 0 ∷ 4 ∷ 0 ∷ 4 ∷ 4 ∷ 0 ∷ 4 ∷ []

abbrev half : List ℕ
half = 0 ∷ 0 ∷ 4 ∷ 0 ∷ 0 ∷ 4 ∷ []

abbrev T : List ℕ
T = 0 ∷ 0 ∷ 3 ∷ 0 ∷ 3 ∷ 2 ∷ []

abbrev U : List ℕ
U = 0 ∷ 0 ∷ 3 ∷ 2 ∷ 0 ∷ 2 ∷ []

-- two edges cross between whole x
abbrev tall_tie : List ℕ
tall_tie = 0 ∷ 0 ∷ 1 ∷ 2 ∷ 1 ∷ 0 ∷ 0 ∷ 2 ∷ []

-- two edges cross at x = 1
abbrev wide_tie : List ℕ
wide_tie = 0 ∷ 0 ∷ 2 ∷ 1 ∷ 2 ∷ 0 ∷ 0 ∷ 1 ∷ []

abbrev flat : List ℕ
flat = 0 ∷ 0 ∷ 4 ∷ 0 ∷ 2 ∷ 0 ∷ []

abbrev bar : List ℕ
bar = 0 ∷ 0 ∷ 6 ∷ 0 ∷ 6 ∷ 2 ∷ 0 ∷ 2 ∷ []

-- a bar with a spur to (6, 0), which has no inside
abbrev spur : List ℕ
spur = 0 ∷ 0 ∷ 2 ∷ 0 ∷ 6 ∷ 0 ∷ 2 ∷ 0 ∷ 2 ∷ 2 ∷ 0 ∷ 2 ∷ []

three : List Piece
three = in_list S ∷ in_list S ∷ in_list S ∷ []

-- Runs, column by column from 0.

-- * Square S, 4 by 4, R 2: runs 0–4, 0–4.
square_runs : piece_runs S 0 2 0 ≡ (0 to 4 ∷ []) ∷ (0 to 4 ∷ []) ∷ []
unfolding runs
square_runs = refl

-- * (0,0) (4,0) (0,4), R 2: runs 0–4, 0–2.
half_runs : piece_runs half 0 2 0 ≡ (0 to 4 ∷ []) ∷ (0 to 2 ∷ []) ∷ []
unfolding runs
half_runs = refl

-- * T = (0,0) (3,0) (3,2), R 1: 0–1, 0–2, 0–2.
T_runs : piece_runs T 0 1 0 ≡ (0 to 1 ∷ []) ∷ (0 to 2 ∷ []) ∷ (0 to 2 ∷ []) ∷ []
unfolding runs
T_runs = refl

-- * U = (0,0) (3,2) (0,2), R 1: 0–2, 0–2, 1–2.
U_runs : piece_runs U 0 1 0 ≡ (0 to 2 ∷ []) ∷ (0 to 2 ∷ []) ∷ (1 to 2 ∷ []) ∷ []
unfolding runs
U_runs = refl

-- T in turn 1, R 1: 1–3, 0–3. A turn the other way round would give 0–3, 0–2.
T_turned_runs : piece_runs T 1 1 0 ≡ (1 to 3 ∷ []) ∷ (0 to 3 ∷ []) ∷ []
unfolding runs
T_turned_runs = refl

-- A vertex between resolution lines: (0,0) (3,0) (2,3), R 3: 0–3. No one unit column of the three has all of it.
between_lines_runs : piece_runs (0 ∷ 0 ∷ 3 ∷ 0 ∷ 2 ∷ 3 ∷ []) 0 3 0 ≡ (0 to 3 ∷ []) ∷ []
unfolding runs
between_lines_runs = refl

-- A V that opens to the right and one that opens to the left, R 2: rows that only the second, or only the first, of the two
-- unit columns covers.
right_V_runs : piece_runs (0 ∷ 2 ∷ 2 ∷ 0 ∷ 2 ∷ 4 ∷ []) 0 2 0 ≡ (0 to 4 ∷ []) ∷ []
unfolding runs
right_V_runs = refl

left_V_runs : piece_runs (2 ∷ 2 ∷ 0 ∷ 0 ∷ 0 ∷ 4 ∷ []) 0 2 0 ≡ (0 to 4 ∷ []) ∷ []
unfolding runs
left_V_runs = refl

-- Two runs in a column: a frame open to the right, R 3.
two_runs : piece_runs (0 ∷ 0 ∷ 6 ∷ 0 ∷ 6 ∷ 1 ∷ 3 ∷ 1 ∷ 3 ∷ 4 ∷ 6 ∷ 4 ∷ 6 ∷ 5 ∷ 0 ∷ 5 ∷ []) 0 3 0 ≡ (0 to 5 ∷ []) ∷ (0 to 1 ∷ 4 to 5 ∷ []) ∷ []
unfolding runs
two_runs = refl

-- The square walked three times is the square, since each edge counts.
square_thrice_runs : piece_runs (S ++ (S ++ S)) 0 2 0 ≡ (0 to 4 ∷ []) ∷ (0 to 4 ∷ []) ∷ []
unfolding runs
square_thrice_runs = refl

-- The spur has no cells, and the extent takes it in: columns 1 and 2 are empty.
spur_runs : piece_runs spur 0 2 0 ≡ (0 to 2 ∷ []) ∷ [] ∷ [] ∷ []
unfolding runs
spur_runs = refl

-- Positions, and numbers of one lent outline.

-- * W 2, R 1, T then U, mask 1: N 6 gives U column 3;
T_then_U_6 : list_answers 2 1 6 0 6 (piece T 1 ∷ piece U 1 ∷ []) ≡ at 0 0 0 ∷ at 0 3 0 ∷ []
unfolding runs
T_then_U_6 = refl

-- * N 5 gives 13.
T_then_U_5 : list_answers 2 1 5 0 6 (piece T 1 ∷ piece U 1 ∷ []) ≡ at 0 0 0 ∷ no 13 ∷ []
unfolding runs
T_then_U_5 = refl

-- * (0,0) (1,2) (1,0) (0,2): 10.
tall_tie_10 : list_answers 10 1 10 0 6 (piece tall_tie 1 ∷ []) ≡ no 10 ∷ []
unfolding runs
tall_tie_10 = refl

-- * (0,0) (2,1) (2,0) (0,1): mask 1 passes,
wide_tie_1 : list_answers 10 1 10 0 6 (piece wide_tie 1 ∷ []) ≡ at 0 0 0 ∷ []
unfolding runs
wide_tie_1 = refl

-- * mask 2 gives 10.
wide_tie_2 : list_answers 10 1 10 0 6 (piece wide_tie 2 ∷ []) ≡ no 10 ∷ []
unfolding runs
wide_tie_2 = refl

-- * (0,0) (4,0) (2,0): 11.
flat_11 : list_answers 10 1 10 0 6 (piece flat 1 ∷ []) ≡ no 11 ∷ []
unfolding runs
flat_11 = refl

-- * 6 by 2, mask 3, R 2, N 10: W 4 turn 0;
bar_4 : list_answers 4 2 10 0 6 (piece bar 3 ∷ []) ≡ at 0 0 0 ∷ []
unfolding runs
bar_4 = refl

-- * W 6 turn 1.
bar_6 : list_answers 6 2 10 0 6 (piece bar 3 ∷ []) ≡ at 1 0 0 ∷ []
unfolding runs
bar_6 = refl

-- Three S, W 10, R 2, N 10: Q 3 refuses the third with 14,
three_squares_3 : list_answers 10 2 10 0 3 (piece S 1 ∷ piece S 1 ∷ piece S 1 ∷ []) ≡ at 0 0 0 ∷ at 0 0 4 ∷ no 14 ∷ []
unfolding runs
three_squares_3 = refl

-- Q 4 places it.
three_squares_4 : list_answers 10 2 10 0 4 (piece S 1 ∷ piece S 1 ∷ piece S 1 ∷ []) ≡ at 0 0 0 ∷ at 0 0 4 ∷ at 0 2 0 ∷ []
unfolding runs
three_squares_4 = refl

-- 16,001 gives 8;
too_far_8 : list_answers 10 1 10 0 6 (piece (0 ∷ 0 ∷ 16001 ∷ 0 ∷ 0 ∷ 1 ∷ []) 1 ∷ []) ≡ no 8 ∷ []
unfolding runs
too_far_8 = refl

-- 65 vertices 7.
vertices_65 : list_answers 10 1 10 0 6 (piece (replicate 130 0) 1 ∷ []) ≡ no 7 ∷ []
unfolding runs
vertices_65 = refl

-- A mask of 0 gets 9 before the tie's 10, and after the coordinate's 8. A coordinate is asked as lent, before the shift.
mask_0 : list_answers 10 1 10 0 6 (piece tall_tie 0 ∷ piece tall_tie 16 ∷ piece (1 ∷ 0 ∷ 16001 ∷ 0 ∷ 1 ∷ 1 ∷ []) 0 ∷ []) ≡ no 9 ∷ no 9 ∷ no 8 ∷ []
unfolding runs
mask_0 = refl

-- The square walked twice has no inside.
square_twice_11 : list_answers 10 2 10 0 6 (piece (S ++ S) 1 ∷ []) ≡ no 11 ∷ []
unfolding runs
square_twice_11 = refl

-- 12 asks for the allowed turn that has most runs: T has three in turn 0 and two in turn 1.
T_work : list_answers 3 1 10 0 6 (lent T 3 8 ∷ lent T 2 5 ∷ lent T 2 6 ∷ lent T 3 9 ∷ []) ≡ no 12 ∷ no 12 ∷ at 1 0 0 ∷ at 1 2 0 ∷ []
unfolding runs
T_work = refl

-- S-7. Right edge, not last column: box 5 by 6 at R 4 ends in column 1 in both turns, and turn 0 wins by its lesser right edge, 5, though
-- turn 1 has the lower top. So it is with 3 by 4, which ends in column 0.
lesser_edge : list_answers 10 4 10 0 6 (piece (0 ∷ 0 ∷ 5 ∷ 0 ∷ 5 ∷ 6 ∷ 0 ∷ 6 ∷ []) 3 ∷ piece (0 ∷ 0 ∷ 3 ∷ 0 ∷ 3 ∷ 4 ∷ 0 ∷ 4 ∷ []) 3 ∷ []) ≡ at 0 0 0 ∷ at 0 0 6 ∷ []
unfolding runs
lesser_edge = refl

-- Equal right edges, and so equal last columns: the lower top wins, also against a lesser turn. Beside S and a square of 2 on it, 4 by 2 fits
-- in turn 0 in column 1 at height 4, in turn 1 in column 2 at height 0: both end at 6.
lower_top : list_answers 6 2 10 0 8 (piece S 1 ∷ piece (0 ∷ 0 ∷ 2 ∷ 0 ∷ 2 ∷ 2 ∷ 0 ∷ 2 ∷ []) 1 ∷ piece (0 ∷ 0 ∷ 4 ∷ 0 ∷ 4 ∷ 2 ∷ 0 ∷ 2 ∷ []) 3 ∷ []) ≡ at 0 0 0 ∷ at 0 0 4 ∷ at 1 2 0 ∷ []
unfolding runs
lower_top = refl

-- Equal right edge and top: the least turn wins.
lesser_turn : list_answers 10 2 10 0 6 (piece S 12 ∷ []) ≡ at 2 0 0 ∷ []
unfolding runs
lesser_turn = refl

-- A hole is filled: in the frame's opening the bar lies at height 1, below what is already there.
frame_then_bar : list_answers 5 3 2 0 6 (piece (0 ∷ 0 ∷ 6 ∷ 0 ∷ 6 ∷ 1 ∷ 3 ∷ 1 ∷ 3 ∷ 4 ∷ 6 ∷ 4 ∷ 6 ∷ 5 ∷ 0 ∷ 5 ∷ []) 1 ∷ piece (0 ∷ 0 ∷ 3 ∷ 0 ∷ 3 ∷ 2 ∷ 0 ∷ 2 ∷ []) 1 ∷ []) ≡ at 0 0 0 ∷ at 0 1 1 ∷ []
unfolding runs
frame_then_bar = refl

-- Joining frees records: on a full strip the bar that closes the frame's gap passes 14 with fewer runs than before.
joined_14 : list_answers 5 3 2 0 3 (piece (0 ∷ 0 ∷ 6 ∷ 0 ∷ 6 ∷ 1 ∷ 3 ∷ 1 ∷ 3 ∷ 4 ∷ 6 ∷ 4 ∷ 6 ∷ 5 ∷ 0 ∷ 5 ∷ []) 1 ∷ piece (0 ∷ 0 ∷ 3 ∷ 0 ∷ 3 ∷ 3 ∷ 0 ∷ 3 ∷ []) 1 ∷ []) ≡ at 0 0 0 ∷ at 0 1 1 ∷ []
unfolding runs
joined_14 = refl

-- A spur must fit on the strip and may lie over other pieces.
spur_fits : list_answers 4 2 3 0 6 (piece spur 1 ∷ piece spur 1 ∷ piece spur 1 ∷ piece S 1 ∷ []) ≡ at 0 0 0 ∷ at 0 0 2 ∷ no 13 ∷ at 0 1 0 ∷ []
unfolding runs
spur_fits = refl

-- Strips.

-- Opening: 3, 16, 17, 4 (Q from 1 to 16,000), and the words of one opened strip.
open_numbers : open_answer 0 1 6 0 31 ∷ open_answer 16001 1 6 0 31 ∷ open_answer 2 401 6 0 31 ∷ open_answer 2 1 4097 0 4106 ∷ open_answer 2 1 6 0 11 ∷ open_answer 2 1 6 0 14 ∷ open_answer 2 1 6 0 64015 ∷ open_answer 2 1 6 0 64011 ∷ open_answer 2 1 6 0 15 ∷ open_answer 0 0 0 0 11 ∷ open_answer 2 0 4097 0 11 ∷ [] ≡ Err (refusal 3 0) ∷ Err (refusal 3 0) ∷ Err (refusal 16 0) ∷ Err (refusal 17 0) ∷ Err (refusal 4 0) ∷ Err (refusal 4 0) ∷ Err (refusal 4 0) ∷ (Ok tt) ∷ (Ok tt) ∷ Err (refusal 3 0) ∷ Err (refusal 16 0) ∷ []
unfolding runs
open_numbers = refl

opened_words : opened_strip 2 1 2 0 15 ≡ 2 ∷ 1 ∷ 2 ∷ 1 ∷ 0 ∷ 0 ∷ 0 ∷ 2 ∷ 0 ∷ 0 ∷ 2 ∷ 2 ∷ 0 ∷ 0 ∷ 0 ∷ []
unfolding runs
opened_words = refl

-- What T leaves on W 2, R 1, N 3, Q 3: well formed, its own runs.
T_strip : placed_strip (opened_strip 2 1 3 0 20) T (at 0 0 0) ≡ 2 ∷ 1 ∷ 3 ∷ 0 ∷ 0 ∷ 1 ∷ 2 ∷ 3 ∷ 0 ∷ 0 ∷ 1 ∷ 0 ∷ 1 ∷ 0 ∷ 2 ∷ 0 ∷ 2 ∷ 0 ∷ 2 ∷ 0 ∷ []
unfolding runs
T_strip = refl

-- Well formed: the records in another order, the free one between them.
other_order : well_formedb (9 ∷ 1 ∷ 2 ∷ 2 ∷ 0 ∷ 3 ∷ 0 ∷ 0 ∷ 5 ∷ 7 ∷ 0 ∷ 2 ∷ 0 ∷ 0 ∷ 0 ∷ 0 ∷ 1 ∷ 4 ∷ 1 ∷ []) ≡ true
unfolding runs
other_order = refl

-- Not well formed: runs that touch; a chain that loops; a record in no chain; a free record with a high; high above W; no words.
touching : well_formedb (9 ∷ 1 ∷ 2 ∷ 2 ∷ 0 ∷ 3 ∷ 0 ∷ 0 ∷ 4 ∷ 7 ∷ 0 ∷ 2 ∷ 0 ∷ 0 ∷ 0 ∷ 0 ∷ 1 ∷ 4 ∷ 1 ∷ []) ≡ false
unfolding runs
touching = refl

looping : well_formedb (9 ∷ 1 ∷ 2 ∷ 2 ∷ 0 ∷ 3 ∷ 0 ∷ 0 ∷ 5 ∷ 7 ∷ 3 ∷ 2 ∷ 0 ∷ 0 ∷ 0 ∷ 0 ∷ 1 ∷ 4 ∷ 1 ∷ []) ≡ false
unfolding runs
looping = refl

in_no_chain : well_formedb (9 ∷ 1 ∷ 2 ∷ 0 ∷ 0 ∷ 3 ∷ 0 ∷ 0 ∷ 5 ∷ 7 ∷ 0 ∷ 2 ∷ 0 ∷ 0 ∷ 0 ∷ 0 ∷ 1 ∷ 4 ∷ 1 ∷ []) ≡ false
unfolding runs
in_no_chain = refl

free_with_high : well_formedb (9 ∷ 1 ∷ 2 ∷ 2 ∷ 0 ∷ 3 ∷ 0 ∷ 0 ∷ 5 ∷ 7 ∷ 0 ∷ 2 ∷ 0 ∷ 1 ∷ 0 ∷ 0 ∷ 1 ∷ 4 ∷ 1 ∷ []) ≡ false
unfolding runs
free_with_high = refl

high_above : well_formedb (6 ∷ 1 ∷ 2 ∷ 2 ∷ 0 ∷ 3 ∷ 0 ∷ 0 ∷ 5 ∷ 7 ∷ 0 ∷ 2 ∷ 0 ∷ 0 ∷ 0 ∷ 0 ∷ 1 ∷ 4 ∷ 1 ∷ []) ≡ false
unfolding runs
high_above = refl

no_words : place_answer [] T 1 30 ≡ Err (refusal 5 0)
unfolding runs
no_words = refl

-- Ask and commit, on W 2, R 1, N 6, Q 6 with T on it.

with_T : List ℕ
with_T = placed_strip (opened_strip 2 1 6 0 35) T (at 0 0 0)

-- Ask answers what place would: U's position, or a number.
ask_U : ask_answer with_T U 1 30 ∷ ask_answer with_T U 1 8 ∷ ask_answer with_T S 1 30 ∷ ask_answer with_T flat 1 30 ∷ ask_answer [] U 1 30 ∷ [] ≡ Ok (position 0 3 0) ∷ Err (refusal 12 1) ∷ Err (refusal 13 1) ∷ Err (refusal 11 1) ∷ Err (refusal 5 0) ∷ []
unfolding runs with_T
ask_U = refl

-- A commit there is granted. One column to the left it is not free; one to the right, one unit up and at the ends of 16 bits it is off
-- the strip. 18 has the ordinal 0.
commit_U : commit with_T U 0 3 0 ∷ commit with_T U 0 2 0 ∷ commit with_T U 0 4 0 ∷ commit with_T U 0 3 1 ∷ commit with_T U 0 65535 0 ∷ commit with_T U 0 3 65535 ∷ [] ≡ (Ok tt) ∷ Err (refusal 18 0) ∷ Err (refusal 18 0) ∷ Err (refusal 18 0) ∷ Err (refusal 18 0) ∷ Err (refusal 18 0) ∷ []
unfolding runs with_T
commit_U = refl

-- A commit need not be the best: T in column 2 or 4 of an empty strip.
commit_not_best : commit (opened_strip 2 1 7 0 36) T 0 2 0 ∷ commit (opened_strip 2 1 7 0 36) T 0 4 0 ∷ [] ≡ (Ok tt) ∷ (Ok tt) ∷ []
unfolding runs
commit_not_best = refl

-- What comes after it is placed with it on the strip.
commit_then_place : place_answer (placed_strip (opened_strip 2 1 7 0 36) T (at 0 2 0)) T 1 30 ∷ place_answer (placed_strip (opened_strip 2 1 7 0 36) T (at 0 4 0)) T 1 30 ∷ [] ≡ no 13 ∷ at 0 0 0 ∷ []
unfolding runs
commit_then_place = refl

-- Its questions are of its turn alone, 9 of the turn itself: the tie gets 10 in turn 1 and not in turn 0, and T, with three runs in turn
-- 0 and two in turn 1, passes 12 in turn 1 where ask with both turns does not.
commit_alone : commit (opened_strip 10 1 10 0 39) wide_tie 0 0 0 ∷ commit (opened_strip 10 1 10 0 39) wide_tie 1 0 0 ∷ commit (opened_strip 10 1 10 0 39) wide_tie 4 0 0 ∷ commit_answer (opened_strip 3 1 10 0 39) T (position 1 0 0) 6 ∷ commit_answer (opened_strip 3 1 10 0 39) T (position 0 0 0) 8 ∷ [] ≡ (Ok tt) ∷ Err (refusal 10 1) ∷ Err (refusal 9 1) ∷ (Ok tt) ∷ Err (refusal 12 1) ∷ []
unfolding runs
commit_alone = refl

-- Free is asked of the runs in its own turn: beside S in columns 1 and 2 the bar stands upright in column 0, and does not lie there.
commit_upright : commit (placed_strip (opened_strip 6 2 4 0 33) S (at 0 1 0)) bar 1 0 0 ∷ commit (placed_strip (opened_strip 6 2 4 0 33) S (at 0 1 0)) bar 0 0 0 ∷ commit (placed_strip (opened_strip 6 2 4 0 33) S (at 0 1 0)) bar 0 0 4 ∷ [] ≡ (Ok tt) ∷ Err (refusal 18 0) ∷ (Ok tt) ∷ []
unfolding runs
commit_upright = refl

-- 5, 7, 8 before 9, 11, 12 before 18, 18 before 14, and 14.
commit_numbers : commit [] T 0 0 0 ∷ commit with_T (16001 ∷ U) 4 0 0 ∷ commit with_T (0 ∷ 0 ∷ 16001 ∷ 0 ∷ 0 ∷ 1 ∷ []) 4 0 0 ∷ commit with_T flat 0 9 9 ∷ commit_answer with_T U (position 0 0 0) 8 ∷ commit (placed_strip (opened_strip 2 1 6 0 23) T (at 0 0 0)) U 0 0 0 ∷ commit (placed_strip (opened_strip 2 1 6 0 23) T (at 0 0 0)) U 0 3 0 ∷ [] ≡ Err (refusal 5 0) ∷ Err (refusal 7 1) ∷ Err (refusal 8 1) ∷ Err (refusal 11 1) ∷ Err (refusal 12 1) ∷ Err (refusal 18 0) ∷ Err (refusal 14 1) ∷ []
unfolding runs with_T
commit_numbers = refl

-- Cover.

-- S in turn 2: two runs, six words, the rest kept; one word short is 12, and a refusal keeps all.
cover_square : cover_output S 2 2 0 (9 ∷ 9 ∷ 9 ∷ 9 ∷ 9 ∷ 9 ∷ 9 ∷ 9 ∷ []) (cover_answer S 2 2 0 8) ≡ 0 ∷ 0 ∷ 4 ∷ 1 ∷ 0 ∷ 4 ∷ 9 ∷ 9 ∷ []
unfolding runs
cover_square = refl

cover_numbers : cover_answer S 2 2 0 6 ∷ cover_answer S 2 2 0 5 ∷ cover_answer S 4 2 0 6 ∷ cover_answer S 4 0 0 6 ∷ cover_answer wide_tie 1 1 0 9 ∷ [] ≡ Ok 2 ∷ Err (refusal 12 1) ∷ Err (refusal 9 1) ∷ Err (refusal 16 0) ∷ Err (refusal 10 1) ∷ []
unfolding runs
cover_numbers = refl

cover_refused : cover_output S 2 2 0 (9 ∷ 9 ∷ []) (cover_answer S 2 2 0 2) ≡ 9 ∷ 9 ∷ []
unfolding runs
cover_refused = refl

-- Sheets.

-- 201 pieces 6.
pieces_201 : write_answer 10 2 10 (201 ∷ []) 1000 ≡ Err (refusal 6 0)
unfolding runs
pieces_201 = refl

-- The bytes of a sheet with one piece: T with mask 3.
T_sheet : sheet_bytes 300 1 10 (record { mask = 3; outline = T } ∷ []) ≡ 0x4e ∷ 0x4a ∷ 1 ∷ 0 ∷ 44 ∷ 1 ∷ 1 ∷ 0 ∷ 10 ∷ 0 ∷ 1 ∷ 0 ∷ 3 ∷ 0 ∷ 1 ∷ 0 ∷ 0 ∷ 0 ∷ 0 ∷ 0 ∷ 2 ∷ 0 ∷ 3 ∷ 0 ∷ 0 ∷ 0 ∷ 3 ∷ 0 ∷ 3 ∷ 0 ∷ 2 ∷ 0 ∷ 0 ∷ 0 ∷ 1 ∷ 0 ∷ 3 ∷ 0 ∷ 0 ∷ 0 ∷ []
unfolding runs
T_sheet = refl

-- The three squares: the sheet that is written reads back as the list; words past it are kept.
written_three : read_output (write_output 10 2 10 (list_words three) (replicate 106 7) (Ok 106)) (replicate 33 5) (read_answer (write_output 10 2 10 (list_words three) (replicate 106 7) (Ok 106)) 33) ≡ list_words three ++ (5 ∷ 5 ∷ [])
unfolding runs three
written_three = refl

read_three : read_answer (sheet_bytes 10 2 10 three) 31 ∷ read_answer (sheet_bytes 10 2 10 three) 30 ∷ read_answer (take 105 (sheet_bytes 10 2 10 three)) 31 ∷ read_answer (take 15 (sheet_bytes 10 2 10 three)) 31 ∷ [] ≡ Ok (record { width = 10; resolution = 2; columns = 10 }) ∷ Err (refusal 15 0) ∷ Err (refusal 2 0) ∷ Err (refusal 1 0) ∷ []
unfolding runs three
read_three = refl

-- Its size, and a buffer one byte short.
size_three : write_answer 10 2 10 (list_words three) 106 ∷ write_answer 10 2 10 (list_words three) 105 ∷ [] ≡ Ok 106 ∷ Err (refusal 15 0) ∷ []
unfolding runs three
size_three = refl

-- A piece's numbers carry its place, and 11 of piece 1 comes before 7 of piece 2, whose words are missing.
piece_by_piece : write_answer 10 2 10 (2 ∷ 3 ∷ 1 ∷ flat) 999 ∷ write_answer 10 2 10 (2 ∷ 3 ∷ 1 ∷ T) 999 ∷ [] ≡ Err (refusal 11 1) ∷ Err (refusal 7 2) ∷ []
unfolding runs
piece_by_piece = refl

-- Width, resolution and columns have a number each, in this order, before 6.
limits_numbers : read_answer (sheet_bytes 0 0 0 []) 1 ∷ read_answer (sheet_bytes 10 401 0 []) 1 ∷ read_answer (sheet_bytes 10 2 4097 []) 1 ∷ [] ≡ Err (refusal 3 0) ∷ Err (refusal 16 0) ∷ Err (refusal 17 0) ∷ []
unfolding runs
limits_numbers = refl

limits_of_a_list : write_answer 16001 0 0 [] 0 ∷ write_answer 10 0 0 [] 0 ∷ write_answer 10 2 0 [] 0 ∷ write_answer 10 2 10 [] 0 ∷ [] ≡ Err (refusal 3 0) ∷ Err (refusal 16 0) ∷ Err (refusal 17 0) ∷ Err (refusal 6 0) ∷ []
unfolding runs
limits_of_a_list = refl

-- Laying.

-- The printed example: its totals, its output, its text.
lay_three : lay_answer (sheet_bytes 10 2 10 three) 0 39 12 30 ≡ Ok (record { placed = 3; used = 8 })
unfolding runs three
lay_three = refl

lay_three_output : lay_output (sheet_bytes 10 2 10 three) 0 (replicate 13 8) 39 30 (Ok (record { placed = 3; used = 8 })) ≡ 0 ∷ 0 ∷ 0 ∷ 0 ∷ 0 ∷ 0 ∷ 0 ∷ 4 ∷ 0 ∷ 0 ∷ 2 ∷ 0 ∷ 8 ∷ []
unfolding runs three
lay_three_output = refl

lay_three_text : lay_text (sheet_bytes 10 2 10 three) ≡ ascii "strip 10 2 10\n1 placed 0 0 0\n2 placed 0 0 4\n3 placed 0 2 0\nused 8 placed 3\n"
unfolding runs three
lay_three_text = refl

-- S-7: used length is that of the outlines, without the gap: with a gap of 1 the third square lies in column 3.
lay_three_gap : lay_answer (sheet_bytes 10 2 10 three) 1 51 12 30 ≡ Ok (record { placed = 3; used = 10 })
unfolding runs three
lay_three_gap = refl

-- "of 32 bits": a piece that ends with the last column of the longest strip, as it is counted and as it is printed.
longest_used : used_in 400 (in_list (0 ∷ 0 ∷ 400 ∷ 0 ∷ 0 ∷ 1 ∷ []) ∷ []) (record { ordinal = 1; fate = FatePlaced (position 0 4095 0) } ∷ []) ≡ 1638400
unfolding runs
longest_used = refl

longest_text : totals_line (record { placed = 1; used = 1638400 }) ++ totals_line (record { placed = 0; used = 4294967295 }) ≡ ascii "used 1638400 placed 1\nused 4294967295 placed 0\n"
unfolding runs
longest_text = refl

-- With Q 3 the third gets 14 as its fate, with a short work buffer each gets 12, and the job goes on.
lay_fates : lay_output (sheet_bytes 10 2 10 three) 0 [] 27 30 (lay_answer (sheet_bytes 10 2 10 three) 0 27 12 30) ++ lay_output (sheet_bytes 10 2 10 three) 0 [] 27 5 (lay_answer (sheet_bytes 10 2 10 three) 0 27 12 5) ≡ 0 ∷ 0 ∷ 0 ∷ 0 ∷ 0 ∷ 0 ∷ 0 ∷ 4 ∷ 14 ∷ 0 ∷ 0 ∷ 0 ∷ 12 ∷ 0 ∷ 0 ∷ 0 ∷ 12 ∷ 0 ∷ 0 ∷ 0 ∷ 12 ∷ 0 ∷ 0 ∷ 0 ∷ []
unfolding runs three
lay_fates = refl

-- 15, 4 and 17 of the job.
lay_numbers : lay_answer (sheet_bytes 10 2 10 three) 0 39 11 30 ∷ lay_answer (sheet_bytes 10 2 10 three) 0 38 12 30 ∷ lay_answer (sheet_bytes 10 2 0 []) 0 38 12 30 ∷ [] ≡ Err (refusal 15 0) ∷ Err (refusal 4 0) ∷ Err (refusal 17 0) ∷ []
unfolding runs three
lay_numbers = refl

-- A refused piece and a refused job in text: W 3 takes no S, and the job goes on; the tie is the second piece.
refused_text : lay_text (sheet_bytes 3 2 10 (in_list T ∷ in_list S ∷ in_list T ∷ [])) ≡ ascii "strip 3 2 10\n1 placed 0 0 0\n2 refused 13\n3 placed 0 2 0\nused 7 placed 2\n"
unfolding runs
refused_text = refl

job_refused_text : lay_text (sheet_bytes 10 2 10 (in_list S ∷ in_list tall_tie ∷ [])) ≡ ascii "job refused 10 2\n"
unfolding runs
job_refused_text = refl

-- An empty job prints its strip line, then `used 0 placed 0`. Empty input is 1.
empty_text : lay_text (sheet_bytes 16000 400 4096 []) ++ lay_text [] ≡ ascii "strip 16000 400 4096\nused 0 placed 0\njob refused 1 0\n"
unfolding runs
empty_text = refl

-- A buffer passed as bytes: two to a word, low byte first; the odd last byte is no part of it and stays.
as_bytes : words_in (1 ∷ 2 ∷ 255 ∷ 255 ∷ 7 ∷ []) ≡ 513 ∷ 65535 ∷ []
unfolding runs
as_bytes = refl

left_as_bytes : bytes_left (1 ∷ 2 ∷ 255 ∷ 255 ∷ 7 ∷ []) (0 ∷ 258 ∷ []) ≡ 0 ∷ 0 ∷ 2 ∷ 1 ∷ 7 ∷ []
unfolding runs
left_as_bytes = refl

-- Request S-4: a gap. Square S, R 2, gap 3: 0–7 in four columns. The gap is taken in unit cells: gap 1 reaches into a third column.
square_gap_3 : piece_runs S 0 2 3 ≡ (0 to 7 ∷ []) ∷ (0 to 7 ∷ []) ∷ (0 to 7 ∷ []) ∷ (0 to 7 ∷ []) ∷ []
unfolding runs
square_gap_3 = refl

square_gap_1 : piece_runs S 0 2 1 ≡ (0 to 5 ∷ []) ∷ (0 to 5 ∷ []) ∷ (0 to 5 ∷ []) ∷ []
unfolding runs
square_gap_1 = refl

T_gap : piece_runs T 0 1 1 ≡ (0 to 2 ∷ []) ∷ (0 to 3 ∷ []) ∷ (0 to 3 ∷ []) ∷ (0 to 3 ∷ []) ∷ []
unfolding runs
T_gap = refl

-- Two runs that a gap of 3 joins, and one of 2 does not.
two_runs_gap_2 : piece_runs (0 ∷ 0 ∷ 6 ∷ 0 ∷ 6 ∷ 1 ∷ 3 ∷ 1 ∷ 3 ∷ 4 ∷ 6 ∷ 4 ∷ 6 ∷ 5 ∷ 0 ∷ 5 ∷ []) 0 3 2 ≡ (0 to 7 ∷ []) ∷ (0 to 7 ∷ []) ∷ (0 to 3 ∷ 4 to 7 ∷ []) ∷ []
unfolding runs
two_runs_gap_2 = refl

two_runs_gap_3 : piece_runs (0 ∷ 0 ∷ 6 ∷ 0 ∷ 6 ∷ 1 ∷ 3 ∷ 1 ∷ 3 ∷ 4 ∷ 6 ∷ 4 ∷ 6 ∷ 5 ∷ 0 ∷ 5 ∷ []) 0 3 3 ≡ (0 to 8 ∷ []) ∷ (0 to 8 ∷ []) ∷ (0 to 8 ∷ []) ∷ []
unfolding runs
two_runs_gap_3 = refl

-- Three squares with gap 1; T then U with gap 1 need a column more; a strip that is too short for the gap.
three_squares_gap : list_answers 10 2 10 1 40 (piece S 1 ∷ piece S 1 ∷ piece S 1 ∷ []) ≡ at 0 0 0 ∷ at 0 0 5 ∷ at 0 3 0 ∷ []
unfolding runs
three_squares_gap = refl

T_then_U_gap_7 : list_answers 2 1 7 1 40 (piece T 1 ∷ piece U 1 ∷ []) ≡ at 0 0 0 ∷ at 0 4 0 ∷ []
unfolding runs
T_then_U_gap_7 = refl

T_then_U_gap_6 : list_answers 2 1 6 1 40 (piece T 1 ∷ piece U 1 ∷ []) ≡ at 0 0 0 ∷ no 13 ∷ []
unfolding runs
T_then_U_gap_6 = refl

squares_gap_4 : list_answers 4 2 4 3 40 (piece S 1 ∷ piece S 1 ∷ []) ≡ at 0 0 0 ∷ no 13 ∷ []
unfolding runs
squares_gap_4 = refl

squares_gap_6 : list_answers 4 2 6 3 40 (piece S 1 ∷ piece S 1 ∷ []) ≡ at 0 0 0 ∷ at 0 4 0 ∷ []
unfolding runs
squares_gap_6 = refl

-- Cells past the top and the end don't count: two records are used, though 12 asks for twelve words.
tight_gap : list_answers 4 2 2 3 2 (lent S 1 11 ∷ lent S 1 12 ∷ []) ≡ no 12 ∷ at 0 0 0 ∷ []
unfolding runs
tight_gap = refl

tight_gap_strip : placed_strip (opened_strip 4 2 2 3 15) S (at 0 0 0) ≡ 4 ∷ 2 ∷ 2 ∷ 0 ∷ 3 ∷ 1 ∷ 2 ∷ 0 ∷ 0 ∷ 4 ∷ 0 ∷ 1 ∷ 0 ∷ 4 ∷ 0 ∷ []
unfolding runs
tight_gap_strip = refl

-- A gap of 1 is kept to the piece on the right and above as well: beside S in columns 2 and 3, height 5, another S must end before column
-- 1 or begin after column 4, or end below row 4 or begin above row 9.
ask_gap : ask_answer (placed_strip (opened_strip 10 2 10 1 175) S (at 0 0 0)) S 1 30 ≡ Ok (position 0 0 5)
unfolding runs
ask_gap = refl

commit_gap : commit (placed_strip (opened_strip 20 2 10 1 175) S (at 0 2 5)) S 0 1 5 ∷ commit (placed_strip (opened_strip 20 2 10 1 175) S (at 0 2 5)) S 0 4 5 ∷ commit (placed_strip (opened_strip 20 2 10 1 175) S (at 0 2 5)) S 0 5 5 ∷ commit (placed_strip (opened_strip 20 2 10 1 175) S (at 0 2 5)) S 0 2 1 ∷ commit (placed_strip (opened_strip 20 2 10 1 175) S (at 0 2 5)) S 0 2 0 ∷ commit (placed_strip (opened_strip 20 2 10 1 175) S (at 0 2 5)) S 0 2 9 ∷ commit (placed_strip (opened_strip 20 2 10 1 175) S (at 0 2 5)) S 0 2 10 ∷ [] ≡ Err (refusal 18 0) ∷ Err (refusal 18 0) ∷ (Ok tt) ∷ Err (refusal 18 0) ∷ (Ok tt) ∷ Err (refusal 18 0) ∷ (Ok tt) ∷ []
unfolding runs
commit_gap = refl

-- 21: after 16 and 17, before 4; a strip with a gap over 400 is not well formed.
open_21 : open_answer 2 1 6 400 15 ∷ open_answer 2 1 6 401 15 ∷ open_answer 2 401 6 401 15 ∷ open_answer 2 1 4097 401 15 ∷ open_answer 2 1 6 401 3 ∷ [] ≡ (Ok tt) ∷ Err (refusal 21 0) ∷ Err (refusal 16 0) ∷ Err (refusal 17 0) ∷ Err (refusal 21 0) ∷ []
unfolding runs
open_21 = refl

cover_21 : cover_answer S 0 2 401 30 ∷ cover_answer S 0 401 401 30 ∷ cover_answer flat 4 2 401 30 ∷ cover_answer S 0 2 3 12 ∷ cover_answer S 0 2 3 11 ∷ [] ≡ Err (refusal 21 0) ∷ Err (refusal 16 0) ∷ Err (refusal 21 0) ∷ Ok 4 ∷ Err (refusal 12 1) ∷ []
unfolding runs
cover_21 = refl

gap_401 : well_formedb (9 ∷ 1 ∷ 2 ∷ 2 ∷ 401 ∷ 3 ∷ 0 ∷ 0 ∷ 5 ∷ 7 ∷ 0 ∷ 2 ∷ 0 ∷ 0 ∷ 0 ∷ 0 ∷ 1 ∷ 4 ∷ 1 ∷ []) ≡ false
unfolding runs
gap_401 = refl

lay_21 : lay_answer (sheet_bytes 10 2 10 three) 401 39 12 30 ∷ lay_answer (sheet_bytes 10 2 10 three) 401 3 12 30 ∷ lay_answer (sheet_bytes 10 2 0 []) 401 39 12 30 ∷ [] ≡ Err (refusal 21 0) ∷ Err (refusal 21 0) ∷ Err (refusal 17 0) ∷ []
unfolding runs three
lay_21 = refl

-- Request S-5: tries. Three S, W 10, R 2, N 10: the first is free at once; the second jumps onto the first; the third finds columns 0 and 1
-- too full at the first jump, which is past the top and no try. So it is with Q 3, where 14 refuses the third.
three_squares_tries : list_tries 10 2 10 0 6 (piece S 1 ∷ piece S 1 ∷ piece S 1 ∷ []) ≡ 1 ∷ 2 ∷ 3 ∷ []
unfolding runs
three_squares_tries = refl

three_squares_tries_3 : list_tries 10 2 10 0 3 (piece S 1 ∷ piece S 1 ∷ piece S 1 ∷ []) ≡ 1 ∷ 2 ∷ 3 ∷ []
unfolding runs
three_squares_tries_3 = refl

-- The walk of the third: one height in each of three columns.
third_square_walk : turn_walk 10 2 10 0 ((0 to 8 ∷ []) ∷ (0 to 8 ∷ []) ∷ replicate 8 []) S 0 ≡ (0 ∷ []) ∷ (0 ∷ []) ∷ (0 ∷ []) ∷ []
unfolding runs
third_square_walk = refl

third_square_end : walk_end 10 2 10 0 ((0 to 8 ∷ []) ∷ (0 to 8 ∷ []) ∷ replicate 8 []) S 0 ≡ Some (position 0 2 0)
unfolding runs
third_square_end = refl

-- 13 has its tries, and what a check before 13 refuses has none: U after T with N 5; then a bad mask, no inside, a short work buffer.
refused_tries : list_tries 2 1 5 0 6 (piece T 1 ∷ piece U 1 ∷ piece U 0 ∷ piece flat 1 ∷ lent U 1 8 ∷ []) ≡ 1 ∷ 3 ∷ 0 ∷ 0 ∷ 0 ∷ []
unfolding runs
refused_tries = refl

-- A height past the top, even height 0, is no try: the bar on W 4 is tried in turn 0 alone, on W 1 in no turn. S on one column of
-- R 2 is on the strip in none.
bar_tries : list_tries 4 2 10 0 6 (piece bar 3 ∷ []) ++ list_tries 6 2 10 0 6 (piece bar 3 ∷ []) ++ list_tries 1 2 10 0 6 (piece bar 3 ∷ []) ++ list_tries 10 2 1 0 6 (piece S 1 ∷ []) ≡ 1 ∷ 2 ∷ 0 ∷ 0 ∷ []
unfolding runs
bar_tries = refl

-- The jump takes off the piece run's own low, and the first clashing run by column decides, not the highest that is met: T in turn 1
-- (runs 1 to 3 and 0 to 3) over 0 to 2 and 0 to 5 goes to 1 by its first column and then to 5 by its second.
own_low_walk : turn_walk 9 1 2 0 ((0 to 2 ∷ []) ∷ (0 to 5 ∷ []) ∷ []) T 1 ≡ (0 ∷ 1 ∷ 5 ∷ []) ∷ []
unfolding runs
own_low_walk = refl

-- Of two runs that are met the lowest sends the piece on; of two runs of the piece that clash, the lower one.
lowest_walk : turn_walk 9 2 2 0 ((0 to 1 ∷ 2 to 3 ∷ []) ∷ [] ∷ []) S 0 ≡ (0 ∷ 1 ∷ 3 ∷ []) ∷ []
unfolding runs
lowest_walk = refl

lower_run_walk : turn_walk 20 3 2 0 ([] ∷ (0 to 6 ∷ []) ∷ []) (0 ∷ 0 ∷ 6 ∷ 0 ∷ 6 ∷ 1 ∷ 3 ∷ 1 ∷ 3 ∷ 4 ∷ 6 ∷ 4 ∷ 6 ∷ 5 ∷ 0 ∷ 5 ∷ []) 0 ≡ (0 ∷ 6 ∷ []) ∷ []
unfolding runs
lower_run_walk = refl

-- The bound of the third square: three pairs, two runs of the piece, two on the strip.
third_square_bound : tries_bound 10 2 10 0 ((0 to 8 ∷ []) ∷ (0 to 8 ∷ []) ∷ replicate 8 []) S 1 ≡ 15
unfolding runs
third_square_bound = refl

-- With a gap of 1 the third square is tried in one column more; with 13 and a gap of 3, whose cells reach past the strip's end, there is
-- one try in each of three columns.
gap_tries : list_tries 10 2 10 1 40 (piece S 1 ∷ piece S 1 ∷ piece S 1 ∷ []) ++ list_tries 4 2 4 3 40 (piece S 1 ∷ piece S 1 ∷ []) ≡ 1 ∷ 2 ∷ 4 ∷ 1 ∷ 3 ∷ []
unfolding runs
gap_tries = refl

-- The turned outline, and what is read of it vertex by vertex: (5,7) (9,8) (6,20) in each turn.
abbrev leaning : List ℕ
leaning = 5 ∷ 7 ∷ 9 ∷ 8 ∷ 6 ∷ 20 ∷ []

abbrev read_all : List ℕ → ℕ → List ℕ
read_all o t = outline_from (read_x o t) (read_y o t) 0 (sides o)

turn_0_read : (read_all leaning 0 ≡ 0 ∷ 0 ∷ 4 ∷ 1 ∷ 1 ∷ 13 ∷ []) × (turned leaning 0 ≡ 0 ∷ 0 ∷ 4 ∷ 1 ∷ 1 ∷ 13 ∷ [])
unfolding runs
turn_0_read = (refl, refl)

turn_1_read : (read_all leaning 1 ≡ 13 ∷ 0 ∷ 12 ∷ 4 ∷ 0 ∷ 1 ∷ []) × (turned leaning 1 ≡ 13 ∷ 0 ∷ 12 ∷ 4 ∷ 0 ∷ 1 ∷ [])
unfolding runs
turn_1_read = (refl, refl)

turn_2_read : (read_all leaning 2 ≡ 4 ∷ 13 ∷ 0 ∷ 12 ∷ 3 ∷ 0 ∷ []) × (turned leaning 2 ≡ 4 ∷ 13 ∷ 0 ∷ 12 ∷ 3 ∷ 0 ∷ [])
unfolding runs
turn_2_read = (refl, refl)

turn_3_read : (read_all leaning 3 ≡ 0 ∷ 4 ∷ 1 ∷ 0 ∷ 13 ∷ 3 ∷ []) × (turned leaning 3 ≡ 0 ∷ 4 ∷ 1 ∷ 0 ∷ 13 ∷ 3 ∷ [])
unfolding runs
turn_3_read = (refl, refl)

-- Of an outline that fails 8, 10 and 11 too.
any_read : read_all (60000 ∷ 9 ∷ 2 ∷ 65535 ∷ 60000 ∷ 9 ∷ 2 ∷ 65535 ∷ []) 1 ≡ 65526 ∷ 59998 ∷ 0 ∷ 0 ∷ 65526 ∷ 59998 ∷ 0 ∷ 0 ∷ []
unfolding runs
any_read = refl
