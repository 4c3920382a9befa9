-- A line `unfolding runs` opens every definition that computes. Assumes nothing.
use Rattle.defs.specs.Meaning.Outline.{edge_at, height, passes_below, passes_through, count_to, count_below, change_order}
use Rattle.defs.specs.Meaning.Turn.{quarters, sent, least, outline_from, turned, greatest, extent_x, extent_y}
use Rattle.defs.specs.Meaning.Placing.{moved, end_column, right_edge, top}
use Rattle.defs.specs.Computing.Test.{any_to, all_to, any, all, list_from, first_from, chain_by, ends_by}
use Rattle.defs.specs.Computing.Cells.{higher, not_higher, reaches, rises, open_above, opens, unitsb, raisedb, coveredb, keeps_orderb, join_row, stretches, in_rows, piece_runs, count_runs, allowedb, ordersb, most_runs}
use Rattle.defs.specs.Computing.Words.{widthb, resolutionb, columnsb, gapb, limitsb, limits_no, figures_no, records_of, lengthb, occurrences, in_columnb, is_freeb, concat, well_formedb, rows_of, runs_of, columns_runs, heads, column_words, run_words, free_words, written}
use Rattle.defs.specs.Computing.Search.{meets, freeb, drop_n, first_free, beats, better, best_below, entered_column, entered_from, entered}
use Rattle.defs.specs.Computing.Walk.{lowest_met, clash_or, clash_in, first_of, first_clash, goes_on, heights_from, heights_in, columns_from, turn_walk, free_among, end_from, walk_end, tries_in, some_height, columns_tried, tries_below, pairs_below, tries_bound}
use Rattle.defs.specs.Computing.Vertices.{least_n, most_n, corner_x, corner_y, read_x, read_y}
use Rattle.defs.specs.Computing.Calls.{q7b, q8b, q9b, q11b, q12b, q14b, q18b, outline_no, open_answer, cover_answer, choose, place_on, place_answer, ask_answer, tries_on, place_tries, commit_on, commit_answer, rows_words, runs_words, cover_output, opened_strip, placed_strip, place_all, list_answers, tries_all, list_tries}
use Rattle.defs.specs.Computing.Sheets.{q1b, q2b, q6b, piece_records, vertices_of, piece_of, sheet_piece_no, first_no, sheet_no, sheet_pieces, read_answer, read_output, outline_bytes, vertices_bytes, pieces_bytes, vertices_in, list_tails, q7_listb, list_piece_no, list_pieces, q6_listb, list_no, write_answer, write_output}
use Rattle.defs.specs.Computing.Lay.{held_after, entries_from, held_from, placed_in, used_in, entries_words, lay_entries, lay_answer, lay_output}
use Rattle.defs.specs.Computing.Ascii.{ascii}
use Rattle.defs.specs.Computing.Text.{digits, decimal, long_decimal, spaced, line, entry_line, entry_lines, totals_line, lay_text}
use Rattle.defs.specs.Computing.Bytes.{words_in, word_bytes, odd_byte, bytes_left}

unfoldable pub runs : Unit {0}
unfolding edge_at height passes_below passes_through count_to count_below change_order quarters sent least outline_from turned greatest extent_x extent_y moved end_column right_edge top outline_bytes vertices_bytes pieces_bytes vertices_in any_to all_to any all list_from first_from chain_by ends_by higher not_higher reaches rises open_above opens unitsb raisedb coveredb keeps_orderb join_row stretches in_rows piece_runs count_runs allowedb ordersb most_runs widthb resolutionb columnsb gapb limitsb limits_no figures_no records_of lengthb occurrences in_columnb is_freeb concat well_formedb rows_of runs_of columns_runs heads column_words run_words free_words written meets freeb drop_n first_free beats better best_below entered_column entered_from entered lowest_met clash_or clash_in first_of first_clash goes_on heights_from heights_in columns_from turn_walk free_among end_from walk_end tries_in some_height columns_tried tries_below pairs_below tries_bound least_n most_n corner_x corner_y read_x read_y q7b q8b q9b q11b q12b q14b q18b outline_no open_answer cover_answer choose place_on place_answer ask_answer tries_on place_tries commit_on commit_answer rows_words runs_words cover_output opened_strip placed_strip place_all list_answers tries_all list_tries q1b q2b q6b piece_records vertices_of piece_of sheet_piece_no first_no sheet_no sheet_pieces read_answer read_output list_tails q7_listb list_piece_no list_pieces q6_listb list_no write_answer write_output held_after entries_from held_from placed_in used_in entries_words lay_entries lay_answer lay_output ascii digits decimal long_decimal spaced line entry_line entry_lines totals_line lay_text words_in word_bytes odd_byte bytes_left
runs = tt
