-- A group that opens every definition, so that the table computes. It says nothing of its own.
-- Relies on the definitions' names alone.
use Rattle.std.specs.Prelude.{ℕ}
use Rattle.words.specs.Choice.{pick, both, every, first_no}
use Rattle.words.specs.Digits.{base, depths, digit, pixel_number}
use Rattle.words.specs.Blocks.{cells, fill}
use Rattle.settings.specs.Sizes.{level_words, max_moves, level_count, fresh, is_width, within, views, question1, question2, question3}
use Rattle.settings.specs.Cut.{opening_two, first_three}
use Rattle.areas.specs.Memory.{is_node, named, pixel_at, next_at, previous_at, depth_at, entry_at, cell_at, set_cell, exchange, entry_cell, fill_node, fill_level, level_taken, node_taken, ref_taken}
use Rattle.record.specs.Kinds.{kinds, kind_of, kind_no, answer_no, answer_node, answer_of}
use Rattle.record.specs.Layout.{head_from, head_list, worker_place, move_place, head_at, moves_at, move_from, move_at, first_moves, load, store_head, move_to, store_moves, store, new_move}
use Rattle.record.specs.Fits.{on_chain, has_node, call_fits, inner_fits, outer_fits, moves_fit, moving_fits, viewing, role_fits, viewer_told, answer_fits, fits_by, fits}
use Rattle.rules.specs.Opening.{opened_settings, opened_areas}
use Rattle.rules.specs.Heads.{to, to_level, to_node, holding_node, holding_level, ended, started, last_node, remember, forget}
use Rattle.rules.specs.Steps.{expected, peeked, by_count, more, took_node, took_level, with_node, take_node, with_level, take_level, exchanging, closed, child_of, back_meets}
use Rattle.rules.specs.Searching.{entry_of, placed, met_node, met, read_word, follow_word, takes_node, takes_next, viewed, look, take, put, read, tail, take_tail, append, level, close, follow}
use Rattle.rules.specs.Moving.{key_of, home_cell, set_cell_of, set_last, chain_word, set_met, set_read_word, set_follow_word, set_node, chain_head, chain_next, set_next, set_look, set_put, set_read, set_tail, set_append, set_level, set_close, set_follow, after_move, move_end}
use Rattle.rules.specs.Acts.{inner, outer, act_by, act}
use Rattle.rules.specs.Asked.{question4, question4_all, question5, question17, in_hand, spare, picks_in, pixel_fits, reads_ref, compares_ref, goes_back, follows_ref, set_follows_ref, exchanges, level_left, remembers, move_left, key_fits, takes, stands_at, tails, takes_level, stands_setting, stands_with, looks, picks_with, puts, reads, appends, closes, follows, picks_home, chain_heads, chain_nexts, move_ends, set_nexts, set_entry, set_puts, set_looks, set_appends, set_closes, set_follows, reads_by, question6, question6_record, question7, question8, node_left, question9}
use Rattle.rules.specs.Operations.{unless_refused, opening_questions, opening, start_questions, started_areas, start, turn_questions, taken, full_record, full, turn, last_questions, last_of, last_answer}
use Rattle.rules.specs.Lists.{left_after, visits, end_state, met_six, counts, turns_done, list_number, turns_result, list_questions, turns}
use Rattle.rules.specs.Calls.{happens, history, state_after, others, left_open, opens, ended_by, ends_with, ends, calls_from, calls, ending_answer, ending, endings}
use Rattle.rules.specs.Demands.{takes_number, numbers_taken}
use Rattle.rules.specs.Sequences.{turns_at, list_events}
use Rattle.rules.specs.Exchanges.{commits, exchange_by, exchange_at, done_in, failed_in, total, list_report}
use Rattle.bench.specs.Table.{first_rows, move_rows, full_rows, exchange_rows, narrow_rows, wide_rows, other_widths, viewer_rows, lent, gives, runs_of, line_of, lines_pass, passes}

unfoldable pub everything : ℕ
unfolding pick both every first_no base depths digit pixel_number cells fill level_words max_moves level_count fresh is_width within views question1 question2 question3 opening_two first_three is_node named pixel_at next_at previous_at depth_at entry_at cell_at set_cell exchange entry_cell fill_node fill_level level_taken node_taken ref_taken kinds kind_of kind_no answer_no answer_node answer_of head_from head_list worker_place move_place head_at moves_at move_from move_at first_moves load store_head move_to store_moves store new_move on_chain has_node call_fits inner_fits outer_fits moves_fit moving_fits viewing role_fits viewer_told answer_fits fits_by fits opened_settings opened_areas to to_level to_node holding_node holding_level ended started last_node remember forget expected peeked by_count more took_node took_level with_node take_node with_level take_level exchanging closed child_of back_meets entry_of placed met_node met read_word follow_word takes_node takes_next viewed look take put read tail take_tail append level close follow key_of home_cell set_cell_of set_last chain_word set_met set_read_word set_follow_word set_node chain_head chain_next set_next set_look set_put set_read set_tail set_append set_level set_close set_follow after_move move_end inner outer act_by act question4 question4_all question5 question17 in_hand spare picks_in pixel_fits reads_ref compares_ref goes_back follows_ref set_follows_ref exchanges level_left remembers move_left key_fits takes stands_at tails takes_level stands_setting stands_with looks picks_with puts reads appends closes follows picks_home chain_heads chain_nexts move_ends set_nexts set_entry set_puts set_looks set_appends set_closes set_follows reads_by question6 question6_record question7 question8 node_left question9 unless_refused opening_questions opening start_questions started_areas start turn_questions taken full_record full turn last_questions last_of last_answer left_after visits end_state met_six counts turns_done list_number turns_result list_questions turns happens history state_after others left_open opens ended_by ends_with ends calls_from calls ending_answer ending endings takes_number numbers_taken turns_at list_events commits exchange_by exchange_at done_in failed_in total list_report first_rows move_rows full_rows exchange_rows narrow_rows wide_rows other_widths viewer_rows lent gives runs_of line_of lines_pass passes
everything = 0
