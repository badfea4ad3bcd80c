-- Everything on the way from a journal's bytes, or from a list of calls, to what they print and leave: a proof that says
-- `unfolding computing` has the definitions run. Assumes nothing.
use Rattle.rules.specs.Bytes.{get64, put64, record_at, put_record, record_count, line_at, put_line, line_count, gauge_at, put_gauge}
use Rattle.rules.specs.Pass.{pass, first, best, first_of, best_of, sum_of, count_of, all_of, any_of, lowest_not}
use Rattle.rules.specs.Table.{is_free, is_tracked, is_unlined, is_lined, line_of, is_filled, is_on, empty_state, filled_state, is_zero, heated, cooled, half_down, half_up, aged_record, new_record, unlined, freed, on_empty_line, emptied, filled, has_key, key_record, free_record, colder, hotter, leaves, victim, coldest_lined, hottest_unlined, is_used, lowest_unused, looked_up, lookup, record_in_order, in_order, places, size, line_total, with_table, with_gauge, with_lines, write, change_all, fresh_gauge, fresh_memory}
use Rattle.rules.specs.Steps.{aged_gauge, aged, age_steps, next_ticket, ticketed, renew, give_line, hand_on, hand_over, decay_for, grown, track, raised, evict, replace_coldest, promote, admit, read_answer, admission, place, read_counted, warm_steps, peek_answer, peek_steps, read_steps, demote_for, demote, change, update_steps, store_in, store, fill_steps, vacate_for, vacate, withdraw, withdraw_steps, shown_line, level, levelled_sum}
use Rattle.rules.specs.Answers.{is_refused, answer_number, number_of, values_of}
use Rattle.rules.specs.Refusals.{number}
use Rattle.rules.specs.Calls.{sizes_good, read_weight_good, update_weight_good, picture_good, order_good, serial_good, verdict, sizes_test, order_test, serial_test, unless, plain_verdict, age_outcome, read_verdict, read_outcome, update_verdict, update_outcome, fill_verdict, fill_outcome, withdraw_verdict, withdraw_outcome, fresh_outcome, held, stored, gauge_test, hosted, exported, number_test, put_ticket, hosted_read, exported_read, show_line, levelled_outcome}
use Rattle.rules.specs.Journal.{kind_at, weight_at, key_at, picture_place, picture_at, ticket_at, zeros, gaps_zero, picture_zero, weight_zero, key_zero, ticket_zero, of_form, whole_entry, decoded, entry_at, digits, decimal, word_of, row_of, printing, performed, carried, perform, run_for, entry_count, start_run, journal_run}
use Rattle.rules.specs.Replay.{unheard, at, age_truth, grown_truth, warm_truth, read_truth, update_truth, fill_truth, withdraw_truth, make_stale}
use Rattle.rules.specs.Sample.{sample_entry, sample_journal, sample_lent, sample_start, sample_rows, three_records, host_start, sample_end}

unfoldable pub computing : Unit {0}
unfolding get64 put64 record_at put_record record_count line_at put_line line_count gauge_at put_gauge pass first best first_of best_of sum_of count_of all_of any_of lowest_not is_free is_tracked is_unlined is_lined line_of is_filled is_on empty_state filled_state is_zero heated cooled half_down half_up aged_record new_record unlined freed on_empty_line emptied filled has_key key_record free_record colder hotter leaves victim coldest_lined hottest_unlined is_used lowest_unused looked_up lookup record_in_order in_order places size line_total with_table with_gauge with_lines write change_all fresh_gauge fresh_memory aged_gauge aged age_steps next_ticket ticketed renew give_line hand_on hand_over decay_for grown track raised evict replace_coldest promote admit read_answer admission place read_counted warm_steps peek_answer peek_steps read_steps demote_for demote change update_steps store_in store fill_steps vacate_for vacate withdraw withdraw_steps shown_line level levelled_sum is_refused number answer_number number_of values_of sizes_good read_weight_good update_weight_good picture_good order_good serial_good verdict sizes_test order_test serial_test unless plain_verdict age_outcome read_verdict read_outcome update_verdict update_outcome fill_verdict fill_outcome withdraw_verdict withdraw_outcome fresh_outcome held stored gauge_test hosted exported number_test put_ticket hosted_read exported_read show_line levelled_outcome kind_at weight_at key_at picture_place picture_at ticket_at zeros gaps_zero picture_zero weight_zero key_zero ticket_zero of_form whole_entry decoded entry_at digits decimal word_of row_of printing performed carried perform run_for entry_count start_run journal_run unheard at age_truth grown_truth warm_truth read_truth update_truth fill_truth withdraw_truth make_stale sample_entry sample_journal sample_lent sample_start sample_rows three_records host_start sample_end
computing = tt
