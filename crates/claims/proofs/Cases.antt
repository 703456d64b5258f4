-- The thirteen cases, by running the definitions.
use mathlib.Core.Path.{refl}
use Rattle.basis.specs.Numbers.{number, bytes_of, all_bytes_of}
use Rattle.basis.specs.Sums.{sum_up, greatest}
use Rattle.basis.specs.Tables.{tab_from}
use Rattle.share.specs.Division.{whole_parts, remainders, first_place_of, largest, give, shares, division_number, divided}
use Rattle.plant.specs.Availability.{availability_of, times_c}
use Rattle.plant.specs.Efficient.{year_sum, efficient_offers}
use Rattle.plant.specs.Offer.{offer_in_watts, firm_offer}
use Rattle.power.specs.Power.{measured_of, after_test, test_of}
use Rattle.table.specs.Records.{parts_of, call_of, readings_size, table_of, form_of, mark_at}
use Rattle.table.specs.Fields.{encode, decode}
use Rattle.table.specs.Ranges.{uses_of, unused_zero, rest_in_range, fields_number, call_number}
use Rattle.record.specs.Reading.{read_call, read_marked, read_at, part_of}
use Rattle.close.specs.Close.{reals_of, all_adjusted, adjusted_in, surpluses_in, charges_of, charges_in, credits_of, undistributed_of, all_heard, close_number_by, figures_of, closed, close_of}
use Rattle.gathering.specs.Units.{test_rest, availability_rest, unit_rest, tested_unit, available_unit, unit_after, unit_number, after_unit, unit_of}
use Rattle.decision.specs.Consumers.{consumer_rest, consumer_after, consumer_number, after_consumer, consumer_of}
use Rattle.decision.specs.ContractCalls.{contract_rest, balance_after, contract_number, after_contract, contract_of}
use Rattle.fix.specs.Fix.{offers_of, flags_of, efficient_in, limit_of, limits_of, weights_of, with_demands, fix_number_by, fixed, fix_of}
use Rattle.book.specs.Year.{year_number_by, begun, year_of}
use Rattle.book.specs.Lists.{after_all, accepted_by}
use Rattle.state.specs.State.{fresh_book}
use Rattle.book.specs.Step.{step_of}
use Rattle.journal.specs.Run.{started, run_from, run_of}
use Rattle.text.specs.Text.{joined_from, digits, decimal, amount_of, line_of}
use Rattle.letters.specs.Letters.{unit_line, unit_lines, owners_of, owns, producer_line, producer_lines, demand_line, demand_lines, settlement_line, settlement_lines}
use Rattle.listing.specs.Listing.{firm_lines, closed_lines, stage_lines, listing_of, listed_of, listed_in}
use Rattle.claims.specs.Cases.{Thirteen, journal_with, run_j, run_above, equal_readings}

pub thirteen : Thirteen
unfolding number bytes_of all_bytes_of sum_up greatest tab_from whole_parts remainders first_place_of largest give shares division_number divided availability_of times_c year_sum efficient_offers offer_in_watts firm_offer measured_of after_test test_of parts_of call_of readings_size encode decode table_of form_of mark_at uses_of unused_zero rest_in_range fields_number call_number read_call read_marked read_at part_of reals_of all_adjusted adjusted_in surpluses_in charges_of charges_in credits_of undistributed_of all_heard close_number_by figures_of closed close_of test_rest availability_rest unit_rest tested_unit available_unit unit_after unit_number after_unit unit_of consumer_rest consumer_after consumer_number after_consumer consumer_of contract_rest balance_after contract_number after_contract contract_of offers_of flags_of efficient_in limit_of limits_of weights_of with_demands fix_number_by fixed fix_of year_number_by begun year_of after_all accepted_by fresh_book step_of started run_from run_of joined_from unit_line unit_lines owners_of owns producer_line producer_lines demand_line demand_lines settlement_line settlement_lines firm_lines closed_lines stage_lines listing_of listed_of listed_in digits decimal amount_of line_of journal_with run_j run_above equal_readings
thirteen =
    record {
      letter_u = refl;
      letter_p = refl;
      letter_d = refl;
      letter_s = refl;
      letter_t = refl;
      letter_r = refl;
      count_3_ending_1 = refl;
      count_4_ending_1 = refl;
      count_3_ending_2 = refl;
      count_4_ending_2 = refl;
      tie_of_years = refl;
      three_equal_weights = refl;
      no_positive_adjustment = (refl, refl, refl);
    }
