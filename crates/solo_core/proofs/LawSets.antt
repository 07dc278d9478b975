-- The lemmas by which the functions of a file are proved.
use Rattle.solo_core.proofs.Common.{append-nil, both-bits, bound_is, column_in, crossings_lawful, crossings_rules-bound, either-bits, house_count, houses_lawful, length-map-range_with_len, listed-has, listed-same, lists_house, row_in, rule_from_test, singles_lawful, test_from_rule, zero-bits}
use Rattle.solo_core.proofs.RepeatLemmas.{fine_more, given_first, len_of, number_at, seen_again, seen_all, seen_more, seen_none}
use Rattle.solo_core.proofs.HouseLemmas.{all-length, crossing-after, crossings-counted, crossings-length, decides-at, filled-length, first-at, first_at, house-more, house-named, kept-houses, length-deciding, listed-all, listed-crossings, listed-deciding, listed-none, long-at, scope-named, scopes-length, second-at, started, started-all, started-blank, started-given, started-none, started-there}
use Rattle.solo_core.proofs.CrossingLemmas.{any-more, any-none, cut_by, crossing-is, crossings-listed, rest-out, rest-in, rest-all, shared-below, shared-above}
use Rattle.solo_core.proofs.SinglesLemmas.{singles_in_houses}
use Rattle.solo_core.proofs.PeelLemmas.{lone-counts, counts-none, counts-more, peeled-step, counts-same, peeled-none, peeled-more, rest-peeled, settled-peeled}
use Rattle.solo_core.proofs.MateLemmas.{goes_on_free, begun-none, goes_on_swapped}
use Rattle.solo_core.proofs.BitLemmas.{bits_joined, single_bit}
use Rattle.solo_core.proofs.NoteLemmas.{room-made}
use Rattle.solo_core.proofs.SpotLemmas.{spot-1, spot-2, spot-3, spot-4}
use Rattle.solo_core.proofs.PartLemmas.{back-done, back-none, one-part, part-spread, parts-all, parts-none, spread-done, spread-left, spreading-none, up-all, up-more, up-none, up-same}

pub ruleset check_laws = (given_first, len_of, number_at, seen_none, seen_more, seen_again, seen_all, fine_more)

pub ruleset counts_laws = (both-bits, either-bits, zero-bits, single_bit)

pub ruleset crossing_laws =
    (bits_joined, both-bits, zero-bits, any-none, any-more, cut_by, crossings-length, listed-same, lists_house, scopes-length, shared-below, shared-above)

pub ruleset crossings_laws =
    (lists_house, crossing-is, crossings-listed, crossings-length, scopes-length, listed-none, listed-all, rest-out, rest-in, rest-all, listed-same)

pub ruleset laws_laws = (
  rule_from_test,
  test_from_rule,
  house_count,
  bound_is,
  crossings_rules-bound,
  first_at,
  lists_house,
  listed-has,
  singles_in_houses,
  houses_lawful,
  singles_lawful,
  crossings_lawful,
  length-deciding,
  crossings-counted,
  house-named,
  scope-named,
)

pub ruleset lists_laws = (append-nil, house-more, length-map-range_with_len)

pub ruleset peel_laws =
    (both-bits, either-bits, lone-counts, counts-none, counts-more, peeled-step, counts-same, peeled-none, peeled-more, rest-peeled, settled-peeled)

pub ruleset quick_laws = (both-bits, goes_on_free, begun-none, goes_on_swapped)

pub ruleset parts_laws = (parts-none, parts-all, one-part, both-bits)

pub ruleset numbers_laws = (column_in, first-at, second-at, scopes-length, row_in, house-named, crossing-after, all-length)

pub ruleset notes_laws = (room-made)

pub ruleset open_laws = (both-bits, either-bits, zero-bits)

pub ruleset settle_laws = (both-bits, either-bits, zero-bits)

pub ruleset spots_laws = (spot-1, spot-2, spot-3, spot-4)

pub ruleset start_laws = (started, started-none, started-all, started-blank, started-given, started-there)

pub ruleset rule_sets_laws = (decides-at, long-at, first_at, filled-length, listed-crossings, listed-deciding, kept-houses)

pub ruleset turning_laws = (back-none, back-done, part-spread, spread-done, spread-left, spreading-none, up-all, up-more, up-none, up-same)
