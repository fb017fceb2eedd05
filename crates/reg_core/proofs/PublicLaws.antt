-- The laws that proofs of other crates cite. Each is stated in specs/, and a function of `laws` ensures it.
pub use Rattle.reg_core.proofs.Integers.{bytes_order, is_bytes-append, is_bytes-bytes_high_first, is_bytes-cons, is_bytes-tail, is_bytes-take, value-bytes20}
pub use Rattle.reg_core.proofs.LabelTexts.{label_of-is, label_of-some}
pub use Rattle.reg_core.proofs.MomentTexts.{moment_of-some, moment_of-text}
pub use Rattle.reg_core.proofs.Schedules.{before_from_test, greatest_at_most_398, test_from_before}
-- Lemmas about rows in ascending order of a key.
pub use Rattle.reg_core.proofs.NumberedRows.{dropped_numbered, find_self, looked_up, numbers, past_drop}
pub use Rattle.reg_core.proofs.RisingKeys.{Rises, all_ordered, kept_rises, last_of, numbers_differ, order_filter, order_rises, past_behind, taken_whole}
use Rattle.std.proofs.Common.{arith}
use Rattle.reg_core.specs.Integer.{integer}
use Rattle.reg_core.specs.Laws.{OctetsAreDigits, OctetsAreBelow, ZerosCountNothing, OneSpelling, OctetsAreLowest, OctetsInOrder, IntegersAreSpelled, OneInteger, OneNumber, IntegersAreShort, SerialsInOrder, OneSerial, OneMoment, NumbersAreRead, SerialsAreRead, WrittenNumbersAreRead, WrittenSerialsAreRead}
use Rattle.reg_core.proofs.Integers as integers
use Rattle.reg_core.proofs.Moments as moments
use Rattle.reg_core.proofs.Numbers as decimals
use Rattle.reg_core.proofs.Serials as spelled
use Rattle.reg_core.proofs.TextLaws as texts

pub octets_are_places : OctetsAreDigits
octets_are_places = integers.value-cons

pub octets_are_below : OctetsAreBelow
octets_are_below = integers.value-lt

pub zeros_count_nothing : ZerosCountNothing
zeros_count_nothing = integers.value-without_zeros

pub one_spelling : OneSpelling
one_spelling = integers.same_bytes

pub octets_are_lowest : OctetsAreLowest
octets_are_lowest count number = record {
  counted = integers.length-bytes_high_first count number;
  each_byte = integers.is_bytes-bytes_high_first count number;
  spelled = integers.value-bytes_high_first count number;
}

pub octets_in_order : OctetsInOrder
octets_in_order = integers.bytes_order

pub integer_is : IntegersAreSpelled
integer_is = integers.integer-is

pub one_integer : OneInteger
one_integer = integers.integer_only

pub one_number : OneNumber
one_number = integers.integer_injective

pub integers_are_short : IntegersAreShort
integers_are_short number =
    (integers.length-integer number, λ below. integers.length-below_20 (integer number) number below (integers.integer-is number (omega arith)))

pub serials_in_order : SerialsInOrder
serials_in_order = texts.serials_in_order

pub one_serial : OneSerial
one_serial = texts.one_serial

pub one_moment : OneMoment
one_moment = moments.moment_text_injective

pub numbers_are_read : NumbersAreRead
numbers_are_read = texts.numbers_are_read

pub serials_are_read : SerialsAreRead
serials_are_read = texts.serials_are_read

pub written_numbers_are_read : WrittenNumbersAreRead
written_numbers_are_read = decimals.decimal-is

pub written_serials_are_read : WrittenSerialsAreRead
written_serials_are_read = spelled.serial_text-is
