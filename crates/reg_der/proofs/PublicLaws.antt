-- The laws that proofs of other crates cite. Each is stated in specs/, and a function of `laws` ensures it.
pub use Rattle.reg_der.proofs.KeyIdentifiers.{bind_same}
pub use Rattle.reg_der.proofs.ValueLemmas.{bind_then, kept, or_false, some_is}
use Rattle.reg_der.specs.Der.{NoTwoPrefixes, LengthIsFewest, ValuesHaveSizes}
use Rattle.reg_der.specs.ValueReading.{ReadsValues, EachValueIsRead}
use Rattle.reg_der.specs.Authority.{IdentifiersFollow, NamesArePlain}
use Rattle.reg_der.proofs.ValueLemmas as values
use Rattle.reg_der.proofs.KeyIdentifiers as identifiers
use Rattle.reg_core.specs.Laws.{OneNumber}
use Rattle.reg_core.proofs.PublicLaws as octets

pub no_two_prefixes : NoTwoPrefixes
no_two_prefixes = values.no_two_prefixes

pub length_is_fewest : LengthIsFewest
length_is_fewest = values.length_is_fewest

pub value_size : ValuesHaveSizes
value_size = values.value_size

pub value_takes : ReadsValues
value_takes = values.value_takes

pub value_again : EachValueIsRead
value_again = values.value_again

pub identifiers_follow : IdentifiersFollow
identifiers_follow = identifiers.identifiers_follow

pub names_are_plain : NamesArePlain
names_are_plain = identifiers.names_are_plain

-- a law of reg_core
pub one_number : OneNumber
one_number = octets.one_number
