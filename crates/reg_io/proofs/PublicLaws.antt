-- The laws that proofs of other crates cite. Each is stated in specs/, and a function of `laws` ensures it.
use Rattle.reg_io.specs.Fill.{KeepsWhatWasTaken, SplitsAtDelimiter}
use Rattle.reg_io.specs.Delimiter.{OneFirstDelimiter, FirstDelimiterOfAppend, FirstDelimiterInPrefix, NoDelimiterInPrefix, FirstDelimiterOfByte, NoDelimiterOfByte}
use Rattle.reg_io.specs.Put.{PrefixOfFirst, PrefixOfSecond}
use Rattle.reg_io.specs.RunsOfAnswers.{RunsGoOn, RunsStepOn}
use Rattle.reg_io.proofs.Marks as marks
use Rattle.reg_io.proofs.Parts as parts
use Rattle.reg_io.proofs.Runs as runs
use Rattle.reg_io.proofs.Searches as searches

pub one_first_delimiter : OneFirstDelimiter
one_first_delimiter = marks.FirstDelimiter-unique

pub first_delimiter_of_append : FirstDelimiterOfAppend
first_delimiter_of_append = marks.FirstDelimiter-append

pub first_delimiter_in_prefix : FirstDelimiterInPrefix
first_delimiter_in_prefix = marks.FirstDelimiter-take

pub no_delimiter_in_prefix : NoDelimiterInPrefix
no_delimiter_in_prefix = marks.no_mark_of_fronts

pub first_delimiter_of_byte : FirstDelimiterOfByte
first_delimiter_of_byte = marks.first_delimiter_of_byte

pub no_delimiter_of_byte : NoDelimiterOfByte
no_delimiter_of_byte = marks.no_delimiter_of_byte

pub keeps_what_was_taken : KeepsWhatWasTaken
keeps_what_was_taken = searches.keeps_what_was_taken

pub splits_at_delimiter : SplitsAtDelimiter
splits_at_delimiter = searches.splits_at_delimiter

pub front_of_first : PrefixOfFirst
front_of_first = parts.front_of_first

pub front_of_second : PrefixOfSecond
front_of_second = parts.front_of_second

pub answered_append : {S Q A : Type 0} (answers : S → Q → A → S → Type 0) → RunsGoOn answers
answered_append answers = runs.answered_append answers

pub answered_push : {S Q A : Type 0} (answers : S → Q → A → S → Type 0) → RunsStepOn answers
answered_push answers = runs.answered_push answers
