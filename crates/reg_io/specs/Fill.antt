-- Reads into a buffer: what they do to the bytes that the reader has left (input, then left), and to the buffer (before, then after).
use Rattle.std.specs.Prelude.{◌≡◌, ℕ, ◌+◌, ◌<◌, ◌≤◌, ◌++◌, List, length, take, drop}
use Rattle.std.specs.declared.option.Option.{Option}
use Rattle.std.specs.Io.KnownBytes.{Consumes, IsAtEnd}
use Rattle.reg_io.specs.declared.fill.FillEnd.{FillEnd}
use Rattle.reg_io.specs.declared.fill.FillEnd.TheVariants.{Delimiter, Full, End}
use Rattle.reg_io.specs.Delimiter.{FirstDelimiter, HasNoDelimiter}

-- these bytes were taken from the reader, and the buffer has them after its first `buffered` bytes, which stayed the same
pub record Fills (input left : Option (List ℕ)) (before after : List ℕ) (buffered : ℕ)
    (took : List ℕ) : Type 0 where
  pub consumed : Consumes input left took
  pub within : buffered + length took ≤ length after
  pub stands : take (buffered + length took) after ≡ take buffered before ++ took

-- how many bytes a buffer of this size has after a read up to a delimiter
abbrev pub buffered_after : ℕ → FillEnd → ℕ
buffered_after size (Delimiter end buffered) = buffered
buffered_after size Full = size
buffered_after size (End buffered) = buffered

-- a read stopped: the buffer has a delimiter, the first of which ends at `end`; or is full without a delimiter; or the reader is at its end,
-- and the buffer is neither full nor has a delimiter
abbrev pub ReadStopsAt : List ℕ → List ℕ → Option (List ℕ) → FillEnd → Type 0
ReadStopsAt delimiter buffer left (Delimiter end buffered) =
    (end ≤ buffered) × FirstDelimiter delimiter buffer end
ReadStopsAt delimiter buffer left Full = HasNoDelimiter delimiter buffer
ReadStopsAt delimiter buffer left (End buffered) =
    (buffered < length buffer) × HasNoDelimiter delimiter (take buffered buffer) × IsAtEnd left

-- a read up to a delimiter: the bytes `took` were taken from the reader, and the buffer has its first `buffered` bytes, then these, and no others
pub record FillsTo (delimiter : List ℕ) (input left : Option (List ℕ)) (before after : List ℕ) (buffered : ℕ)
    (reached : FillEnd) : Type 0 where
  pub took : List ℕ
  pub fills : Fills input left before after buffered took
  pub count : buffered_after (length after) reached ≡ buffered + length took
  pub rests : ReadStopsAt delimiter after left reached

-- a read up to a delimiter that failed: the bytes `took` were taken before that, and the buffer is not full and has no delimiter
pub record FillsShort (delimiter : List ℕ) (input left : Option (List ℕ)) (before after : List ℕ)
    (buffered : ℕ) : Type 0 where
  pub took : List ℕ
  pub fills : Fills input left before after buffered took
  pub room : buffered + length took < length after
  pub no_delimiter : HasNoDelimiter delimiter (take (buffered + length took) after)

-- ---- laws

-- after a read, the buffer has the bytes that it had before, and then those that were taken
abbrev pub KeepsWhatWasTaken : Type 0
KeepsWhatWasTaken =
    (delimiter : List ℕ) (input left : Option (List ℕ)) (before after : List ℕ) (buffered : ℕ)
    (reached : FillEnd)
    → (to : FillsTo delimiter input left before after buffered reached)
    → take (buffered_after (length after) reached) after ≡ take buffered before ++ to.took

-- if the read stopped at a delimiter, the former bytes and those taken are the bytes up to its end, and then the rest of the buffer's `now` bytes
abbrev pub SplitsAtDelimiter : Type 0
SplitsAtDelimiter =
    (delimiter : List ℕ) (input left : Option (List ℕ)) (before after : List ℕ) (buffered end now : ℕ)
    → (to : FillsTo delimiter input left before after buffered (Delimiter end now))
    → take buffered before ++ to.took ≡ take end after ++ drop end (take now after)
