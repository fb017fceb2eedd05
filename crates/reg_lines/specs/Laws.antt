-- Laws of the definitions: what is read from a row is what it means; and a text that is imported twice.
use Rattle.std.specs.Prelude.{◌≡◌, ◌⊎◌, ℕ, List, Option, Result, Some, codes}
use Rattle.std.specs.List.{AllByRecursion, AllZip}
use Rattle.reg_core.specs.Records.{Records}
use Rattle.reg_core.specs.Sound.{SoundRows}
use Rattle.reg_core.specs.declared.command.Command.{Command}
use Rattle.reg_core.specs.declared.command.Command.TheVariants.{Register}
use Rattle.reg_core.specs.declared.command.Reply.{Reply}
use Rattle.reg_core.specs.declared.refusal.Fault.{Fault}
use Rattle.reg_core_laws.specs.Import.{IsFault}
use Rattle.reg_lines.specs.ByCalls.{Lines}
use Rattle.reg_lines.specs.Import.{AllRan, Row, RowMeans}
use Rattle.reg_lines.specs.LineReading.{register_of}
use Rattle.reg_lines.specs.Meaning.{SpellsRegister}
use Rattle.reg_lines.specs.Replies.{outcome_line, with_lf}
use Rattle.reg_office_api.specs.CallSteps.{Signs}
use Rattle.reg_office_api.specs.Signers.{OfficeSigners}

-- fields that spell a registration are read as that registration
abbrev pub RegistrationsAreRead : Type 0
RegistrationsAreRead =
    (order serial not_before not_after : ℕ) (fields : List (List ℕ))
    → SpellsRegister order serial not_before not_after fields
    → register_of fields ≡ Some (Register order serial not_before not_after)

-- a row means the command that is read from it
abbrev pub RowsMeanWhatIsRead : Type 0
RowsMeanWhatIsRead = (row : Row) (command : Command) → register_of row ≡ Some command → RowMeans row command

-- ---- a text that is imported twice, by the replies

-- the reply is a fault of memory, store, signer, input or output
abbrev pub IsFaultLine : List ℕ → Type 0
IsFaultLine reply =
    (outcome : Result Reply Fault) × (reply ≡ with_lf (outcome_line outcome)) × IsFault outcome

-- a row with the reply `registered` or `same` gets the reply `same` the second time, or a fault
abbrev pub RepliedAgain : List ℕ → List ℕ → Type 0
RepliedAgain first second =
    (first ≡ with_lf (codes "registered")) ⊎ (first ≡ with_lf (codes "same"))
    → (second ≡ with_lf (codes "same")) ⊎ IsFaultLine second

-- A text is imported twice at one moment, with nothing between, over sound records and with any signers. If each row ran both
-- times, and no reply was a fault the first time, the second import adds no certificate, and `RepliedAgain` holds of the two
-- replies to each row.
abbrev pub ImportsTextTwice : Signs → Type 0
ImportsTextTwice signs =
    (identity : OfficeSigners)
    (records between after : Records)
    (now : ℕ)
    (text : List ℕ)
    (out out' again again' : Option (List ℕ))
    → SoundRows records
    → (first : AllRan (Lines signs identity) now records between out out' text)
    → AllByRecursion (λ reply. ¬ IsFaultLine reply) first.0.replies
    → (second : AllRan (Lines signs identity) now between after again again' text)
    → (after.certificates ≡ between.certificates) × AllZip RepliedAgain first.0.replies second.0.replies
