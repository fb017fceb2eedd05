-- A published CRL compared with a register: what the CRL has and the register lacks.
use Rattle.std.specs.Prelude.{◌≡◌, ◌≤◌, ◌⊎◌, ℕ, Bool, IsTrue, List, [], ◌∷◌, ◌++◌, codes, decimal, cond, nat_lt, Option, Some, None, option_map, Result, Ok, Err}
use Rattle.std.specs.List.{AllByRecursion, flat_map}
use Rattle.std.specs.Io.KnownBytes.{Appends}
use Rattle.reg_core.specs.Crls.{latest, row_of}
use Rattle.reg_core.specs.Records.{Records}
use Rattle.reg_core.specs.Serial.{serial_text}
use Rattle.reg_core.specs.Status.{is_revoked, status}
use Rattle.reg_core.specs.declared.refusal.Fault.TheVariants as fault
use Rattle.reg_core.specs.declared.rows.CrlRow.{CrlRow}
use Rattle.reg_crl.specs.Reading.{AreEntries, IsCrlWith}
use Rattle.reg_desk_cli.specs.declared.failure.Failure.{Failure}
use Rattle.reg_desk_cli.specs.declared.failure.Failure.TheVariants as failure
use Rattle.reg_desk_jobs.specs.Conversations.{IsInput}
use Rattle.reg_io.specs.Put.{AppendsPrefix}

-- the number of the latest CRL; 0 if there is none
abbrev pub latest_number : Option CrlRow → ℕ
latest_number None = 0
latest_number (Some crl) = crl.number

-- the line for a published CRL with a higher number than the latest CRL; nothing for another number
abbrev pub missing_crl : Option CrlRow → ℕ → List ℕ
missing_crl latest number =
    cond (nat_lt (latest_number latest) number) (codes "missing crl " ++ decimal number ++ 10 ∷ []) []

-- the line for a listed serial number that is not revoked; nothing if it is
abbrev pub missing_revocation : Bool → ℕ → List ℕ
missing_revocation is_revoked serial =
    cond is_revoked [] (codes "missing revocation " ++ serial_text serial ++ 10 ∷ [])

-- the same by the records at a moment
abbrev pub missing_at : Records → ℕ → ℕ → List ℕ
missing_at records moment serial = missing_revocation (is_revoked (status records serial moment)) serial

-- a line for each item of a published CRL that the records lack at `records.last`, the moment of the last accepted command
abbrev pub missing_text : Records → ℕ → List ℕ → List ℕ
missing_text records number serials =
    missing_crl (option_map row_of (latest records.crls)) number
    ++ flat_map (missing_at records records.last) serials

-- why a comparison fails: `NotACrl`, and then `NoCrl` is true; or any fault
abbrev pub FindsNothing : Type 0 → Failure → Type 0
FindsNothing NoCrl failure.NotACrl = NoCrl
FindsNothing NoCrl (failure.Fault (fault.Refused refusal)) = Unit {0}
FindsNothing NoCrl (failure.Fault fault.Memory) = Unit {0}
FindsNothing NoCrl (failure.Fault fault.Store) = Unit {0}
FindsNothing NoCrl (failure.Fault fault.Signer) = Unit {0}
FindsNothing NoCrl (failure.Fault fault.Read) = Unit {0}
FindsNothing NoCrl (failure.Fault fault.Write) = Unit {0}
FindsNothing NoCrl other = ⊥

-- the lines for the missing serial numbers of entries were appended; or the comparison failed, for example because the bytes are no entries
abbrev pub AppendsMissing : Records → ℕ → List ℕ → List ℕ → List ℕ → Result (Unit {0}) Failure → Type 0
AppendsMissing records moment entries old new (Ok done) =
    (serials : List ℕ) × AreEntries entries serials []
    × (new ≡ old ++ flat_map (missing_at records moment) serials)
AppendsMissing records moment entries old new (Err why) =
    FindsNothing ((serials : List ℕ) → ¬ AreEntries entries serials []) why

-- the lines for the items of the CRL in these bytes that the records lack; or the comparison failed, for example because the bytes are no CRL
abbrev pub FindsMissing : Records → List ℕ → Result (List ℕ) Failure → Type 0
FindsMissing records bytes (Ok lines) =
    (number : ℕ) × (serials : List ℕ) × IsCrlWith bytes number serials
    × (lines ≡ missing_text records number serials)
FindsMissing records bytes (Err why) =
    FindsNothing ((number : ℕ) → (serials : List ℕ) → ¬ IsCrlWith bytes number serials) why

-- the same for the bytes of an input
abbrev pub FindsIn : Records → Option (List ℕ) → Result (List ℕ) Failure → Type 0
FindsIn records input found = (bytes : List ℕ) × IsInput input bytes × FindsMissing records bytes found

-- the records have all of the CRL in an input: its number is not above that of the latest CRL; each serial number in it is revoked at `records.last`
abbrev pub HasAll : Records → Option (List ℕ) → Type 0
HasAll records input =
    (bytes : List ℕ) × (number : ℕ) × (serials : List ℕ) × IsInput input bytes
    × IsCrlWith bytes number serials
    × (number ≤ latest_number (option_map row_of (latest records.crls)))
    × AllByRecursion (λ serial. IsTrue (is_revoked (status records serial records.last))) serials

-- no line was found, and nothing is written; or the lines are written, and the job fails with `LacksPublished`; or a prefix of them, and it fails
-- with `Write`; or nothing could be compared, nothing is written, and the job fails for that reason
abbrev pub ReportsMissing
    : Option (List ℕ) → Option (List ℕ) → Result (List ℕ) Failure → Result (Unit {0}) Failure → Type 0
ReportsMissing out out' (Ok []) result = (result ≡ Ok tt) × (out' ≡ out)
ReportsMissing out out' (Ok (first ∷ rest)) result =
    ((result ≡ Err failure.LacksPublished) × Appends out out' (first ∷ rest))
    ⊎ ((result ≡ Err (failure.Fault fault.Write)) × AppendsPrefix out out' (first ∷ rest))
ReportsMissing out out' (Err why) result = (result ≡ Err why) × (out' ≡ out)

-- the CRL in an input is compared with the records, and what they lack of it is reported
abbrev pub Compares
    : Records → Option (List ℕ) → Option (List ℕ) → Option (List ℕ) → Result (Unit {0}) Failure → Type 0
Compares records input out out' result =
    (found : Result (List ℕ) Failure) × FindsIn records input found × ReportsMissing out out' found result
