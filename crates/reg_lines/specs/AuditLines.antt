-- The lines of an audit's report.
use Rattle.std.specs.Prelude.{ℕ, List, ◌++◌, codes}
use Rattle.std.specs.Fmt.{decimal}
use Rattle.reg_core.specs.declared.broken_row.BrokenRow.{BrokenRow}
use Rattle.reg_core.specs.declared.broken_row.RegisterTable.{RegisterTable}
use Rattle.reg_core.specs.declared.broken_row.RegisterTable.TheVariants as table
use Rattle.reg_core.specs.declared.broken_row.Defect.{Defect}
use Rattle.reg_core.specs.declared.broken_row.Defect.TheVariants as why
use Rattle.reg_core.specs.declared.audit_result.Audited.{Audited}

unfoldable pub table_name : RegisterTable → List ℕ
table_name table.Office = codes "office"
table_name table.Subscriber = codes "subscriber"
table_name table.Orders = codes "orders"
table_name table.Cert = codes "cert"
table_name table.Request = codes "request"
table_name table.Revocation = codes "revocation"
table_name table.Crl = codes "crl"
table_name table.Standing = codes "standing"
table_name table.Kept = codes "kept"
table_name table.Listed = codes "listed"

-- the text that says what is wrong with a row
unfoldable pub why_text : Defect → List ℕ
why_text why.PastClockEnd = codes "a moment at or after 9999-12-22T00:00:00Z"
why_text why.NeverAccepted = codes "a last accepted moment that no command set"
why_text why.AboveCap = codes "more rows than the policy's cap"
why_text why.OutOfOrder = codes "its number is not one more than that of the row before it, or not 1 in the first row"
why_text why.BadName = codes "a name that no command takes"
why_text why.SameName = codes "an earlier row has the same name"
why_text why.BadDays = codes "days that no schedule allows"
why_text why.SameSerial = codes "an earlier row has the same serial number"
why_text why.SameOrder = codes "an earlier row fills the same order"
why_text why.SameRequest = codes "an earlier row has the same request"
why_text why.NoSubscriber = codes "no such subscriber"
why_text why.NoOrder = codes "no such order"
why_text why.ReversedValidity = codes "its notBefore is after its notAfter"
why_text why.TooLong = codes "a longer validity than its order allows"
why_text why.NoCertificate = codes "no such certificate"
why_text why.NoRequest = codes "no such request for this serial number"
why_text why.ByDeclined = codes "its request was declined"
why_text why.OtherReason = codes "another reason than that of its request's ground"
why_text why.AfterLast = codes "its moment is after the last accepted one"
why_text why.AfterEnd = codes "its moment is after the end of the certificate"
why_text why.AfterRevocation = codes "its moment is after the revocation of its serial number"
why_text why.Earlier = codes "its moment is before that of the row before it"
why_text why.NoFirst = codes "its first CRL is neither an issued one nor the next one"
why_text why.WrongFirst = codes "its first CRL is not the first one after its moment"
why_text why.EarlierFirst = codes "its first CRL is before that of the row before it"
why_text why.ThisUpdateDecreases = codes "its thisUpdate is before that of the CRL before it"
why_text why.DerivedMismatch = codes "differs from the records, or a row with a lower serial number is missing"
why_text why.OtherBytes = codes "its bytes do not encode the CRL that the records give"
why_text why.WrongCounts = codes "its counts are not those of the records"
why_text why.NoValue = codes "a value that no register writes, or not exactly one row in the table"

-- the line if all rows are sound: how many certificates, revocations and CRLs there are
abbrev pub sound_text : Audited → List ℕ
sound_text found =
    codes "sound, " ++ decimal found.certificates ++ codes " certificates, " ++ decimal found.revoked
    ++ codes " revoked, " ++ decimal found.crls ++ codes " CRLs\n"

-- the line for a row that breaks a rule: its table, its number there, and why
abbrev pub broken_text : BrokenRow → List ℕ
broken_text broken =
    codes "broken: " ++ table_name broken.table ++ codes " " ++ decimal broken.row ++ codes ": "
    ++ why_text broken.why ++ codes "\n"
