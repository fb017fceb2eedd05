-- Each pure decision is the step of its command, if it is given the rows that the records have for the command. A refusal is the
-- command's reply, and the records don't change. Otherwise the decision gives the reply, and the one change of the records.
use Rattle.std.specs.Prelude.{ℕ, Bool, List, length, Option, Some, None, Result, Ok, Err, option_map}
use Rattle.reg_core.specs.Changes.{changed_by, with_crl}
use Rattle.reg_core.specs.Crls.{CertList, cert_list, listed_revocations, latest, row_of}
use Rattle.reg_core.specs.Decisions.{head_of, DecidesSubscriber, DecidesOrder, DecidesRegister, DecidesRequest, DecidesDecline, DecidesRevoke, DecidesCrl}
use Rattle.reg_core.specs.Due.{deadline}
use Rattle.reg_core.specs.Records.{Records, subscriber_in, subscriber_named, order_in, certificate_in, certificate_of_order, request_in, revocation_in}
use Rattle.reg_core.specs.Sound.{SoundRows}
use Rattle.reg_core.specs.Step.{Step, certificate_of_request, revocation_of_request}
use Rattle.reg_core.specs.declared.change.Change.{Change}
use Rattle.reg_core.specs.declared.change.Change.TheVariants as change
use Rattle.reg_core.specs.declared.command.Command.{Command}
use Rattle.reg_core.specs.declared.command.Command.TheVariants.{Subscriber, Order, Register, Request, Decline, Revoke, Crl as IssueCrl}
use Rattle.reg_core.specs.declared.command.Reply.{Reply}
use Rattle.reg_core.specs.declared.command.Reply.TheVariants.{Subscriber as SubscriberEntered, Order as OrderEntered, Registered, Same, Request as RequestEntered, Declined, Revoked as RevokedNow, Crl as CrlIssued}
use Rattle.reg_core.specs.declared.refusal.Fault.TheVariants.{Refused}
use Rattle.reg_core.specs.declared.refusal.Refusal.{Refusal}
use Rattle.reg_core.specs.declared.rows.SubscriberRow.{SubscriberRow}
use Rattle.reg_core.specs.declared.rows.OrderRow.{OrderRow}
use Rattle.reg_core.specs.declared.rows.CertRow.{CertRow}
use Rattle.reg_core.specs.declared.rows.RequestRow.{RequestRow}
use Rattle.reg_core.specs.declared.rows.RevocationRow.{RevocationRow}
use Rattle.reg_core.specs.declared.rows.CrlRow.{CrlRow}

-- a refusal is replied, and the records don't change; an answer gives the reply and the change of the records
abbrev pub IsStepOf : {Answer : Type 0} → (CertList → List ℕ → Type 0) → Records → ℕ → Command
    → (Answer → Reply) → (Answer → Change) → Result Answer Refusal → Type 0
IsStepOf signed records now command replied changes (Err refused) =
    Step signed records now command (Err (Refused refused)) records
IsStepOf signed records now command replied changes (Ok answer) =
    Step signed records now command (Ok (replied answer)) (changed_by records now (changes answer))

-- the decision on `subscriber` is the step of that command
abbrev pub SubscribersAreSteps : (CertList → List ℕ → Type 0) → Type 0
SubscribersAreSteps signed =
    (records : Records) (now : ℕ) (name : List ℕ) (result : Result SubscriberRow Refusal)
    → DecidesSubscriber (head_of records now (length records.subscribers)) name
    (subscriber_named records.subscribers name) result
    → IsStepOf signed records now (Subscriber name) (λ row. SubscriberEntered row.id)
    (λ row. change.Subscriber row) result

-- the decision on `order` is the step of that command
abbrev pub OrdersAreSteps : (CertList → List ℕ → Type 0) → Type 0
OrdersAreSteps signed =
    (records : Records) (now subscriber days : ℕ) (result : Result OrderRow Refusal)
    → DecidesOrder (head_of records now (length records.orders))
    (subscriber_in records.subscribers subscriber) days result
    → IsStepOf signed records now (Order subscriber days) (λ row. OrderEntered row.id)
    (λ row. change.Order row) result

-- the reply for a certificate to register; none if it is registered already, with the same fields
abbrev pub registration_reply : Option CertRow → Reply
registration_reply None = Same
registration_reply (Some row) = Registered

-- the change for it; none only sets the last accepted moment
abbrev pub registration_change : Option CertRow → Change
registration_change None = change.Touch
registration_change (Some row) = change.Certificate row

-- the decision on `register` is the step of that command, over sound records
abbrev pub RegistrationsAreSteps : (CertList → List ℕ → Type 0) → Type 0
RegistrationsAreSteps signed =
    (records : Records) (now : ℕ) (wanted : CertRow) (result : Result (Option CertRow) Refusal)
    → SoundRows records
    → DecidesRegister
    (head_of records now (length records.certificates))
    wanted
    (order_in records.orders wanted.order)
    (certificate_of_order records.certificates wanted.order)
    (certificate_in records.certificates wanted.serial)
    result
    → IsStepOf signed records now (Register wanted.order wanted.serial wanted.not_before wanted.not_after)
    registration_reply registration_change result

-- the decision on `request` is the step of that command
abbrev pub RequestsAreSteps : (CertList → List ℕ → Type 0) → Type 0
RequestsAreSteps signed =
    (records : Records) (now serial : ℕ) (word : List ℕ) (result : Result RequestRow Refusal)
    → DecidesRequest (head_of records now (length records.requests))
    (certificate_in records.certificates serial) word (revocation_in records.revocations serial) result
    → IsStepOf signed records now (Request serial word) (λ row. RequestEntered row.id (deadline row))
    (λ row. change.Request row) result

-- the decision on `decline` is the step of that command; no table grows, so any row count `held` will do
abbrev pub DeclinesAreSteps : (CertList → List ℕ → Type 0) → Type 0
DeclinesAreSteps signed =
    (records : Records) (now held id : ℕ) (result : Result RequestRow Refusal)
    → DecidesDecline (head_of records now held) (request_in records.requests id)
    (certificate_of_request records id) (revocation_of_request records id) result
    → IsStepOf signed records now (Decline id) (λ row. Declined) (λ row. change.Decline row.id) result

-- The decision on `revoke` is the step of that command: it gives the revocation, and whether that is late. Any row count `held` will do, since the
-- table of revocations has no cap, and any `not_after`, which goes only into a derived table.
abbrev pub RevocationsAreSteps : (CertList → List ℕ → Type 0) → Type 0
RevocationsAreSteps signed =
    (records : Records) (now held id not_after : ℕ) (result : Result (RevocationRow × Bool) Refusal)
    → DecidesRevoke
    (head_of records now held)
    (request_in records.requests id)
    (certificate_of_request records id)
    (revocation_of_request records id)
    (option_map row_of (latest records.crls))
    result
    → IsStepOf signed records now (Revoke id) (λ decided. RevokedNow decided.1)
    (λ decided. change.Revocation decided.0 not_after) result

-- a refusal is replied, and the records don't change; otherwise a CRL is issued, with any bytes that are signed over its entries
abbrev pub IsIssue : (CertList → List ℕ → Type 0) → Records → ℕ → Result CrlRow Refusal → Type 0
IsIssue signed records now (Err refused) = Step signed records now IssueCrl (Err (Refused refused)) records
IsIssue signed records now (Ok row) =
    (bytes : List ℕ)
    → signed (cert_list records row.number row.this_update) bytes
    → Step signed records now IssueCrl (Ok (CrlIssued row.number (length (listed_revocations records row.number))))
    (with_crl records now (record { number = row.number; this_update = row.this_update; bytes = bytes }))

-- the decision on `crl` is the step of that command
abbrev pub CrlsAreSteps : (CertList → List ℕ → Type 0) → Type 0
CrlsAreSteps signed =
    (records : Records) (now : ℕ) (result : Result CrlRow Refusal)
    → DecidesCrl (head_of records now (length records.crls)) (option_map row_of (latest records.crls)) result
    → IsIssue signed records now result
