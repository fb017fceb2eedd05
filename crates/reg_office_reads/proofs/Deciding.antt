-- What each pure decision comes to: the refusal that applies, or what the command is answered and changes. So it is the step of its command.
use Rattle.std.proofs.Common.{◌≡◌, ℕ, ◌+◌, Bool, List, [], length, Option, Some, None, refl, sym, ap, subst, ◌∙◌}
use Rattle.std.specs.Prelude.{Result, Ok, Err, option_and_then, option_map}
use Rattle.reg_core.specs.Changes.{Fits, changed_by}
use Rattle.reg_core.specs.Crls.{CertList, latest, row_of}
use Rattle.reg_core.specs.Decisions.{head_of, DecidesSubscriber, DecidesOrder, DecidesRegister, DecidesRequest, DecidesDecline, DecidesRevoke}
use Rattle.reg_core.specs.Due.{deadline}
use Rattle.reg_core.specs.Grounds.{limit_of}
use Rattle.reg_core.specs.Records.{Records, subscriber_in, subscriber_named, order_in, certificate_in, certificate_of_order, request_in, revocation_in}
use Rattle.reg_core.specs.Sound.{SoundRows}
use Rattle.reg_core.specs.Step.{IsSigned, refusal, certificate_of_request, revocation_of_request}
use Rattle.reg_core.specs.declared.change.Change.{Change}
use Rattle.reg_core.specs.declared.change.Change.TheVariants as change
use Rattle.reg_core.specs.declared.command.Command.{Command}
use Rattle.reg_core.specs.declared.command.Command.TheVariants.{Subscriber, Order, Register, Request, Decline, Revoke}
use Rattle.reg_core.specs.declared.command.Reply.{Reply}
use Rattle.reg_core.specs.declared.command.Reply.TheVariants.{Subscriber as SubscriberEntered, Order as OrderEntered, Request as RequestEntered, Declined, Revoked as RevokedNow}
use Rattle.reg_core.specs.declared.refusal.Refusal.{Refusal}
use Rattle.reg_core.specs.declared.rows.Head.{Head}
use Rattle.reg_core.specs.declared.rows.SubscriberRow.{SubscriberRow}
use Rattle.reg_core.specs.declared.rows.OrderRow.{OrderRow}
use Rattle.reg_core.specs.declared.rows.CertRow.{CertRow}
use Rattle.reg_core.specs.declared.rows.RequestRow.{RequestRow}
use Rattle.reg_core.specs.declared.rows.RevocationRow.{RevocationRow}
use Rattle.reg_core.specs.declared.rows.CrlRow.{CrlRow}
use Rattle.reg_core_laws.proofs.PublicLaws.{Accepts, subscriber_decided, order_decided, register_decided, request_decided, DeclineSays, decline_decided, RevokeSays, revoke_decided, CrlSays, crl_decided, step_accepted, step_refused}
use Rattle.reg_office_reads.specs.Decisions.{IsStepOf, IsIssue, registration_reply, registration_change, SubscribersAreSteps, OrdersAreSteps, RegistrationsAreSteps, RequestsAreSteps, DeclinesAreSteps, RevocationsAreSteps, CrlsAreSteps}
use Rattle.reg_office_reads.specs.Looking.{IsAcceptance}
use Rattle.reg_office_reads.proofs.Facts.{registrable, revocable}

-- the refusal that applies, or what the command is answered and changes
abbrev pub IsToDo : {Answer : Type 0} → Records → ℕ → Command → (Answer → Reply × Change) → Result Answer Refusal → Type 0
IsToDo records now command what (Err refused) = refusal records now command ≡ Some refused
IsToDo records now command what (Ok answer) = IsAcceptance now command records (what answer)

-- the same of a revocation, by the certificate that it ends
abbrev pub IsRevocationToDo : Records → ℕ → ℕ → Option CertRow → Result (RevocationRow × Bool) Refusal → Type 0
IsRevocationToDo records now id certificate (Err refused) = refusal records now (Revoke id) ≡ Some refused
IsRevocationToDo records now id certificate (Ok decided) =
    (row : CertRow) → certificate ≡ Some row → IsAcceptance now (Revoke id) records (RevokedNow decided.1, change.Revocation decided.0 row.not_after)

-- no bytes are signed here
abbrev pub unsigned : CertList → List ℕ → Type 0
unsigned list bytes = ⊥

module _ (records : Records) (now : ℕ) where
  to_do : {command : Command} {answer : Reply} (change : Change) → Accepts unsigned records now command answer (changed_by records now change) → Fits records now change
      → IsAcceptance now command records (answer, change)
  to_do change accepts fits = record { accepted = accepts.accepted; replies = accepts.replies; changes = accepts.changes; fits = fits }

  pub subscriber_to_do : (head : Head) (name : List ℕ) (by_name : Option SubscriberRow) (result : Result SubscriberRow Refusal)
      → head ≡ head_of records now (length records.subscribers) → by_name ≡ subscriber_named records.subscribers name
      → DecidesSubscriber head name by_name result
      → IsToDo records now (Subscriber name) (λ row. (SubscriberEntered row.id, change.Subscriber row)) result
  subscriber_to_do head name by_name (Err why) head_is by_name_is decides =
      (subscriber_decided unsigned records now head name by_name (Err why) head_is by_name_is decides).refused_by
  subscriber_to_do head name by_name (Ok row) head_is by_name_is decides =
      let says = subscriber_decided unsigned records now head name by_name (Ok row) head_is by_name_is decides in
      to_do (change.Subscriber row) says.accepts (ap (λ (r : SubscriberRow). r.id) says.row_is)

  pub order_to_do : (head : Head) (subscriber days : ℕ) (known : Option SubscriberRow) (result : Result OrderRow Refusal)
      → head ≡ head_of records now (length records.orders) → known ≡ subscriber_in records.subscribers subscriber
      → DecidesOrder head known days result
      → IsToDo records now (Order subscriber days) (λ row. (OrderEntered row.id, change.Order row)) result
  order_to_do head subscriber days known (Err why) head_is known_is decides =
      (order_decided unsigned records now head subscriber days known (Err why) head_is known_is decides).refused_by
  order_to_do head subscriber days known (Ok row) head_is known_is decides =
      let says = order_decided unsigned records now head subscriber days known (Ok row) head_is known_is decides in
      to_do (change.Order row) says.accepts (ap (λ (r : OrderRow). r.id) says.row_is)

  pub register_to_do : (head : Head) (wanted : CertRow) (order : Option OrderRow) (by_order by_serial : Option CertRow) (result : Result (Option CertRow) Refusal)
      → SoundRows records → head ≡ head_of records now (length records.certificates) → order ≡ order_in records.orders wanted.order
      → by_order ≡ certificate_of_order records.certificates wanted.order → by_serial ≡ certificate_in records.certificates wanted.serial
      → DecidesRegister head wanted order by_order by_serial result
      → IsToDo records now (Register wanted.order wanted.serial wanted.not_before wanted.not_after) (λ found. (registration_reply found, registration_change found)) result
  register_to_do head wanted order by_order by_serial (Err why) sound head_is order_is by_order_is by_serial_is decides =
      (register_decided unsigned records now head wanted order by_order by_serial (Err why) sound head_is order_is by_order_is by_serial_is decides).refused_by
  register_to_do head wanted order by_order by_serial (Ok None) sound head_is order_is by_order_is by_serial_is decides =
      to_do change.Touch (register_decided unsigned records now head wanted order by_order by_serial (Ok None) sound head_is order_is by_order_is by_serial_is decides).accepts tt
  register_to_do head wanted order by_order by_serial (Ok (Some row)) sound head_is order_is by_order_is by_serial_is decides =
      let says = register_decided unsigned records now head wanted order by_order by_serial (Ok (Some row)) sound head_is order_is by_order_is by_serial_is decides in
      to_do (change.Certificate row) says.accepts (registrable unsigned records now wanted row says)

  pub request_to_do : (head : Head) (serial : ℕ) (word : List ℕ) (certificate : Option CertRow) (revocation : Option RevocationRow) (result : Result RequestRow Refusal)
      → head ≡ head_of records now (length records.requests) → certificate ≡ certificate_in records.certificates serial
      → revocation ≡ revocation_in records.revocations serial → DecidesRequest head certificate word revocation result
      → IsToDo records now (Request serial word) (λ row. (RequestEntered row.id (deadline row), change.Request row)) result
  request_to_do head serial word certificate revocation (Err why) head_is certificate_is revocation_is decides =
      (request_decided unsigned records now head serial word certificate revocation (Err why) head_is certificate_is revocation_is decides).refused_by
  request_to_do head serial word certificate revocation (Ok row) head_is certificate_is revocation_is decides =
      let says = request_decided unsigned records now head serial word certificate revocation (Ok row) head_is certificate_is revocation_is decides in
      to_do (change.Request row) says.accepts (ap (λ (r : RequestRow). r.id) says.row_is)

  -- it is to be decided so long from now on
  pub request_due : (head : Head) (serial : ℕ) (word : List ℕ) (certificate : Option CertRow) (revocation : Option RevocationRow) (row : RequestRow)
      → head ≡ head_of records now (length records.requests) → certificate ≡ certificate_in records.certificates serial
      → revocation ≡ revocation_in records.revocations serial → DecidesRequest head certificate word revocation (Ok row)
      → IsAcceptance now (Request serial word) records (RequestEntered row.id (now + limit_of row.ground), change.Request row)
  request_due head serial word certificate revocation row head_is certificate_is revocation_is decides =
      let says = request_decided unsigned records now head serial word certificate revocation (Ok row) head_is certificate_is revocation_is decides in
      subst
      (λ (n : ℕ). IsAcceptance now (Request serial word) records (RequestEntered row.id (n + limit_of row.ground), change.Request row))
      (ap (λ (r : RequestRow). r.received) says.row_is)
      (request_to_do head serial word certificate revocation (Ok row) head_is certificate_is revocation_is decides)

  -- a decision by which no table with a cap grows goes by the moments of its head
  decline_at : (head : Head) (held : ℕ) (request : Option RequestRow) (certificate : Option CertRow) (revocation : Option RevocationRow) (result : Result RequestRow Refusal)
      → head.now ≡ now → head.last ≡ records.last → DecidesDecline head request certificate revocation result
      → DecidesDecline (head_of records now held) request certificate revocation result
  decline_at head held request certificate revocation result now_is last_is decides = rw (now_is, last_is) at decides

  revoke_at : (head : Head) (held : ℕ) (request : Option RequestRow) (certificate : Option CertRow) (revocation : Option RevocationRow) (newest : Option CrlRow)
      (result : Result (RevocationRow × Bool) Refusal)
      → head.now ≡ now → head.last ≡ records.last → DecidesRevoke head request certificate revocation newest result
      → DecidesRevoke (head_of records now held) request certificate revocation newest result
  revoke_at head held request certificate revocation newest result now_is last_is decides = rw (now_is, last_is) at decides

  pub decline_to_do : (head : Head) (id : ℕ) (request : Option RequestRow) (certificate : Option CertRow) (revocation : Option RevocationRow) (result : Result RequestRow Refusal)
      → head.now ≡ now → head.last ≡ records.last → request ≡ request_in records.requests id
      → certificate ≡ option_and_then (λ row. certificate_in records.certificates row.serial) request
      → revocation ≡ option_and_then (λ row. revocation_in records.revocations row.serial) request
      → DecidesDecline head request certificate revocation result
      → IsToDo records now (Decline id) (λ row. (Declined, change.Decline row.id)) result
  decline_to_do head id request certificate revocation result now_is last_is request_is certificate_is revocation_is decides =
      go result
      (decline_decided unsigned records now (head_of records now 0) 0 id request certificate revocation result refl request_is certificate_is revocation_is
      (decline_at head 0 request certificate revocation result now_is last_is decides))
    where
      go : (answer : Result RequestRow Refusal) → DeclineSays unsigned records now id answer → IsToDo records now (Decline id) (λ row. (Declined, change.Decline row.id)) answer
      go (Err why) said = said.refused_by
      go (Ok row) says =
          subst (λ (n : ℕ). IsAcceptance now (Decline id) records (Declined, change.Decline n)) (sym says.id_is) (to_do (change.Decline id) says.accepts tt)

  -- with the notAfter of the request's certificate
  pub revoke_to_do : (head : Head) (id : ℕ) (request : Option RequestRow) (certificate : Option CertRow) (revocation : Option RevocationRow) (newest : Option CrlRow)
      (result : Result (RevocationRow × Bool) Refusal)
      → SoundRows records → head.now ≡ now → head.last ≡ records.last → request ≡ request_in records.requests id
      → certificate ≡ option_and_then (λ row. certificate_in records.certificates row.serial) request
      → revocation ≡ option_and_then (λ row. revocation_in records.revocations row.serial) request
      → newest ≡ option_map row_of (latest records.crls) → DecidesRevoke head request certificate revocation newest result
      → IsRevocationToDo records now id certificate result
  revoke_to_do head id request certificate revocation newest result sound now_is last_is request_is certificate_is revocation_is newest_is decides =
      go result
      (revoke_decided unsigned records now (head_of records now 0) 0 id request certificate revocation newest result refl request_is certificate_is revocation_is newest_is
      (revoke_at head 0 request certificate revocation newest result now_is last_is decides))
    where
      registered : certificate_of_request records id ≡ certificate
      registered = rw (sym request_is) (sym certificate_is)

      go : (answer : Result (RevocationRow × Bool) Refusal) → RevokeSays unsigned records now id answer → IsRevocationToDo records now id certificate answer
      go (Err why) said = said.refused_by
      go (Ok decided) says = λ row row_is.
          to_do (change.Revocation decided.0 row.not_after) says.accepts (revocable unsigned records now id decided row sound (registered ∙ row_is) says)

  -- that is the step of a command which issues no CRL
  step_of : {Answer : Type 0} (signed : CertList → List ℕ → Type 0) (command : Command) (what : Answer → Reply × Change) (result : Result Answer Refusal)
      → IsSigned signed records now command [] → IsToDo records now command what result
      → IsStepOf signed records now command (λ answer. (what answer).0) (λ answer. (what answer).1) result
  step_of signed command what (Err refused) none is = (step_refused signed records now command refused is).step records refl
  step_of signed command what (Ok answer) none is =
      let after = changed_by records now (what answer).1 in
      step_accepted signed records now command (what answer).0 [] after is.accepted none is.replies is.changes after refl

module _ (signed : CertList → List ℕ → Type 0) where
  pub subscribers : SubscribersAreSteps signed
  subscribers records now name result decides =
      step_of records now signed (Subscriber name) _ result refl
      (subscriber_to_do records now _ name _ result refl refl decides)

  pub orders : OrdersAreSteps signed
  orders records now subscriber days result decides =
      step_of records now signed (Order subscriber days) _ result refl
      (order_to_do records now _ subscriber days _ result refl refl decides)

  pub registrations : RegistrationsAreSteps signed
  registrations records now wanted result sound decides =
      step_of records now signed (Register wanted.order wanted.serial wanted.not_before wanted.not_after) _ result refl
      (register_to_do records now _ wanted _ _ _ result sound refl refl refl refl decides)

  pub requests : RequestsAreSteps signed
  requests records now serial word result decides =
      step_of records now signed (Request serial word) _ result refl
      (request_to_do records now _ serial word _ _ result refl refl refl decides)

  pub declines : DeclinesAreSteps signed
  declines records now held id result decides =
      step_of records now signed (Decline id) _ result refl
      (decline_to_do records now (head_of records now held) id _ _ _ result refl refl refl refl refl decides)

  pub revocations : RevocationsAreSteps signed
  revocations records now held id not_after result decides =
      go
      result
      (revoke_decided signed records now (head_of records now held) held id (request_in records.requests id) (certificate_of_request records id)
      (revocation_of_request records id) (option_map row_of (latest records.crls)) result refl refl refl refl refl decides)
    where
      go :
          (answer : Result (RevocationRow × Bool) Refusal)
          → RevokeSays signed records now id answer
          → IsStepOf signed records now (Revoke id) (λ decided. RevokedNow decided.1) (λ decided. change.Revocation decided.0 not_after) answer
      go (Err refused) said = said.step records refl
      go (Ok decided) said = said.accepts.step (changed_by records now (change.Revocation decided.0 not_after)) refl

  pub crls : CrlsAreSteps signed
  crls records now result decides =
      go
      result
      (crl_decided signed records now (head_of records now (length records.crls)) (option_map row_of (latest records.crls)) result refl refl decides)
    where
      go : (answer : Result CrlRow Refusal) → CrlSays signed records now answer → IsIssue signed records now answer
      go (Err refused) said = said.step records refl
      go (Ok row) said = λ bytes signature. said.step _ bytes signature refl
