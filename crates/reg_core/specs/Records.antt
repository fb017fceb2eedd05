-- The records of the register: what was entered, each list in the order of entry.
use Rattle.std.specs.Prelude.{ℕ, List, [], Option, find, ◌==◌, bytes_eq}
use Rattle.reg_core.specs.Issuer.{Issuer}
use Rattle.reg_core.specs.Policy.{Terms}
use Rattle.reg_core.specs.declared.rows.SubscriberRow.{SubscriberRow}
use Rattle.reg_core.specs.declared.rows.OrderRow.{OrderRow}
use Rattle.reg_core.specs.declared.rows.CertRow.{CertRow}
use Rattle.reg_core.specs.declared.rows.RequestRow.{RequestRow}
use Rattle.reg_core.specs.declared.rows.RevocationRow.{RevocationRow}

-- an issued CRL: its number (RFC 5280 5.2.3), its thisUpdate (5.1.2.4) and its DER (5.1)
pub record Crl : Type 0 where
  pub number : ℕ
  pub this_update : ℕ
  pub bytes : List ℕ

-- the issuer, the policy, the last accepted moment (`last`), and each table
pub record Records : Type 0 where
  pub issuer : Issuer
  pub policy : Terms
  pub last : ℕ
  pub subscribers : List SubscriberRow
  pub orders : List OrderRow
  pub certificates : List CertRow
  pub requests : List RequestRow
  pub revocations : List RevocationRow
  pub crls : List Crl

-- the records of a new register: no rows, and the last accepted moment is 0
abbrev pub no_records : Issuer → Terms → Records
no_records issuer policy = record {
  issuer = issuer;
  policy = policy;
  last = 0;
  subscribers = [];
  orders = [];
  certificates = [];
  requests = [];
  revocations = [];
  crls = [];
}

-- the subscriber with an id
abbrev pub subscriber_in : List SubscriberRow → ℕ → Option SubscriberRow
subscriber_in rows id = find (λ row. row.id == id) rows

-- the subscriber with a name
abbrev pub subscriber_named : List SubscriberRow → List ℕ → Option SubscriberRow
subscriber_named rows name = find (λ row. bytes_eq row.name name) rows

-- the order with an id
abbrev pub order_in : List OrderRow → ℕ → Option OrderRow
order_in rows id = find (λ row. row.id == id) rows

-- the certificate with a serial number (RFC 5280 4.1.2.2)
abbrev pub certificate_in : List CertRow → ℕ → Option CertRow
certificate_in rows serial = find (λ row. row.serial == serial) rows

-- the certificate that fills an order
abbrev pub certificate_of_order : List CertRow → ℕ → Option CertRow
certificate_of_order rows order = find (λ row. row.order == order) rows

-- the request with an id
abbrev pub request_in : List RequestRow → ℕ → Option RequestRow
request_in rows id = find (λ row. row.id == id) rows

-- the revocation of a serial number
abbrev pub revocation_in : List RevocationRow → ℕ → Option RevocationRow
revocation_in rows serial = find (λ row. row.serial == serial) rows

-- the CRL with a number (RFC 5280 5.2.3)
abbrev pub crl_in : List Crl → ℕ → Option Crl
crl_in crls number = find (λ crl. crl.number == number) crls
