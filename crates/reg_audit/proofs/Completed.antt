-- Where the rows of each table are those of records, the tables show these.
use Rattle.std.proofs.Common.{◌≡◌, sym, subst, ap}
use Rattle.sqlite_trees.specs.declared.store.Store.{Ghosts}
use Rattle.sqlite.specs.Effect.{Database}
use Rattle.sqlite.specs.Held.{Held}
use Rattle.reg_core.specs.Records.{Records}
use Rattle.reg_store_tables.specs.DerivedRows.{DerivedRows, office_days}
use Rattle.reg_store_tables.specs.Shows.{AreRecordsAndDerived, Holds, ShowsBoth}
use Rattle.reg_audit.specs.Complete.{AreTables, AreCounts, AreOffice, ShowSome, SubscribersAgree, OrdersAgree, CertificatesAgree, RequestsAgree, RevocationsAgree, CrlsAgree, LettersAgree, ListingsAgree}
use Rattle.reg_audit.specs.Faults.{EndsAtBrokenRow, IsDisproved}
use Rattle.reg_audit.specs.declared.fault.AuditFault.{AuditFault}
use Rattle.reg_audit.specs.declared.fault.AuditFault.TheVariants.{Memory, Store, Broken}

pub some_shown : (db : Database) → AreTables db → AreOffice db.trees → SubscribersAgree db.trees → OrdersAgree db.trees → CertificatesAgree db.trees → RequestsAgree db.trees → RevocationsAgree db.trees → CrlsAgree db.trees
    → LettersAgree db.trees → AreCounts (db.trees 14) → ListingsAgree db.trees → ShowSome db
some_shown db are office subscribers orders certificates requests revocations crls letters counts listings = record {
  records = record {
    issuer = office.issuer;
    policy = office.policy;
    last = office.last;
    subscribers = subscribers.these;
    orders = orders.these;
    certificates = certificates.these;
    requests = requests.these;
    revocations = revocations.these;
    crls = crls.these;
  };
  columns = record { letters = letters.these; counts = counts.counts; listed = listings.these; days = office.days };
  both = record {
    shown = record {
      schema = are.schema;
      rows = record {
        days = office.days;
        office = office.office;
        subscribers = subscribers.are;
        orders = orders.are;
        certificates = certificates.are;
        requests = requests.are;
        revocations = revocations.are;
        crls = crls.are;
        schedule = office.schedule;
        policy = office.in_range;
        subscribers_numbered = subscribers.numbered;
        orders_numbered = orders.numbered;
        requests_numbered = requests.numbered;
        crls_numbered = crls.numbered;
        certificate_serials = certificates.each;
        request_serials = requests.each;
        revocation_serials = revocations.each;
      };
    };
    kept = record {
      letters = letters.are;
      counts = counts.are;
      listed = listings.are;
      days = ap office_days office.office;
      letter_serials = letters.each;
      listed_serials = listings.each;
    };
  };
}

-- what the tables show that a connection has, it shows
pub holds_both : {S : Type 0} (g : Ghosts S) (h : Held S) (db : Database) (records : Records) (columns : DerivedRows) → Holds g h (λ now. now ≡ db) → AreRecordsAndDerived db records columns → ShowsBoth g h records columns
holds_both g h db records columns these both = record { saved = these.saved; tables = λ clean up. subst (λ now. AreRecordsAndDerived now records columns) (sym (these.tables clean up)) both }

-- an audit that tells no row as broken denies nothing
pub not_broken_denied : (records : Records) (columns : DerivedRows) (fault : AuditFault) → (EndsAtBrokenRow fault → ⊥) → IsDisproved fault records columns
not_broken_denied records columns Memory never = tt
not_broken_denied records columns Store never = tt
not_broken_denied records columns (Broken row) never = absurd (never tt)
