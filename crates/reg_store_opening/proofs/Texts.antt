-- What each text of the schema defines.
use Rattle.std.proofs.Common.{◌≡◌, Ok, refl}
use Rattle.sqlite_resolve.specs.Compile.{table_defined_by, index_defined_by}
use Rattle.sqlite_tied.specs.Compute.{everything}
use Rattle.reg_store_tables.specs.Schema.{office, subscriber, orders, cert, request, revocation, crl, standing, kept, listed, longest, crl_at, standing_due}
use Rattle.reg_store_tables.specs.declared.schema.TheConstants.{OFFICE, SUBSCRIBER, ORDERS, CERT, REQUEST, REVOCATION, CRL, STANDING, KEPT, LISTED, LONGEST, CRL_AT, STANDING_DUE}

pub office_defined : table_defined_by OFFICE.now ≡ Ok (record office { tree = 0 })
unfolding everything table_defined_by
office_defined = refl

pub subscriber_defined : table_defined_by SUBSCRIBER.now ≡ Ok (record subscriber { tree = 0 })
unfolding everything table_defined_by
subscriber_defined = refl

pub orders_defined : table_defined_by ORDERS.now ≡ Ok (record orders { tree = 0 })
unfolding everything table_defined_by
orders_defined = refl

pub cert_defined : table_defined_by CERT.now ≡ Ok (record cert { tree = 0 })
unfolding everything table_defined_by
cert_defined = refl

pub request_defined : table_defined_by REQUEST.now ≡ Ok (record request { tree = 0 })
unfolding everything table_defined_by
request_defined = refl

pub revocation_defined : table_defined_by REVOCATION.now ≡ Ok (record revocation { tree = 0 })
unfolding everything table_defined_by
revocation_defined = refl

pub crl_defined : table_defined_by CRL.now ≡ Ok (record crl { tree = 0 })
unfolding everything table_defined_by
crl_defined = refl

pub standing_defined : table_defined_by STANDING.now ≡ Ok (record standing { tree = 0 })
unfolding everything table_defined_by
standing_defined = refl

pub kept_defined : table_defined_by KEPT.now ≡ Ok (record kept { tree = 0 })
unfolding everything table_defined_by
kept_defined = refl

pub listed_defined : table_defined_by LISTED.now ≡ Ok (record listed { tree = 0 })
unfolding everything table_defined_by
listed_defined = refl

pub longest_defined : table_defined_by LONGEST.now ≡ Ok (record longest { tree = 0 })
unfolding everything table_defined_by
longest_defined = refl

pub crl_at_defined : index_defined_by crl CRL_AT.now ≡ Ok crl_at
unfolding everything index_defined_by
crl_at_defined = refl

pub standing_due_defined : index_defined_by standing STANDING_DUE.now ≡ Ok standing_due
unfolding everything index_defined_by
standing_due_defined = refl
