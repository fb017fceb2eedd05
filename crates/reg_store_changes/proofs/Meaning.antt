-- What the texts mean over the tables of a register.
use Rattle.std.proofs.Common.{ℕ, pos, List, [], ◌∷◌, codes, refl}
use Rattle.sqlite_value.specs.declared.value.Value.{Value}
use Rattle.sqlite_value.specs.declared.value.ValueRef.{ValueRef}
use Rattle.sqlite_value.specs.Value.{owned}
use Rattle.sqlite_value.specs.declared.value.Value.TheVariants.{Null, Int, Text}
use Rattle.sqlite_value.specs.declared.keys.Collation.TheVariants.{Binary}
use Rattle.sqlite_sql.specs.Term.{Term, lit, col, op2}
use Rattle.sqlite_sql.specs.declared.ops.BinaryOp.TheVariants.{Compare, Is}
use Rattle.sqlite_sql.specs.declared.ops.CompareOp.TheVariants.{Eq, Lt}
use Rattle.sqlite.specs.Values.{bound_value}
use Rattle.sqlite.specs.Listing.{understood}
use Rattle.sqlite_tied.specs.Compute.{everything}
use Rattle.reg_store_tables.specs.Schema.{register_schema}
use Rattle.reg_store_changes.specs.declared.sql.TheConstants.{EXPIRE_ENDED, MARK_REVOKED, SET_LAST, SET_NAME, PUT_SUBSCRIBER, PUT_ORDER, PUT_CERT, PUT_LETTER, PUT_REQUEST, SET_DECLINED, PUT_REVOCATION, PUT_LISTED, PUT_CRL, SET_LAST_LISTED, CLEAR_STEPS}
use Rattle.reg_store_tables.proofs.PublicLaws.{updates, inserts, deletes, IsWriting}

abbrev pub equals : Term → Term → Term
equals a b = op2 (Compare Eq Binary) a b

abbrev pub below : Term → Term → Term
below a b = op2 (Compare Lt Binary) a b

abbrev pub text : List ℕ → Term
text letters = lit (Text letters)

-- the value that a parameter lends
abbrev pub lends : ValueRef → Value
lends v = bound_value (owned v)

pub sweep_means : IsWriting EXPIRE_ENDED.now (updates 7 12 (equals (col 1 3) (text (codes "G")) ∷ below (col 1 2) (col 0 0) ∷ []) (col 1 1 ∷ col 1 2 ∷ text (codes "X") ∷ []))
unfolding understood everything register_schema
sweep_means = record { plain = (refl, refl); is = refl }

pub mark_revoked_means : IsWriting MARK_REVOKED.now (updates 7 12 (equals (col 1 1) (col 0 0) ∷ equals (col 1 3) (text (codes "G")) ∷ []) (col 1 1 ∷ col 1 2 ∷ text (codes "R") ∷ []))
unfolding understood everything register_schema
mark_revoked_means = record { plain = (refl, refl); is = refl }

pub set_last_means : IsWriting SET_LAST.now (updates 0 0 [] (lit Null ∷ col 1 2 ∷ col 1 3 ∷ col 1 4 ∷ col 1 5 ∷ col 1 6 ∷ col 1 7 ∷ col 1 8 ∷ col 0 0 ∷ []))
unfolding understood everything register_schema
set_last_means = record { plain = (refl, refl); is = refl }

pub set_name_means : IsWriting SET_NAME.now (updates 0 0 [] (lit Null ∷ col 1 2 ∷ col 0 0 ∷ col 1 4 ∷ col 1 5 ∷ col 1 6 ∷ col 1 7 ∷ col 1 8 ∷ col 1 9 ∷ []))
unfolding understood everything register_schema
set_name_means = record { plain = (refl, refl); is = refl }

pub put_subscriber_means : IsWriting PUT_SUBSCRIBER.now (inserts 1 (col 0 0 ∷ lit Null ∷ col 0 1 ∷ []) 3)
unfolding understood everything register_schema
put_subscriber_means = record { plain = (refl, refl); is = refl }

pub put_order_means : IsWriting PUT_ORDER.now (inserts 2 (col 0 0 ∷ lit Null ∷ col 0 1 ∷ col 0 2 ∷ []) 4)
unfolding understood everything register_schema
put_order_means = record { plain = (refl, refl); is = refl }

pub put_cert_means : IsWriting PUT_CERT.now (inserts 3 (lit Null ∷ col 0 0 ∷ col 0 1 ∷ col 0 2 ∷ col 0 3 ∷ []) 5)
unfolding understood everything register_schema
put_cert_means = record { plain = (refl, refl); is = refl }

pub put_letter_means : IsWriting PUT_LETTER.now (inserts 7 (lit Null ∷ col 0 0 ∷ col 0 1 ∷ text (codes "G") ∷ []) 4)
unfolding understood everything register_schema
put_letter_means = record { plain = (refl, refl); is = refl }

pub put_request_means : IsWriting PUT_REQUEST.now (inserts 4 (col 0 0 ∷ lit Null ∷ col 0 1 ∷ col 0 2 ∷ col 0 3 ∷ col 0 4 ∷ []) 6)
unfolding understood everything register_schema
put_request_means = record { plain = (refl, refl); is = refl }

pub set_declined_means : IsWriting SET_DECLINED.now (updates 4 7 (equals (col 1 0) (col 0 0) ∷ []) (lit Null ∷ col 1 2 ∷ col 1 3 ∷ col 1 4 ∷ lit (Int (pos 1)) ∷ []))
unfolding understood everything register_schema
set_declined_means = record { plain = (refl, refl); is = refl }

pub put_revocation_means : IsWriting PUT_REVOCATION.now (inserts 5 (lit Null ∷ col 0 0 ∷ col 0 1 ∷ col 0 2 ∷ col 0 3 ∷ col 0 4 ∷ []) 6)
unfolding understood everything register_schema
put_revocation_means = record { plain = (refl, refl); is = refl }

pub put_listed_means : IsWriting PUT_LISTED.now (inserts 9 (lit Null ∷ col 0 0 ∷ col 0 1 ∷ col 0 2 ∷ col 0 3 ∷ col 0 4 ∷ lit Null ∷ []) 7)
unfolding understood everything register_schema
put_listed_means = record { plain = (refl, refl); is = refl }

pub put_crl_means : IsWriting PUT_CRL.now (inserts 6 (col 0 0 ∷ lit Null ∷ col 0 1 ∷ col 0 2 ∷ []) 4)
unfolding understood everything register_schema
put_crl_means = record { plain = (refl, refl); is = refl }

pub mark_listed_means : IsWriting SET_LAST_LISTED.now (updates 9 15 (op2 (Is Binary) (col 1 6) (lit Null) ∷ below (col 1 5) (col 0 1) ∷ []) (col 1 1 ∷ col 1 2 ∷ col 1 3 ∷ col 1 4 ∷ col 1 5 ∷ col 0 0 ∷ []))
unfolding understood everything register_schema
mark_listed_means = record { plain = (refl, refl); is = refl }

pub clear_steps_means : IsWriting CLEAR_STEPS.now (deletes 10 17)
unfolding understood everything register_schema
clear_steps_means = record { plain = (refl, refl); is = refl }
