use Rattle.std.proofs.Common.{◌≡◌, ◌≤◌, true, false, length, Some, sym, ◌∙◌, arith}
use Rattle.std.specs.Prelude.{option_copied}
use Rattle.std.specs.Str.{bytes_eq}
use Rattle.std.proofs.lemmas.Bool.{eqb-false}
use Rattle.reg_ocsp.specs.Request.{nonce_identifier}
use Rattle.reg_ocsp.specs.Views.{extension_model}
use Rattle.reg_ocsp.proofs.Loops.{nonce_begins, nonce_goes_on, nonce_was, nonce_now, nonce_not}
use Rattle.reg_ocsp.proofs.extensions.first_nonce.Goals as goal
use Rattle.reg_ocsp.proofs.extensions.first_nonce.Goals.{else-is_none-via-then-is_none+else-eq, else-is_none-via-else-is_none}

pub loop-rest-init : goal.loop-rest-init
loop-rest-init c = nonce_begins c.args.bytes.now c.in_ok-rest.rest.now (λ i. omega (arith, c.type_inv.bytes i)) c.in_ok-rest.ensures.exact

pub loop-rest-preserved-then-eq : goal.loop-rest-preserved-then-eq
loop-rest-preserved-then-eq c =
    let e = extension_model c.in_ok-extension.extension in
    let some : 1 ≤ length c.loop-rest.rest.now = let ne = eqb-false (length c.loop-rest.rest.now) 0 (sym c.is_empty.ensures ∙ c.loop-rest-test.true) in omega (arith, ne) in
    let is : bytes_eq e.identifier nonce_identifier ≡ true = (rw c.as_slice.ensures at (sym c.eq.ensures)) ∙ c.if-eq.true in
    nonce_goes_on (option_copied c.loop-rest.nonce) (Some e.value) c.loop-rest.rest.now c.in_ok-extension.after.now c.in_ok-rest.rest.now e
    (nonce_now c.loop-rest.nonce e c.if-is_none.ensures is) some c.in_ok-extension.ensures.exact c.loop-rest.invariant

pub loop-rest-preserved : goal.loop-rest-preserved
loop-rest-preserved c =
    let e = extension_model c.in_ok-extension.extension in
    let some : 1 ≤ length c.loop-rest.rest.now = let ne = eqb-false (length c.loop-rest.rest.now) 0 (sym c.is_empty.ensures ∙ c.loop-rest-test.true) in omega (arith, ne) in
    let goes_on = nonce_goes_on (option_copied c.loop-rest.nonce) (option_copied c.loop-rest.nonce) c.loop-rest.rest.now c.in_ok-extension.after.now c.in_ok-rest.rest.now e in
    elim c.else-is_none.branch [
      | else-is_none-via-then-is_none+else-eq w ↦
          let is : bytes_eq e.identifier nonce_identifier ≡ false = (rw w.as_slice.ensures at (sym w.eq.ensures)) ∙ w.if-eq.false in
          goes_on (nonce_not c.loop-rest.nonce e w.if-is_none.ensures is) some c.in_ok-extension.ensures.exact c.loop-rest.invariant
      | else-is_none-via-else-is_none w ↦
          goes_on (nonce_was c.loop-rest.nonce e w.if-is_none.ensures) some c.in_ok-extension.ensures.exact c.loop-rest.invariant
    ]
