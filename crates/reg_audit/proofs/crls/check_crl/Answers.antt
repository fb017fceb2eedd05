use Rattle.std.proofs.Common.{◌≡◌, ◌+◌, ap, subst, ◌∙◌, rules}
use Rattle.reg_core.specs.Crls.{cert_list, entries}
use Rattle.reg_audit.specs.Crls.{IsCrlOf}
use Rattle.reg_audit.proofs.Contents.{entries_are}
use Rattle.reg_audit.proofs.Results.{on_ok, if_err}
use Rattle.reg_audit.proofs.crls.check_crl.Goals as goal

pub returns-clause-ok : goal.returns-clause-ok
returns-clause-ok c records lists =
    let found = c.in_ok-entries.entries.items in
    let are : found ≡ entries records c.args.crl.now.number = entries_are records c.args.crl.now.number lists.numbered c.args.listed.now found lists.kept c.in_ok-entries.ensures.same c.in_ok-entries.ensures.ascend in
    let next = c.plus-next_update.ensures ∙ ap (λ life. c.args.crl.now.this_update + life) lists.by_life in
    let same : record { issuer = c.args.issuer.now; number = c.args.crl.now.number; this_update = c.args.crl.now.this_update; next_update = c.plus-next_update.result; entries = c.deref.result.now } ≡ cert_list records c.args.crl.now.number c.args.crl.now.this_update =
    λ i. record { issuer = lists.by_issuer i; number = c.args.crl.now.number; this_update = c.args.crl.now.this_update; next_update = next i; entries = (c.deref.ensures.value ∙ are) i } in
    on_ok c.check_bytes.result c.check_bytes.ensures.ok (λ is. subst (λ list. IsCrlOf c.args.algorithm.now list c.args.bytes.now) same is)

pub returns-clause-broken : goal.returns-clause-broken
returns-clause-broken c records lists form differ few =
    let found = c.in_ok-entries.entries.items in
    let are : found ≡ entries records c.args.crl.now.number = entries_are records c.args.crl.now.number lists.numbered c.args.listed.now found lists.kept c.in_ok-entries.ensures.same c.in_ok-entries.ensures.ascend in
    let next = c.plus-next_update.ensures ∙ ap (λ life. c.args.crl.now.this_update + life) lists.by_life in
    let same : record { issuer = c.args.issuer.now; number = c.args.crl.now.number; this_update = c.args.crl.now.this_update; next_update = c.plus-next_update.result; entries = c.deref.result.now } ≡ cert_list records c.args.crl.now.number c.args.crl.now.this_update =
    λ i. record { issuer = lists.by_issuer i; number = c.args.crl.now.number; this_update = c.args.crl.now.this_update; next_update = next i; entries = (c.deref.ensures.value ∙ are) i } in
    if_err c.check_bytes.result (c.check_bytes.ensures.broken form) (λ fault no is whole. no is (subst (λ list. IsCrlOf c.args.algorithm.now list c.args.bytes.now) (Rattle.std.proofs.Common.sym same) whole))
