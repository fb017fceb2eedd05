use Rattle.std.proofs.Common.{◌≡◌, sym, subst₂, rules}
use Rattle.std.specs.BTreeMap.{get}
use Rattle.std.specs.Ordering.{nat_cmp}
use Rattle.reg_core.specs.Records.{request_in}
use Rattle.reg_core.specs.declared.rows.RevocationRow.{RevocationRow}
use Rattle.reg_audit.specs.Read.{FitsIn}
use Rattle.reg_audit.proofs.RowPrefixes.{all_here, all_more}
use Rattle.reg_audit.proofs.relations.revocations_fit.Goals as goal

pub returns-in-Some-clause-broken : goal.returns-in-Some-clause-broken
returns-in-Some-clause-broken c numbered is all =
    let row = c.index-revocations-row_index.result in
    let certificate : c.copied-certificate.result ≡ get nat_cmp c.args.certificates.now row.serial = search rules in
    let request : c.row_with-request.result ≡ request_in c.args.requests.now row.request = c.row_with-request.ensures numbered in
    let here =
    all_here c.args.revocations.now c.loop-row_index.row_index row c.loop-row_index-test.true c.index-revocations-row_index.is
    (λ (row : RevocationRow). FitsIn c.args.last (get nat_cmp c.args.certificates.now row.serial) (request_in c.args.requests.now row.request) c.args.crls.now row) all in
    c.in-Some.ensures (subst₂ (λ certificate request. FitsIn c.args.last certificate request c.args.crls.now row) (sym certificate) (sym request) here)

pub loop-row_index-preserved : goal.loop-row_index-preserved
loop-row_index-preserved c numbered =
    let row = c.index-revocations-row_index.result in
    let certificate : c.copied-certificate.result ≡ get nat_cmp c.args.certificates.now row.serial = search rules in
    let request : c.row_with-request.result ≡ request_in c.args.requests.now row.request = c.row_with-request.ensures numbered in
    all_more c.args.revocations.now c.loop-row_index.row_index row c.loop-row_index-test.true c.index-revocations-row_index.is
    (λ (row : RevocationRow). FitsIn c.args.last (get nat_cmp c.args.certificates.now row.serial) (request_in c.args.requests.now row.request) c.args.crls.now row) (c.loop-row_index.invariant numbered)
    (subst₂ (λ certificate request. FitsIn c.args.last certificate request c.args.crls.now row) certificate request c.in_default.ensures)
