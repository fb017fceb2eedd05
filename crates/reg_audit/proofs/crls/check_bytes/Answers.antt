use Rattle.std.proofs.Common.{◌≡◌, length, sym, ap, ◌∙◌, rules}
use Rattle.reg_core.specs.Crls.{CertList}
use Rattle.reg_crl.specs.Crl.{certificate_list}
use Rattle.reg_audit.proofs.Contents.{crl_signature}
use Rattle.reg_audit.proofs.crls.check_bytes.Goals as goal

pub returns-then-signature-gt-MOST_SIGNATURE-clause-broken : goal.returns-then-signature-gt-MOST_SIGNATURE-clause-broken
returns-then-signature-gt-MOST_SIGNATURE-clause-broken c form broken is =
    let list : CertList = record { issuer = c.args.issuer.now; number = c.args.crl.now.number; this_update = c.args.crl.now.this_update; next_update = c.args.next_update; entries = c.args.entries.now } in
    let short = rw c.in_ok-tbs.ensures.crl at c.in_ok-tbs.ensures.short in
    let same : c.signature_of-signature.result.now ≡ is.0 = c.signature_of-signature.ensures is.0 (crl_signature c.args.algorithm.now list c.args.bytes.now form c.requires.algorithm short is) in
    let size : length c.signature_of-signature.result.now ≡ length is.0 = ap length same in
    let most = is.1 in
    search rules

pub returns-clause-broken : goal.returns-clause-broken
returns-clause-broken c form broken is =
    let list : CertList = record { issuer = c.args.issuer.now; number = c.args.crl.now.number; this_update = c.args.crl.now.this_update; next_update = c.args.next_update; entries = c.args.entries.now } in
    let short = rw c.in_ok-tbs.ensures.crl at c.in_ok-tbs.ensures.short in
    let same : c.signature_of-signature.result.now ≡ is.0 = c.signature_of-signature.ensures is.0 (crl_signature c.args.algorithm.now list c.args.bytes.now form c.requires.algorithm short is) in
    let equal : c.in_ok-whole.whole.items ≡ c.args.bytes.now =
    c.in_ok-whole.ensures.bytes ∙ (λ i. certificate_list ((c.deref.ensures.value ∙ c.in_ok-tbs.ensures.crl) i) c.args.algorithm.now (same i)) ∙ sym is.2 in
    search rules
