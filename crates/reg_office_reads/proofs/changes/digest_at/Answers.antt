use Rattle.std.proofs.Common.{◌∙◌, ap}
use Rattle.sha2.specs.Sha256.{sha256}
use Rattle.reg_core.specs.Issuer.{Issuer}
use Rattle.reg_core_lists.specs.Feed.{digest_text}
use Rattle.reg_der.specs.Authority.{name_of}
use Rattle.reg_store_tables.proofs.PublicLaws.{and_so, by_finding, looked_then, not_found, so}
use Rattle.reg_office_reads.proofs.changes.digest_at.Goals as goal

pub returns-in_err-der : goal.returns-in_err-der
returns-in_err-der g c =
    not_found _ c.from_residual-in_err-der.result c.from_residual-in_err-der.ensures.0 (looked_then c.windows_in.ensures.looked c.crl.ensures.looked)

pub returns-in_err-digest : goal.returns-in_err-digest
returns-in_err-digest g c =
    not_found _ c.from_residual-in_err-digest.result c.from_residual-in_err-digest.ensures.0 (looked_then c.windows_in.ensures.looked c.crl.ensures.looked)

pub returns : goal.returns
returns g c =
    so (and_so c.in_ok-rows.ensures (by_finding c.in_ok-der.ensures))
    (λ records sound it issuer.
    let name = c.name.ensures.name ∙ ap name_of issuer in
    let key = c.key.ensures.key ∙ ap (λ (it : Issuer). it.key) issuer in
    c.in_ok-digest.ensures ∙ (λ i. sha256 (digest_text (name i) (key i) c.args.counts.now (it.0 i) (it.1 i))))
