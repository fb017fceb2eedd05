use Rattle.std.proofs.Common.{◌∙◌, sym, rules}
use Rattle.reg_store_tables.proofs.PublicLaws.{and_so, looked_then, not_found, so}
use Rattle.reg_office_reads.proofs.changes.changes_after.Goals as goal

pub returns-in_err-text : goal.returns-in_err-text
returns-in_err-text g c =
    not_found _ c.from_residual-in_err-text.result c.from_residual-in_err-text.ensures.0 (looked_then c.digest_at.ensures.looked c.page_after.ensures.looked)

pub returns-then-not-has_digest : goal.returns-then-not-has_digest
returns-then-not-has_digest g c =
    so c.in_ok-digest.ensures (λ records sound it issuer in_history. let same = in_history ∙ sym (it issuer) in search rules)

pub returns : goal.returns
returns g c =
    so (and_so c.in_ok-digest.ensures c.in_ok-text.ensures) (λ records sound it issuer. (c.has_digest.ensures.0 (search rules) ∙ it.0 issuer, it.1 issuer))
