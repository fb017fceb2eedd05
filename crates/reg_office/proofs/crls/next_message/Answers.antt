use Rattle.reg_store_tables.proofs.PublicLaws.{looked_then}
use Rattle.reg_office.proofs.crls.next_message.Goals as goal

pub returns-in_err-row : goal.returns-in_err-row
returns-in_err-row g c = c.next_row.ensures.looks.looked

pub returns-in_err-issuer : goal.returns-in_err-issuer
returns-in_err-issuer g c = looked_then c.next_row.ensures.looks.looked c.listed.ensures.looks.looked

pub returns-in_err-crl_tbs : goal.returns-in_err-crl_tbs
returns-in_err-crl_tbs g c = looked_then c.next_row.ensures.looks.looked c.listed.ensures.looks.looked

pub returns : goal.returns
returns g c = looked_then c.next_row.ensures.looks.looked c.listed.ensures.looks.looked
