use Rattle.std.specs.Prelude.{option_map, Vec}
use Rattle.std.proofs.Common.{ℕ, ◌∙◌, ap, sym, Global}
use Rattle.reg_store_tables.proofs.PublicLaws.{by_finding, by_none, so}
use Rattle.reg_office_reads.proofs.changes.der_of.Goals as goal

pub returns-in-Some : goal.returns-in-Some
returns-in-Some g c = so (by_finding c.in_ok-found.ensures) (λ records sound it. ap (option_map (λ (v : Vec ℕ Global). v.items)) (sym c.in-Some.is) ∙ it)

pub returns-in-None : goal.returns-in-None
returns-in-None g c = by_none c.crl.ensures.looked (λ records. tt)
