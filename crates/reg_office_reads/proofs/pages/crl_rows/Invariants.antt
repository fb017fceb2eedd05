use Rattle.std.proofs.Common.{◌≡◌, take}
use Rattle.std.specs.Prelude.{Some, filter_map}
use Rattle.reg_core_lists.specs.declared.rows.Row.TheVariants.{Crl}
use Rattle.reg_office_reads.proofs.pages.crl_rows.Given as goal

abbrev pub invariant-loop-crl : goal.invariant-loop-crl
invariant-loop-crl l = l.rows.items ≡ filter_map (λ crl. Some (Crl crl)) (take l.crl-index l.found)
