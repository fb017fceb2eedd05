use Rattle.std.proofs.Common.{◌≡◌, Some, slice_get, ap}
use Rattle.sqlite_schema.specs.declared.schema.Schema.{Schema}
use Rattle.reg_store_tables.specs.Schema.{crl, standing, longest, crl_at, standing_due, register_schema}
use Rattle.reg_store_opening.proofs.Steps.{ok_leads, then_index, then_table}
use Rattle.reg_store_opening.proofs.Texts.{longest_defined, crl_at_defined, standing_due_defined}
use Rattle.reg_store_opening.proofs.expected_schema.add_schedule_and_indexes.Goals as goal

pub returns : goal.returns
unfolding register_schema
returns c before =
    let a = then_table longest _ _ _ before (c.in_ok-add_table.ensures (record longest { tree = 0 }) longest_defined) in
    let crls : slice_get c.add_table.new.made.tables 6 ≡ Some crl = ap (λ (s : Schema). slice_get s.tables 6) a in
    let b = then_index crl crl_at _ _ _ a (c.in_ok-add_index.ensures crl crl_at crls crl_at_defined) in
    let letters : slice_get c.add_index.new.made.tables 7 ≡ Some standing = ap (λ (s : Schema). slice_get s.tables 7) b in
    ok_leads _ _ c.add_index-2.result (then_index standing standing_due _ _ _ b) (c.add_index-2.ensures standing standing_due letters standing_due_defined)
