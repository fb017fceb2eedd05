use Rattle.std.proofs.Common.{◌≡◌, Some, ap, ◌∙◌}
use Rattle.reg_core.specs.declared.rows.CrlRow.{CrlRow}
use Rattle.reg_core_lists.specs.FeedLines.{crl_line}
use Rattle.reg_core_lists.proofs.PartsRead.{same_crl, some_crl, written_is}
use Rattle.reg_core_lists.proofs.feed_reader.read_crl_octets.Goals as goal

pub returns-in-Some-clause-only : goal.returns-in-Some-clause-only
returns-in-Some-clause-only c crl rest same_row count is =
    let written : c.deref.result.now ≡ crl_line c.args.row c.args.octets =
    written_is _ _ _ _ c.deref.ensures.value c.in_ok-put_crl_line.ensures c.new-line.ensures.items in
    let same =
    same_crl crl c.args.row c.args.octets c.args.text.now c.deref.result.now rest same_row count is written c.in-Some.der.now c.in-Some.rest.now
    c.in-Some.ensures.0 c.in-Some.ensures.1 in
    let bytes = c.in_ok-der-in-Some.ensures.items ∙ same.0 in
    let number = ap (λ (row : CrlRow). row.number) same_row in
    let this_update = ap (λ (row : CrlRow). row.this_update) same_row in
    (λ i. Some (record { number = number i; this_update = this_update i; bytes = bytes i }), same.1)

pub returns-clause-only : goal.returns-clause-only
returns-clause-only c crl rest same_row count is =
    let written : c.deref.result.now ≡ crl_line c.args.row c.args.octets =
    written_is _ _ _ _ c.deref.ensures.value c.in_ok-put_crl_line.ensures c.new-line.ensures.items in
    some_crl crl c.args.row c.args.octets c.args.text.now c.deref.result.now rest same_row count is written c.in-None.ensures
