use Rattle.std.proofs.Common.{◌≡◌, ◌<◌, ◌≤◌, not, length, get_or, slice_get, Some, option_map, rules, sym, ap, ◌∙◌}
use Rattle.std.proofs.lemmas.List.Sorted.{IsPartitionPoint-from_clause}
use Rattle.std.proofs.lemmas.Option.{slice_get-get_or}
use Rattle.reg_core.specs.declared.rows.CrlRow.{CrlRow}
use Rattle.reg_store_migration.proofs.PublicLaws.{can_be_last_listing, past_parted, last_there, none_there}
use Rattle.reg_audit.proofs.derived_rows.last_listing.Goals as goal

pub returns-in-Some : goal.returns-in-Some
returns-in-Some c numbered never =
    let crls = c.args.crls.now in
    let at = c.partition_point-at.result in
    let first = c.args.first in
    let not_after = c.args.not_after in
    let crl = c.in-Some.crl.now in
    let point = IsPartitionPoint-from_clause (λ (x : CrlRow). not (can_be_last_listing first not_after x)) crls at c.partition_point-at.ensures.partitioned (past_parted first not_after crls numbered never) (λ a r q k. search rules) in
    let within : at < length crls = c.in-Some.ensures.lookup.3.0 in
    let is : crl ≡ get_or crls at crl = c.in-Some.ensures.lookup.1 in
    let found : Some crl ≡ slice_get crls at = ap (λ (x : CrlRow). Some x) is ∙ sym (slice_get-get_or crls at crl within) in
    ap (option_map (λ (x : CrlRow). x.number)) found ∙ last_there first not_after crls at c.partition_point-at.ensures.bound point

pub returns-in-None : goal.returns-in-None
returns-in-None c numbered never =
    let crls = c.args.crls.now in
    let at = c.partition_point-at.result in
    let first = c.args.first in
    let not_after = c.args.not_after in
    let point = IsPartitionPoint-from_clause (λ (x : CrlRow). not (can_be_last_listing first not_after x)) crls at c.partition_point-at.ensures.partitioned (past_parted first not_after crls numbered never) (λ a r q k. search rules) in
    let past : length crls ≤ at = c.in-None.ensures.lookup.3 in
    ap (option_map (λ (x : CrlRow). x.number)) (sym (none_there crls at past)) ∙ last_there first not_after crls at c.partition_point-at.ensures.bound point
