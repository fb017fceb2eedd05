use Rattle.std.proofs.Common.{◌≡◌, ap, subst, ◌∙◌}
use Rattle.reg_core.specs.Changes.{with_crl}
use Rattle.reg_core.specs.declared.rows.CrlRow.{CrlRow}
use Rattle.reg_store_changes.proofs.PublicLaws.{looked_step, steps_then}
use Rattle.reg_store_tables.proofs.PublicLaws.{under_before}
use Rattle.reg_office_reads.proofs.PublicLaws.{lent}
use Rattle.reg_office.specs.Replays.{MayBeNextCrl}
use Rattle.reg_office.proofs.BeforeKey.{may_by_form}
use Rattle.reg_office.proofs.Replaying.{crl_leads, leads_if_as}
use Rattle.reg_office.proofs.office.Office.enter_crl.Goals as goal

pub returns-in-Ok-clause-made : goal.returns-in-Ok-clause-made
returns-in-Ok-clause-made g c forms =
    let s = g.C.Store in
    let signs = g.S.Signer.signs in
    let identity = g.S.Signer.identity c.args.self.now.signer in
    let row = c.args.row in
    let looks = lent c.deref_mut.ensures.shows c.in_ok-wrong.ensures in
    let crl = c.args.crl.now in
    let same : row ≡ crl.row = c.is_same_row.ensures.0 c.if-not-is_same_row.false in (
      same,
      leads_if_as s signs identity c.args.self.now.store c.enter.new.self
          (crl_leads s signs identity c.args.self.now.store c.checked_crl.new.tables c.enter.new.self row c.args.next_update c.as_slice-der.result crl.der.items c.as_slice-der.ensures.value
          looks c.in-Ok.ensures.under_way c.enter.ensures.stepped c.in-Ok.ensures.made
          (λ records checked update. may_by_form signs g.S.Signer.forms identity records row crl.der.items forms
          (subst (MayBeNextCrl g.S.Signer.forms identity records row) c.as_slice-der.ensures.value (checked update c.in-None.is))))
          (λ before after is. is ∙ ap (λ (r : CrlRow). with_crl before row.this_update (record { number = r.number; this_update = r.this_update; bytes = crl.der.items })) same),
    )

pub returns-in-Ok-clause-under_way : goal.returns-in-Ok-clause-under_way
returns-in-Ok-clause-under_way g c =
    let looks = lent c.deref_mut.ensures.shows c.in_ok-wrong.ensures in
    under_before looks.looked c.in-Ok.ensures.under_way

pub returns-in-Ok-clause-stepped : goal.returns-in-Ok-clause-stepped
returns-in-Ok-clause-stepped g c = steps_then (looked_step (lent c.deref_mut.ensures.shows c.in_ok-wrong.ensures).looked) c.enter.ensures.stepped

pub returns-in-Err-clause-stepped : goal.returns-in-Err-clause-stepped
returns-in-Err-clause-stepped g c = steps_then (looked_step (lent c.deref_mut.ensures.shows c.in_ok-wrong.ensures).looked) c.enter.ensures.stepped

pub returns-in-Some-clause-stepped : goal.returns-in-Some-clause-stepped
returns-in-Some-clause-stepped g c = looked_step (lent c.deref_mut.ensures.shows c.in_ok-wrong.ensures).looked

pub returns-in_err-wrong-clause-stepped : goal.returns-in_err-wrong-clause-stepped
returns-in_err-wrong-clause-stepped g c = looked_step (lent c.deref_mut.ensures.shows c.checked_crl.ensures).looked
