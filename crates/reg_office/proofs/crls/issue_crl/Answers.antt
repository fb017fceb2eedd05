use Rattle.std.proofs.Common.{Err, ap, refl}
use Rattle.reg_core.specs.declared.change.Change.TheVariants as change
use Rattle.reg_core.specs.declared.command.Command.TheVariants.{Crl as IssueCrl}
use Rattle.reg_core.specs.declared.command.Reply.TheVariants.{Crl as CrlIssued}
use Rattle.reg_store_tables.proofs.PublicLaws.{and_so, kept_until}
use Rattle.reg_office.specs.Issuing.{IsNextOf}
use Rattle.reg_crl.specs.Signing.{signed_by}
use Rattle.reg_office.proofs.CommandsRun.{carried_out, fault_happens, not_carried_out, not_run}
use Rattle.reg_office.proofs.Issuing.{making_happens, may_issue, office_of_making}
use Rattle.reg_office.proofs.RegisterSummary.{never_signer, office_fault}
use Rattle.reg_office_reads.proofs.PublicLaws.{lent}
use Rattle.reg_office.proofs.crls.issue_crl.Goals as goal

pub returns-in_err-row : goal.returns-in_err-row
returns-in_err-row g c =
    let signers = g.S.Signer in
    let fault = c.in_err-row.field-0.0 in
    let decides = c.in_err-row.ensures in
    let looks = lent c.deref_mut.ensures.shows decides.looks in
    not_run g.C.Store signers.signs signers.identity signers.failure_count c.args.store.now c.args.signer.now c.args.now IssueCrl
    c.from_residual.result fault c.from_residual.ensures.1 refl looks.looked
    (λ records kept sound clean. fault_happens (λ next. IsNextOf records c.args.now next) (signed_by signers.signs (signers.identity c.args.signer.now)) records c.args.now IssueCrl fault c.requires decides.faults (looks.found records (kept_until _ kept) sound clean))
    (office_fault fault decides.faults) (never_signer fault decides.faults)

pub returns-in_err-der : goal.returns-in_err-der
returns-in_err-der g c =
    let signers = g.S.Signer in
    let fault = c.in_err-der.field-0.0 in
    let looks = and_so (lent c.deref_mut.ensures.shows c.in_ok-row.ensures.looks) (lent c.deref_mut-2.ensures.shows c.made_crl.ensures.looks) in
    not_run g.C.Store signers.signs signers.identity signers.failure_count c.args.store.now c.args.signer.now c.args.now IssueCrl
    c.from_residual-in_err-der.result fault c.from_residual-in_err-der.ensures.1 c.made_crl.ensures.same_identity looks.looked
    (λ records kept sound clean. making_happens (signed_by signers.signs (signers.identity c.args.signer.now)) records c.args.now fault c.requires (looks.found records (kept_until _ kept) sound clean).0.accepted c.in_err-der.ensures.faults)
    (office_of_making fault c.in_err-der.ensures.faults) (λ is. (refl, c.in_err-der.ensures.device (ap Err is)))

pub returns-in_err-add_crl : goal.returns-in_err-add_crl
returns-in_err-add_crl g c =
    let signers = g.S.Signer in
    let row = c.in_ok-row.row in
    let next = c.in_ok-row.next_update in
    let looks = and_so (lent c.deref_mut.ensures.shows c.in_ok-row.ensures.looks) (lent c.deref_mut-2.ensures.shows c.in_ok-der.ensures.looks) in
    not_carried_out g.C.Store signers.signs signers.identity signers.failure_count c.args.store.now c.args.signer.now c.args.now IssueCrl
    _ _ _ (CrlIssued row.number c.in_ok-der.entries) (change.Crl row c.deref.result) c.made_crl.ensures.same_identity looks.looked
    (λ records kept sound clean. may_issue _ records c.args.now (row, next) c.in_ok-der.der.items c.in_ok-der.entries c.deref.result c.deref.ensures.value (looks.found records (kept_until _ kept) sound clean))
    c.add_crl.ensures.changed.survives.clean c.add_crl.ensures.idle
    c.from_residual-in_err-add_crl.result c.in_err-add_crl.field-0.0 c.from_residual-in_err-add_crl.ensures.1 c.requires c.in_err-add_crl.ensures.changed

pub returns : goal.returns
returns g c =
    let signers = g.S.Signer in
    let row = c.in_ok-row.row in
    let next = c.in_ok-row.next_update in
    let looks = and_so (lent c.deref_mut.ensures.shows c.in_ok-row.ensures.looks) (lent c.deref_mut-2.ensures.shows c.in_ok-der.ensures.looks) in
    carried_out g.C.Store signers.signs signers.identity signers.failure_count c.args.store.now c.args.signer.now c.args.now IssueCrl
    _ _ _ (CrlIssued row.number c.in_ok-der.entries) (change.Crl row c.deref.result) c.made_crl.ensures.same_identity looks.looked
    (λ records kept sound clean. may_issue _ records c.args.now (row, next) c.in_ok-der.der.items c.in_ok-der.entries c.deref.result c.deref.ensures.value (looks.found records (kept_until _ kept) sound clean))
    c.add_crl.ensures.changed.survives.clean c.add_crl.ensures.idle c.in_ok-add_crl.ensures.ok c.in_ok-add_crl.ensures.changed
