use Rattle.std.proofs.Common.{◌<◌, Err, refl, rules}
use Rattle.reg_office_reads.specs.Looking.{IsAcceptance}
use Rattle.reg_core.specs.Calendar.{clock_end}
use Rattle.reg_core.specs.declared.change.Change.{Change}
use Rattle.reg_core.specs.declared.command.Reply.{Reply}
use Rattle.reg_core.specs.declared.refusal.Fault.TheVariants.{Refused}
use Rattle.reg_core.specs.declared.refusal.Refusal.TheVariants.{ClockEnd}
use Rattle.reg_crl.specs.Signing.{signed_by}
use Rattle.reg_office_api.specs.CallSteps.{Runs}
use Rattle.reg_office.specs.AfterStoppedCommand.{command_call}
use Rattle.reg_office.proofs.CommandsRun.{carried_out, fault_happens, may_change, not_carried_out, not_run}
use Rattle.reg_office.proofs.Leading.{ran_leads, ran_stops}
use Rattle.reg_office.proofs.Leaving.{by_refusal}
use Rattle.reg_office_reads.proofs.PublicLaws.{lent}
use Rattle.reg_store_tables.proofs.PublicLaws.{kept_until}
use Rattle.reg_office.proofs.RegisterSummary.{never_signer, office_fault}
use Rattle.reg_office.proofs.office.OfficeOffice.run_one.Goals as goal

pub returns-then-ge-clause-stops : goal.returns-then-ge-clause-stops
returns-then-ge-clause-stops g c = (
  (λ clean. clean),
  (λ signers before first stands clean.
      let refused : Runs g.S.Signer.signs signers before c.args.now c.args.command.now (Err (Refused ClockEnd)) before = search rules in
      (before, first, refused, stands, by_refusal Reply first (command_call c.args.now c.args.command.now) ClockEnd)),
)

pub returns-in-Crl-clause-ran : goal.returns-in-Crl-clause-ran
returns-in-Crl-clause-ran g c = rw c.in-Crl.is c.issue_crl.ensures

pub returns-in-Crl-clause-stops : goal.returns-in-Crl-clause-stops
returns-in-Crl-clause-stops g c = ran_stops g.C.Store g.S.Signer _ _ _ _ _ (λ held trees is_open leaves. g.met.C.Store.settled held.store trees is_open leaves) (returns-in-Crl-clause-ran g c) refl

pub returns-in-Crl-clause-runs : goal.returns-in-Crl-clause-runs
returns-in-Crl-clause-runs g c = ran_leads g.C.Store g.S.Signer _ _ _ _ _ (λ held trees is_open leaves. g.met.C.Store.settled held.store trees is_open leaves) (returns-in-Crl-clause-ran g c) refl

pub returns-in-Crl-clause-counts : goal.returns-in-Crl-clause-counts
returns-in-Crl-clause-counts g c failed = (c.issue_crl.ensures.device failed).1

pub returns-in-Err-clause-ran : goal.returns-in-Err-clause-ran
returns-in-Err-clause-ran g c =
    let signers = g.S.Signer in
    let fault = c.in-Err.fault in
    let below : c.args.now < clock_end = search rules in
    let decides = c.in-Err.ensures in
    let looks = lent c.deref_mut.ensures.shows decides.looks in
    not_run g.C.Store signers.signs signers.identity signers.failure_count c.args.self.now.store c.args.self.now.signer c.args.now c.args.command.now
    _ fault refl refl looks.looked
    (λ records kept sound clean. fault_happens (IsAcceptance c.args.now c.args.command.now records) (signed_by signers.signs (signers.identity c.args.self.now.signer)) records c.args.now c.args.command.now fault below decides.faults (looks.found records (kept_until _ kept) sound clean))
    (office_fault fault decides.faults) (never_signer fault decides.faults)

pub returns-in-Err-clause-stops : goal.returns-in-Err-clause-stops
returns-in-Err-clause-stops g c = ran_stops g.C.Store g.S.Signer _ _ _ _ _ (λ held trees is_open leaves. g.met.C.Store.settled held.store trees is_open leaves) (returns-in-Err-clause-ran g c) refl

pub returns-in-Err-clause-runs : goal.returns-in-Err-clause-runs
returns-in-Err-clause-runs g c = ran_leads g.C.Store g.S.Signer _ _ _ _ _ (λ held trees is_open leaves. g.met.C.Store.settled held.store trees is_open leaves) (returns-in-Err-clause-ran g c) refl

pub returns-in-Err-clause-counts : goal.returns-in-Err-clause-counts
returns-in-Err-clause-counts g c failed = ((returns-in-Err-clause-ran g c).device failed).1

pub returns-in_err-apply-in-Ok-clause-ran : goal.returns-in_err-apply-in-Ok-clause-ran
returns-in_err-apply-in-Ok-clause-ran g c =
    let signers = g.S.Signer in
    let below : c.args.now < clock_end = search rules in
    let looks = lent c.deref_mut.ensures.shows c.in-Ok.ensures.looks in
    let decided : Reply × Change = (c.in-Ok.reply, c.in-Ok.change) in
    not_carried_out g.C.Store signers.signs signers.identity signers.failure_count c.args.self.now.store c.args.self.now.signer c.args.now c.args.command.now
    _ _ _ decided.0 decided.1 refl looks.looked
    (λ records kept sound clean. may_change records c.args.now c.args.command.now decided c.in_default.not-Crl (looks.found records (kept_until _ kept) sound clean))
    c.apply.ensures.changed.survives.clean c.apply.ensures.idle
    c.from_residual.result c.in_err-apply-in-Ok.field-0.0 c.from_residual.ensures.1 below c.in_err-apply-in-Ok.ensures.changed

pub returns-in_err-apply-in-Ok-clause-stops : goal.returns-in_err-apply-in-Ok-clause-stops
returns-in_err-apply-in-Ok-clause-stops g c = ran_stops g.C.Store g.S.Signer _ _ _ _ _ (λ held trees is_open leaves. g.met.C.Store.settled held.store trees is_open leaves) (returns-in_err-apply-in-Ok-clause-ran g c) refl

pub returns-in_err-apply-in-Ok-clause-runs : goal.returns-in_err-apply-in-Ok-clause-runs
returns-in_err-apply-in-Ok-clause-runs g c = ran_leads g.C.Store g.S.Signer _ _ _ _ _ (λ held trees is_open leaves. g.met.C.Store.settled held.store trees is_open leaves) (returns-in_err-apply-in-Ok-clause-ran g c) refl

pub returns-in_err-apply-in-Ok-clause-counts : goal.returns-in_err-apply-in-Ok-clause-counts
returns-in_err-apply-in-Ok-clause-counts g c failed = ((returns-in_err-apply-in-Ok-clause-ran g c).device failed).1

pub returns-in_ok-apply-in-Ok-clause-ran : goal.returns-in_ok-apply-in-Ok-clause-ran
returns-in_ok-apply-in-Ok-clause-ran g c =
    let signers = g.S.Signer in
    let looks = lent c.deref_mut.ensures.shows c.in-Ok.ensures.looks in
    let decided : Reply × Change = (c.in-Ok.reply, c.in-Ok.change) in
    carried_out g.C.Store signers.signs signers.identity signers.failure_count c.args.self.now.store c.args.self.now.signer c.args.now c.args.command.now
    _ _ _ decided.0 decided.1 refl looks.looked
    (λ records kept sound clean. may_change records c.args.now c.args.command.now decided c.in_default.not-Crl (looks.found records (kept_until _ kept) sound clean))
    c.apply.ensures.changed.survives.clean c.apply.ensures.idle c.in_ok-apply-in-Ok.ensures.ok c.in_ok-apply-in-Ok.ensures.changed

pub returns-in_ok-apply-in-Ok-clause-stops : goal.returns-in_ok-apply-in-Ok-clause-stops
returns-in_ok-apply-in-Ok-clause-stops g c = ran_stops g.C.Store g.S.Signer _ _ _ _ _ (λ held trees is_open leaves. g.met.C.Store.settled held.store trees is_open leaves) (returns-in_ok-apply-in-Ok-clause-ran g c) refl

pub returns-in_ok-apply-in-Ok-clause-runs : goal.returns-in_ok-apply-in-Ok-clause-runs
returns-in_ok-apply-in-Ok-clause-runs g c = ran_leads g.C.Store g.S.Signer _ _ _ _ _ (λ held trees is_open leaves. g.met.C.Store.settled held.store trees is_open leaves) (returns-in_ok-apply-in-Ok-clause-ran g c) refl
