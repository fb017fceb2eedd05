use Rattle.std.proofs.Common.{Err, Ok, ap}
use Rattle.reg_store_changes.proofs.PublicLaws.{ends_idle}
use Rattle.reg_office.specs.Calls.{seen}
use Rattle.reg_office.proofs.BatchStops.{batch_committed, batch_steps, batch_stopped, batch_unbegun, batch_uncommitted, stops_of_store}
use Rattle.reg_office_reads.proofs.PublicLaws.{answer_of_fault}
use Rattle.reg_office.proofs.Leading.{same_signers}
use Rattle.reg_office.proofs.office.OfficeOffice.run_batch.Goals as goal

pub returns-in-Err-clause-stops : goal.returns-in-Err-clause-stops
returns-in-Err-clause-stops g c =
    batch_unbegun g.C.Store g.S.Signer.signs (seen g.S.Signer c.args.self.now).1 (λ held trees is_open leaves. g.met.C.Store.settled held.store trees is_open leaves)
    c.args.commands.now c.args.self.now.store c.begin.new.self c.in-Err.fault c.from.result
    (stops_of_store _ (answer_of_fault c.in-Err.fault c.from.result c.from.ensures)) c.in-Err.ensures

pub returns-in-Err-clause-runs : goal.returns-in-Err-clause-runs
returns-in-Err-clause-runs g c = batch_steps g.C.Store g.S.Signer.signs c.args.commands.now (Err c.from.result) _ _ (returns-in-Err-clause-stops g c)

pub returns-in-Ok-end-clause-stops : goal.returns-in-Ok-end-clause-stops
returns-in-Ok-end-clause-stops g c =
    let untouched = c.run_each.ensures.untouched in
    batch_committed g.C.Store g.S.Signer.signs (seen g.S.Signer c.args.self.now).1 _ (same_signers g.S.Signer.identity _ _ _ _ (ap g.S.Signer.identity untouched.0) untouched.1)
    (λ held trees is_open leaves. g.met.C.Store.settled held.store trees is_open leaves) c.args.commands.now
    c.args.self.now.store c.begin.new.self c.run_each.new.self.store c.end.new.self c.in-Ok.ensures c.run_each.ensures.stepped c.in-Ok-run_each.outcomes
    c.in-Ok-run_each.ensures.ran c.in-Ok-end.ensures

pub returns-in-Ok-end-clause-runs : goal.returns-in-Ok-end-clause-runs
returns-in-Ok-end-clause-runs g c = batch_steps g.C.Store g.S.Signer.signs c.args.commands.now (Ok c.in-Ok-run_each.outcomes) _ _ (returns-in-Ok-end-clause-stops g c)

pub returns-in-Err-end-clause-stops : goal.returns-in-Err-end-clause-stops
returns-in-Err-end-clause-stops g c =
    let untouched = c.run_each.ensures.untouched in
    batch_uncommitted g.C.Store g.S.Signer.signs (seen g.S.Signer c.args.self.now).1 _ (same_signers g.S.Signer.identity _ _ _ _ (ap g.S.Signer.identity untouched.0) untouched.1)
    (λ held trees is_open leaves. g.met.C.Store.settled held.store trees is_open leaves) c.args.commands.now
    c.args.self.now.store c.begin.new.self c.run_each.new.self.store c.end.new.self c.in-Ok.ensures c.run_each.ensures.stepped c.in-Ok-run_each.outcomes.items
    c.in-Err-end.fault c.from-in-Err-end.result (stops_of_store _ (answer_of_fault c.in-Err-end.fault c.from-in-Err-end.result c.from-in-Err-end.ensures))
    c.in-Ok-run_each.ensures.ran c.in-Err-end.ensures

pub returns-in-Err-end-clause-runs : goal.returns-in-Err-end-clause-runs
returns-in-Err-end-clause-runs g c = batch_steps g.C.Store g.S.Signer.signs c.args.commands.now (Err c.from-in-Err-end.result) _ _ (returns-in-Err-end-clause-stops g c)

pub returns-in-Err-run_each-clause-stops : goal.returns-in-Err-run_each-clause-stops
returns-in-Err-run_each-clause-stops g c =
    let untouched = c.run_each.ensures.untouched in
    batch_stopped g.C.Store g.S.Signer.signs (seen g.S.Signer c.args.self.now).1 _ (same_signers g.S.Signer.identity _ _ _ _ (ap g.S.Signer.identity untouched.0) untouched.1)
    (λ held trees is_open leaves. g.met.C.Store.settled held.store trees is_open leaves) c.args.commands.now
    c.args.self.now.store c.begin.new.self c.run_each.new.self.store c.end-in-Err-run_each.new.self c.in-Ok.ensures c.run_each.ensures.stepped _ c.end-in-Err-run_each.result
    c.in-Err-run_each.fault c.in-Err-run_each.ensures.faults c.end-in-Err-run_each.ensures

pub returns-in-Err-run_each-clause-runs : goal.returns-in-Err-run_each-clause-runs
returns-in-Err-run_each-clause-runs g c = batch_steps g.C.Store g.S.Signer.signs c.args.commands.now (Err c.in-Err-run_each.fault) _ _ (returns-in-Err-run_each-clause-stops g c)

pub returns-in-Err-clause-idle : goal.returns-in-Err-clause-idle
returns-in-Err-clause-idle g c = c.in-Err.ensures.idle

pub returns-in-Ok-end-clause-idle : goal.returns-in-Ok-end-clause-idle
returns-in-Ok-end-clause-idle g c clean was = ends_idle g.C.Store _ c.end.new.self (Ok tt) (Ok tt) c.in-Ok-end.ensures clean

pub returns-in-Err-end-clause-idle : goal.returns-in-Err-end-clause-idle
returns-in-Err-end-clause-idle g c clean was = ends_idle g.C.Store _ c.end.new.self (Ok tt) (Err c.in-Err-end.fault) c.in-Err-end.ensures clean

pub returns-in-Err-run_each-clause-idle : goal.returns-in-Err-run_each-clause-idle
returns-in-Err-run_each-clause-idle g c clean was =
    ends_idle g.C.Store _ c.end-in-Err-run_each.new.self (Err _) c.end-in-Err-run_each.result c.end-in-Err-run_each.ensures clean
