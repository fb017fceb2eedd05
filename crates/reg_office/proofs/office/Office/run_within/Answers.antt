use Rattle.std.proofs.Common.{◌≡◌, ◌<◌, true, sym, ◌∙◌, rules}
use Rattle.reg_core.specs.Calendar.{clock_end}
use Rattle.reg_core.specs.declared.change.Change.{Change}
use Rattle.reg_core.specs.declared.command.Reply.{Reply}
use Rattle.reg_crl.specs.Signing.{signed_by}
use Rattle.reg_store_changes.proofs.PublicLaws.{is_under_way, looked_step, steps_then}
use Rattle.reg_office_reads.specs.Looking.{IsAcceptance}
use Rattle.reg_office.proofs.Batching.{accepted_within, failed_within}
use Rattle.reg_office.proofs.CommandsRun.{fault_happens, may_change}
use Rattle.reg_office_reads.proofs.PublicLaws.{lent}
use Rattle.reg_office.proofs.office.Office.run_within.Goals as goal

pub returns-in-Ok-enter : goal.returns-in-Ok-enter
returns-in-Ok-enter g c =
    let signs = g.S.Signer.signs in
    let identity = g.S.Signer.identity c.args.self.now.signer in
    let looks = lent c.deref_mut.ensures.shows c.in-Ok.ensures.looks in
    let decided : Reply × Change = (c.in-Ok.reply, c.in-Ok.change) in
    record {
      ran = accepted_within g.C.Store signs identity c.args.self.now.store c.decide.new.tables c.enter.new.self c.args.now c.args.command.now decided.0 decided.1
          looks.looked c.in-Ok-enter.ensures.under_way c.enter.ensures.stepped c.in-Ok-enter.ensures.made
          (λ records shows sound clean. may_change records c.args.now c.args.command.now decided c.in_default.not-Crl (looks.found records shows sound clean));
      stepped = steps_then (looked_step looks.looked) c.enter.ensures.stepped;
      untouched = search rules;
      faults = search rules;
    }

pub returns-in-Err-enter : goal.returns-in-Err-enter
returns-in-Err-enter g c =
    let looks = lent c.deref_mut.ensures.shows c.in-Ok.ensures.looks in
    record { ran = search rules; stepped = steps_then (looked_step looks.looked) c.enter.ensures.stepped; untouched = search rules; faults = search rules }

pub returns-else-is_idle : goal.returns-else-is_idle
returns-else-is_idle g c =
    let signs = g.S.Signer.signs in
    let identity = g.S.Signer.identity c.args.self.now.signer in
    let below : c.args.now < clock_end = search rules in
    let fault = c.in-Err.fault in
    let decides = c.in-Err.ensures in
    let looks = lent c.deref_mut.ensures.shows decides.looks in
    let under : c.decide.new.tables.in_transaction ≡ true = is_under_way _ (sym c.is_idle.ensures ∙ c.if-is_idle.false) in
    record {
      ran = failed_within g.C.Store signs identity c.args.self.now.store c.decide.new.tables c.args.now c.args.command.now fault looks.looked under
          (λ records shows sound clean.
          fault_happens (IsAcceptance c.args.now c.args.command.now records) (signed_by signs identity) records c.args.now c.args.command.now fault below decides.faults (looks.found records shows sound clean));
      stepped = looked_step looks.looked;
      untouched = search rules;
      faults = search rules;
    }
