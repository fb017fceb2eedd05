use Rattle.std.proofs.Common.{rules}
use Rattle.reg_core.specs.declared.change.Change.{Change}
use Rattle.reg_core.specs.declared.command.Reply.{Reply}
use Rattle.reg_store_changes.proofs.PublicLaws.{looked_step, steps_then}
use Rattle.reg_office_reads.proofs.PublicLaws.{lent}
use Rattle.reg_office.proofs.Replaying.{row_leads}
use Rattle.reg_office.proofs.office.Office.enter_row.Goals as goal

pub returns-in-Ok-enter : goal.returns-in-Ok-enter
returns-in-Ok-enter g c =
    let identity = g.S.Signer.identity c.args.self.now.signer in
    let looks = lent c.deref_mut.ensures.shows c.in-Ok.ensures.looks in
    let decided : Reply × Change = (c.in-Ok._reply, c.in-Ok.change) in
    record {
      made = row_leads g.C.Store g.S.Signer.signs identity c.args.self.now.store c.decide.new.tables c.enter.new.self c.args.at c.command-command.result decided c.args.row.now
          looks c.in-Ok-enter.ensures.under_way c.enter.ensures.stepped c.in-Ok-enter.ensures.made c.command-command.ensures.no_crl (c.is_entered_by.ensures c.if-not-is_entered_by.false);
      stepped = steps_then (looked_step looks.looked) c.enter.ensures.stepped;
      untouched = search rules;
    }

pub returns-in-Err-enter : goal.returns-in-Err-enter
returns-in-Err-enter g c =
    let looks = lent c.deref_mut.ensures.shows c.in-Ok.ensures.looks in
    record { made = search rules; stepped = steps_then (looked_step looks.looked) c.enter.ensures.stepped; untouched = search rules }

pub returns-then-not-is_entered_by : goal.returns-then-not-is_entered_by
returns-then-not-is_entered_by g c =
    let looks = lent c.deref_mut.ensures.shows c.in-Ok.ensures.looks in
    record { made = search rules; stepped = looked_step looks.looked; untouched = search rules }

pub returns-in-Err : goal.returns-in-Err
returns-in-Err g c =
    let looks = lent c.deref_mut.ensures.shows c.in-Err.ensures.looks in
    record { made = search rules; stepped = looked_step looks.looked; untouched = search rules }
