use Rattle.std.specs.Prelude.{Result}
use Rattle.std.proofs.Common.{◌≡◌, ◌≤◌, ◌+◌, List, length, take, vec_len}
use Rattle.std.specs.Vec.{vec_capacity}
use Rattle.reg_core.specs.declared.command.Reply.{Reply}
use Rattle.reg_core.specs.declared.refusal.Fault.{Fault}
use Rattle.reg_office.specs.Batches.{RunsWithin}
use Rattle.reg_office.specs.Calls.{SignsNothing}
use Rattle.reg_store_changes.specs.WithinTransactions.{StepsWithin}
use Rattle.reg_office.proofs.office.Office.run_each.Given as goal

abbrev pub invariant-loop-now : goal.invariant-loop-now
invariant-loop-now g l = record {
  untouched : SignsNothing l.fn.self l.self;
  stepped : StepsWithin g.C.Store l.fn.self.store l.self.store;
  ran : RunsWithin g.C.Store g.S.Signer.signs (g.S.Signer.identity l.fn.self.signer) l.fn.self.store l.self.store (take l.now-index l.commands) l.outcomes.items;
}
