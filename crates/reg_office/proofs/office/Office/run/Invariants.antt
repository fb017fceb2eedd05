use Rattle.std.specs.Prelude.{Result}
use Rattle.std.proofs.Common.{◌≡◌, ◌≤◌, ◌+◌, List, ◌++◌, length, take, vec_len}
use Rattle.std.specs.Vec.{vec_capacity}
use Rattle.reg_core.specs.declared.command.Reply.{Reply}
use Rattle.reg_core.specs.declared.refusal.Fault.{Fault}
use Rattle.reg_store_changes.specs.WithinTransactions.{StaysIdle}
use Rattle.reg_office.specs.AfterStoppedCommand.{AreRunByOne}
use Rattle.reg_office.proofs.office.Office.run.Given as goal

abbrev pub invariant-loop-now : goal.invariant-loop-now
invariant-loop-now g l = record {
  room : vec_len l.outcomes + length l.commands ≤ vec_capacity l.outcomes + l.now-index;
  same_identity : g.S.Signer.identity l.self.signer ≡ g.S.Signer.identity l.fn.self.signer;
  same_responder : l.self.responder ≡ l.fn.self.responder;
  idle : StaysIdle g.C.Store l.fn.self.store l.self.store;
  came : (came : List (Result Reply Fault)) × (l.outcomes.items ≡ l.fn.outcomes.items ++ came)
      × AreRunByOne g.C.Store g.S.Signer.signs (g.S.Signer.identity l.fn.self.signer) l.fn.self.store (take l.now-index l.commands) came l.self.store;
}
