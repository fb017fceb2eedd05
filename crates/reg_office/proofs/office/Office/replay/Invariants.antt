use Rattle.reg_core_lists.specs.Feed.{feed_rows_of}
use Rattle.reg_office_api.specs.Follows.{FormsSign}
use Rattle.reg_office.specs.Calls.{SignsNothing}
use Rattle.reg_office.specs.Replays.{HasReplayed, LeadsWithin}
use Rattle.reg_store_changes.specs.WithinTransactions.{StepsWithin}
use Rattle.reg_office.proofs.office.Office.replay.Given as goal

abbrev pub invariant-loop : goal.invariant-loop
invariant-loop g l = record {
  untouched : SignsNothing l.fn.self l.self;
  stepped : StepsWithin g.C.Store l.fn.self.store l.self.store;
  advanced : FormsSign g.S.Signer.signs g.S.Signer.forms → LeadsWithin g.C.Store g.S.Signer.signs (g.S.Signer.identity l.fn.self.signer) l.fn.self.store l.self.store (HasReplayed (feed_rows_of l.rows) l.pages l.reached.done);
}
