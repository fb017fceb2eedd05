use Rattle.std.proofs.Common.{inl}
use Rattle.reg_office.proofs.ReplayedRows.{no_decline}
use Rattle.reg_office.proofs.Replaying.{leads_as, ok_leads}
use Rattle.reg_office.proofs.office.Office.replay_row.Goals as goal

pub returns-in_default-clause-made : goal.returns-in_default-clause-made
returns-in_default-clause-made g c =
    let identity = g.S.Signer.identity c.args.self.now.signer in
    ok_leads c.enter_row.result c.enter_row.ensures.made (λ given entered.
    leads_as g.C.Store g.S.Signer.signs identity c.args.self.now.store c.enter_row.new.self.store entered
    (λ before after is. (no_decline c.args.row.now before c.in_default.not-Declined, inl is)))
