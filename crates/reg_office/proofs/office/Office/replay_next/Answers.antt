use Rattle.reg_core_lists.specs.Feed.{feed_rows_of}
use Rattle.reg_office.proofs.ReplayedRows.{row_advances}
use Rattle.reg_office.proofs.Replaying.{leads_as, ok_leads}
use Rattle.reg_office.proofs.office.Office.replay_next.Goals as goal

pub returns-in_ok-replay_row-in-Some-clause-made : goal.returns-in_ok-replay_row-in-Some-clause-made
returns-in_ok-replay_row-in-Some-clause-made g c forms =
    let identity = g.S.Signer.identity c.args.self.now.signer in
    leads_as g.C.Store g.S.Signer.signs identity c.args.self.now.store c.replay_row.new.self.store c.in_ok-replay_row-in-Some.ensures.made
    (λ before after enters. row_advances (feed_rows_of c.args.rows.now) c.args.pages.now c.args.reached.now.done c.in-Some.done c.moment-at.result c.in-Some.row c.in-Some.ensures before after enters)

pub returns-in-None-clause-made : goal.returns-in-None-clause-made
returns-in-None-clause-made g c forms = ok_leads c.replay_page.result (c.replay_page.ensures.made forms) (λ given leads. leads (feed_rows_of c.args.rows.now))
