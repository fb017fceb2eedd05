use Rattle.std.proofs.Common.{length, refl}
use Rattle.std.proofs.lemmas.Option.{slice_get_read}
use Rattle.reg_office.proofs.ReplayedRows.{page_crl_advances}
use Rattle.reg_office.proofs.Replaying.{leads_as}
use Rattle.reg_office.proofs.office.Office.replay_page.Goals as goal

pub returns-clause-made : goal.returns-clause-made
returns-clause-made g c forms rows =
    let identity = g.S.Signer.identity c.args.self.now.signer in
    let pages = c.args.pages.now in
    let done = c.args.reached.now.done in
    let page = c.in-Some.page.now in
    let found = slice_get_read pages (length pages) done.pages page refl c.in-Some.ensures.lookup.3.0 c.in-Some.ensures.lookup.1 in
    leads_as g.C.Store g.S.Signer.signs identity c.args.self.now.store c.replay_crl_of.new.self.store (c.in_ok-at.ensures.made forms)
    (λ before after enters. page_crl_advances rows pages done page found before after enters)
