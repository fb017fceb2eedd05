use Rattle.std.proofs.Common.{◌≡◌, [], ◌∷◌, ◌++◌, List, Ok, Err, refl, ap, ◌∙◌}
use Rattle.reg_core_lists.specs.declared.feed_reader.ReceivedPage.{ReceivedPage}
use Rattle.reg_store_tables.proofs.PublicLaws.{looked_none}
use Rattle.reg_office.specs.Calls.{OfficeLooks}
use Rattle.reg_office.proofs.FollowCalls.{entered_stops, error_stops, looks_as, stays_stops, step_of}
use Rattle.reg_office.proofs.office.OfficeOffice.follow.Goals as goal

pub returns-then-news-clause-stops : goal.returns-then-news-clause-stops
returns-then-news-clause-stops g c forms =
    entered_stops g.C.Store g.S.Signer c.args.from.now c.args.pages.now c.follow_news.result c.args.self.now c.have_news.new.self c.follow_news.new.self
    c.have_news.ensures (c.follow_news.ensures.stops forms (c.in-Some.earlier.now, c.in-Some.ensures.cases.0))

pub returns-then-news-clause-follows : goal.returns-then-news-clause-follows
returns-then-news-clause-follows g c forms =
    step_of g.C.Store g.S.Signer c.args.from.now c.args.pages.now c.follow_news.result c.args.self.now c.follow_news.new.self (returns-then-news-clause-stops g c forms)

pub returns-clause-stops : goal.returns-clause-stops
returns-clause-stops g c forms =
    let page = c.in-Some.page.now in
    -- a page without news comes alone
    let alone : c.in-Some.earlier.now ≡ [] → c.args.pages.now ≡ page ∷ [] = λ none. c.in-Some.ensures.cases.0 ∙ ap (λ (earlier : List ReceivedPage). earlier ++ page ∷ []) none in
    stays_stops g.C.Store g.S.Signer c.args.from.now c.args.pages.now c.args.self.now c.have_news.new.self page c.in-Some.earlier.now alone
    (looks_as g.C.Store g.S.Signer c.args.self.now c.have_news.new.self c.in_ok-news.ensures (λ records it. it c.if-news.false))

pub returns-clause-follows : goal.returns-clause-follows
returns-clause-follows g c forms =
    step_of g.C.Store g.S.Signer c.args.from.now c.args.pages.now (Ok c.args.from.now) c.args.self.now c.have_news.new.self (returns-clause-stops g c forms)

pub returns-in_err-news-clause-stops : goal.returns-in_err-news-clause-stops
returns-in_err-news-clause-stops g c forms =
    error_stops g.C.Store g.S.Signer c.args.from.now c.args.pages.now c.from_residual.result c.args.self.now c.have_news.new.self c.from_residual.ensures.0 c.have_news.ensures

pub returns-in_err-news-clause-follows : goal.returns-in_err-news-clause-follows
returns-in_err-news-clause-follows g c forms =
    step_of g.C.Store g.S.Signer c.args.from.now c.args.pages.now c.from_residual.result c.args.self.now c.have_news.new.self (returns-in_err-news-clause-stops g c forms)

pub returns-in_default-clause-stops : goal.returns-in_default-clause-stops
returns-in_default-clause-stops g c forms =
    let looks : OfficeLooks g.C.Store g.S.Signer (λ records. Unit {0}) c.args.self.now c.args.self.now = record { looked = looked_none; same = refl; found = λ records stands clean. tt } in
    error_stops g.C.Store g.S.Signer c.args.from.now c.args.pages.now (Err c.no_page.result) c.args.self.now c.args.self.now refl looks

pub returns-in_default-clause-follows : goal.returns-in_default-clause-follows
returns-in_default-clause-follows g c forms =
    step_of g.C.Store g.S.Signer c.args.from.now c.args.pages.now (Err c.no_page.result) c.args.self.now c.args.self.now (returns-in_default-clause-stops g c forms)

pub returns-then-news-clause-idle : goal.returns-then-news-clause-idle
returns-then-news-clause-idle g c clean was = c.follow_news.ensures.idle clean (c.have_news.ensures.looked.idle was)
