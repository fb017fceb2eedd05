use Rattle.std.proofs.Common.{Err, Ok, ap}
use Rattle.reg_store_changes.proofs.PublicLaws.{ends_idle}
use Rattle.reg_office.specs.Calls.{seen}
use Rattle.reg_office.proofs.FollowStops.{pages_committed, pages_stopped, pages_unbegun, pages_uncommitted}
use Rattle.reg_office.proofs.Leading.{same_signers}
use Rattle.reg_office.proofs.office.Office.follow_news.Goals as goal

pub returns-in-Err-clause-stops : goal.returns-in-Err-clause-stops
returns-in-Err-clause-stops g c forms last =
    pages_unbegun g.C.Store g.S.Signer.signs (seen g.S.Signer c.args.self.now).1 (λ held trees is_open leaves. g.met.C.Store.settled held.store trees is_open leaves)
    c.args.pages.now c.args.page.now.positions c.args.self.now.store c.begin.new.self c.in-Err.fault c.follow_fault.result c.in-Err.ensures

pub returns-in-Ok-end-clause-stops : goal.returns-in-Ok-end-clause-stops
returns-in-Ok-end-clause-stops g c forms last =
    let untouched = c.follow_within.ensures.untouched in
    pages_committed g.C.Store g.S.Signer.signs (seen g.S.Signer c.args.self.now).1 _ (same_signers g.S.Signer.identity _ _ _ _ (ap g.S.Signer.identity untouched.0) untouched.1)
    (λ held trees is_open leaves. g.met.C.Store.settled held.store trees is_open leaves) c.args.pages.now c.args.page.now.positions
    c.args.self.now.store c.begin.new.self c.follow_within.new.self.store c.end.new.self c.in-Ok.ensures c.follow_within.ensures.stepped
    (c.in-Ok-follow_within.ensures.made forms last) c.in-Ok-end.ensures

pub returns-in-Err-end-clause-stops : goal.returns-in-Err-end-clause-stops
returns-in-Err-end-clause-stops g c forms last =
    let untouched = c.follow_within.ensures.untouched in
    pages_uncommitted g.C.Store g.S.Signer.signs (seen g.S.Signer c.args.self.now).1 _ (same_signers g.S.Signer.identity _ _ _ _ (ap g.S.Signer.identity untouched.0) untouched.1)
    (λ held trees is_open leaves. g.met.C.Store.settled held.store trees is_open leaves) c.args.pages.now c.args.page.now.positions
    c.args.self.now.store c.begin.new.self c.follow_within.new.self.store c.end.new.self c.in-Ok.ensures c.follow_within.ensures.stepped
    c.in-Err-end.fault c.follow_fault-in-Err-end.result (c.in-Ok-follow_within.ensures.made forms last) c.in-Err-end.ensures

pub returns-in-Err-follow_within-clause-stops : goal.returns-in-Err-follow_within-clause-stops
returns-in-Err-follow_within-clause-stops g c forms last =
    let untouched = c.follow_within.ensures.untouched in
    pages_stopped g.C.Store g.S.Signer.signs (seen g.S.Signer c.args.self.now).1 _ (same_signers g.S.Signer.identity _ _ _ _ (ap g.S.Signer.identity untouched.0) untouched.1)
    (λ held trees is_open leaves. g.met.C.Store.settled held.store trees is_open leaves) c.args.pages.now c.args.page.now.positions
    c.args.self.now.store c.begin.new.self c.follow_within.new.self.store c.end-in-Err-follow_within.new.self c.in-Ok.ensures c.follow_within.ensures.stepped
    _ c.end-in-Err-follow_within.result c.follow_fault-in-Err-follow_within.result c.end-in-Err-follow_within.ensures

pub returns-in-Err-clause-idle : goal.returns-in-Err-clause-idle
returns-in-Err-clause-idle g c = c.in-Err.ensures.idle

pub returns-in-Ok-end-clause-idle : goal.returns-in-Ok-end-clause-idle
returns-in-Ok-end-clause-idle g c clean was = ends_idle g.C.Store _ c.end.new.self (Ok tt) (Ok tt) c.in-Ok-end.ensures clean

pub returns-in-Err-end-clause-idle : goal.returns-in-Err-end-clause-idle
returns-in-Err-end-clause-idle g c clean was = ends_idle g.C.Store _ c.end.new.self (Ok tt) (Err c.in-Err-end.fault) c.in-Err-end.ensures clean

pub returns-in-Err-follow_within-clause-idle : goal.returns-in-Err-follow_within-clause-idle
returns-in-Err-follow_within-clause-idle g c clean was =
    ends_idle g.C.Store _ c.end-in-Err-follow_within.new.self (Err _) c.end-in-Err-follow_within.result c.end-in-Err-follow_within.ensures clean
