use Rattle.std.proofs.Common.{◌≡◌, true, sym, ◌∙◌, rules}
use Rattle.reg_store_changes.proofs.PublicLaws.{is_under_way, looked_step}
use Rattle.reg_store_tables.proofs.PublicLaws.{by_finding}
use Rattle.reg_office_reads.proofs.PublicLaws.{lent}
use Rattle.reg_office.proofs.Replaying.{leads_as, looked_leads}
use Rattle.reg_office.proofs.office.Office.reached_from.Goals as goal

pub returns : goal.returns
returns g c =
    let s = g.C.Store in
    let identity = g.S.Signer.identity c.args.self.now.signer in
    let looks = lent c.deref_mut.ensures.shows (by_finding c.in_ok-at.ensures) in
    let under : c.last.new.self.in_transaction ≡ true = is_under_way _ (sym c.is_idle.ensures ∙ c.if-is_idle.false) in
    record {
      made = (
        c.none_replayed.ensures,
        leads_as s g.S.Signer.signs identity c.args.self.now.store c.last.new.self (looked_leads s g.S.Signer.signs identity c.args.self.now.store c.last.new.self looks under) (λ before after it. it.0),
      );
      stepped = looked_step looks.looked;
      untouched = search rules;
    }

pub returns-then-is_idle-clause-stepped : goal.returns-then-is_idle-clause-stepped
returns-then-is_idle-clause-stepped g c = looked_step (lent c.deref_mut.ensures.shows (by_finding c.in_ok-at.ensures)).looked

pub returns-in_err-at-clause-stepped : goal.returns-in_err-at-clause-stepped
returns-in_err-at-clause-stepped g c = looked_step (lent c.deref_mut.ensures.shows (by_finding c.last.ensures)).looked
