use Rattle.std.proofs.Common.{◌≡◌, true, map, IsTrue, refl, sym, subst, ◌∙◌, rules}
use Rattle.std.specs.Prelude.{IsSome}
use Rattle.reg_core.specs.Changes.{declined_if}
use Rattle.reg_core.specs.Records.{Records, request_in}
use Rattle.reg_store_tables.specs.LookUps.{LooksUp}
use Rattle.reg_store_changes.proofs.PublicLaws.{is_under_way, looked_step}
use Rattle.reg_store_tables.proofs.PublicLaws.{by_finding, so}
use Rattle.reg_office.proofs.DeclinedTwice.{declined_again, three_of}
use Rattle.reg_office_reads.proofs.PublicLaws.{lent}
use Rattle.reg_office.proofs.Replaying.{leads_as, looked_leads}
use Rattle.reg_office.proofs.office.Office.is_declined.Goals as goal

pub returns-in-Some : goal.returns-in-Some
returns-in-Some g c =
    let identity = g.S.Signer.identity c.args.self.now.signer in
    let looks = lent c.deref_mut.ensures.shows (by_finding c.in_ok-found.ensures) in
    let under : c.request.new.self.in_transaction ≡ true = is_under_way _ (sym c.is_idle.ensures ∙ c.if-is_idle.false) in
    let IsThere : Records → Type 0 =
    λ records. IsSome (request_in records.requests c.args.id) × (IsTrue c.in-Some.request.declined → map (declined_if c.args.id) records.requests ≡ records.requests) in
    let found : LooksUp g.C.Store c.args.self.now.store c.request.new.self IsThere =
    so looks (λ records sound it. (
      subst IsSome (sym (sym it ∙ c.in-Some.is)) refl,
      (λ is. declined_again records c.args.id c.in-Some.request sound (sym it ∙ c.in-Some.is) is),
    )) in
    record {
      made = leads_as g.C.Store g.S.Signer.signs identity c.args.self.now.store c.request.new.self
          (looked_leads g.C.Store g.S.Signer.signs identity c.args.self.now.store c.request.new.self found under) (λ before after it. three_of it);
      stepped = looked_step looks.looked;
      untouched = search rules;
    }

pub returns-in-None : goal.returns-in-None
returns-in-None g c =
    record { made = search rules; stepped = looked_step (lent c.deref_mut.ensures.shows (by_finding c.in_ok-found.ensures)).looked; untouched = search rules }

pub returns-then-is_idle : goal.returns-then-is_idle
returns-then-is_idle g c =
    record { made = search rules; stepped = looked_step (lent c.deref_mut.ensures.shows (by_finding c.in_ok-found.ensures)).looked; untouched = search rules }

pub returns-in_err-found : goal.returns-in_err-found
returns-in_err-found g c =
    record { made = search rules; stepped = looked_step (lent c.deref_mut.ensures.shows (by_finding c.request.ensures)).looked; untouched = search rules }
