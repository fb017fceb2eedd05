use Rattle.std.proofs.Common.{◌≡◌, true, sym, ◌∙◌, rules}
use Rattle.reg_core.specs.Records.{Records}
use Rattle.reg_core_lists.specs.Feed.{IsInHistory}
use Rattle.reg_der.specs.Authority.{name_of}
use Rattle.reg_store_tables.specs.LookUps.{LooksUp}
use Rattle.reg_store_changes.proofs.PublicLaws.{is_under_way, looked_step}
use Rattle.reg_store_tables.proofs.PublicLaws.{so}
use Rattle.reg_office_reads.proofs.PublicLaws.{lent}
use Rattle.reg_office.proofs.Replaying.{looked_leads}
use Rattle.reg_office.proofs.office.Office.check_positions.Goals as goal

pub returns-then-has_digest : goal.returns-then-has_digest
returns-then-has_digest g c =
    let s = g.C.Store in
    let identity = g.S.Signer.identity c.args.self.now.signer in
    let looks = lent c.deref_mut.ensures.shows c.in_ok-digest.ensures in
    let under : c.digest_now.new.tables.in_transaction ≡ true = is_under_way _ (sym c.is_idle.ensures ∙ c.if-is_idle.false) in
    let IsSo : Records → Type 0 = λ records. IsInHistory (name_of records.issuer) records c.args.page.now.positions in
    let in_history : LooksUp s c.args.self.now.store c.digest_now.new.tables IsSo = so looks (λ records sound is. c.has_digest.ensures.0 c.if-has_digest.true ∙ is) in
    record {
      made = looked_leads s g.S.Signer.signs identity c.args.self.now.store c.digest_now.new.tables in_history under;
      stepped = looked_step looks.looked;
      untouched = search rules;
    }

pub returns-else-has_digest-clause-stepped : goal.returns-else-has_digest-clause-stepped
returns-else-has_digest-clause-stepped g c = looked_step (lent c.deref_mut.ensures.shows c.in_ok-digest.ensures).looked

pub returns-then-is_idle-clause-stepped : goal.returns-then-is_idle-clause-stepped
returns-then-is_idle-clause-stepped g c = looked_step (lent c.deref_mut.ensures.shows c.in_ok-digest.ensures).looked

pub returns-in_err-digest-clause-stepped : goal.returns-in_err-digest-clause-stepped
returns-in_err-digest-clause-stepped g c = looked_step (lent c.deref_mut.ensures.shows c.digest_now.ensures).looked
