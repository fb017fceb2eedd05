use Rattle.std.proofs.Common.{rules, refl}
use Rattle.reg_der.specs.Issuers.{with_issuer}
use Rattle.reg_store_tables.specs.Shows.{AreRecordsAndDerived}
use Rattle.reg_store_tables.specs.Steps.{WritesRows}
use Rattle.reg_store_tables.proofs.PublicLaws.{changes, commits, keeps, keeps_days, at_rest}
use Rattle.reg_store_changes.specs.AfterStoppedChange.{IsIssuerSet}
use Rattle.reg_store_changes.specs.ChangeSteps.{ReplacesIssuer}
use Rattle.reg_store_changes.proofs.Making.{issuer_not_set, same_days}
use Rattle.reg_store_changes.proofs.Stages.{kept_issuer}
use Rattle.reg_store_changes.proofs.issuer_change.set_issuer.Goals as goal

pub returns : goal.returns
returns g c =
    let old = c.args.conn.now in
    let issuer = c.args.issuer.now in
    let done =
    commits g.S.Store old _ _ _ c.transaction-tx.ensures.begun c.set_name.ensures.stepped (λ old new. ReplacesIssuer issuer old new × WritesRows old new) c.in_ok-set_name.ensures.made _ c.commit.result c.commit.ensures (search rules) in
    record {
      ok = λ records kept key.
          keeps done records (with_issuer records issuer) kept.0 kept.0 kept.0 kept.1 (λ clean before after both on. on.0 records kept.0 (key clean) both) (λ clean. refl)
          (kept_issuer kept.0 records issuer kept.2);
      days = λ records kept key.
          keeps_days done (λ db. AreRecordsAndDerived db records kept.0) kept.1 (λ clean before after both on.
          same_days before after records (with_issuer records issuer) kept.0 kept.0 both (on.0 records kept.0 key both) refl);
      changed = changes done (IsIssuerSet g.S.Store old issuer) (λ clean up after trees is on records kept key.
          let both = kept.1.tables clean up in
          at_rest after trees (with_issuer records issuer) kept.0 is (on.0 records kept.0 key both) (on.1.obeys both.shown.schema) (kept_issuer kept.0 records issuer kept.2));
      err = done.stays;
      idle = λ was. search rules;
    }

pub returns-in_err-set_name : goal.returns-in_err-set_name
returns-in_err-set_name g c = issuer_not_set _ c.from_residual.ensures.0 (search rules) (search rules) (search rules)
