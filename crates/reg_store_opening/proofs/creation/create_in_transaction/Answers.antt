use Rattle.std.proofs.Common.{rules}
use Rattle.reg_store_tables.specs.Schema.{no_schema}
use Rattle.reg_store_tables.proofs.PublicLaws.{commits}
use Rattle.reg_store_opening.specs.Blank.{CreatesRegister}
use Rattle.reg_store_opening.proofs.creation.create_in_transaction.Goals as goal

pub returns-clause-commits : goal.returns-clause-commits
returns-clause-commits g c =
    commits g.S.Store c.args.conn.now _ _ _ c.transaction-tx.ensures.begun c.make_register.ensures.stepped (CreatesRegister no_schema c.args.issuer.now c.args.policy.now) c.in_ok-make_register.ensures.made _ c.commit.result c.commit.ensures
    (search rules)
