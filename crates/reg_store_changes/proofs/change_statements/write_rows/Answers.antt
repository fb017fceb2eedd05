use Rattle.std.proofs.Common.{sym, subst, ◌∙◌}
use Rattle.sqlite.specs.Held.{state}
use Rattle.reg_core.specs.declared.change.Change.{Change}
use Rattle.reg_core_laws.proofs.PublicLaws.{next_is}
use Rattle.reg_store_tables.proofs.PublicLaws.{moves_in_place}
use Rattle.reg_store_changes.specs.ChangeSteps.{Puts}
use Rattle.reg_store_changes.proofs.Making.{puts}
use Rattle.reg_store_changes.proofs.change_statements.write_rows.Goals as goal

pub returns-in-Touch-clause-made : goal.returns-in-Touch-clause-made
returns-in-Touch-clause-made g c under within clean =
    let db = (state g.S.Store c.args.conn.now).now in
    moves_in_place under (subst (λ (change : Change). Puts change db db) (sym c.in-Touch.is) (record { turns = λ records columns now sound fits both. both; one = λ records columns both. tt }))

pub returns-in-Subscriber-clause-made : goal.returns-in-Subscriber-clause-made
returns-in-Subscriber-clause-made g c under within clean =
    puts _ _ _ c.put_subscriber.result c.in-Subscriber.is (c.put_subscriber.ensures.made within clean) (λ turned. record { turns = λ records columns now sound fits. turned records columns fits; one = λ records columns both. tt })

pub returns-in-Order-clause-made : goal.returns-in-Order-clause-made
returns-in-Order-clause-made g c under within clean =
    puts _ _ _ c.put_order.result c.in-Order.is (c.put_order.ensures.made within clean) (λ turned. record { turns = λ records columns now sound fits. turned records columns fits; one = λ records columns both. tt })

pub returns-in-Request-clause-made : goal.returns-in-Request-clause-made
returns-in-Request-clause-made g c under within clean =
    puts _ _ _ c.put_request.result c.in-Request.is (c.put_request.ensures.made within clean) (λ turned. record { turns = λ records columns now sound fits. turned records columns fits; one = λ records columns both. tt })

pub returns-in-Certificate-clause-made : goal.returns-in-Certificate-clause-made
returns-in-Certificate-clause-made g c under within clean =
    puts _ _ _ c.register.result c.in-Certificate.is (c.register.ensures.made within clean) (λ turned. record { turns = λ records columns now sound fits. turned records columns; one = λ records columns both. tt })

pub returns-in-Decline-clause-made : goal.returns-in-Decline-clause-made
returns-in-Decline-clause-made g c under within clean =
    puts _ _ _ c.set_declined.result c.in-Decline.is (c.set_declined.ensures.made within clean) (λ turned. record { turns = λ records columns now sound fits. turned records columns; one = λ records columns both. tt })

pub returns-in-Revocation-clause-made : goal.returns-in-Revocation-clause-made
returns-in-Revocation-clause-made g c under within clean =
    puts _ _ _ c.revoke.result c.in-Revocation.is (c.revoke.ensures.made within clean)
    (λ turned. record { turns = λ records columns now sound fits both. (turned records columns both).1; one = λ records columns both. (turned records columns both).0 })

pub returns-in-Crl-clause-made : goal.returns-in-Crl-clause-made
returns-in-Crl-clause-made g c under within clean =
    puts _ _ _ c.issue.result c.in-Crl.is (c.issue.ensures.made within clean)
    (λ turned. record { turns = λ records columns now sound fits. turned records columns (fits ∙ next_is records.crls sound.crls.numbered); one = λ records columns both. tt })
