use Rattle.std.proofs.Common.{Some, sym, ◌∙◌, rules}
use Rattle.reg_store_tables.proofs.FailingLemmas.{the_row, same_some, some_none}
use Rattle.reg_store_tables.proofs.LookingUp.{unread_row}
use Rattle.reg_store_tables.proofs.read_statements.look_up_one.Goals as goal

pub returns-in_err-found-clause-reads : goal.returns-in_err-found-clause-reads
returns-in_err-found-clause-reads g c reading = unread_row _ _ (search rules) (c.in_err-found.ensures.reads reading)

pub returns-in-Some-clause-reads : goal.returns-in-Some-clause-reads
returns-in-Some-clause-reads g c reading =
    let asked = c.in_ok-found.ensures.reads reading in
    record {
      looked = asked.looked;
      live = asked.live;
      found = λ wanted register clean shows.
          same_some (sym c.in-Some.is ∙ asked.found (Some wanted) register clean (λ rows answers. let it = shows rows answers in (the_row g.T.RowKind.has_valid_serial g.T.RowKind.shown wanted rows it.0 it.1).0));
      fails = λ wanted may register shows clean. tt;
    }

pub returns-in-None-clause-reads : goal.returns-in-None-clause-reads
returns-in-None-clause-reads g c reading =
    let asked = c.in_ok-found.ensures.reads reading in
    record {
      looked = asked.looked;
      live = λ register clean. tt;
      found = λ wanted register clean shows. tt;
      fails = λ wanted may register shows clean store.
          absurd (some_none (sym c.in-None.is ∙ asked.found (Some wanted) register clean (λ rows answers. let it = shows rows answers in (the_row g.T.RowKind.has_valid_serial g.T.RowKind.shown wanted rows it.0.0 it.1).0)));
    }
