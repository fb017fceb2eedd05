use Rattle.std.proofs.Common.{◌≡◌, ◌∙◌, sym, ap, rules}
use Rattle.sqlite.specs.Held.{state}
use Rattle.reg_store_tables.specs.Failing.{HasFailed}
use Rattle.reg_store_tables.specs.Faults.{row_fault_of}
use Rattle.reg_store_tables.specs.declared.fault.DatabaseFault.TheVariants as call
use Rattle.reg_store_tables.specs.declared.fault.RowFault.{RowFault}
use Rattle.reg_store_tables.specs.declared.fault.RowFault.TheVariants as rows
use Rattle.reg_store_tables.proofs.Few.{both_all}
use Rattle.reg_store_tables.proofs.LookingUp.{gives_none, on_err, unread}
use Rattle.reg_store_tables.proofs.read_statements.look_up_all.Goals as goal

-- out of memory is no failure of the store
no_store : (why : RowFault) → why ≡ rows.Memory → row_fault_of why ≡ call.Store → ⊥
no_store why memory store = let no : call.Memory ≡ call.Store = sym (ap row_fault_of memory) ∙ store in cc

pub returns-in_err-rows-clause-reads : goal.returns-in_err-rows-clause-reads
returns-in_err-rows-clause-reads g c reading = unread _ _ (search rules) (c.in_err-rows.ensures.reads reading)

pub returns-clause-reads : goal.returns-clause-reads
returns-clause-reads g c reading =
    let asked = c.in_ok-rows.ensures.reads reading in
    record {
      looked = asked.looked;
      live = λ register clean. (asked.rows register clean).is_open;
      found = λ wanted register clean shows.
          let it = shows c.in_ok-rows.rows.items (asked.rows register clean) in
          c.in_ok-rows_in.ensures.read wanted it.0 (c.deref.ensures.value ∙ it.1);
      fails = λ wanted may register shows clean. tt;
    }

pub returns-in_err-rows_in-clause-reads : goal.returns-in_err-rows_in-clause-reads
returns-in_err-rows_in-clause-reads g c reading =
    let asked = c.in_ok-rows.ensures.reads reading in
    record {
      looked = asked.looked;
      live = λ register clean. on_err _ _ c.from_residual-in_err-rows_in.ensures.0;
      found = λ wanted register clean shows. gives_none _ _ c.from_residual-in_err-rows_in.ensures.0;
      fails = λ wanted may register shows clean.
          let it = shows c.in_ok-rows.rows.items (asked.rows register clean) in
          let each = both_all g.T.RowKind.has_valid_serial g.T.RowKind.has_values wanted it.0 in
          let memory = c.in_err-rows_in.ensures.has wanted each.0 each.1 (c.deref.ensures.value ∙ it.1) in
          let has_failed : row_fault_of c.in_err-rows_in.field-0.0 ≡ call.Store → HasFailed (state g.S.Store c.args.conn.now) (state g.S.Store c.read.new.conn) = λ store. absurd (no_store c.in_err-rows_in.field-0.0 memory store) in
          search rules;
    }
