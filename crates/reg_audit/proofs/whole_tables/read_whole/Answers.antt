use Rattle.std.proofs.Common.{ℕ, List, [], sym, subst, arith}
use Rattle.sqlite.specs.Effect.{Database, Reads}
use Rattle.sqlite.specs.Held.{state}
use Rattle.sqlite.specs.State.{HasCleanDisk}
use Rattle.sqlite.specs.Listing.{understood}
use Rattle.reg_store_tables.specs.ReadStatements.{IsReading, command_of}
use Rattle.reg_store_tables.specs.Schema.{register_schema}
use Rattle.reg_store_tables.proofs.PublicLaws.{both_shows, both_then, ok_then, shows_register}
use Rattle.reg_audit.specs.ReadQueries.{sql_of}
use Rattle.reg_audit.proofs.Whole.{holds_register}
use Rattle.reg_audit.proofs.Statements.{reading}
use Rattle.reg_audit.proofs.whole_tables.read_whole.Goals as goal

pub returns-clause-found : goal.returns-clause-found
returns-clause-found g c records columns shows clean =
    let s = state g.S.Store c.args.conn.now in
    let is_reading = subst IsReading (sym c.text.ensures) (reading c.args.query) in
    let register = shows_register g.S.Store c.args.conn.now records (both_shows g.S.Store c.args.conn.now records columns shows) in
    ok_then c.read.result (c.read.ensures.rows is_reading register clean) (λ rows answers. record {
      db = s.now;
      both = both_then g.S.Store c.args.conn.now c.read.new.conn records columns c.read.ensures.clean clean answers.is_open shows;
      reads = subst (λ (text : List ℕ). Reads (command_of (understood register_schema text)) s.now [] rows.items) c.text.ensures answers.reads;
    })

pub returns-clause-from : goal.returns-clause-from
returns-clause-from g c db holds schema clean =
    let s = state g.S.Store c.args.conn.now in
    let is_reading = subst IsReading (sym c.text.ensures) (reading c.args.query) in
    let register = holds_register g.S.Store c.args.conn.now db holds schema in
    ok_then c.read.result (c.read.ensures.rows is_reading register clean) (λ rows answers.
    let was_clean : HasCleanDisk s = omega (arith, c.read.ensures.clean, clean) in
    subst (λ (d : Database). Reads (command_of (understood register_schema (sql_of c.args.query))) d [] rows.items) (holds.tables was_clean answers.is_open)
    (subst (λ (text : List ℕ). Reads (command_of (understood register_schema text)) s.now [] rows.items) c.text.ensures answers.reads))

pub returns-clause-looked : goal.returns-clause-looked
returns-clause-looked g c = c.read.ensures.looked (subst IsReading (sym c.text.ensures) (reading c.args.query))
