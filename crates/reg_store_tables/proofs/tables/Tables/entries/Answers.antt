use Rattle.std.proofs.Common.{◌≤◌, ◌∙◌, length, refl, subst, arith, rules}
use Rattle.reg_core.specs.Crls.{EntriesAscend}
use Rattle.reg_store_tables.proofs.EntryLemmas.{entries_text, found_entries, entries_lists, entries_are, entries_have, entries_within, entries_rise, entries_sorted}
use Rattle.reg_store_tables.proofs.FailingLemmas.{memory_alone}
use Rattle.reg_store_tables.proofs.LookingUp.{by_rows, not_asked, unasked}
use Rattle.reg_store_tables.proofs.Staying.{ok_also, ok_if}
use Rattle.reg_store_tables.proofs.Written.{revocations_have, revocations_few}
use Rattle.reg_store_tables.proofs.tables.Tables.entries.Goals as goal

pub returns-in_err-value-clause-finds : goal.returns-in_err-value-clause-finds
returns-in_err-value-clause-finds g c = not_asked _ c.from_residual.ensures.0 (λ records below. let many = c.in_err-value.ensures.refused.1 in omega arith)

pub returns-in_err-found-clause-finds : goal.returns-in_err-found-clause-finds
returns-in_err-found-clause-finds g c =
    rw (← c.self.view_is) (unasked _ _ (search rules) (c.in_err-found.ensures.reads entries_text.reading) (rw (c.params-to_sql.ensures, c.in_ok-value.ensures.value) refl) (entries_text.asked c.args.number))

pub returns-clause-finds : goal.returns-clause-finds
returns-clause-finds g c =
    let rows = c.in_ok-found.found.items in
    rw (← c.self.view_is) (by_rows (c.in_ok-found.ensures.reads entries_text.reading) (rw (c.params-to_sql.ensures, c.in_ok-value.ensures.value) refl) c.entries_of.result
    (λ records shows clean answers. ok_if _ _ c.entries_of.result (λ kept.
    let both = kept.1 clean answers.is_open in
    let it = entries_lists _ records kept.0 both kept.2 c.args.number rows answers.reads in
    let found = found_entries _ records kept.0 both kept.2 c.args.number rows answers.reads in
    ok_also c.entries_of.result (c.entries_of.ensures.read found it.serials it.shown) c.entries_of.ensures.ascending
    (λ entries same up. same ∙ entries_are records c.args.number rows found it (subst EntriesAscend same up))))
    (λ records may written clean answers.
    let kept = written.kept in
    let both = kept.1.tables clean answers.is_open in
    let it = entries_lists _ records kept.0 both kept.2 c.args.number rows answers.reads in
    let found = found_entries _ records kept.0 both kept.2 c.args.number rows answers.reads in
    let rise = entries_rise records c.args.number rows found it written.sound (entries_sorted _ records kept.0 both kept.2 c.args.number rows answers.reads) in
    let few : length found ≤ 1000000 = let within = entries_within records c.args.number rows found it in let all = revocations_few records written.sound written.policy in omega arith in
    memory_alone ⊥ c.entries_of.result
    (c.entries_of.ensures.has found it.serials it.shown (entries_have records c.args.number rows found it (revocations_have records written.sound written.values)) rise few)))
