use Rattle.std.proofs.Common.{◌≡◌, length, map, refl, sym, subst, ap, ◌∙◌, arith}
use Rattle.std.proofs.lemmas.List.{take_all}
use Rattle.sqlite_value.specs.declared.value.Value.TheVariants.{Int}
use Rattle.sqlite.specs.Effect.{Database}
use Rattle.sqlite.specs.Held.{state}
use Rattle.reg_store_tables.specs.Kept.{Kept, listed_of}
use Rattle.reg_store_tables.specs.Schema.{register_schema}
use Rattle.reg_store_tables.specs.Shows.{AreRecordsAndDerived}
use Rattle.reg_store_tables.specs.Stays.{Moves}
use Rattle.reg_store_tables.specs.DerivedRows.{with_counts}
use Rattle.reg_store_tables.proofs.PublicLaws.{moves_on, stays_here, stepped_clean, then_moves, under_way}
use Rattle.reg_store_migration.specs.Refilled.{no_derived_rows, with_letters}
use Rattle.reg_store_migration.proofs.RebuildsDerived.{few_letters, kept_counted}
use Rattle.reg_store_migration.proofs.derived_tables.rebuild_derived_tables.Goals as goal

pub returns-clause-made : goal.returns-clause-made
returns-clause-made g c clean =
    let s2 = state g.S.Store c.rebuild_listed.new.tx.conn.now in
    let s3 = state g.S.Store c.counts.new.tx.conn.now in
    let clean3 = stepped_clean c.set_counts.ensures.stepped clean in
    let clean2 = stepped_clean c.counts.ensures.stepped clean3 in
    let first = c.in_ok-fill_letters.ensures.made (stepped_clean c.rebuild_listed.ensures.stepped clean2) in
    let second = c.in_ok-rebuild_listed.ensures.made (under_way first) clean2 in
    let counted = c.in_ok-counts.ensures.asked clean3 in
    let third : Moves s2 s3 (λ _. Unit {0}) = stays_here (under_way second) counted.0 tt in
    then_moves _ _ _ _ _ _ c.set_counts.result (moves_on (moves_on first second) third) (c.set_counts.ensures.made clean) (λ _ sets. record {
      kept = λ records sound same both.
          let filled = first.tables.0 records (no_derived_rows records.policy.schedule) sound same refl both in
          let done = second.tables.0 records sound (with_letters filled.0 (no_derived_rows records.policy.schedule), filled.2, filled.1, refl, refl) in
          let columns = done.0 in
          let whole : columns.listed ≡ map (listed_of records) records.revocations = done.3 ∙ ap (map (listed_of records)) (take_all (length records.revocations) records.revocations (omega arith)) in
          let counts_are = counted.1 records columns (few_letters records columns sound done.1.shown.rows.policy.cap.1 done.2) done.1 in
          let there = subst (λ (d : Database). AreRecordsAndDerived d records columns) (sym counted.0.0.now_is) done.1 in
          let set = sets.0 records columns there in
          let counts = c.in_ok-counts.counts in (
            (with_counts counts columns, set, subst (λ x. Kept (with_counts x columns) records) (sym counts_are) (kept_counted records columns sound done.2 whole)),
            set.kept.days ∙ ap Int done.4,
            sets.1.obeys there.shown.schema,
          );
      schema = λ has. sets.1.schema (subst (λ (d : Database). d.schema ≡ register_schema) (sym counted.0.0.now_is) (second.tables.1.schema (first.tables.1.schema has)));
    })
