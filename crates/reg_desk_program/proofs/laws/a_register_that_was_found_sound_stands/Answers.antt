-- The tables that are opened show what those that were audited show, and what an audit found of these is all that is asked.
use Rattle.std.proofs.Common.{inl, sym, subst}
use Rattle.sqlite.specs.Files.{over_files}
use Rattle.sqlite_disk.specs.declared.Disk as disk
use Rattle.reg_core.specs.Records.{Records}
use Rattle.reg_core_laws.proofs.PublicLaws.{reached_sound}
use Rattle.reg_store_tables.specs.DerivedRows.{DerivedRows}
use Rattle.reg_store_tables.specs.Shows.{AreRecordsAndDerived, ShowsBoth}
use Rattle.reg_desk_program.specs.Audited.{FoundSound, tables_of}
use Rattle.reg_desk_program.proofs.laws.a_register_that_was_found_sound_stands.Goals as goal

-- what the tables show, the connection that audited them shows
by_connection : {D : Type 0} {g : disk.Ghosts D} (found : FoundSound g) (records : Records) (columns : DerivedRows) → AreRecordsAndDerived (tables_of found) records columns
    → ShowsBoth over_files found.audited.connection records columns
by_connection found records columns shown = record { saved = λ clean up. (found.audited.connects.whole clean).0.clean; tables = λ clean up. shown }

pub returns : goal.returns
returns g c = λ found.
    let says = found.audited.says in
    let some = says.shown found.presumed found.clean found.sound in
    record {
      shown = some;
      counted = says.counted some.records some.columns (by_connection found some.records some.columns some.both) found.clean;
      stand = λ records columns shown register signers opens since reached signed.
          let opened = opens.opened in
          let it = says.sound records columns (by_connection found records columns shown) found.clean found.sound in
          let there = subst (λ db. AreRecordsAndDerived db records columns) (sym opens.same) shown in
          record {
            shown = opened.opens.shows records (inl (columns, record { saved = λ clean up. (opened.connects.whole clean).0.clean; tables = λ clean up. there }, it.1));
            sound = record { since = since; reached = reached; rows = reached_sound records it.0.rows; signatures = signed };
          };
    }
