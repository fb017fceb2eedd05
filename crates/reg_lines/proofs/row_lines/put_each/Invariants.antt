use Rattle.std.proofs.Common.{◌≡◌, Bor, List, ℕ, Some}
use Rattle.csv.specs.Reading.{Ready, default_config, reader_config, reader_state, reader_trim, source_of}
use Rattle.csv.specs.declared.reader.Trim.TheVariants as trim
use Rattle.reg_lines.specs.Import.{ReadsText}
use Rattle.reg_lines.proofs.RowLineTexts.{WritingLines}
use Rattle.reg_lines.proofs.row_lines.put_each.Given as goal

-- the rows so far were told, and the reader is at the next one
abbrev pub invariant-loop-index : goal.invariant-loop-index
invariant-loop-index l = record {
  untrimmed : reader_trim l.rows ≡ trim.None;
  ready : Ready l.rows;
  config : reader_config l.rows ≡ default_config;
  going : (text : List ℕ) → ReadsText l.initial.rows text
      → WritingLines text l.lines.items (source_of (λ (s : Bor (List ℕ)). Some s.now) l.rows) (reader_state l.rows) l.index;
}
