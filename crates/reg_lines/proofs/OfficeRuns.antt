-- Runs of lines and imports over an office, by what is asked of it.
use Rattle.std.proofs.Common.{◌≡◌, ℕ, Bool, false, List}
use Rattle.std.specs.Prelude.{Option, Result}
use Rattle.reg_office_api.specs.Leads.{Leads}
use Rattle.reg_office_api.proofs.PublicLaws.{follows}
use Rattle.reg_office_api.specs.declared.office.Office.{Ghosts as Office}
use Rattle.reg_core.specs.declared.refusal.Fault.{Fault}
use Rattle.reg_lines.specs.Accepted.{done_of}
use Rattle.reg_lines.specs.Answer.{ComesTo}
use Rattle.reg_lines.specs.declared.answered.Answered.{Answered as LineOutcome}
use Rattle.reg_lines.specs.ByCalls.{LineCalls, Lines}
use Rattle.reg_lines.specs.Import.{ImportEnds}
use Rattle.reg_lines.specs.Script.{LinesEnd, ScriptEnds}
use Rattle.reg_lines.specs.Strict.{StrictEnds}
use Rattle.reg_lines.specs.declared.answered.Ended.{Ended}
use Rattle.reg_lines.proofs.ScriptsAndImports.{comes_moves, import_moves, input_moves, strict_import_moves}

-- an untimed line leads from records to records
pub line_leads : {O : Type 0} (office : Office O) (s t : O) (now : ℕ) (line : List ℕ) (came : LineOutcome) → ComesTo (LineCalls office) now s line came t
    → Leads office.is_clean office.stands (λ signers before after. ComesTo (Lines office.signs signers) now before line came after) s t
line_leads office s t now line came comes =
    comes_moves office.is_clean office.stands (LineCalls office) (Lines office.signs) (λ v moment call w called. called.0) now s line came t comes

module _ {O E W : Type 0} (office : Office O) (remaining : E → Option (List ℕ)) (contents : W → Option (List ℕ))
    (s t : O) (reader reader' : E) (writer writer' : W) where
  -- a run of lines leads from records to records
  pub lines_lead : (input_failed output_failed : Type 0) (clock : ℕ → Type 0) (clock_failed : Type 0) (is_clocked is_strict : Bool) (result : Result Ended Fault)
      → LinesEnd (LineCalls office) remaining contents input_failed output_failed s t reader reader' writer writer' clock clock_failed is_clocked is_strict result
      → Leads office.is_clean office.stands
      (λ signers before after.
      LinesEnd (Lines office.signs signers) remaining contents input_failed output_failed before after reader reader' writer writer'
      clock clock_failed is_clocked is_strict result) s t
  lines_lead input_failed output_failed clock clock_failed is_clocked is_strict result ends =
      input_moves office.is_clean office.stands (LineCalls office) (Lines office.signs) (λ v now call w called. called.0)
      clock clock_failed is_clocked is_strict remaining contents input_failed output_failed s t reader reader' writer writer' result ends

  -- a script leads so too
  pub script_leads : (input_failed output_failed : Type 0) (clock : ℕ → Type 0) (clock_failed : Type 0) (ran : Result Ended Fault)
      (result : Result (Unit {0}) Fault) → result ≡ done_of ran
      → Leads office.is_clean office.stands
      (λ signers before after.
      LinesEnd (Lines office.signs signers) remaining contents input_failed output_failed before after reader reader' writer writer'
      clock clock_failed false false ran) s t
      → Leads office.is_clean office.stands
      (λ signers before after.
      ScriptEnds (Lines office.signs signers) remaining contents input_failed output_failed before after reader reader' writer writer' result) s t
  script_leads input_failed output_failed clock clock_failed ran result is =
      follows office.is_clean office.stands _ _ (λ signers before after ends. (ran, ends, is)) s t

  -- an import
  pub import_leads : (input_failed output_failed : Type 0) (now : ℕ) (result : Result (Unit {0}) Fault)
      → ImportEnds (LineCalls office) remaining contents input_failed output_failed now s t reader reader' writer writer' result
      → Leads office.is_clean office.stands
      (λ signers before after.
      ImportEnds (Lines office.signs signers) remaining contents input_failed output_failed now before after reader reader' writer writer' result) s t
  import_leads input_failed output_failed now result ended =
      import_moves office.is_clean office.stands (LineCalls office) (Lines office.signs) (λ v moment call w called. called.0)
      remaining contents input_failed output_failed now s t reader reader' writer writer' result ended

  -- a strict import
  pub strict_leads : (input_failed output_failed : Type 0) (now : ℕ) (result : Result Ended Fault)
      → StrictEnds (LineCalls office) remaining contents input_failed output_failed now s t reader reader' writer writer' result
      → Leads office.is_clean office.stands
      (λ signers before after.
      StrictEnds (Lines office.signs signers) remaining contents input_failed output_failed now before after reader reader' writer writer' result) s t
  strict_leads input_failed output_failed now result ended =
      strict_import_moves office.is_clean office.stands (LineCalls office) (Lines office.signs) (λ v moment call w called. called.0)
      remaining contents input_failed output_failed now s t reader reader' writer writer' result ended
