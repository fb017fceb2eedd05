-- Command lines at the control socket that run together, in one transaction.
use Rattle.std.specs.Prelude.{◌≡◌, ℕ, List, Result}
use Rattle.std.specs.List.{AllZip, concat, flat_map}
use Rattle.reg_core.specs.declared.command.Command.{Command}
use Rattle.reg_core.specs.declared.command.Reply.{Reply}
use Rattle.reg_core.specs.declared.refusal.Fault.{Fault}
use Rattle.reg_lines.specs.Meaning.{LineMeans, means_command}
use Rattle.reg_lines.specs.Replies.{outcome_line, with_lf}
use Rattle.reg_lines.specs.Script.{IsShortUntimedLine, IsWholeLine, line_of}
use Rattle.reg_desk_service.specs.ControlWords.{commands, meaning_in}

-- a line is a command line, and means this command
abbrev pub IsCommandLine : List ℕ → Command → Type 0
IsCommandLine line command = (meaning_in line ≡ commands) × IsShortUntimedLine line
    × LineMeans (line_of line) (means_command command)

-- a whole line means this command, which is to run at this moment
abbrev pub IsCommandLineAt : ℕ → List ℕ → ℕ × Command → Type 0
IsCommandLineAt now line timed = IsWholeLine line × IsCommandLine line timed.1 × (timed.0 ≡ now)

-- these bytes are whole lines, each of which means the command at its place, which is to run at this moment
abbrev pub AreCommandLines : ℕ → List ℕ → List (ℕ × Command) → Type 0
AreCommandLines now bytes timed =
    (lines : List (List ℕ)) × (bytes ≡ concat lines) × AllZip (IsCommandLineAt now) lines timed

-- the replies to commands with these outcomes, one after the other
abbrev pub replies_to : List (Result Reply Fault) → List ℕ
replies_to = flat_map (λ outcome. with_lf (outcome_line outcome))
