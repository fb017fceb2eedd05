-- The meaning of the rows of the table, in the terms of the crate `clap`.
use Rattle.std.specs.Prelude.{◌≡◌, false, List, [], ◌∷◌, length, map}
use Rattle.clap.specs.Words.{App, Rule, app_of, new_app, with_subcommand}
use Rattle.clap.specs.declared.builder.command.Command.{Command}
use Rattle.clap.specs.declared.builder.command.Command.TheViews.{out-Command as fields_of}
use Rattle.reg_desk_cli.specs.Desk.{must, may, needs, renamed, takes_several, takes_value, flag, some, with_rules}
use Rattle.reg_desk_cli.specs.declared.table.CommandEntry.{CommandEntry}
use Rattle.reg_desk_cli.specs.declared.table.Part.{Part}
use Rattle.reg_desk_cli.specs.declared.table.Part.TheVariants.{RequiredArgument, OptionalArgument, Rest, RequiredOption, Renamed, OptionalOption, Several, Flag}

-- the rule of an argument or an option
abbrev pub rule_of_part : Part → Rule
rule_of_part (RequiredArgument id name help) = must id.now
rule_of_part (OptionalArgument id name help) = may id.now
rule_of_part (Rest id name help) = some id.now
rule_of_part (RequiredOption id name help) = needs id.now
rule_of_part (Renamed id older name help) = renamed id.now older.now
rule_of_part (OptionalOption id name help) = takes_value id.now
rule_of_part (Several id names help) = takes_several id.now (length names.now)
rule_of_part (Flag id help) = flag id.now

-- the command line of one command
abbrev pub app_of_entry : CommandEntry → App
app_of_entry entry = with_rules (new_app entry.name.now) (map rule_of_part entry.parts.now)

-- the command line with the commands that were made, added in order
abbrev pub with_made : App → List Command → App
with_made app [] = app
with_made app (command ∷ rest) = with_made (with_subcommand app (app_of command).top) rest

-- no command has a global option, which its subcommands would have too
abbrev pub AreLocal : List Command → Type 0
AreLocal [] = Unit {0}
AreLocal (command ∷ rest) = ((fields_of command).has_globals ≡ false) × AreLocal rest
