-- The rows of the table, added one after the other.
use Rattle.std.proofs.Common.{◌≡◌, ℕ, ◌+◌, ◌<◌, ◌≤◌, List, [], ◌∷◌, ◌++◌, refl, map, length, drop, get_or, sym, ap, ◌∙◌, add-one, drop-cons, drop_of_length-le}
use Rattle.std.specs.Prelude.{◌||◌, false}
use Rattle.clap.specs.Words.{AddsArg, AddsInTurn, AddsSubcommand, App, Rule, app_of, rule_of, with_rule, with_subcommand}
use Rattle.clap.specs.declared.builder.arg.Arg.{Arg}
use Rattle.clap.specs.declared.builder.command.Command.{Command}
use Rattle.clap.specs.declared.builder.command.Command.TheViews.{out-Command as fields_of}
use Rattle.reg_desk_cli.specs.Desk.{with_commands, with_rules}
use Rattle.reg_desk_cli.specs.Table.{AreLocal, app_of_entry, rule_of_part, with_made}
use Rattle.reg_desk_cli.specs.declared.table.CommandEntry.{CommandEntry}
use Rattle.reg_desk_cli.specs.declared.table.Part.{Part}

-- one more argument or option
pub one_part : (app more whole : App) (parts : List Part) (at : ℕ) (d : Part) → at < length parts
    → more ≡ with_rule app (rule_of_part (get_or parts at d)) → with_rules app (map rule_of_part (drop at parts)) ≡ whole
    → with_rules more (map rule_of_part (drop (at + 1) parts)) ≡ whole
one_part app more whole parts at d within is so =
    ap (λ a. with_rules a (map rule_of_part (drop (at + 1) parts))) is
    ∙ ap (λ k. with_rules (with_rule app (rule_of_part (get_or parts at d))) (map rule_of_part (drop k parts))) (add-one at)
    ∙ ap (λ l. with_rules app (map rule_of_part l)) (sym (drop-cons parts at d within)) ∙ so

-- none is left
pub all_parts : (app whole : App) (parts : List Part) (at : ℕ) → length parts ≤ at → with_rules app (map rule_of_part (drop at parts)) ≡ whole → app ≡ whole
all_parts app whole parts at past so = sym (ap (λ l. with_rules app (map rule_of_part l)) (drop_of_length-le parts past)) ∙ so

-- one more command
pub one_entry : (app more whole : App) (entries : List CommandEntry) (at : ℕ) (d : CommandEntry) → at < length entries
    → more ≡ with_subcommand app (app_of_entry (get_or entries at d)).top → with_commands app (map app_of_entry (drop at entries)) ≡ whole
    → with_commands more (map app_of_entry (drop (at + 1) entries)) ≡ whole
one_entry app more whole entries at d within is so =
    ap (λ a. with_commands a (map app_of_entry (drop (at + 1) entries))) is
    ∙ ap (λ k. with_commands (with_subcommand app (app_of_entry (get_or entries at d)).top) (map app_of_entry (drop k entries))) (add-one at)
    ∙ ap (λ l. with_commands app (map app_of_entry l)) (sym (drop-cons entries at d within)) ∙ so

-- none is left
pub all_entries : (app whole : App) (entries : List CommandEntry) (at : ℕ) → length entries ≤ at → with_commands app (map app_of_entry (drop at entries)) ≡ whole → app ≡ whole
all_entries app whole entries at past so = sym (ap (λ l. with_commands app (map app_of_entry l)) (drop_of_length-le entries past)) ∙ so

-- clap's contract about an added argument, if none is global
pub rule_added : (old new : Command) (arg : Arg) {rule : Rule} → AddsArg old arg new → arg.global ≡ false → rule_of arg ≡ rule
    → app_of new ≡ with_rule (app_of old) rule
rule_added old new arg added local is = added.shape local ∙ ap (with_rule (app_of old)) is

pub still_local : (old new : Command) (arg : Arg) → AddsArg old arg new → (fields_of old).has_globals ≡ false → arg.global ≡ false
    → (fields_of new).has_globals ≡ false
still_local old new arg added before local = added.globals ∙ ap (λ b. b || arg.global) before ∙ local

-- one more command after those that were made
pub one_made : (app : App) (commands : List Command) (command : Command)
    → with_made app (commands ++ command ∷ []) ≡ with_subcommand (with_made app commands) (app_of command).top
one_made app [] command = refl
one_made app (first ∷ rest) command = one_made (with_subcommand app (app_of first).top) rest command

pub one_local : (commands : List Command) (command : Command) → (fields_of command).has_globals ≡ false → AreLocal commands → AreLocal (commands ++ command ∷ [])
one_local [] command is before = (is, tt)
one_local (first ∷ rest) command is before = (before.0, one_local rest command is before.1)

-- clap's contract about commands that are added in order
pub all_added : (old new : Command) (commands : List Command) → AddsInTurn AddsSubcommand old commands new → AreLocal commands
    → app_of new ≡ with_made (app_of old) commands
all_added old new [] added local = sym (ap app_of added)
all_added old new (first ∷ rest) added local = all_added added.0 new rest added.2 local.1 ∙ ap (λ a. with_made a rest) (added.1.shape local.0)
