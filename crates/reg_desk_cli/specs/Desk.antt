-- The command line of the program in the terms of the crate `clap`: its commands, with their arguments and options. `--why` may come before a command
-- too.
use Rattle.std.specs.Prelude.{ℕ, Some, true, List, [], ◌∷◌, codes}
use Rattle.clap.specs.Lexer.{usize_max}
use Rattle.clap.specs.Words.{App, Rule, Text, new_app, new_rule, with_rule, with_subcommand}
use Rattle.clap.specs.declared.builder.action.ArgAction.TheVariants.{SetTrue}

-- an argument that must be given
abbrev pub must : Text → Rule
must id = record (new_rule id) { required = true; value_names = 1 }

-- an argument that may be left out
abbrev pub may : Text → Rule
may id = record (new_rule id) { value_names = 1 }

-- an option `--id VALUE` that must be given
abbrev pub needs : Text → Rule
needs id = record (new_rule id) { long = Some id; required = true; value_names = 1 }

-- a required option with an older name, `--older VALUE`
abbrev pub renamed : Text → Text → Rule
renamed id older = record (needs id) { aliases = older ∷ [] }

-- an option `--id VALUE` that may be left out
abbrev pub takes_value : Text → Rule
takes_value id = record (new_rule id) { long = Some id; value_names = 1 }

-- an option with this many values that may be left out
abbrev pub takes_several : Text → ℕ → Rule
takes_several id count = record (new_rule id) { long = Some id; value_names = count }

-- an option `--id` without a value, which may be left out
abbrev pub flag : Text → Rule
flag id = record (new_rule id) { long = Some id; action = Some SetTrue }

-- one or more arguments: all that are left
abbrev pub some : Text → Rule
some id = record (new_rule id) {
  required = true;
  value_names = 1;
  range = Some (record { start_inclusive = 1; end_inclusive = usize_max });
}

-- a command with arguments and options
abbrev pub with_rules : App → List Rule → App
with_rules app [] = app
with_rules app (rule ∷ rest) = with_rules (with_rule app rule) rest

-- `init FILE --name HEX --key HEX [--key-id HEX] [--days N] [--crl-life N] [--ocsp-life N] [--cap N] [--why]`
abbrev pub init_app : App
init_app = with_rules (new_app (codes "init"))
    (must (codes "file") ∷ needs (codes "name") ∷ needs (codes "key") ∷ takes_value (codes "key-id")
    ∷ takes_value (codes "days")
    ∷ takes_value (codes "crl-life") ∷ takes_value (codes "ocsp-life") ∷ takes_value (codes "cap")
    ∷ flag (codes "why") ∷ [])

-- `script [FILE] [--signer SOCKET --algorithm NAME] [--clock] [--accept-clock] [--strict] [--why]`
abbrev pub script_app : App
script_app = with_rules (new_app (codes "script"))
    (may (codes "file") ∷ takes_value (codes "signer") ∷ takes_value (codes "algorithm")
    ∷ flag (codes "clock") ∷ flag (codes "accept-clock") ∷ flag (codes "strict") ∷ flag (codes "why") ∷ [])

-- `import FILE [--now MOMENT] [--clock] [--accept-clock] [--strict] [--why]`; `Jobs.one_moment` states that one of `--now` and `--clock` is given
abbrev pub import_app : App
import_app =
    with_rules (new_app (codes "import"))
    (must (codes "file") ∷ takes_value (codes "now") ∷ flag (codes "clock") ∷ flag (codes "accept-clock")
    ∷ flag (codes "strict") ∷ flag (codes "why") ∷ [])

-- `crl FILE [--number N] [--why]`
abbrev pub crl_app : App
crl_app =
    with_rules (new_app (codes "crl"))
    (must (codes "file") ∷ takes_value (codes "number") ∷ flag (codes "why") ∷ [])

-- `serve FILE --port N [--listen ADDRESS] --requests N [--signer SOCKET --algorithm NAME]
-- [--responder CERT --responder-signer SOCKET --responder-algorithm NAME | --embed CERT] [--published CRL] [--log] [--log-file PATH] [--why]`
abbrev pub serve_app : App
serve_app = with_rules (new_app (codes "serve"))
    (must (codes "file") ∷ needs (codes "port") ∷ takes_value (codes "listen") ∷ needs (codes "requests")
    ∷ takes_value (codes "signer") ∷ takes_value (codes "algorithm")
    ∷ takes_value (codes "responder") ∷ takes_value (codes "responder-signer")
    ∷ takes_value (codes "responder-algorithm") ∷ takes_value (codes "embed")
    ∷ takes_value (codes "published") ∷ flag (codes "log") ∷ takes_value (codes "log-file")
    ∷ flag (codes "why") ∷ [])

-- `open FILE --port N [--listen ADDRESS] --control SOCKET [--signer SOCKET --algorithm NAME] [--unsigned]
-- [--responder CERT --responder-signer SOCKET --responder-algorithm NAME | --embed CERT] [--published CRL]
-- [--confirm-by N] [--log] [--log-file PATH] [--why]`;
-- `--counter` is an older name of `--control`; `Jobs.signer_or_unsigned` states whether `--signer` or `--unsigned` must be given
abbrev pub open_app : App
open_app = with_rules (new_app (codes "open"))
    (must (codes "file") ∷ needs (codes "port") ∷ takes_value (codes "listen")
    ∷ renamed (codes "control") (codes "counter")
    ∷ takes_value (codes "signer") ∷ takes_value (codes "algorithm") ∷ flag (codes "unsigned")
    ∷ takes_value (codes "responder") ∷ takes_value (codes "responder-signer")
    ∷ takes_value (codes "responder-algorithm") ∷ takes_value (codes "embed")
    ∷ takes_value (codes "published") ∷ takes_value (codes "confirm-by") ∷ flag (codes "log") ∷ takes_value (codes "log-file")
    ∷ flag (codes "why") ∷ [])

-- `follow FILE --from ADDRESS --port N [--listen ADDRESS] [--control SOCKET] [--lag SECONDS] [--follower N] [--signer SOCKET --algorithm NAME] [--unsigned]
-- [--responder CERT --responder-signer SOCKET --responder-algorithm NAME | --embed CERT] [--log] [--log-file PATH] [--why]`
abbrev pub follow_app : App
follow_app = with_rules (new_app (codes "follow"))
    (must (codes "file") ∷ needs (codes "from") ∷ needs (codes "port") ∷ takes_value (codes "listen")
    ∷ takes_value (codes "control") ∷ takes_value (codes "lag") ∷ takes_value (codes "follower")
    ∷ takes_value (codes "signer") ∷ takes_value (codes "algorithm") ∷ flag (codes "unsigned")
    ∷ takes_value (codes "responder") ∷ takes_value (codes "responder-signer")
    ∷ takes_value (codes "responder-algorithm") ∷ takes_value (codes "embed")
    ∷ flag (codes "log") ∷ takes_value (codes "log-file")
    ∷ flag (codes "why") ∷ [])

-- `at SOCKET [--import FILE [--orders SUBSCRIBER DAYS] | --revoke FILE] [--why]`
abbrev pub at_app : App
at_app = with_rules (new_app (codes "at"))
    (must (codes "control") ∷ takes_value (codes "import") ∷ takes_several (codes "orders") 2
    ∷ takes_value (codes "revoke") ∷ flag (codes "why") ∷ [])

-- `replay SOCKET LOG [--why]`
abbrev pub replay_app : App
replay_app =
    with_rules (new_app (codes "replay"))
    (must (codes "control") ∷ must (codes "log") ∷ flag (codes "why") ∷ [])

-- `schedule FILE MOMENT=DAYS .. [--why]`
abbrev pub schedule_app : App
schedule_app =
    with_rules (new_app (codes "schedule"))
    (must (codes "file") ∷ some (codes "steps") ∷ flag (codes "why") ∷ [])

-- `key-id FILE HEX [--why]`
abbrev pub key_id_app : App
key_id_app =
    with_rules (new_app (codes "key-id"))
    (must (codes "file") ∷ must (codes "key-id") ∷ flag (codes "why") ∷ [])

-- `list FILE LIST [--before MOMENT] [--now MOMENT] [--subscriber NAME] [--serial PREFIX] [--from MOMENT] [--to MOMENT] [--json] [--why]`
abbrev pub list_app : App
list_app = with_rules (new_app (codes "list"))
    (must (codes "file") ∷ must (codes "list") ∷ takes_value (codes "before") ∷ takes_value (codes "now")
    ∷ takes_value (codes "subscriber")
    ∷ takes_value (codes "serial") ∷ takes_value (codes "from") ∷ takes_value (codes "to")
    ∷ flag (codes "json") ∷ flag (codes "why") ∷ [])

-- `copy FILE PATH [--why]`
abbrev pub copy_app : App
copy_app =
    with_rules (new_app (codes "copy")) (must (codes "file") ∷ must (codes "path") ∷ flag (codes "why") ∷ [])

-- `audit FILE [--why]`
abbrev pub audit_app : App
audit_app = with_rules (new_app (codes "audit")) (must (codes "file") ∷ flag (codes "why") ∷ [])

-- a command must be given, there is a version, and help is only `--help`
abbrev pub bare_app : App
bare_app = record (new_app (codes "desk")) {
  top = record ((new_app (codes "desk")).top) {
    has_version = true;
    subcommand_required = true;
    disable_help_subcommand = true;
  };
}

-- `desk [--why]`
abbrev pub app_without_commands : App
app_without_commands = with_rules bare_app (flag (codes "why") ∷ [])

-- a command line with these commands added in order
abbrev pub with_commands : App → List App → App
with_commands app [] = app
with_commands app (command ∷ rest) = with_commands (with_subcommand app command.top) rest

-- the commands in the order in which help lists them: the first six, and the other ones
abbrev pub first_command_apps : List App
first_command_apps = init_app ∷ script_app ∷ import_app ∷ crl_app ∷ serve_app ∷ open_app ∷ []

abbrev pub other_command_apps : List App
other_command_apps =
    follow_app ∷ at_app ∷ replay_app ∷ schedule_app ∷ key_id_app ∷ list_app ∷ copy_app ∷ audit_app ∷ []

-- `desk [--why] COMMAND ..`
abbrev pub desk_app : App
desk_app = with_commands (with_commands app_without_commands first_command_apps) other_command_apps
