-- The meaning of the words of a command line.
use Rattle.std.specs.Prelude.{◌≡◌, ◌≢◌, ◌⊎◌, ◌||◌, ℕ, Bool, true, false, List, [], take, drop, codes, bytes_eq, if◌then◌else◌, Option, Some, None, is_some, option_map, option_and_then}
use Rattle.std.specs.Option.{option_map_or}
use Rattle.clap.specs.Words.{IsAmong, Row, Text, all_of, fault_of, first_of, matches_of, subcommand_of}
use Rattle.clap.specs.declared.error.kind.ErrorKind.{ErrorKind}
use Rattle.clap.specs.declared.error.kind.ErrorKind.TheVariants.{DisplayHelp, DisplayVersion, OutOfMemory}
use Rattle.reg_core.specs.Calendar.{moment_of}
use Rattle.reg_core.specs.Number.{number_of}
use Rattle.reg_core.specs.Sequence.{◌>>=◌}
use Rattle.reg_core.specs.Label.{label_of}
use Rattle.reg_core_lists.specs.ListParameters.{prefix_of}
use Rattle.reg_core_lists.specs.Cursors.{cursor_named}
use Rattle.reg_core_lists.specs.Filters.{fits}
use Rattle.reg_core_lists.specs.declared.cursor.Cursor.{Cursor}
use Rattle.reg_core_lists.specs.declared.filter.Filter.{Filter}
use Rattle.reg_core_lists.specs.declared.texts.Format.{Format}
use Rattle.reg_core_lists.specs.declared.texts.Format.TheVariants.{Csv, Json}
use Rattle.reg_desk_cli.specs.Desk.{desk_app}
use Rattle.reg_desk_cli.specs.WordValues.{order_terms_of, steps_of, within}
use Rattle.reg_crl_signer.specs.Algorithms.{algorithm_named}
use Rattle.reg_desk_cli.specs.declared.job.ResponderChoice.{ResponderChoice}
use Rattle.reg_desk_cli.specs.declared.job.ResponderChoice.TheVariants.{Issuer, Delegate}
use Rattle.reg_desk_cli.specs.declared.job.Endpoint.{Endpoint}
use Rattle.reg_desk_cli.specs.declared.job.Loopback.{Loopback}
use Rattle.reg_desk_cli.specs.declared.job.Loopback.TheVariants.{V4, V6}
use Rattle.reg_desk_cli.specs.declared.job.Job.{Job}
use Rattle.reg_desk_cli.specs.declared.job.Job.TheVariants.{Init, Script, Lines, Import, Crl, Serve, Open, Follow, At, EachRow, Replay, Schedule, KeyId, Listing, Copy, Audit}
use Rattle.reg_desk_cli.specs.declared.job.LeaderAddress.{LeaderAddress}
use Rattle.reg_desk_cli.specs.declared.job.LeaderAddress.TheVariants.{Port, Socket}
use Rattle.reg_desk_cli.specs.declared.job.SignerAddress.{SignerAddress}
use Rattle.reg_desk_cli.specs.declared.job.Invocation.{Invocation}
use Rattle.reg_desk_cli.specs.declared.job.OrderTerms.{OrderTerms}
use Rattle.reg_desk_cli.specs.declared.job.RowTask.TheVariants.{Register, Revoke}
use Rattle.reg_desk_cli.specs.declared.job.Usage.{Usage}
use Rattle.reg_desk_cli.specs.declared.job.ScriptOptions.{ScriptOptions}
use Rattle.reg_desk_cli.specs.declared.job.Usage.TheVariants.{Help, Version, Bad, Memory}

-- the number of an option, or the default if the option is not given; `None` if its value is no number
abbrev pub value_or_default : ℕ → Text → List Row → Option ℕ
value_or_default usual id rows = option_map_or number_of (first_of id rows) (Some usual)

-- the number of an option; `Some None` if the option is not given, `None` if its value is no number
abbrev pub given : Text → List Row → Option (Option ℕ)
given id rows =
    option_map_or (λ text. option_map (λ n. Some n) (number_of text)) (first_of id rows) (Some None)

-- the number of an option; `None` if it is not given, no number, or out of bounds
abbrev pub number_in : ℕ → ℕ → Text → List Row → Option ℕ
number_in least most id rows =
    option_and_then (within least most) (option_and_then number_of (first_of id rows))

-- the signer; `Some None` with neither option; `None` with one option alone, or an unknown name of an algorithm
abbrev pub signer_of_options : Option Text → Option Text → Option (Option SignerAddress)
signer_of_options (Some socket) (Some name) =
    option_map (λ algorithm. Some (record { socket = socket; algorithm = algorithm })) (algorithm_named name)
signer_of_options (Some socket) None = None
signer_of_options None (Some name) = None
signer_of_options None None = Some None

-- the signer, by the ids of its two options
abbrev pub signer_by_options : Text → Text → List Row → Option (Option SignerAddress)
signer_by_options socket algorithm rows = signer_of_options (first_of socket rows) (first_of algorithm rows)

-- the signer of `--signer` and `--algorithm`
abbrev pub signer_in : List Row → Option (Option SignerAddress)
signer_in rows = signer_by_options (codes "signer") (codes "algorithm") rows

-- the responder to OCSP requests: a delegate, if the path of its certificate and its signer are given, and no certificate to embed; or the issuer, if
-- neither of the two is given, perhaps with the path of a certificate to embed
abbrev pub responder_by : Option Text → Option SignerAddress → Option Text → Option ResponderChoice
responder_by (Some certificate) (Some address) None = Some (Delegate certificate address)
responder_by (Some certificate) (Some address) (Some embedded) = None
responder_by (Some certificate) None embedded = None
responder_by None (Some address) embedded = None
responder_by None None embedded = Some (Issuer embedded)

-- the responder to OCSP requests, from the words of these options
unfoldable pub responder_in : List Row → Option ResponderChoice
responder_in rows = do
  address ← signer_by_options (codes "responder-signer") (codes "responder-algorithm") rows
  responder_by (first_of (codes "responder") rows) address (first_of (codes "embed") rows)

-- whether an option without a value is given
abbrev pub has_flag : Text → List Row → Bool
has_flag id rows = option_map_or (λ text. bytes_eq text (codes "true")) (first_of id rows) false

-- whether the responder has a key of its own
abbrev pub has_own_key : ResponderChoice → Bool
has_own_key (Issuer certificate) = false
has_own_key (Delegate certificate address) = true

-- the signer of CRLs for `open`: a signer or `--unsigned` must be given, and not both. With a responder that has a key of its own, `--unsigned` is an
-- error, and the signer may be left out
abbrev pub chosen : Option SignerAddress → Bool → Bool → Option (Option SignerAddress)
chosen (Some address) false own = Some (Some address)
chosen (Some address) true own = None
chosen None false false = None
chosen None true false = Some None
chosen None false true = Some None
chosen None true true = None

-- the signer of CRLs, from `--signer` with `--algorithm`; `Some None` with `--unsigned`, or with neither and a delegated responder
abbrev pub signer_or_unsigned : ResponderChoice → List Row → Option (Option SignerAddress)
signer_or_unsigned responder rows =
    option_and_then (λ signer. chosen signer (has_flag (codes "unsigned") rows) (has_own_key responder))
    (signer_in rows)

-- how a script runs
abbrev pub script_options_in : List Row → ScriptOptions
script_options_in rows = record {
  is_clocked = has_flag (codes "clock") rows;
  accepts_clock = has_flag (codes "accept-clock") rows;
  is_strict = has_flag (codes "strict") rows;
}

-- the job of `script`; only a script over a register at a path can run line by line
abbrev pub script_by : Option Text → Option SignerAddress → ScriptOptions → Option Job
script_by None signer options =
    if options.is_clocked || options.is_strict then None else Some (Script None signer)
script_by (Some file) signer options =
    if options.is_clocked || options.is_strict
    then Some (Lines (record { file = file; signer = signer; options = options }))
    else Some (Script (Some file) signer)

-- the address of `--listen`, which is one of the loopback interface
abbrev pub loopback_named : Text → Option Loopback
loopback_named text =
    if bytes_eq text (codes "127.0.0.1") then Some V4
    else if bytes_eq text (codes "[::1]") then Some V6
    else None

-- the address of `--listen`, or 127.0.0.1 if it is not given
abbrev pub loopback_in : List Row → Option Loopback
loopback_in rows = option_map_or loopback_named (first_of (codes "listen") rows) (Some V4)

-- where HTTP connections are accepted
unfoldable pub endpoint_in : List Row → Option Endpoint
endpoint_in rows = do
  address ← loopback_in rows
  port ← number_in 1 65535 (codes "port") rows
  Some (record { address = address; port = port })

-- the job of each command, from its arguments and options; the default policy has the terms that are not given
unfoldable pub init_of : List Row → Option Job
init_of rows = do
  file ← first_of (codes "file") rows
  name ← first_of (codes "name") rows
  key ← first_of (codes "key") rows
  days ← value_or_default 398 (codes "days") rows
  crl_life ← value_or_default 691200 (codes "crl-life") rows
  ocsp_life ← value_or_default 345600 (codes "ocsp-life") rows
  cap ← value_or_default 1000000 (codes "cap") rows
  Some (Init (record {
    file = file;
    name = name;
    key = key;
    key_id = first_of (codes "key-id") rows;
    days = days;
    crl_life = crl_life;
    ocsp_life = ocsp_life;
    cap = cap;
  }))

unfoldable pub script_of : List Row → Option Job
script_of rows = do
  signer ← signer_in rows
  script_by (first_of (codes "file") rows) signer (script_options_in rows)

-- the moment of an option; `Some None` if the option is not given, `None` if its value is no moment
abbrev pub moment_given : Text → List Row → Option (Option ℕ)
moment_given id rows =
    option_map_or (λ text. option_map (λ moment. Some moment) (moment_of text)) (first_of id rows) (Some None)

-- the moment of an import; `Some None` for that of the machine's clock; `None` unless exactly one of `--now` and `--clock` is given
abbrev pub one_moment : Option ℕ → Bool → Option (Option ℕ)
one_moment (Some now) false = Some (Some now)
one_moment None true = Some None
one_moment (Some now) true = None
one_moment None false = None

unfoldable pub import_moment : List Row → Option (Option ℕ)
import_moment rows = do
  now ← moment_given (codes "now") rows
  one_moment now (has_flag (codes "clock") rows)

unfoldable pub import_of : List Row → Option Job
import_of rows = do
  file ← first_of (codes "file") rows
  moment ← import_moment rows
  Some (Import (record {
    file = file;
    moment = moment;
    accepts_clock = has_flag (codes "accept-clock") rows;
    is_strict = has_flag (codes "strict") rows;
  }))

unfoldable pub crl_job : List Row → Option Job
crl_job rows = do
  file ← first_of (codes "file") rows
  number ← given (codes "number") rows
  Some (Crl file number)

unfoldable pub serve_of : List Row → Option Job
serve_of rows = do
  file ← first_of (codes "file") rows
  endpoint ← endpoint_in rows
  requests ← number_in 1 1000000 (codes "requests") rows
  signer ← signer_in rows
  responder ← responder_in rows
  Some (Serve (record {
    file = file;
    endpoint = endpoint;
    requests = requests;
    signer = signer;
    responder = responder;
    published = first_of (codes "published") rows;
  }))

-- the number of `--confirm-by`, 1 to 8; 0 if it is not given
abbrev pub confirm_in : List Row → Option ℕ
confirm_in rows =
    if is_some (first_of (codes "confirm-by") rows) then number_in 1 8 (codes "confirm-by") rows else Some 0

unfoldable pub open_of : List Row → Option Job
open_of rows = do
  file ← first_of (codes "file") rows
  endpoint ← endpoint_in rows
  control ← first_of (codes "control") rows
  confirm_by ← confirm_in rows
  responder ← responder_in rows
  signer ← signer_or_unsigned responder rows
  Some (Open (record {
    file = file;
    endpoint = endpoint;
    control = control;
    signer = signer;
    responder = responder;
    published = first_of (codes "published") rows;
    confirm_by = confirm_by;
  }))

-- the address of a leader: `127.0.0.1:PORT` with a port of 1 to 65535, or the path of a Unix socket
abbrev pub leader_of : Text → Option LeaderAddress
leader_of text =
    if bytes_eq (take 10 text) (codes "127.0.0.1:")
    then option_map Port (option_and_then (within 1 65535) (number_of (drop 10 text)))
    else Some (Socket text)

-- the address of `--from`
abbrev pub leader_in : List Row → Option LeaderAddress
leader_in rows = option_and_then leader_of (first_of (codes "from") rows)

-- the seconds of `--lag`, 1 to 86,400; 60 if it is not given
abbrev pub lag_in : List Row → Option ℕ
lag_in rows = option_and_then (within 1 86400) (value_or_default 60 (codes "lag") rows)

unfoldable pub follow_of : List Row → Option Job
follow_of rows = do
  file ← first_of (codes "file") rows
  leader ← leader_in rows
  endpoint ← endpoint_in rows
  lag ← lag_in rows
  number ← value_or_default 0 (codes "follower") rows
  responder ← responder_in rows
  signer ← signer_or_unsigned responder rows
  Some (Follow (record {
    file = file;
    leader = leader;
    endpoint = endpoint;
    control = first_of (codes "control") rows;
    signer = signer;
    responder = responder;
    lag = lag;
    number = number;
  }))

-- the terms of the orders; `Some None` if `--orders` is not given, `None` if its values are not two numbers
abbrev pub order_terms_given : List Row → Option (Option OrderTerms)
order_terms_given rows =
    option_map_or (λ texts. option_map (λ terms. Some terms) (order_terms_of texts))
    (all_of (codes "orders") rows) (Some None)

-- the job of `at`: lines; or the rows of a file that are to be registered, or revoked, but not both; `--orders` only with rows to be registered
abbrev pub at_by : Text → Option Text → Option Text → Option OrderTerms → Option Job
at_by control_path imported None None = Some (At control_path imported)
at_by control_path (Some rows) None (Some terms) = Some (EachRow control_path rows (Register terms))
at_by control_path None None (Some terms) = None
at_by control_path None (Some rows) None = Some (EachRow control_path rows Revoke)
at_by control_path None (Some rows) (Some terms) = None
at_by control_path (Some imported) (Some rows) orders = None

unfoldable pub at_of : List Row → Option Job
at_of rows = do
  control_path ← first_of (codes "control") rows
  orders ← order_terms_given rows
  at_by control_path (first_of (codes "import") rows) (first_of (codes "revoke") rows) orders

unfoldable pub replay_of : List Row → Option Job
replay_of rows = do
  control_path ← first_of (codes "control") rows
  log ← first_of (codes "log") rows
  Some (Replay control_path log)

unfoldable pub schedule_of : List Row → Option Job
schedule_of rows = do
  file ← first_of (codes "file") rows
  steps ← option_and_then steps_of (all_of (codes "steps") rows)
  Some (Schedule file steps)

unfoldable pub key_id_of : List Row → Option Job
key_id_of rows = do
  file ← first_of (codes "file") rows
  key_id ← first_of (codes "key-id") rows
  Some (KeyId file key_id)

-- the form of a list
abbrev pub form_in : List Row → Format
form_in rows = if has_flag (codes "json") rows then Json else Csv

-- the text of an option, for `label_given` 1 to 64 bytes, for `prefix_given` 1 to 40 hexadecimal digits; `Some None` if the option is not given
abbrev pub label_given : Text → List Row → Option (Option Text)
label_given id rows =
    option_map_or (λ text. option_map (λ label. Some label) (label_of text)) (first_of id rows) (Some None)

abbrev pub prefix_given : Text → List Row → Option (Option Text)
prefix_given id rows =
    option_map_or (λ text. option_map (λ digits. Some digits) (prefix_of text)) (first_of id rows) (Some None)

-- the filter from the four options; none if the value of one can't be read
unfoldable pub filter_in : List Row → Option Filter
filter_in rows = do
  subscriber ← label_given (codes "subscriber") rows
  serial ← prefix_given (codes "serial") rows
  from ← moment_given (codes "from") rows
  to ← moment_given (codes "to") rows
  Some (record { subscriber = subscriber; serial = serial; from = from; to = to })

-- the filter, if the rows of the list have each field by which it selects
unfoldable pub filter_for : Cursor → List Row → Option Filter
filter_for list rows = do
  filter ← filter_in rows
  if fits filter list then Some filter else None

unfoldable pub list_of : List Row → Option Job
list_of rows = do
  file ← first_of (codes "file") rows
  word ← first_of (codes "list") rows
  before ← moment_given (codes "before") rows
  from ← cursor_named word before
  moment ← moment_given (codes "now") rows
  filter ← filter_for from rows
  Some (Listing (record { file = file; from = from; moment = moment; filter = filter; form = form_in rows }))

unfoldable pub copy_of : List Row → Option Job
copy_of rows = do
  file ← first_of (codes "file") rows
  path ← first_of (codes "path") rows
  Some (Copy file path)

unfoldable pub audit_of : List Row → Option Job
audit_of rows = do
  file ← first_of (codes "file") rows
  Some (Audit file)

-- the job of a command, from its name and what clap found for its arguments and options
unfoldable pub other_job_in : Text → List Row → Option Job
other_job_in name rows =
    if bytes_eq name (codes "schedule") then schedule_of rows
    else if bytes_eq name (codes "key-id") then key_id_of rows
    else if bytes_eq name (codes "list") then list_of rows
    else if bytes_eq name (codes "copy") then copy_of rows
    else if bytes_eq name (codes "audit") then audit_of rows
    else None

unfoldable pub serving_job_in : Text → List Row → Option Job
serving_job_in name rows =
    if bytes_eq name (codes "serve") then serve_of rows
    else if bytes_eq name (codes "open") then open_of rows
    else if bytes_eq name (codes "follow") then follow_of rows
    else if bytes_eq name (codes "at") then at_of rows
    else if bytes_eq name (codes "replay") then replay_of rows
    else other_job_in name rows

unfoldable pub job_in : Text → List Row → Option Job
job_in name rows =
    if bytes_eq name (codes "init") then init_of rows
    else if bytes_eq name (codes "script") then script_of rows
    else if bytes_eq name (codes "import") then import_of rows
    else if bytes_eq name (codes "crl") then crl_job rows
    else serving_job_in name rows

-- the job of the given command, from its name and rows
abbrev pub job_found : Option (Text × List Row) → Option Job
job_found found = option_and_then (λ found. job_in found.0 found.1) found

-- whether an option without a value is given after the command
abbrev pub has_flag_after : Text → Option (Text × List Row) → Bool
has_flag_after id found = option_map_or (λ found. has_flag id found.1) found false

-- the value of an option that is given after the command
abbrev pub value_after : Text → Option (Text × List Row) → Option Text
value_after id found = option_and_then (λ found. first_of id found.1) found

-- the job of words that clap accepts
abbrev pub job_of : List Text → Option Job
job_of words = job_found (subcommand_of desk_app words)

-- clap accepts the words
abbrev pub ClapAccepts : List Text → Type 0
ClapAccepts words = fault_of desk_app words ≡ []

-- the invocation from what clap found before and after the command: the job; whether the cause of a failure is reported, by `--why` before or
-- after it; and the log, by `--log` and `--log-file` after it
abbrev pub IsInvocationIn : List Row → Option (Text × List Row) → Invocation → Type 0
IsInvocationIn before found invocation = (job_found found ≡ Some invocation.job)
    × (invocation.is_explained ≡ (has_flag (codes "why") before || has_flag_after (codes "why") found))
    × (invocation.has_log ≡ has_flag_after (codes "log") found)
    × (invocation.log_file ≡ value_after (codes "log-file") found)

-- clap accepts the words, and this is their invocation
abbrev pub IsInvocationOf : List Text → Invocation → Type 0
IsInvocationOf words invocation =
    ClapAccepts words × IsInvocationIn (matches_of desk_app words) (subcommand_of desk_app words) invocation

-- the usage for an error of a kind: help, the version, or a usage error (`Bad`) for any other kind; or out of memory
abbrev pub PrintsUsage : ErrorKind → Usage → Type 0
PrintsUsage kind (Help text) = kind ≡ DisplayHelp
PrintsUsage kind (Version text) = kind ≡ DisplayVersion
PrintsUsage kind (Bad text) = (kind ≢ DisplayHelp) × (kind ≢ DisplayVersion) × (kind ≢ OutOfMemory)
PrintsUsage kind Memory = Unit {0}

-- help or the version, if clap answers with that; a usage error, if clap finds an error, or accepts words that make no job; out of memory,
-- for any words
abbrev pub IsUsageOf : List Text → Usage → Type 0
IsUsageOf words (Help text) = IsAmong DisplayHelp (fault_of desk_app words)
IsUsageOf words (Version text) = IsAmong DisplayVersion (fault_of desk_app words)
IsUsageOf words (Bad text) =
    ((kind : ErrorKind) × (kind ≢ DisplayHelp) × (kind ≢ DisplayVersion)
    × IsAmong kind (fault_of desk_app words))
    ⊎ (ClapAccepts words × (job_of words ≡ None))
IsUsageOf words Memory = Unit {0}

-- the usage if clap accepts the words and they are no invocation
abbrev pub IsNoInvocation : Option (Text × List Row) → Usage → Type 0
IsNoInvocation found (Help text) = ⊥
IsNoInvocation found (Version text) = ⊥
IsNoInvocation found (Bad text) = job_found found ≡ None
IsNoInvocation found Memory = Unit {0}
