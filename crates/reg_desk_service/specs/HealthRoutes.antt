-- What an open desk reports on itself, on the routes `/health` and `/metrics`.
use Rattle.std.specs.Prelude.{◌≡◌, ◌⊎◌, ◌↔◌, ◌++◌, ℕ, Bool, true, false, cond, List, codes, bytes_eq, Some, None, Result, Ok, Err, IsTrue, MatchBool, option_map}
use Rattle.std.specs.declared.option.Option.{Option}
use Rattle.reg_core.specs.Crls.{latest}
use Rattle.reg_core.specs.Queries.{answer}
use Rattle.reg_core.specs.Records.{Crl, Records}
use Rattle.reg_core.specs.declared.command.Overdue.{Overdue}
use Rattle.reg_core.specs.declared.command.Query.{Query}
use Rattle.reg_core.specs.declared.command.Query.TheVariants.{Counts as AskCounts, NextCrl as AskNextCrl, Overdue as AskOverdue}
use Rattle.reg_core.specs.declared.command.Reply.{Reply}
use Rattle.reg_core.specs.declared.command.Reply.TheVariants.{Counts as CountsAre, NextCrl as NextCrlIs, Overdue as OverdueAre}
use Rattle.reg_core.specs.declared.refusal.Fault.{Fault}
use Rattle.reg_core.specs.declared.refusal.Fault.TheVariants.{Memory, Refused, Store}
use Rattle.reg_crl.specs.Signing.{sha1_algorithm}
use Rattle.reg_crl_signer.specs.Signed.{IsCrlWithAlgorithm}
use Rattle.reg_desk_cli.specs.declared.desk.TheConstants.{VERSION}
use Rattle.reg_http_head.specs.Response.{Response}
use Rattle.reg_http.specs.Bodies.{json, method_not_allowed}
use Rattle.reg_http.specs.AnswerEffects.{AnswerEffects, plain}
use Rattle.reg_desk_metrics.specs.Followers.{follower_health_text, follower_text, is_well_with}
use Rattle.reg_desk_metrics.specs.Healths.{health_of, health_text, is_well}
use Rattle.reg_desk_metrics.specs.Metrics.{metrics_text}
use Rattle.reg_desk_metrics.specs.Tallies.{has_crl_key, read_of, with_counted, with_read}
use Rattle.reg_desk_metrics.specs.declared.follower_status.FollowerStatus.{FollowerStatus}
use Rattle.reg_desk_metrics.specs.declared.health.Health.{Health as HealthOf}
use Rattle.reg_desk_metrics.specs.declared.numbers.ConnectionTotals.{ConnectionTotals}
use Rattle.reg_desk_metrics.specs.declared.numbers.Numbers.{Numbers}
use Rattle.reg_desk_metrics.specs.declared.numbers.CrlSigning.{CrlSigning}
use Rattle.reg_desk_metrics.specs.declared.numbers.CrlSigning.TheVariants as signing
use Rattle.reg_desk_metrics.specs.declared.numbers.ReadCrl.{ReadCrl}
use Rattle.reg_desk_metrics.specs.declared.numbers.Requests.{Requests}
use Rattle.reg_office_api.specs.LookUps.{HasOpen, IsRegisterSummary}
use Rattle.reg_desk_service.specs.declared.crl_signer.CrlSignerChoice.{CrlSignerChoice}
use Rattle.reg_desk_service.specs.declared.crl_signer.CrlSignerChoice.TheVariants as signer
use Rattle.reg_desk_service.specs.declared.reasons.Reason.{Reason}
use Rattle.reg_desk_service.specs.declared.reasons.Reason.TheVariants.{Unsigned}
use Rattle.reg_desk_metrics.specs.declared.tally.Tally.{Tally}

-- ---- the numbers that are read from a register

-- the answer to a query is a reply of this kind, a refusal, or a fault of memory or the store; a reply of another kind, which no office gives, counts
-- as a fault of the store
abbrev pub Has : {A : Type 0} → Query → (A → Reply) → Records → ℕ → Result A Fault → Type 0
Has query kind records now (Ok it) = answer records now query ≡ Ok (kind it)
Has query kind records now (Err (Refused refusal)) = answer records now query ≡ Err refusal
Has query kind records now (Err Memory) = Unit {0}
Has query kind records now (Err Store) = Unit {0}
Has query kind records now (Err other) = ⊥

-- how many requests are overdue, by the reply to `overdue`
abbrev pub overdue_count : Option Overdue → ℕ
overdue_count (Some overdue) = overdue.count
overdue_count None = 0

abbrev pub HasOverdue : Records → ℕ → Result ℕ Fault → Type 0
HasOverdue records now (Ok count) =
    (overdue : Option Overdue) × (answer records now AskOverdue ≡ Ok (OverdueAre overdue))
    × (count ≡ overdue_count overdue)
HasOverdue records now (Err (Refused refusal)) = answer records now AskOverdue ≡ Err refusal
HasOverdue records now (Err Memory) = Unit {0}
HasOverdue records now (Err Store) = Unit {0}
HasOverdue records now (Err other) = ⊥

-- how CRLs are signed, as the tally has it
abbrev pub signing_by : CrlSignerChoice → CrlSigning
signing_by (signer.KeyAt address) = signing.Key
signing_by signer.Digest = signing.Digest
signing_by signer.NoSigner = signing.NoSigner

-- whether a CRL has a placeholder digest instead of a signature, by its signatureAlgorithm (RFC 5280 5.1.1.2)
abbrev pub IsUnsigned : List ℕ → Bool → Type 0
IsUnsigned crl is_unsigned =
    (algorithm : List ℕ) → IsCrlWithAlgorithm crl algorithm → (IsTrue is_unsigned ↔ (algorithm ≡ sha1_algorithm))

-- the number of a CRL, and whether it is unsigned, as they are read in it
abbrev pub IsReadIn : Crl → ReadCrl → Type 0
IsReadIn crl read = (read.number ≡ crl.number) × IsUnsigned crl.bytes read.is_unsigned

-- the same for the latest CRL, if it has this number
abbrev pub IsReadAt : Records → ℕ → ReadCrl → Type 0
IsReadAt records number read =
    (crl : Crl) → latest records.crls ≡ Some crl → number ≡ crl.number → IsReadIn crl read

-- the same for the latest CRL as it was read, now or earlier; `None` if no signer has the key for the next one, or there is no CRL
abbrev pub IsLatestRead : Tally → Records → Option ReadCrl → Type 0
IsLatestRead tally records (Some read) = (has_crl_key tally ≡ true)
    × ((crl : Crl) × (latest records.crls ≡ Some crl)
    × ((read_of crl.number tally ≡ Some read) ⊎ IsReadIn crl read))
IsLatestRead tally records None = (has_crl_key tally ≡ false) ⊎ (latest records.crls ≡ None)

-- when the next CRL is due: at once (`None`) after a CRL without a signature, else as the query `next-crl` states
abbrev pub due_after : ReadCrl → Option ℕ → Option ℕ
due_after read asked = cond read.is_unsigned None asked

abbrev pub due_after_latest : Option ReadCrl → Option ℕ → Option ℕ
due_after_latest None asked = asked
due_after_latest (Some read) asked = due_after read asked

-- when the next CRL is due at a moment: as `next-crl` states, or at once if a signer has the key and the latest CRL has no signature
abbrev pub HasDue : Tally → Records → ℕ → Result (Option ℕ) Fault → Type 0
HasDue tally records now (Ok due) = (asked : Option ℕ) × (read : Option ReadCrl)
    × Has AskNextCrl NextCrlIs records now (Ok asked) × IsLatestRead tally records read
    × (due ≡ due_after_latest read asked)
HasDue tally records now (Err (Refused refusal)) = answer records now AskNextCrl ≡ Err refusal
HasDue tally records now (Err Memory) = Unit {0}
HasDue tally records now (Err Store) = Unit {0}
HasDue tally records now (Err other) = ⊥

-- the tally keeps the number of the latest CRL and whether it is unsigned, or does not change
abbrev pub KeepsRead : Tally → Records → Tally → Type 0
KeepsRead tally records tally' =
    (tally' ≡ tally)
    ⊎ ((read : ReadCrl) × IsLatestRead tally records (Some read) × (tally' ≡ with_read read tally))

-- the reason is that the next CRL is due at once, because the latest one has no signature; `None` if the latest one does not change when it is due
abbrev pub IsDueUnsigned : Tally → Records → Option Reason → Type 0
IsDueUnsigned tally records (Some (Unsigned number)) =
    (read : ReadCrl) × IsLatestRead tally records (Some read) × IsTrue read.is_unsigned
    × (number ≡ read.number)
IsDueUnsigned tally records (Some other) = ⊥
IsDueUnsigned tally records None =
    (read : Option ReadCrl) × IsLatestRead tally records read
    × ((asked : Option ℕ) → due_after_latest read asked ≡ asked)

-- the numbers of a register at a moment: its counts, when its next CRL is due, and its summary; or why they can't be read
abbrev pub HasFound : Tally → Records → ℕ → Result Numbers Fault → Type 0
HasFound tally records now (Ok numbers) =
    Has AskCounts CountsAre records now (Ok numbers.counts) × HasDue tally records now (Ok numbers.due)
    × IsRegisterSummary records numbers.summary
HasFound tally records now (Err (Refused refusal)) =
    (answer records now AskCounts ≡ Err refusal) ⊎ (answer records now AskNextCrl ≡ Err refusal)
HasFound tally records now (Err Memory) = Unit {0}
HasFound tally records now (Err Store) = Unit {0}
HasFound tally records now (Err other) = ⊥

-- its requests for revocation at a moment; or why they can't be counted, as for the overdue ones
abbrev pub HasRequests : Records → ℕ → Result Requests Fault → Type 0
HasRequests records now (Ok requests) =
    (requests.at ≡ now) × HasOpen records now (Ok requests.waiting)
    × HasOverdue records now (Ok requests.overdue)
HasRequests records now (Err fault) = HasOverdue records now (Err fault)

-- the requests for revocation were counted anew, or the tally stays
abbrev pub Recounts : Records → ℕ → Tally → Tally → Type 0
Recounts records now tally tally' =
    (tally' ≡ tally)
    ⊎ ((requests : Requests) × HasRequests records now (Ok requests) × (tally' ≡ with_counted requests tally))

-- requests for revocation were counted anew, or not: the rest of the tally stays
abbrev pub IsCounted : Tally → Tally → Type 0
IsCounted tally tally' = (tally' ≡ tally) ⊎ ((requests : Requests) × (tally' ≡ with_counted requests tally))

-- a CRL was read, or not: the rest of the tally stays
abbrev pub IsCrlRead : Tally → Tally → Type 0
IsCrlRead tally tally' = (tally' ≡ tally) ⊎ ((read : ReadCrl) × (tally' ≡ with_read read tally))

-- the requests for revocation were counted anew or not, and then a CRL was read or not
abbrev pub IsRecounted : Tally → Tally → Type 0
IsRecounted tally tally' =
    (tally' ≡ tally) ⊎ ((counted : Tally) × IsCounted tally counted × IsCrlRead counted tally')

-- ---- the answers

-- 200 if all is well, else 503 (RFC 9110 15.6.4)
abbrev pub health_status : Bool → ℕ
health_status is_well = cond is_well 200 503

-- the answer with the health: its status, and its text as JSON
abbrev pub health_response : HealthOf → Response
health_response health = json (health_status (is_well health)) (health_text health)

-- the same of a follower, whose health is also that of its register
abbrev pub follower_health_response : FollowerStatus → HealthOf → Response
follower_health_response follower health =
    json (health_status (is_well_with follower health)) (follower_health_text follower health)

-- 200 with the text form of Prometheus
abbrev pub metrics_response : List ℕ → Response
metrics_response text = record {
  status = 200;
  kind = codes "text/plain; version=0.0.4; charset=utf-8";
  allow = None;
  body = text;
}

-- GET has this answer; any other method is answered with 405 (RFC 9110 15.5.6)
abbrev pub ByGet : List ℕ → (AnswerEffects → Type 0) → AnswerEffects → Type 0
ByGet method Says it =
    MatchBool (bytes_eq method (codes "GET")) (Says it) (it ≡ plain (method_not_allowed (codes "GET")))

-- the health at a moment, from the register's numbers, some tally, and the moment that the operator accepted
abbrev pub IsHealthAt : Option ℕ → ℕ → Records → HealthOf → Type 0
IsHealthAt accepted now records health =
    (tally : Tally) × (found : Result Numbers Fault) × HasFound tally records now found
    × ((tally' : Tally) × (health ≡ health_of now found tally' accepted))

-- the health: from the register's numbers at a moment, some tally, and the moment that the operator accepted
abbrev pub AnswersHealth : Option ℕ → ℕ → Records → AnswerEffects → Type 0
AnswersHealth accepted now records it =
    (tally : Tally) × (found : Result Numbers Fault) × HasFound tally records now found
    × ((tally' : Tally)
    × (it ≡ plain (health_response (health_of now found tally' accepted))))

-- the health of a follower and of its register
abbrev pub AnswersFollowerHealth : FollowerStatus → ℕ → Records → AnswerEffects → Type 0
AnswersFollowerHealth follower now records it =
    (health : HealthOf) × IsHealthAt None now records health
    × (it ≡ plain (follower_health_response follower health))

-- the metrics: from the register's numbers at a moment, some tally, and some totals of connections
abbrev pub AnswersMetrics : ℕ → Records → AnswerEffects → Type 0
AnswersMetrics now records it =
    (tally : Tally) × (found : Result Numbers Fault) × HasFound tally records now found
    × ((tally' : Tally) × (connection_totals : ConnectionTotals)
    × (it ≡ plain (metrics_response (metrics_text VERSION.now now found tally' connection_totals))))

-- the metrics of a follower: those of an open desk, and then its own
abbrev pub AnswersFollowerMetrics : FollowerStatus → ℕ → Records → AnswerEffects → Type 0
AnswersFollowerMetrics follower now records it =
    (tally : Tally) × (found : Result Numbers Fault) × HasFound tally records now found
    × ((tally' : Tally) × (connection_totals : ConnectionTotals)
    × (it ≡ plain (metrics_response
    (metrics_text VERSION.now now found tally' connection_totals ++ follower_text follower))))
