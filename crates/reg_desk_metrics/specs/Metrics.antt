-- The metrics of an open register, in the text format of Prometheus, version 0.0.4. The HELP and TYPE lines of a family are at the front of the
-- constant that names its first series, or alone in a constant (ANSWERED, SECONDS, ROUTE_SECONDS).
use Rattle.std.specs.Prelude.{ℕ, zero, suc, ◌==◌, ◌+◌, ◌-◌, ◌/◌, ◌%◌, ◌^◌, min, List, [], ◌∷◌, ◌++◌, codes, slice_index_or, if◌then◌else◌, Some, None, Result, Ok, Err}
use Rattle.std.specs.declared.option.Option.{Option}
use Rattle.reg_core.specs.declared.command.Counts.{Counts}
use Rattle.reg_core.specs.declared.refusal.Fault.{Fault}
use Rattle.reg_core.specs.declared.refusal.Fault.TheVariants.{Refused}
use Rattle.reg_core.specs.declared.refusal.Refusal.TheVariants.{ClockBack}
use Rattle.reg_core.specs.declared.rows.CrlRow.{CrlRow}
use Rattle.reg_office_api.specs.declared.register_summary.TableSizes.{TableSizes}
use Rattle.reg_desk_metrics.specs.Samples.{moment_or_zero, sample, sample_of_seconds}
use Rattle.reg_desk_metrics.specs.Tallies.{greatest}
use Rattle.reg_desk_metrics.specs.declared.series_names.TheConstants.{ACCEPTED, ACCEPTED_LINES, ANSWER, ANSWER_CODE, ANSWERED, BEHIND, BROKEN, BUILD, CAP, CERTIFICATE_ROWS, CLOCK, COUNTED, OPEN_CONTROL, CRL_AGE, CRL_DUE, CRL_FAILING, CRL_LAST, CRL_LAST_FAILED, CRL_NUMBER, CRL_ROWS, CRL_SIGNED, CRL_FAILED, EVICTED, EXPIRED, FAULTS, GOOD, LABEL_END, LAST_COMMAND, LATE, NEXT_UPDATE, NO_MEMORY, OCSP_ERRORS_BY_SIGNER, OCSP_ERRORS_BY_STORE, OCSP_FAILING, OCSP_LAST, OCSP_LAST_FAILED, OCSP_SIGNED, OCSP_FAILED, OPEN, ORDER_ROWS, OVERDUE, OPEN_HTTP, READABLE, REFUSED_LINES, REQUEST_ROWS, RESPONDER_ENDS, REVOKED, ROUTE_COUNT, ROUTE_SECONDS, ROUTE_SUM, SECONDS, SECONDS_COUNT, SECONDS_SUM, SECONDS_TO, STORE_FAILING, SUBSCRIBER_ROWS, THIS_UPDATE}
use Rattle.reg_desk_metrics.specs.declared.numbers.ConnectionTotals.{ConnectionTotals}
use Rattle.reg_desk_metrics.specs.declared.numbers.Numbers.{Numbers}
use Rattle.reg_desk_metrics.specs.declared.numbers.Requests.{Requests}
use Rattle.reg_desk_metrics.specs.declared.signature_outcomes.SignatureCounts.{SignatureCounts}
use Rattle.reg_desk_metrics.specs.declared.tally.Tally.{Tally}

-- how many seconds the clock is behind the last command; 0 if the register doesn't refuse for that reason
abbrev pub seconds_behind : ℕ → Result Numbers Fault → ℕ
seconds_behind now (Err (Refused (ClockBack last))) = last - now
seconds_behind now other = 0

unfoldable pub build_text : List ℕ → List ℕ
build_text version = BUILD.now ++ version ++ sample LABEL_END.now 1

-- the clock, and how many seconds it is behind the last command
unfoldable pub clock_text : ℕ → Result Numbers Fault → List ℕ
clock_text now found = sample CLOCK.now now ++ sample BEHIND.now (seconds_behind now found)

-- how many certificates have each status
unfoldable pub certificates_text : Counts → List ℕ
certificates_text counts =
    sample GOOD.now counts.good ++ sample REVOKED.now counts.revoked ++ sample EXPIRED.now counts.expired

-- a CRL: its number, its thisUpdate and nextUpdate (RFC 5280 5.1.2), and its age
unfoldable pub issued_text : ℕ → CrlRow → ℕ → List ℕ
issued_text now crl life =
    sample CRL_NUMBER.now crl.number ++ sample THIS_UPDATE.now crl.this_update
    ++ sample NEXT_UPDATE.now (min (crl.this_update + life) greatest)
    ++ sample CRL_AGE.now (now - crl.this_update)

-- the latest CRL, with the life of CRLs in seconds; number 0 if there is none
abbrev pub crl_text : ℕ → Option CrlRow → ℕ → List ℕ
crl_text now (Some crl) life = issued_text now crl life
crl_text now None life = sample CRL_NUMBER.now 0

-- how many rows each table has, and the cap
unfoldable pub rows_text : TableSizes → ℕ → List ℕ
rows_text rows cap =
    sample SUBSCRIBER_ROWS.now rows.subscribers ++ sample ORDER_ROWS.now rows.orders
    ++ sample CERTIFICATE_ROWS.now rows.certificates
    ++ sample REQUEST_ROWS.now rows.requests ++ sample CRL_ROWS.now rows.crls ++ sample CAP.now cap

-- the numbers of a register
unfoldable pub numbers_text : ℕ → Numbers → List ℕ
numbers_text now numbers =
    sample READABLE.now 1 ++ certificates_text numbers.counts
    ++ rows_text numbers.summary.rows numbers.summary.cap
    ++ sample LAST_COMMAND.now numbers.summary.last
    ++ crl_text now numbers.summary.latest numbers.summary.crl_life
    ++ sample CRL_DUE.now (moment_or_zero numbers.due)

-- the numbers of a register; or only that they can't be read, for a refusal or a fault
unfoldable pub register_text : ℕ → Result Numbers Fault → List ℕ
register_text now (Ok numbers) = numbers_text now numbers
register_text now (Err fault) = sample READABLE.now 0

-- requests for revocation, if they were counted
unfoldable pub requests_text : Option Requests → List ℕ
requests_text None = []
requests_text (Some counted) =
    sample OPEN.now counted.waiting ++ sample OVERDUE.now counted.overdue ++ sample COUNTED.now counted.at

-- the label of a route, by its index
unfoldable pub route_name : ℕ → List ℕ
route_name index =
    if index == 0 then codes "/ocsp"
    else if index == 1 then codes "/ocsp/{request}"
    else if index == 2 then codes "/crl"
    else if index == 3 then codes "/crl/{number}"
    else if index == 4 then codes "/status/{serial}"
    else if index == 5 then codes "/counts"
    else if index == 6 then codes "/requests"
    else if index == 7 then codes "/list/{word}"
    else if index == 8 then codes "/health"
    else if index == 9 then codes "/metrics"
    else if index == 10 then codes "/changes"
    else codes "other"

-- the label of a status, by its index; `none` for any other status, and for no answer
unfoldable pub code_name : ℕ → List ℕ
code_name index =
    if index == 0 then codes "200"
    else if index == 1 then codes "400"
    else if index == 2 then codes "404"
    else if index == 3 then codes "405"
    else if index == 4 then codes "409"
    else if index == 5 then codes "411"
    else if index == 6 then codes "413"
    else if index == 7 then codes "429"
    else if index == 8 then codes "431"
    else if index == 9 then codes "500"
    else if index == 10 then codes "503"
    else codes "none"

-- how many answers had the route and the status of an index; nothing if there was none
abbrev pub answer_text : ℕ → ℕ → List ℕ
answer_text index count =
    if count == 0 then []
    else ANSWER.now ++ route_name (index / 12) ++ ANSWER_CODE.now ++ code_name (index % 12)
    ++ sample LABEL_END.now count

-- the same for the first indexes, as many as given, in ascending order
unfoldable pub answers_prefix : List ℕ → ℕ → List ℕ
answers_prefix answers zero = []
answers_prefix answers (suc index) =
    answers_prefix answers index ++ answer_text index (slice_index_or answers index 0)

-- the answers, by route and status
abbrev pub answers_text : List ℕ → List ℕ
answers_text answers = ANSWERED.now ++ answers_prefix answers 144

-- the lines at the control socket, by their reply
unfoldable pub lines_text : Tally → List ℕ
lines_text tally =
    sample ACCEPTED_LINES.now tally.accepted ++ sample REFUSED_LINES.now tally.refused
    ++ sample FAULTS.now tally.faults

-- signatures: how many were received, and how many failed
unfoldable pub signed_text : SignatureCounts → SignatureCounts → List ℕ
signed_text crls ocsp =
    sample CRL_SIGNED.now crls.received ++ sample OCSP_SIGNED.now ocsp.received
    ++ sample CRL_FAILED.now crls.failed ++ sample OCSP_FAILED.now ocsp.failed

-- when a signature was last received, and when one last failed
unfoldable pub last_text : SignatureCounts → SignatureCounts → List ℕ
last_text crls ocsp =
    sample CRL_LAST.now (moment_or_zero crls.last) ++ sample OCSP_LAST.now (moment_or_zero ocsp.last)
    ++ sample CRL_LAST_FAILED.now (moment_or_zero crls.last_failed)
    ++ sample OCSP_LAST_FAILED.now (moment_or_zero ocsp.last_failed)

-- since when signatures fail, and since when the store fails
unfoldable pub signers_text : Tally → List ℕ
signers_text tally =
    sample CRL_FAILING.now (moment_or_zero tally.crls.failing_since)
    ++ sample OCSP_FAILING.now (moment_or_zero tally.ocsp.failing_since)
    ++ sample STORE_FAILING.now (moment_or_zero tally.store_failing_since)

-- the open connections, and the accepted ones
unfoldable pub connections_text : ConnectionTotals → List ℕ
connections_text connection_totals =
    sample OPEN_HTTP.now connection_totals.open_http ++ sample OPEN_CONTROL.now connection_totals.open_control
    ++ sample ACCEPTED.now connection_totals.accepted

-- the lost connections, by cause
unfoldable pub lost_text : ConnectionTotals → List ℕ
lost_text connection_totals =
    sample BROKEN.now connection_totals.broken ++ sample LATE.now connection_totals.late
    ++ sample EVICTED.now connection_totals.evicted ++ sample NO_MEMORY.now connection_totals.memory

-- the upper bound of a bucket in seconds, by its index
unfoldable pub bucket_name : ℕ → List ℕ
bucket_name index =
    if index == 0 then codes "0.0001"
    else if index == 1 then codes "0.0003"
    else if index == 2 then codes "0.001"
    else if index == 3 then codes "0.003"
    else if index == 4 then codes "0.01"
    else if index == 5 then codes "0.03"
    else if index == 6 then codes "0.1"
    else if index == 7 then codes "0.3"
    else if index == 8 then codes "1"
    else if index == 9 then codes "3"
    else if index == 10 then codes "10"
    else codes "+Inf"

-- how many exchanges and lines took no longer than a bucket's upper bound
abbrev pub bucket_text : List ℕ → ℕ → List ℕ
bucket_text name count = SECONDS_TO.now ++ name ++ sample LABEL_END.now count

-- the sum of the first buckets, at most `greatest`
unfoldable pub sum_of : List ℕ → ℕ → ℕ
sum_of buckets zero = 0
sum_of buckets (suc index) = min (sum_of buckets index + slice_index_or buckets index 0) greatest

-- the first buckets in order, each with the sum of its count and of those of the buckets below it
unfoldable pub buckets_text : List ℕ → ℕ → List ℕ
buckets_text buckets zero = []
buckets_text buckets (suc index) =
    buckets_text buckets index ++ bucket_text (bucket_name index) (sum_of buckets (suc index))

-- how long exchanges and lines took, as a histogram in seconds
unfoldable pub seconds_text : Tally → List ℕ
seconds_text tally =
    SECONDS.now ++ buckets_text tally.buckets 12 ++ sample_of_seconds SECONDS_SUM.now tally.micros
    ++ sample SECONDS_COUNT.now (sum_of tally.buckets 12)

-- the seconds of a route's answers, and how many there were
unfoldable pub route_text : List ℕ → ℕ → ℕ → List ℕ
route_text name micros count =
    ROUTE_SUM.now ++ name ++ sample_of_seconds LABEL_END.now micros ++ ROUTE_COUNT.now ++ name
    ++ sample LABEL_END.now count

-- the first routes, in order
unfoldable pub routes_prefix : Tally → ℕ → List ℕ
routes_prefix tally zero = []
routes_prefix tally (suc index) =
    routes_prefix tally index
    ++ route_text (route_name index) (slice_index_or tally.route_micros index 0)
    (slice_index_or tally.route_counts index 0)

abbrev pub routes_text : Tally → List ℕ
routes_text tally = ROUTE_SECONDS.now ++ routes_prefix tally 12

-- the OCSP responses that were internalError, by cause
unfoldable pub failures_text : Tally → List ℕ
failures_text tally =
    sample OCSP_ERRORS_BY_SIGNER.now tally.ocsp_signer_failures ++ sample OCSP_ERRORS_BY_STORE.now tally.ocsp_store_failures

-- notAfter of the responder's certificate, if it is known
abbrev pub responder_text : Option ℕ → List ℕ
responder_text None = []
responder_text (Some at) = sample RESPONDER_ENDS.now at

-- the body of the answer to `GET /metrics`
abbrev pub metrics_text : List ℕ → ℕ → Result Numbers Fault → Tally → ConnectionTotals → List ℕ
metrics_text version now found tally connection_totals =
    build_text version ++ clock_text now found ++ register_text now found ++ requests_text tally.requests
    ++ answers_text tally.answers ++ lines_text tally
    ++ signed_text tally.crls tally.ocsp ++ last_text tally.crls tally.ocsp ++ signers_text tally
    ++ connections_text connection_totals ++ lost_text connection_totals ++ seconds_text tally
    ++ routes_text tally ++ failures_text tally ++ responder_text tally.responder_ends
