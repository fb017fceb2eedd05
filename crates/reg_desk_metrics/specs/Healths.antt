-- Whether all is well with an open register, and the body of the answer to `GET /health`.
use Rattle.std.specs.Prelude.{ℕ, Bool, true, false, cond, not, ◌&&◌, ◌-◌, ◌/◌, max, nat_lt, List, [], ◌∷◌, ◌++◌, codes, Some, None, Result, Ok, Err}
use Rattle.std.specs.Option.{option_or}
use Rattle.std.specs.declared.option.Option.{Option}
use Rattle.reg_core.specs.Calendar.{moment_text}
use Rattle.reg_core.specs.declared.refusal.Fault.{Fault}
use Rattle.reg_core.specs.declared.refusal.Fault.TheVariants.{Refused}
use Rattle.reg_core.specs.declared.refusal.Refusal.TheVariants.{ClockBack}
use Rattle.reg_office_api.specs.declared.register_summary.TableSizes.{TableSizes}
use Rattle.reg_office_api.specs.declared.register_summary.RegisterSummary.{RegisterSummary}
use Rattle.reg_desk_metrics.specs.Ahead.{is_ahead}
use Rattle.reg_desk_metrics.specs.declared.health.Health.{Health}
use Rattle.reg_desk_metrics.specs.declared.numbers.Numbers.{Numbers}
use Rattle.reg_desk_metrics.specs.declared.tally.Tally.{Tally}

-- whether there is no moment
abbrev pub is_none : Option ℕ → Bool
is_none (Some at) = false
is_none None = true

-- the moment of the last command, if the clock is behind it; now, if the clock is too far ahead, or if the register refuses for another reason
-- (the clock is at or past `clock_end`)
abbrev pub clock_failing_since : ℕ → Result Numbers Fault → Option ℕ → Option ℕ
clock_failing_since now (Ok numbers) accepted = cond (is_ahead now numbers.summary.last accepted) (Some now) None
clock_failing_since now (Err (Refused (ClockBack last))) accepted = Some last
clock_failing_since now (Err (Refused other)) accepted = Some now
clock_failing_since now other accepted = None

-- whether the next CRL is due at once, by the register's numbers
abbrev pub is_crl_due_at_once : Result Numbers Fault → Bool
is_crl_due_at_once (Ok numbers) = is_none numbers.due
is_crl_due_at_once (Err fault) = false

-- a moment, if it is past
abbrev pub if_past : ℕ → Option ℕ → Option ℕ
if_past now (Some at) = cond (nat_lt at now) (Some at) None
if_past now None = None

-- since when the next CRL is due, if that moment is past
abbrev pub crl_since : ℕ → Result Numbers Fault → Option ℕ
crl_since now (Ok numbers) = if_past now numbers.due
crl_since now (Err fault) = None

-- the number of rows of the largest table
abbrev pub most_rows : TableSizes → ℕ
most_rows rows = max (max (max (max rows.subscribers rows.orders) rows.certificates) rows.requests) rows.crls

-- whether less than a fifth of the cap is left in a table
abbrev pub is_filling : RegisterSummary → Bool
is_filling summary = nat_lt (summary.cap - most_rows summary.rows) (summary.cap / 5)

-- now, if less than a fifth of the cap is left in a table
abbrev pub rows_since : ℕ → Result Numbers Fault → Option ℕ
rows_since now (Ok numbers) = cond (is_filling numbers.summary) (Some now) None
rows_since now (Err fault) = None

-- since when the store fails: by the tally, or else now if the numbers can't be read for another reason than a refusal
abbrev pub store_since_at : ℕ → Result Numbers Fault → Option ℕ → Option ℕ
store_since_at now (Ok numbers) since = since
store_since_at now (Err (Refused why)) since = since
store_since_at now (Err other) since = option_or since (Some now)

-- whether a moment was at least ten seconds ago
abbrev pub is_unconfirmed_late_at : ℕ → Option ℕ → Bool
is_unconfirmed_late_at now (Some since) = not (nat_lt (now - since) 10)
is_unconfirmed_late_at now None = false

-- the health of a register at a moment, from its numbers, the tally, and the moment that the operator accepted
abbrev pub health_of : ℕ → Result Numbers Fault → Tally → Option ℕ → Health
health_of now found tally accepted = record {
  clock = clock_failing_since now found accepted;
  is_crl_due_at_once = is_crl_due_at_once found;
  crl = crl_since now found;
  crl_signer = tally.crls.failing_since;
  ocsp_signer = tally.ocsp.failing_since;
  rows = rows_since now found;
  store = store_since_at now found tally.store_failing_since;
  waits_for_followers = tally.waits_for_followers;
  unconfirmed = tally.unconfirmed_since;
  is_unconfirmed_late = is_unconfirmed_late_at now tally.unconfirmed_since;
}

-- all is well: each moment of the health is None, no CRL is due at once, and no command has waited for followers for ten seconds
abbrev pub is_well : Health → Bool
is_well health =
    is_none health.clock
    && (not health.is_crl_due_at_once
    && (is_none health.crl
    && (is_none health.crl_signer
    && (is_none health.ocsp_signer && (is_none health.rows && (is_none health.store && not health.is_unconfirmed_late))))))

-- a moment in quotation marks, or null
abbrev pub since_text : Option ℕ → List ℕ
since_text (Some at) = 34 ∷ moment_text at ++ 34 ∷ []
since_text None = codes "null"

-- a member: its name, and the moment that its field has, or null
abbrev pub member : List ℕ → Option ℕ → List ℕ
member name since = name ++ since_text since

-- the member of the CRL: `"at-once"` if it is due at once, and otherwise since when it is due
unfoldable pub crl_text : Bool → Option ℕ → List ℕ
crl_text is_crl_due_at_once crl =
    codes ",\"crl\":" ++ cond is_crl_due_at_once (codes "\"at-once\"") (since_text crl)

unfoldable pub signers_text : Option ℕ → Option ℕ → List ℕ
signers_text crl ocsp = member (codes ",\"crl_signer\":") crl ++ member (codes ",\"ocsp_signer\":") ocsp

-- the member `status`, and the name `store` of the last member
unfoldable pub status_member : Bool → List ℕ
status_member is_well =
    cond is_well (codes ",\"status\":\"ok\",\"store\":") (codes ",\"status\":\"failing\",\"store\":")

-- the members, without the closing brace
unfoldable pub health_members : Health → Bool → List ℕ
health_members health well =
    codes "{\"clock\":" ++ since_text health.clock ++ crl_text health.is_crl_due_at_once health.crl
    ++ signers_text health.crl_signer health.ocsp_signer
    ++ member (codes ",\"rows\":") health.rows ++ status_member well ++ since_text health.store

-- the body; if all is well: `{"clock":null,"crl":null,"crl_signer":null,"ocsp_signer":null,"rows":null,"status":"ok","store":null}`
unfoldable pub health_text : Health → List ℕ
health_text health =
    health_members health (is_well health)
    ++ cond health.waits_for_followers (member (codes ",\"unconfirmed\":") health.unconfirmed) [] ++ 125 ∷ []
