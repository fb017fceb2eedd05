-- Open and overdue requests, and when the next CRL is due.
use Rattle.std.specs.Prelude.{ℕ, Bool, not, ◌&&◌, ◌+◌, nat_le, nat_lt, min, List, [], ◌∷◌, length, filter, Option, Some, None, option_map}
use Rattle.reg_core.specs.Records.{Records}
use Rattle.reg_core.specs.Policy.{Terms}
use Rattle.reg_core.specs.Grounds.{limit_of}
use Rattle.reg_core.specs.Status.{status, is_good}
use Rattle.reg_core.specs.Crls.{latest, next_number, row_of}
use Rattle.reg_core.specs.declared.rows.RequestRow.{RequestRow}
use Rattle.reg_core.specs.declared.rows.RevocationRow.{RevocationRow}
use Rattle.reg_core.specs.declared.rows.CrlRow.{CrlRow}
use Rattle.reg_core.specs.declared.command.Overdue.{Overdue}

-- a request's deadline: a revocation by it is late after this moment
abbrev pub deadline : RequestRow → ℕ
deadline request = request.received + limit_of request.ground

-- the request was not declined, and its certificate is neither revoked nor expired
abbrev pub is_open : Records → ℕ → RequestRow → Bool
is_open records moment request = not request.declined && is_good (status records request.serial moment)

-- the requests that are open past their deadline
abbrev pub overdue : Records → ℕ → List RequestRow
overdue records moment =
    filter (λ request. is_open records moment request && nat_lt (deadline request) moment) records.requests

-- how many requests are in a list, and the id of the first; `None` if the list is empty
abbrev pub overdue_report : List RequestRow → Option Overdue
overdue_report [] = None
overdue_report (request ∷ rest) = Some (record { count = length (request ∷ rest); first = request.id })

-- the revocations whose `first` is not below the number of the next CRL, so that no issued CRL lists them
abbrev pub unlisted : Records → List RevocationRow
unlisted records =
    filter (λ revocation. nat_le (next_number records.crls) revocation.first) records.revocations

-- the moment of the earliest revocation; `None` if there is none
abbrev pub earliest : List RevocationRow → Option ℕ
earliest [] = None
earliest (revocation ∷ rest) = Some (before revocation.at (earliest rest))
  where
    before : ℕ → Option ℕ → ℕ
    before at None = at
    before at (Some other) = min at other

-- when the next CRL is due: a week after thisUpdate of the latest one, at its nextUpdate (RFC 5280 5.1.2.5), or a day
-- after the earliest revocation that no CRL has listed (`waiting`), whichever is first. `None` if there is no CRL: due at once.
abbrev pub due_by : Terms → Option CrlRow → Option ℕ → Option ℕ
due_by policy None waiting = None
due_by policy (Some crl) None = Some (min (crl.this_update + 604800) (crl.this_update + policy.crl_life))
due_by policy (Some crl) (Some at) =
    Some (min (min (crl.this_update + 604800) (crl.this_update + policy.crl_life)) (at + 86400))

-- when the next CRL of these records is due
abbrev pub due : Records → Option ℕ
due records = due_by records.policy (option_map row_of (latest records.crls)) (earliest (unlisted records))
