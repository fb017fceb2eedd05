-- The results of calls that look up an office's records, besides the answers to queries.
use Rattle.std.specs.Prelude.{◌≡◌, ℕ, ◌==◌, ◌&&◌, min, filter, length, Option, Some, None, option_map, Result, IfOk}
use Rattle.reg_core.specs.Crls.{latest, row_of}
use Rattle.reg_core.specs.Due.{is_open}
use Rattle.reg_core.specs.Records.{Records, order_in}
use Rattle.reg_core.specs.Schedule.{longest_at}
use Rattle.reg_core.specs.declared.refusal.Fault.{Fault}
use Rattle.reg_core.specs.declared.refusal.Fault.TheVariants.{Memory, Store}
use Rattle.reg_core_lists.specs.Feed.{IsInHistory, IsPage, no_declines, zero_counts}
use Rattle.reg_core_lists.specs.declared.positions.Positions.{Positions}
use Rattle.reg_core_lists.specs.Pages.{Pages}
use Rattle.reg_core_lists.specs.declared.cursor.Cursor.{Cursor}
use Rattle.reg_core_lists.specs.declared.rows.Page.{Page}
use Rattle.reg_der.specs.Authority.{name_of}
use Rattle.reg_office_api.specs.Signers.{OfficeSigners}
use Rattle.reg_office_api.specs.declared.changes.Changes.{Changes}
use Rattle.reg_office_api.specs.declared.changes.Changes.TheVariants.{Page as PageOfChanges, Diverged}
use Rattle.reg_office_api.specs.declared.register_summary.RequestLoad.{RequestLoad}
use Rattle.reg_office_api.specs.declared.register_summary.TableSizes.{TableSizes}
use Rattle.reg_office_api.specs.declared.register_summary.RegisterSummary.{RegisterSummary}

-- out of memory, or a failure of the store
abbrev pub IsOfStore : Fault → Type 0
IsOfStore Memory = Unit {0}
IsOfStore Store = Unit {0}
IsOfStore other = ⊥

-- how many rows each table with a cap has
abbrev pub rows_in : Records → TableSizes
rows_in records = record {
  subscribers = length records.subscribers;
  orders = length records.orders;
  certificates = length records.certificates;
  requests = length records.requests;
  crls = length records.crls;
}

-- the last accepted moment, the latest CRL without its bytes, the life of CRLs, the cap, and how many rows each table with a cap has
abbrev pub IsRegisterSummary : Records → RegisterSummary → Type 0
IsRegisterSummary records summary =
    (summary.last ≡ records.last) × (summary.latest ≡ option_map row_of (latest records.crls))
    × (summary.crl_life ≡ records.policy.crl_life)
    × (summary.cap ≡ records.policy.cap) × (summary.rows ≡ rows_in records)

-- `IsRegisterSummary`, if the call succeeds
abbrev pub HasSummary : Records → Result RegisterSummary Fault → Type 0
HasSummary records result = IfOk result (IsRegisterSummary records)

-- the last accepted moment, if the call succeeds
abbrev pub HasLastMoment : Records → Result ℕ Fault → Type 0
HasLastMoment records result = IfOk result (λ last. last ≡ records.last)

-- how many requests for revocation are open at a moment, if the call succeeds
abbrev pub HasOpen : Records → ℕ → Result ℕ Fault → Type 0
HasOpen records now result =
    IfOk result (λ count. count ≡ length (filter (is_open records now) records.requests))

-- the state of the requests at a moment: the last accepted moment, the cap of each table, how many requests there are, and how many requests for
-- a serial number are open, counted up to `most`
abbrev pub request_load_in : Records → ℕ → ℕ → ℕ → RequestLoad
request_load_in records now serial most = record {
  last = records.last;
  cap = records.policy.cap;
  requests = length records.requests;
  waiting =
      min most (length (filter (λ row. (row.serial == serial) && is_open records now row) records.requests));
}

-- `request_load_in`, if the call succeeds
abbrev pub HasRequestLoad : Records → ℕ → ℕ → ℕ → Result RequestLoad Fault → Type 0
HasRequestLoad records now serial most result =
    IfOk result (λ request_load. request_load ≡ request_load_in records now serial most)

-- the longest validity in days that an order and the policy allow for a notBefore; none if there is no such order
abbrev pub longest_allowed : Records → ℕ → ℕ → Option ℕ
longest_allowed records order not_before =
    option_map (λ row. min row.days (longest_at records.policy.schedule not_before))
    (order_in records.orders order)

-- `longest_allowed`, if the call succeeds
abbrev pub HasLongest : Records → ℕ → ℕ → Result (Option ℕ) Fault → Type 0
HasLongest records order not_before result =
    IfOk result (λ days. days ≡ longest_allowed records order not_before)

-- the result for a page of a list over sound records, as a step that does not change the records
abbrev pub PageStep : ℕ → ℕ → Cursor → Result Page Fault → OfficeSigners → Records → Records → Type 0
PageStep now most from given = λ signers before after. Pages before now most from given after

-- the page after positions that are in the history of the records, or after none; or that they are not in it
abbrev pub GivesChanges : Records → Option Positions → Changes → Type 0
GivesChanges records None (PageOfChanges text) =
    IsPage (name_of records.issuer) records zero_counts no_declines text.items
GivesChanges records None Diverged = ⊥
GivesChanges records (Some positions) (PageOfChanges text) =
    IsInHistory (name_of records.issuer) records positions
    × IsPage (name_of records.issuer) records positions.counts positions.declines text.items
GivesChanges records (Some positions) Diverged = ¬ (IsInHistory (name_of records.issuer) records positions)

-- the same, if the call succeeds
abbrev pub HasChanges : Records → Option Positions → Result Changes Fault → Type 0
HasChanges records after result = IfOk result (GivesChanges records after)
