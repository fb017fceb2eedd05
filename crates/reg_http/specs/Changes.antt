-- Requests for the changes of the register and their answers: this route exists only at an open desk.
use Rattle.std.specs.Prelude.{◌≡◌, ℕ, ◌-◌, ◌==◌, ◌&&◌, Bool, List, drop, take, length, is_some, codes, bytes_eq, if◌then◌else◌, Option, Some, None, Result, Ok, Err}
use Rattle.std.specs.List.{after_first, ends_with, position, starts_with}
use Rattle.reg_core.specs.Number.{number_of}
use Rattle.reg_core.specs.Records.{Records}
use Rattle.reg_core.specs.declared.refusal.Fault.{Fault}
use Rattle.reg_core.specs.declared.refusal.Fault.TheVariants as fault
use Rattle.reg_core.specs.declared.refusal.Refusal.TheVariants.{Syntax}
use Rattle.reg_core_lists.specs.Positions.{positions_of_text}
use Rattle.reg_core_lists.specs.declared.positions.Positions.{Positions}
use Rattle.reg_office_api.specs.LookUps.{HasChanges}
use Rattle.reg_office_api.specs.declared.changes.Changes.{Changes as Given}
use Rattle.reg_office_api.specs.declared.changes.Changes.TheVariants.{Page, Diverged}
use Rattle.reg_http.specs.Bodies.{der, diverged_response, method_not_allowed}
use Rattle.reg_http.specs.AnswerEffects.{AnswerEffects, plain, fault_effects}
use Rattle.reg_http.specs.declared.changes.ChangesRequest.{ChangesRequest}
use Rattle.reg_http.specs.declared.changes.ChangesRequest.TheVariants.{OnlyGet, Unreadable, FromFirst, After}

-- the parameter `&follower=NUMBER`
abbrev pub is_follower_parameter : List ℕ → Bool
is_follower_parameter text =
    starts_with (λ a b. a == b) text (codes "&follower=") && is_some (number_of (drop 10 text))

-- the positions in a text `POSITIONS` or `POSITIONS&follower=NUMBER`, by the index of its first `&` (38)
abbrev pub positions_before : List ℕ → Option ℕ → Option Positions
positions_before text None = positions_of_text text
positions_before text (Some at) =
    if is_follower_parameter (drop at text) then positions_of_text (take at text) else None

-- the positions in a query `after=POSITIONS` or `after=POSITIONS&follower=NUMBER`
abbrev pub positions_after : List ℕ → Option Positions
positions_after query =
    if starts_with (λ a b. a == b) query (codes "after=")
    then positions_before (drop 6 query) (position (λ b. b == 38) (drop 6 query)) else None

-- the changes after these positions; `Unreadable` if they can't be read
abbrev pub after_or_unreadable : Option Positions → ChangesRequest
after_or_unreadable (Some positions) = After positions
after_or_unreadable None = Unreadable

-- the meaning of a query: from the first row on if it is empty, else after positions
abbrev pub changes_wanted : List ℕ → ChangesRequest
changes_wanted query = if length query == 0 then FromFirst else after_or_unreadable (positions_after query)

-- a query without its last parameter `&wait=1`
abbrev pub without_wait : List ℕ → List ℕ
without_wait query =
    if ends_with (λ a b. a == b) query (codes "&wait=1") then take (length query - 7) query else query

-- the changes that a target requests, by the query after its first `?` (63; RFC 3986 3.4)
unfoldable pub changes_in : List ℕ → ChangesRequest
changes_in target = changes_wanted (without_wait (after_first (λ b. b == 63) target))

-- the meaning of a request for changes
abbrev pub changes_request : List ℕ → List ℕ → ChangesRequest
changes_request method target = if bytes_eq method (codes "GET") then changes_in target else OnlyGet

-- the answer with a page, with `diverged`, or with the fault that the office returned
abbrev pub given_changes : Result Given Fault → AnswerEffects
given_changes (Ok (Page text)) = plain (der (codes "application/octet-stream") text.items)
given_changes (Ok Diverged) = plain diverged_response
given_changes (Err why) = fault_effects why

-- the answer is that with what the office has for these positions
abbrev pub AnswersChanges : Records → Option Positions → AnswerEffects → Type 0
AnswersChanges records after it =
    (given : Result Given Fault) × HasChanges records after given × (it ≡ given_changes given)

-- the answer to a request for changes, over records
abbrev pub RespondsChanges : Records → ChangesRequest → AnswerEffects → Type 0
RespondsChanges records FromFirst it = AnswersChanges records None it
RespondsChanges records (After positions) it = AnswersChanges records (Some positions) it
RespondsChanges records OnlyGet it = it ≡ plain (method_not_allowed (codes "GET"))
RespondsChanges records Unreadable it = it ≡ fault_effects (fault.Refused Syntax)
