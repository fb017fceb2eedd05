-- When the replies to commands wait for followers, and which requests confirm that a follower has all commands.
use Rattle.std.specs.Prelude.{◌≡◌, ◌⊎◌, ◌==◌, ◌&&◌, ◌||◌, ◌-◌, ◌+◌, ℕ, nat_le, nat_lt, not, Bool, true, false, cond, List, ◌++◌, length, take, drop, is_none, codes, if◌then◌else◌, Option, Some, None, IsFalse, slice_set}
use Rattle.std.specs.List.{ends_with, list_any, position, starts_with}
use Rattle.std.specs.Option.{option_or}
use Rattle.reg_core.specs.Number.{number_of}
use Rattle.reg_desk_server.specs.Exchange.{Outcome, said, pending, later}
use Rattle.reg_desk_server.specs.LineEnds.{FirstLineEnds}
use Rattle.reg_desk_service.specs.Following.{IsNoCommand}
use Rattle.reg_desk_service.specs.PageSchedules.{after_part}
use Rattle.reg_desk_service.specs.declared.confirmation.Confirmation.{Confirmation}

-- ---- a request that confirms

-- the last line of a response is `end` and these positions: after them, the changes feed has no row
abbrev pub ends_feed : List ℕ → List ℕ → Bool
ends_feed response positions =
    not (length positions == 0) && (ends_with (λ a b. a == b) response (codes "\n")
    && (ends_with (λ a b. a == b) (take (length response - 1) response) positions
    && ends_with (λ a b. a == b) (take (length response - 1 - length positions) (take (length response - 1) response))
    (codes "\nend ")))

-- the page in a response has these steps in its line `schedule`
abbrev pub begins_line : List ℕ → Option (List ℕ) → Bool
begins_line steps None = false
begins_line steps (Some line) =
    starts_with (λ a b. a == b) line steps
    && starts_with (λ a b. a == b) (drop (length steps) line) (codes "\n")

abbrev pub has_schedule_steps : List ℕ → List ℕ → Bool
has_schedule_steps steps response = begins_line steps (after_part (codes "\nschedule ") response)

-- a request gives the schedule of the response in its header `desk-schedule`, by the index of the CR (13) that ends it; or it has no such header
abbrev pub has_schedule_before : List ℕ → List ℕ → Option ℕ → Bool
has_schedule_before rest response None = false
has_schedule_before rest response (Some end) = has_schedule_steps (take end rest) response

abbrev pub has_given_schedule : Option (List ℕ) → List ℕ → Bool
has_given_schedule None response = true
has_given_schedule (Some rest) response = has_schedule_before rest response (position (λ b. b == 13) rest)

abbrev pub has_schedule : List ℕ → List ℕ → Bool
has_schedule request response =
    has_given_schedule (after_part (codes "\r\ndesk-schedule: ") request) response

-- the number in the parameter `&follower=NUMBER`
abbrev pub follower_in : List ℕ → Option ℕ
follower_in parameter =
    if starts_with (λ a b. a == b) parameter (codes "&follower=") then number_of (drop 10 parameter) else None

-- the follower in `POSITIONS&follower=NUMBER`, by the index of the first `&` (38); a request without a number confirms nothing
abbrev pub confirming_at : List ℕ → List ℕ → Option ℕ → Option ℕ
confirming_at query response None = None
confirming_at query response (Some at) =
    if ends_feed response (take at query) then follower_in (drop at query) else None

abbrev pub confirming_in : List ℕ → List ℕ → Option ℕ
confirming_in query response = confirming_at query response (position (λ b. b == 38) query)

-- a query without its last parameter `&wait=1`
abbrev pub unwaiting : List ℕ → List ℕ
unwaiting query =
    if ends_with (λ a b. a == b) query (codes "&wait=1") then take (length query - 7) query else query

-- the same by the rest of the request after `after=`, and the index of its first space (32)
abbrev pub confirming_before : List ℕ → List ℕ → Option ℕ → Option ℕ
confirming_before rest response None = None
confirming_before rest response (Some end) = confirming_in (unwaiting (take end rest)) response

-- the follower whose request, with this response, confirms that it has all rows
abbrev pub confirming_number : List ℕ → List ℕ → Option ℕ
confirming_number request response =
    if starts_with (λ a b. a == b) request (codes "GET /changes?after=")
    then confirming_before (drop 19 request) response (position (λ b. b == 32) (drop 19 request)) else None

-- the follower whose request, with this response, confirms that it has all rows and the schedule
abbrev pub confirming_follower : List ℕ → List ℕ → Option ℕ
confirming_follower request response =
    if has_schedule request response then confirming_number request response else None

-- the follower in a query `POSITIONS` or `POSITIONS&follower=NUMBER`, by the index of the first `&`
abbrev pub follower_at : List ℕ → Option ℕ → Option ℕ
follower_at query None = None
follower_at query (Some at) = follower_in (drop at query)

abbrev pub follower_in_query : List ℕ → Option ℕ
follower_in_query query = follower_at query (position (λ b. b == 38) query)

-- the same by the rest of the request after `after=`, and the index of its first space
abbrev pub follower_before : List ℕ → Option ℕ → Option ℕ
follower_before rest None = None
follower_before rest (Some end) = follower_in_query (unwaiting (take end rest))

-- the follower that sends a request for changes
abbrev pub follower_number : List ℕ → Option ℕ
follower_number request =
    if starts_with (λ a b. a == b) request (codes "GET /changes?after=")
    then follower_before (drop 19 request) (position (λ b. b == 32) (drop 19 request)) else None

-- ---- the state

abbrev pub is_wanted : Confirmation → Bool
is_wanted it = nat_lt 0 it.needed

-- no command waits for followers
abbrev pub is_confirmed : Confirmation → Bool
is_confirmed it = is_none it.since

-- the reply to the lines that were answered last waits: a command was among them, and it is not confirmed
abbrev pub holds_reply : Confirmation → Bool
holds_reply it = it.had_command && not (is_confirmed it)

-- after lines at a moment, with a command or without one
abbrev pub after_lines : Bool → ℕ → Confirmation → Confirmation
after_lines had_command now it =
    if is_wanted it then cond had_command
    (record it { had_command = true; count = 0; since = option_or it.since (Some now) })
    (record it { had_command = false }) else it

-- the same after the first of these lines, or the first several: they may have no command only if the first one is none
abbrev pub AfterFirstLine : List ℕ → ℕ → Confirmation → Confirmation → Type 0
AfterFirstLine lines now old new =
    (IsFalse (is_wanted old) × (new ≡ old))
    ⊎ ((end : ℕ) × (had_command : Bool) × FirstLineEnds lines end × (new ≡ after_lines had_command now old)
    × (IsFalse had_command → IsNoCommand (take end lines)))

-- whether a follower is among those that have all commands
abbrev pub has_follower : ℕ → Confirmation → Bool
has_follower follower it = list_any (λ number. number == follower) (take it.count it.followers)

-- a request of this follower can confirm nothing: no command waits, or the follower is counted already, or it has no number
abbrev pub is_done_with_follower : Option ℕ → Confirmation → Bool
is_done_with_follower None it = true
is_done_with_follower (Some follower) it = is_confirmed it || has_follower follower it

abbrev pub is_done_with : List ℕ → Confirmation → Bool
is_done_with request it = is_done_with_follower (follower_number request) it

-- one more follower has all commands; they are confirmed once as many followers as are needed have them
abbrev pub with_follower : ℕ → Confirmation → Confirmation
with_follower follower it =
    if nat_le 8 it.count then it else if has_follower follower it then it else record it {
      followers = slice_set it.followers it.count follower;
      count = it.count + 1;
      since = if nat_le it.needed (it.count + 1) then None else it.since;
    }

abbrev pub with_confirming : Option ℕ → Confirmation → Confirmation
with_confirming None it = it
with_confirming (Some follower) it = with_follower follower it

-- after an HTTP request and its response
abbrev pub after_request : List ℕ → List ℕ → Confirmation → Confirmation
after_request request response it =
    if is_confirmed it then it else with_confirming (confirming_follower request response) it

-- after an HTTP request and its outcome; a response to be signed confirms nothing
abbrev pub after_outcome : {T : Type 0} → List ℕ → Outcome T → Confirmation → Confirmation
after_outcome request (said text) it = after_request request text it
after_outcome request (pending ticket) it = it
after_outcome request later it = it
