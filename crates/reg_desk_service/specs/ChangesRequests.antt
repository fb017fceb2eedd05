-- The request by which a follower asks its leader for changes.
use Rattle.std.specs.Prelude.{ℕ, ◌==◌, Bool, cond, if◌then◌else◌, length, List, [], ◌++◌, codes, decimal, Option, Some, None}
use Rattle.reg_core_lists.specs.Positions.{positions_text}
use Rattle.reg_core_lists.specs.declared.positions.Positions.{Positions}

-- the parameter with the positions after which changes are asked for
abbrev pub after_part : Option Positions → List ℕ
after_part None = []
after_part (Some positions) = codes "?after=" ++ positions_text positions

-- the parameter with the number of the follower whose file has all rows up to the positions
abbrev pub number_part : Option ℕ → List ℕ
number_part None = []
number_part (Some number) = codes "&follower=" ++ decimal number

-- the parameter that lets the leader answer later
abbrev pub wait_part : Bool → List ℕ
wait_part waits = cond waits (codes "&wait=1") []

-- the header with the steps of the schedule that the follower's file has, if it is known to have one
abbrev pub header_with : List ℕ → List ℕ
header_with steps = codes "desk-schedule: " ++ steps ++ codes "\r\n"

abbrev pub schedule_header : List ℕ → List ℕ
schedule_header steps = if length steps == 0 then [] else header_with steps

-- the request (RFC 9112 3)
abbrev pub changes_text : Option Positions → Option ℕ → List ℕ → Bool → List ℕ
changes_text after stored_by schedule waits =
    codes "GET /changes" ++ after_part after ++ number_part stored_by ++ wait_part waits
    ++ codes " HTTP/1.1\r\nHost: 127.0.0.1\r\nConnection: close\r\n" ++ schedule_header schedule ++ codes "\r\n"
