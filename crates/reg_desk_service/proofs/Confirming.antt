-- Requests for changes: the follower that one confirms or asks for, and whether it waits.
use Rattle.std.proofs.Common.{◌≡◌, ◌∙◌, ℕ, Bool, true, false, List, [], ◌∷◌, Some, None, ap, eqb, refl, sym, length, drop, take}
use Rattle.std.specs.Prelude.{Option, ◌==◌, ◌&&◌, not, codes, if◌then◌else◌}
use Rattle.std.specs.List.{position, starts_with}
use Rattle.std.proofs.lemmas.Bool.{true≢false}
use Rattle.reg_desk_service.specs.Confirmations.{has_given_schedule, has_schedule, has_schedule_before, has_schedule_steps, follower_before, follower_in_query, follower_number, confirming_before, confirming_in, confirming_number, unwaiting}
use Rattle.reg_desk_service.specs.PageSchedules.{after_part}
use Rattle.reg_desk_service.specs.FeedEnds.{asks_after, waits_for_changes}

-- a part at the front of a text, and one that is not
pub part_here : (part rest : List ℕ) → eqb (length rest) 0 ≡ false → starts_with (λ a b. a == b) rest part ≡ true → after_part part rest ≡ Some (drop (length part) rest)
part_here part [] some is = absurd (true≢false some)
part_here part (first ∷ rest) some is = rw is refl

pub part_later : (part rest : List ℕ) → eqb (length rest) 0 ≡ false → starts_with (λ a b. a == b) rest part ≡ false → after_part part rest ≡ after_part part (drop 1 rest)
part_later part [] some is = absurd (true≢false some)
part_later part (first ∷ rest) some is = rw is refl

-- the schedule that a request gives
pub schedule_given : (request response rest : List ℕ) (end : ℕ) → after_part (codes "\r\ndesk-schedule: ") request ≡ Some rest
    → position (λ b. b == 13) rest ≡ Some end → has_schedule request response ≡ has_schedule_steps (take end rest) response
schedule_given request response rest end found at =
    ap (λ (it : Option (List ℕ)). has_given_schedule it response) found ∙ ap (has_schedule_before rest response) at

pub schedule_cut : (request response rest : List ℕ) → after_part (codes "\r\ndesk-schedule: ") request ≡ Some rest
    → position (λ b. b == 13) rest ≡ None → has_schedule request response ≡ false
schedule_cut request response rest found at =
    ap (λ (it : Option (List ℕ)). has_given_schedule it response) found ∙ ap (has_schedule_before rest response) at

pub schedule_none : (request response : List ℕ) → after_part (codes "\r\ndesk-schedule: ") request ≡ None → has_schedule request response ≡ true
schedule_none request response found = ap (λ (it : Option (List ℕ)). has_given_schedule it response) found

-- a request for changes, and its rest after `after=`
module _ (request : List ℕ) (is : starts_with (λ a b. a == b) request (codes "GET /changes?after=") ≡ true) (rest : List ℕ) (same : rest ≡ drop 19 request) where
  confirming_rest : (response : List ℕ) → confirming_number request response ≡ confirming_before rest response (position (λ b. b == 32) rest)
  confirming_rest response =
      let whole : confirming_number request response ≡ confirming_before (drop 19 request) response (position (λ b. b == 32) (drop 19 request)) =
      ap (λ (it : Bool). if it then confirming_before (drop 19 request) response (position (λ b. b == 32) (drop 19 request)) else None) is in
      whole ∙ ap (λ (it : List ℕ). confirming_before it response (position (λ b. b == 32) it)) (sym same)

  pub confirming_some : (response : List ℕ) (end : ℕ) → position (λ b. b == 32) rest ≡ Some end
      → confirming_number request response ≡ confirming_in (unwaiting (take end rest)) response
  confirming_some response end at = confirming_rest response ∙ ap (confirming_before rest response) at

  pub confirming_none : (response : List ℕ) → position (λ b. b == 32) rest ≡ None → confirming_number request response ≡ None
  confirming_none response at = confirming_rest response ∙ ap (confirming_before rest response) at

  sender_rest : follower_number request ≡ follower_before rest (position (λ b. b == 32) rest)
  sender_rest =
      let whole : follower_number request ≡ follower_before (drop 19 request) (position (λ b. b == 32) (drop 19 request)) =
      ap (λ (it : Bool). if it then follower_before (drop 19 request) (position (λ b. b == 32) (drop 19 request)) else None) is in
      whole ∙ ap (λ (it : List ℕ). follower_before it (position (λ b. b == 32) it)) (sym same)

  pub sender_some : (end : ℕ) → position (λ b. b == 32) rest ≡ Some end → follower_number request ≡ follower_in_query (unwaiting (take end rest))
  sender_some end at = sender_rest ∙ ap (follower_before rest) at

  pub sender_none : position (λ b. b == 32) rest ≡ None → follower_number request ≡ None
  sender_none at = sender_rest ∙ ap (follower_before rest) at

  pub waits_by : (positions : List ℕ) → (length positions == 0) ≡ false → waits_for_changes positions request ≡ asks_after positions rest
  waits_by positions known =
      let whole : waits_for_changes positions request ≡ (starts_with (λ a b. a == b) request (codes "GET /changes?after=") && asks_after positions (drop 19 request)) =
      ap (λ (it : Bool). not it && (starts_with (λ a b. a == b) request (codes "GET /changes?after=") && asks_after positions (drop 19 request))) known in
      let asked : (starts_with (λ a b. a == b) request (codes "GET /changes?after=") && asks_after positions (drop 19 request)) ≡ asks_after positions (drop 19 request) =
      ap (λ (it : Bool). it && asks_after positions (drop 19 request)) is in
      whole ∙ asked ∙ ap (asks_after positions) (sym same)
