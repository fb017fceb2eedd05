-- The end of the changes feed, as far as a desk knows it, and the requests that wait for changes after it.
use Rattle.std.specs.Prelude.{◌≡◌, ◌⊎◌, ◌==◌, ◌&&◌, ℕ, not, Bool, false, List, [], length, take, drop, codes, Option, Some, None}
use Rattle.std.specs.List.{ends_with, position, starts_with}
use Rattle.reg_desk_server.specs.LineEnds.{FirstLineEnds}
use Rattle.reg_desk_service.specs.Following.{IsNoCommand}
use Rattle.reg_desk_service.specs.declared.feed_end.FeedEnd.{FeedEnd}

-- after the first of these lines, or the first several, no end is known, unless the first one is no command
abbrev pub ForgetsAfter : List ℕ → FeedEnd → FeedEnd → Type 0
ForgetsAfter lines old new =
    (new.positions.items ≡ [])
    ⊎ ((new ≡ old) × ((end : ℕ) × FirstLineEnds lines end × IsNoCommand (take end lines)))

-- parameters, of which a space ends the last, at this index: they begin with `&`, and the last is `wait=1`
abbrev pub waits_before : List ℕ → Option ℕ → Bool
waits_before parameters None = false
waits_before parameters (Some end) =
    starts_with (λ a b. a == b) parameters (codes "&") && ends_with (λ a b. a == b) (take end parameters) (codes "&wait=1")

abbrev pub waits_in : List ℕ → Bool
waits_in parameters = waits_before parameters (position (λ b. b == 32) parameters)

-- the rest of a request after `after=` begins with these positions, and its last parameter is `wait=1`
abbrev pub asks_after : List ℕ → List ℕ → Bool
asks_after positions rest = starts_with (λ a b. a == b) rest positions && waits_in (drop (length positions) rest)

-- a request waits for changes after these positions, those of the known end; no request waits if none is known
abbrev pub waits_for_changes : List ℕ → List ℕ → Bool
waits_for_changes positions request =
    not (length positions == 0) && (starts_with (λ a b. a == b) request (codes "GET /changes?after=")
    && asks_after positions (drop 19 request))
