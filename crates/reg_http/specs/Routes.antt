-- The route that `begin` finds for each path, and how the router finds it.
use Rattle.std.specs.Prelude.{◌≡◌, ◌≤◌, ◌==◌, ℕ, List, [], ◌∷◌, ◌++◌, length, drop, codes, if◌then◌else◌, Option, Some, None, option_and_then}
use Rattle.matchit.specs.Rows.{RowsOf, param_token, catch_all_token}
use Rattle.matchit.specs.Seek.{has_slash}
use Rattle.reg_http.specs.declared.paths.Found.{Found}
use Rattle.reg_http.specs.declared.route.Route.{Route}
use Rattle.reg_http.specs.declared.route.Route.TheVariants.{Ocsp, OcspRest, Crl, CrlNumber, Status, Counts, Requests, Other}

-- the variable part of a path after its prefix: nothing, one segment, or one or more bytes, slashes included
pub data Ending : Type 0 where
  here : Ending
  one : Ending
  rest : Ending

-- a line of the table
pub record RouteLine : Type 0 where
  pub prefix : List ℕ
  pub ending : Ending
  pub to : Route

abbrev pub route_line : List ℕ → Ending → Route → RouteLine
route_line prefix ending to = record { prefix = prefix; ending = ending; to = to }

-- the routes that `begin` answers: without `/list/`, `/health`, `/metrics` and `/changes`, which only an open desk has
abbrev pub table : List RouteLine
table =
    route_line (codes "/counts") here Counts
    ∷ route_line (codes "/crl/") one CrlNumber
    ∷ route_line (codes "/crl") here Crl
    ∷ route_line (codes "/ocsp/") rest OcspRest
    ∷ route_line (codes "/ocsp") here Ocsp
    ∷ route_line (codes "/requests") here Requests
    ∷ route_line (codes "/status/") one Status
    ∷ []

-- the path after a prefix, if it begins with the prefix
abbrev pub path_after : List ℕ → List ℕ → Option (List ℕ)
path_after [] path = Some path
path_after (x ∷ prefix) [] = None
path_after (x ∷ prefix) (b ∷ path) = if x == b then path_after prefix path else None

-- the bytes after the prefix, if they fit the ending: no bytes; one or more without a slash; or one or more
abbrev pub ended : Ending → List ℕ → Option (List ℕ)
ended here [] = Some []
ended here (b ∷ left) = None
ended one [] = None
ended one (b ∷ left) = if has_slash (b ∷ left) then None else Some (b ∷ left)
ended rest [] = None
ended rest (b ∷ left) = Some (b ∷ left)

-- the variable part of a path with this prefix and ending, if it has them
abbrev pub left : List ℕ → Ending → List ℕ → Option (List ℕ)
left prefix ending path = option_and_then (ended ending) (path_after prefix path)

-- a route with its variable part, if there is one; else the next route
abbrev pub or_next : Route → Option (List ℕ) → Route × List ℕ → Route × List ℕ
or_next to (Some over) next = (to, over)
or_next to None next = next

-- the route of the first line that the path fits, and its variable part
abbrev pub route_in : List RouteLine → List ℕ → Route × List ℕ
route_in [] path = (Other, [])
route_in (l ∷ ls) path = or_next l.to (left l.prefix l.ending path) (route_in ls path)

-- the route of a path, and its variable part
unfoldable pub route : List ℕ → Route × List ℕ
route path = route_in table path

-- the route and the variable part that the program found
abbrev pub route_seen : Found → Route × List ℕ
route_seen found = (found.route, found.rest.now)

-- ---- the router

-- the tokens of an ending in the router's patterns
abbrev pub mark : Ending → List ℕ
mark here = []
mark one = param_token ∷ []
mark rest = catch_all_token ∷ []

-- the rows of the router: each pattern as its tokens, with its route
abbrev pub rows_for : List RouteLine → RowsOf Route
rows_for [] = []
rows_for (l ∷ ls) = (l.prefix ++ mark l.ending, l.to) ∷ rows_for ls

-- how many bytes of the path come before the variable part; all of them if the route has none
abbrev pub prefix_length : Route → List ℕ → ℕ
prefix_length OcspRest path = 6
prefix_length CrlNumber path = 5
prefix_length Status path = 8
prefix_length _ path = length path

-- this is the route of the path, which is at least as long as the route's prefix
pub record IsRoute (path : List ℕ) (which : Route) : Type 0 where
  pub route_is : (which, drop (prefix_length which path) path) ≡ route path
  pub long : prefix_length which path ≤ length path
