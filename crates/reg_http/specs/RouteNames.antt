-- The route by which a path is dispatched and counted.
use Rattle.std.specs.Prelude.{ℕ, Bool, ◌==◌, ◌||◌, ◌+◌, nat_eq, List, [], take, drop, codes, bytes_eq, if◌then◌else◌, Some, None}
use Rattle.std.specs.List.{position, starts_with}
use Rattle.std.specs.declared.option.Option.{Option}
use Rattle.reg_http.specs.declared.route.Route.{Route}
use Rattle.reg_http.specs.declared.route.Route.TheVariants.{Ocsp, OcspRest, Crl, CrlNumber, Status, Counts, Requests, List as ListOf, Health, Metrics, Changes, Other}

-- the route of a path; a route with a variable part is found by the start of the path
unfoldable pub route_at : List ℕ → Route
route_at path =
    if bytes_eq path (codes "/ocsp") then Ocsp
    else if starts_with nat_eq path (codes "/ocsp/") then OcspRest
    else if bytes_eq path (codes "/crl") then Crl
    else if starts_with nat_eq path (codes "/crl/") then CrlNumber
    else if starts_with nat_eq path (codes "/status/") then Status
    else if bytes_eq path (codes "/counts") then Counts
    else if bytes_eq path (codes "/requests") then Requests
    else if starts_with nat_eq path (codes "/list/") then ListOf
    else if bytes_eq path (codes "/health") then Health
    else if bytes_eq path (codes "/metrics") then Metrics
    else if bytes_eq path (codes "/changes") then Changes
    else Other

-- whether a byte is a space
abbrev pub is_space : ℕ → Bool
is_space byte = byte == 32

-- whether a byte ends a path: a space, `?`, CR or LF
abbrev pub ends_path : ℕ → Bool
ends_path byte = byte == 32 || byte == 63 || byte == 13 || byte == 10

-- the text before this index; the whole text for `None`
abbrev pub before : Option ℕ → List ℕ → List ℕ
before (Some end) text = take end text
before None text = text

-- the text after the byte at this index; nothing for `None`
abbrev pub text_after : Option ℕ → List ℕ → List ℕ
text_after (Some at) text = drop (at + 1) text
text_after None text = []

-- the text up to the first byte that ends a path
abbrev pub prefix_to : List ℕ → List ℕ
prefix_to text = before (position ends_path text) text

-- the path after the first space, up to a `?`, the next space, or a CR or LF; in a valid head, the path of the request line (RFC 9112 3)
abbrev pub named_path : List ℕ → List ℕ
named_path request = prefix_to (text_after (position is_space request) request)

-- the route of that path
abbrev pub named_route : List ℕ → Route
named_route request = route_at (named_path request)
