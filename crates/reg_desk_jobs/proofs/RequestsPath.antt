-- Only a request at the path `/requests` asks for a revocation.
use Rattle.std.proofs.Common.{◌≡◌, ◌≢◌, ◌⊎◌, ◌==◌, ◌∙◌, ℕ, Bool, true, false, List, [], ◌∷◌, ◌++◌, Some, None, ap, append-nil, inl, inr, refl, subst}
use Rattle.std.specs.Prelude.{Option, bytes_eq, codes, if◌then◌else◌, option_and_then}
use Rattle.std.specs.List.{AllByRecursion}
use Rattle.std.proofs.lemmas.Bool.Decides.{eqb_tells}
use Rattle.reg_core.specs.Number.{number_of}
use Rattle.reg_core.specs.Serial.{serial_of}
use Rattle.reg_http.specs.RouteNames.{route_at}
use Rattle.reg_http.specs.RoutedRequests.{RoutedRequest, asked, by_method, crl_of, decoded, is_rooted, method_not_allowed, or_malformed, or_unreadable, path_of, refused, request_at_route, request_of, status_of}
use Rattle.reg_http.specs.Routes.{Ending, RouteLine, ended, here, left, or_next, path_after, route, route_in, table}
use Rattle.reg_http.specs.declared.route.Route.{Route}
use Rattle.reg_http.specs.declared.route.Route.TheVariants.{Ocsp, OcspRest, Crl, CrlNumber, Status, Counts, Requests}

-- ---- the path

-- a path with this prefix is the prefix and the rest
after_prefix : (prefix path rest : List ℕ) → path_after prefix path ≡ Some rest → path ≡ prefix ++ rest
after_prefix [] path rest is = cc
after_prefix (x ∷ prefix) [] rest is = absurd (cc)
after_prefix (x ∷ prefix) (b ∷ path) rest is = go (after_prefix prefix path rest) (eqb_tells x b)
  where
    go : (path_after prefix path ≡ Some rest → path ≡ prefix ++ rest) → ((x == b) ≡ true × (x ≡ b)) ⊎ ((x == b) ≡ false × (x ≢ b)) → b ∷ path ≡ x ∷ prefix ++ rest
    go on (inl (test, same)) = let tail = on (rw test at is) in cc
    go on (inr (test, differs)) = let none = rw test at is in absurd (cc)

-- a path that ends with its prefix
whole_path : (prefix path over : List ℕ) → left prefix here path ≡ Some over → path ≡ prefix
whole_path prefix path over is = go (path_after prefix path) refl is
  where
    go : (found : Option (List ℕ)) → path_after prefix path ≡ found → option_and_then (ended here) found ≡ Some over → path ≡ prefix
    go None e none = absurd (cc)
    go (Some []) e some = after_prefix prefix path [] e ∙ append-nil prefix
    go (Some (b ∷ rest)) e none = absurd (cc)

-- the line of this route has this path alone
abbrev IsAlone : RouteLine → Type 0
IsAlone line = line.to ≡ Requests → (line.prefix ≡ codes "/requests") × (line.ending ≡ here)

by_line : (lines : List RouteLine) (path : List ℕ) → AllByRecursion IsAlone lines → (route_in lines path).0 ≡ Requests → path ≡ codes "/requests"
by_line [] path all is = absurd (cc)
by_line (line ∷ lines) path all is = go (by_line lines path all.1) (left line.prefix line.ending path) refl is
  where
    go : ((route_in lines path).0 ≡ Requests → path ≡ codes "/requests") → (found : Option (List ℕ)) → left line.prefix line.ending path ≡ found
        → (or_next line.to found (route_in lines path)).0 ≡ Requests → path ≡ codes "/requests"
    go next (Some over) e to =
        let alone = all.0 to in
        whole_path line.prefix path over (subst (λ (ending : Ending). left line.prefix ending path ≡ Some over) alone.1 e) ∙ alone.0
    go next None e to = next to

all_alone : AllByRecursion IsAlone table
all_alone = ((λ to. absurd (cc)), ((λ to. absurd (cc)), ((λ to. absurd (cc)), ((λ to. absurd (cc)), ((λ to. absurd (cc)), ((λ to. (refl, refl)), ((λ to. absurd (cc)), tt)))))))

requests_path : (path : List ℕ) → (route path).0 ≡ Requests → path ≡ codes "/requests"
unfolding route
requests_path path is = by_line table path all_alone is

requests_route : route_at (codes "/requests") ≡ Requests
unfolding route_at
requests_route = refl

-- ---- the request

-- it is a request for revocation
abbrev pub AsksRevocation : RoutedRequest → Type 0
AsksRevocation (request_of serial word) = Unit {0}
AsksRevocation other = ⊥

asks_by_method : (has method : List ℕ) (what : RoutedRequest) → AsksRevocation (by_method has method what) → AsksRevocation what
asks_by_method has method what asks = go (bytes_eq method has) asks
  where
    go : (same : Bool) → AsksRevocation (if same then what else method_not_allowed has) → AsksRevocation what
    go true asks = asks
    go false asks = absurd asks

asks_unreadable : {A : Type 0} (what : A → RoutedRequest) (value : Option A) → ((a : A) → AsksRevocation (what a) → ⊥) → AsksRevocation (or_unreadable what value) → ⊥
asks_unreadable what (Some a) none asks = none a asks
asks_unreadable what None none asks = asks

asks_malformed : (value : Option (List ℕ)) → AsksRevocation (or_malformed value) → ⊥
asks_malformed (Some request) asks = asks
asks_malformed None asks = asks

at_requests : (method : List ℕ) (at : Route) (over body : List ℕ) → AsksRevocation (request_at_route method at over body) → at ≡ Requests
at_requests method Requests over body asks = refl
at_requests method Ocsp over body asks = absurd (asks_by_method (codes "POST") method _ asks)
at_requests method OcspRest over body asks = absurd (asks_malformed (decoded over) (asks_by_method (codes "GET") method _ asks))
at_requests method Crl over body asks = absurd (asks_by_method (codes "GET") method _ asks)
at_requests method CrlNumber over body asks =
    absurd (asks_unreadable (λ n. crl_of (Some n)) (number_of over) (λ n no. no) (asks_by_method (codes "GET") method _ asks))
at_requests method Status over body asks =
    absurd (asks_unreadable status_of (serial_of over) (λ n no. no) (asks_by_method (codes "GET") method _ asks))
at_requests method Counts over body asks = absurd (asks_by_method (codes "GET") method _ asks)
at_requests method _ over body asks = absurd asks

-- a request for revocation is routed and counted as one
pub asks_at_requests : (method target body : List ℕ) → AsksRevocation (asked method target body) → route_at (path_of target) ≡ Requests
asks_at_requests method target body asks = go (is_rooted target) asks
  where
    go : (rooted : Bool) → AsksRevocation (if rooted then request_at_route method (route (path_of target)).0 (route (path_of target)).1 body else refused 400)
        → route_at (path_of target) ≡ Requests
    go true asks = ap route_at (requests_path (path_of target) (at_requests method (route (path_of target)).0 (route (path_of target)).1 body asks)) ∙ requests_route
    go false asks = absurd asks
