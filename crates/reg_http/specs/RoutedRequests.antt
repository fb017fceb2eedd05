-- The meaning of a request, by its route, its method, and its path or body.
use Rattle.std.specs.Prelude.{ℕ, Bool, false, ◌==◌, List, [], ◌∷◌, codes, bytes_eq, if◌then◌else◌, Option, Some, None, option_and_then, option_map}
use Rattle.std.specs.List.{before_first}
use Rattle.std.specs.Result.{result_ok}
use Rattle.std.specs.Str.{is_utf8}
use Rattle.base64.specs.Engines.{standard}
use Rattle.base64.specs.GeneralPurpose.{decode_of}
use Rattle.percent_encoding.specs.Percent.{percent_decode}
use Rattle.serde_json.specs.Data.{Data}
use Rattle.serde_json.specs.Find.{get, as_str}
use Rattle.serde_json.specs.Read.{read}
use Rattle.reg_core.specs.Grounds.{ground_named}
use Rattle.reg_core.specs.Number.{number_of}
use Rattle.reg_core.specs.Serial.{serial_of}
use Rattle.reg_core.specs.Label.{label_of}
use Rattle.reg_http.specs.Routes.{route}
use Rattle.reg_http.specs.declared.route.Route.{Route}
use Rattle.reg_http.specs.declared.route.Route.TheVariants.{Ocsp, OcspRest, Crl, CrlNumber, Status, Counts, Requests}

-- the meaning of a request: a refusal with a status code, another method than the one that the route has, a part that can't be read, an OCSP
-- request that can't be decoded; or a call of the office, for OCSP, a CRL, a status, the counts, or a request for revocation
pub data RoutedRequest : Type 0 where
  refused : ℕ → RoutedRequest
  method_not_allowed : List ℕ → RoutedRequest
  unreadable : RoutedRequest
  malformed : RoutedRequest
  ocsp_of : List ℕ → RoutedRequest
  crl_of : Option ℕ → RoutedRequest
  status_of : ℕ → RoutedRequest
  counts_of : RoutedRequest
  request_of : ℕ → List ℕ → RoutedRequest

-- the serial number of a request for revocation whose ground has a known word
abbrev pub requested_serial : RoutedRequest → Option ℕ
requested_serial (request_of serial word) = option_map (λ ground. serial) (ground_named word)
requested_serial other = None

-- the target begins with a slash (origin-form, RFC 9112 3.2.1)
abbrev pub is_rooted : List ℕ → Bool
is_rooted [] = false
is_rooted (b ∷ text) = b == 47

-- the path: up to the first `?` (RFC 3986 3.3)
abbrev pub path_of : List ℕ → List ℕ
path_of target = before_first (λ b. b == 63) target

-- the OCSP request in a path: percent-decoded, then base64 (RFC 6960 A.1)
unfoldable pub decoded : List ℕ → Option (List ℕ)
decoded text = result_ok (decode_of standard (percent_decode text))

-- the JSON value of a body that is UTF-8 (RFC 8259 8.1)
unfoldable pub json_of : List ℕ → Option Data
json_of body = if is_utf8 body then read body else None

-- the string of a member of a JSON object
abbrev pub string_at : List ℕ → Data → Option (List ℕ)
string_at name value = option_and_then as_str (get name value)

-- the request for revocation in a JSON object: the strings `serial` and `ground`
unfoldable pub wanted_in : Data → Option (ℕ × List ℕ)
wanted_in value =
    option_and_then
    (λ serial. option_map (λ word. (serial, word))
    (option_and_then label_of (string_at (codes "ground") value)))
    (option_and_then serial_of (string_at (codes "serial") value))

-- the request for revocation in a body
abbrev pub wanted : List ℕ → Option (ℕ × List ℕ)
wanted body = option_and_then wanted_in (json_of body)

-- the request with a value that was read; `unreadable` if it can't be read
abbrev pub or_unreadable : {A : Type 0} → (A → RoutedRequest) → Option A → RoutedRequest
or_unreadable asks (Some value) = asks value
or_unreadable asks None = unreadable

-- a request for revocation, with its serial number and the word of its ground; `unreadable` if it can't be read
abbrev pub revocation_request : Option (ℕ × List ℕ) → RoutedRequest
revocation_request wanted = or_unreadable (λ (it : ℕ × List ℕ). request_of it.0 it.1) wanted

-- an OCSP request that was decoded; `malformed` if it can't be decoded
abbrev pub or_malformed : Option (List ℕ) → RoutedRequest
or_malformed (Some request) = ocsp_of request
or_malformed None = malformed

-- a route has one method; any other is refused with 405 (RFC 9110 15.5.6)
abbrev pub by_method : List ℕ → List ℕ → RoutedRequest → RoutedRequest
by_method has method asks = if bytes_eq method has then asks else method_not_allowed has

-- the meaning of a request at a route, with the variable part of the path
abbrev pub request_at_route : List ℕ → Route → List ℕ → List ℕ → RoutedRequest
request_at_route method Ocsp over body = by_method (codes "POST") method (ocsp_of body)
request_at_route method OcspRest over body = by_method (codes "GET") method (or_malformed (decoded over))
request_at_route method Crl over body = by_method (codes "GET") method (crl_of None)
request_at_route method CrlNumber over body =
    by_method (codes "GET") method (or_unreadable (λ n. crl_of (Some n)) (number_of over))
request_at_route method Status over body =
    by_method (codes "GET") method (or_unreadable status_of (serial_of over))
request_at_route method Counts over body = by_method (codes "GET") method counts_of
request_at_route method Requests over body =
    by_method (codes "POST") method (revocation_request (wanted body))
request_at_route method _ over body = refused 404

-- the meaning of a request
abbrev pub asked : List ℕ → List ℕ → List ℕ → RoutedRequest
asked method target body =
    if is_rooted target
    then request_at_route method (route (path_of target)).0 (route (path_of target)).1 body
    else refused 400
