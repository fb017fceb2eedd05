-- The meaning of a request, from the Rust value that was read from it.
use Rattle.std.specs.Prelude.{ℕ, List, codes}
use Rattle.reg_http.specs.RoutedRequests.{RoutedRequest, refused, method_not_allowed, unreadable, malformed, ocsp_of, crl_of, status_of, counts_of, request_of}
use Rattle.reg_http.specs.declared.meaning.Call.{Call}
use Rattle.reg_http.specs.declared.meaning.Call.TheVariants.{Refused, OnlyGet, OnlyPost, Unreadable, Malformed, Crl, Status, Counts, Request}
use Rattle.reg_http.specs.declared.meaning.Meaning.{Meaning}
use Rattle.reg_http.specs.declared.meaning.Meaning.TheVariants.{OcspByPost, OcspByGet, Other}

-- the meaning of a `Call`: of any request but an OCSP request that can be decoded
abbrev pub request_of_call : Call → RoutedRequest
request_of_call (Refused status) = refused status
request_of_call OnlyGet = method_not_allowed (codes "GET")
request_of_call OnlyPost = method_not_allowed (codes "POST")
request_of_call Unreadable = unreadable
request_of_call Malformed = malformed
request_of_call (Crl number) = crl_of number
request_of_call (Status serial) = status_of serial
request_of_call Counts = counts_of
request_of_call (Request serial word) = request_of serial word

-- the meaning of any request, given its body
abbrev pub request_of_meaning : List ℕ → Meaning → RoutedRequest
request_of_meaning body OcspByPost = ocsp_of body
request_of_meaning body (OcspByGet request) = ocsp_of request.items
request_of_meaning body (Other call) = request_of_call call
