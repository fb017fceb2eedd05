-- The laws.
use Rattle.std.proofs.Common.{◌≡◌, ℕ, List, [], ◌++◌, length, take, drop, Option, Some, Result, Ok, map, sym, ap, ◌∙◌, subst}
use Rattle.httparse.specs.Grammar.{RequestHead, ReadsRequest, ResponseHead, print_response, status_code}
use Rattle.httparse.specs.Spans.{name_and_value}
use Rattle.httparse.proofs.GrammarLemmas.{request_unique, response_unique}
use Rattle.httpdate.specs.Text.{imf_fixdate}
use Rattle.httpdate.proofs.Theorems.{unix_secs_injective}
use Rattle.reg_io.proofs.PublicLaws.{one_first_delimiter}
use Rattle.reg_http_head.specs.Head.{blank_line, body_size}
use Rattle.reg_http_head.specs.Response.{head_text}
use Rattle.reg_http_head.specs.ResponseStart.{length_of}
use Rattle.reg_http_head.specs.Laws.{IsOneRequest, IsOneResponseHead, IsOneText}

pub one_request : IsOneRequest
one_request took method target body method' target' body' a b =
    let end : a.end ≡ b.end = one_first_delimiter blank_line took a.end b.end a.ends b.ends in
    let P : ℕ → Type 0 = λ n. ReadsRequest (take n took) a.head [] in
    let head : a.head ≡ b.head = (request_unique (take b.end took) a.head b.head [] [] (subst P end a.reads.0) b.reads.0).0 in
    let made : ℕ → Result ℕ ℕ = λ n. Ok n in
    let sizes : made (length body) ≡ made (length body') = sym a.size ∙ ap body_size head ∙ b.size in
    let size : length body ≡ length body' = cc in (
      a.method_is ∙ ap (λ (h : RequestHead). h.method) head ∙ sym b.method_is,
      a.target_is ∙ ap (λ (h : RequestHead). h.target) head ∙ sym b.target_is,
      a.body_is ∙ (λ i. take (size i) (drop (end i) took)) ∙ sym b.body_is,
    )

pub one_response_head : IsOneResponseHead
one_response_head bytes it other h k a b =
    let head : h ≡ k = (response_unique bytes h k (drop it.end bytes) (drop other.end bytes) a.reads b.reads).0 in
    let status : it.status ≡ other.status = a.status_is ∙ ap status_code head ∙ sym b.status_is in
    let end : it.end ≡ other.end = a.end_is ∙ ap (λ (x : ResponseHead). length (print_response x)) head ∙ sym b.end_is in
    let made : ℕ → Option ℕ = λ n. Some n in
    let sizes : made it.length ≡ made other.length =
    sym a.accepted.states ∙ ap (λ (x : ResponseHead). length_of (map name_and_value x.fields)) head ∙ b.accepted.states in
    let size : it.length ≡ other.length = cc in
    λ i. record { status = status i; end = end i; length = size i }

pub one_text : IsOneText
one_text response moment text text' a b =
    let (date, (d, at, is), whole) = a in
    let (date', (d', at', is'), whole') = b in
    let same = unix_secs_injective d d' (at ∙ sym at') in
    let dates : date ≡ date' = is ∙ ap imf_fixdate same ∙ sym is' in
    whole ∙ ap (λ (t : List ℕ). head_text t response ++ response.body) dates ∙ sym whole'
