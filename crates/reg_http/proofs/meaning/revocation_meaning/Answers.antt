use Rattle.std.proofs.Common.{sym, ap, ◌∙◌, Option, option_and_then}
use Rattle.serde_json.specs.Data.{Data}
use Rattle.reg_http.specs.RoutedRequests.{RoutedRequest, revocation_request, wanted_in}
use Rattle.reg_http.proofs.JsonLemmas.{json_none, json_is}
use Rattle.reg_http.proofs.meaning.revocation_meaning.Goals as goal

-- what a body with this value asks
abbrev pub asks_of : Option Data → RoutedRequest
asks_of value = revocation_request (option_and_then wanted_in value)

pub returns-in_default : goal.returns-in_default
returns-in_default c = λ posted. sym (ap asks_of (json_none c.args.body.now c.in_default.ensures.cases.0))

pub returns-in-Ok-from_str : goal.returns-in-Ok-from_str
returns-in-Ok-from_str c = λ posted.
    let text = c.in-Ok.ensures.cases.0 in
    let read_is = rw text at c.in-Ok-from_str.ensures.ok in
    c.request_in.ensures ∙ sym (ap asks_of (json_is c.args.body.now c.in-Ok.ensures.cases.1 ∙ read_is))
