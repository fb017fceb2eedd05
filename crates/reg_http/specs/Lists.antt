-- Requests for lists and their answers: these routes exist only at an open desk.
use Rattle.std.specs.Prelude.{◌≡◌, ℕ, ◌==◌, List, drop, codes, bytes_eq, if◌then◌else◌, Option, Some, None, Result, Ok, Err}
use Rattle.std.specs.List.{before_first, after_first, starts_with}
use Rattle.percent_encoding.specs.Percent.{percent_decode}
use Rattle.reg_core.specs.Records.{Records}
use Rattle.reg_core.specs.declared.refusal.Fault.{Fault}
use Rattle.reg_core.specs.declared.refusal.Fault.TheVariants as fault
use Rattle.reg_core.specs.declared.refusal.Refusal.TheVariants.{Syntax}
use Rattle.reg_core_lists.specs.ListParameters.{page_query}
use Rattle.reg_core_lists.specs.Filters.{filtered_rows}
use Rattle.reg_core_lists.specs.Pages.{IsPaged}
use Rattle.reg_core_lists.specs.Texts.{page_body}
use Rattle.reg_core_lists.specs.declared.list_parameters.PageQuery.{PageQuery}
use Rattle.reg_core_lists.specs.declared.rows.Page.{Page as PageOf}
use Rattle.reg_http.specs.Bodies.{json, method_not_allowed}
use Rattle.reg_http.specs.AnswerEffects.{AnswerEffects, plain, fault_effects}
use Rattle.reg_http.specs.declared.lists.ListRequest.{ListRequest}
use Rattle.reg_http.specs.declared.lists.ListRequest.TheVariants.{OnlyGet, Unreadable, Page}

-- the page that is requested; `Unreadable` if the list or its query can't be read
abbrev pub or_unreadable : Option PageQuery → ListRequest
or_unreadable (Some wanted) = Page wanted
or_unreadable None = Unreadable

-- the page that a path `/list/WORD` and its query request
abbrev pub page_of_path : List ℕ → List ℕ → ListRequest
page_of_path path decoded_query =
    if starts_with (λ a b. a == b) path (codes "/list/")
    then or_unreadable (page_query (drop 6 path) decoded_query) else Unreadable

-- the page that a target requests (RFC 3986 3.3, 3.4): by its path, and the query after `?`, percent-decoded
unfoldable pub page_in : List ℕ → ListRequest
page_in target =
    page_of_path (before_first (λ b. b == 63) target) (percent_decode (after_first (λ b. b == 63) target))

-- the meaning of a request for a list
abbrev pub list_request : List ℕ → List ℕ → ListRequest
list_request method target = if bytes_eq method (codes "GET") then page_in target else OnlyGet

-- the body with the rows of a page that the filter keeps
abbrev pub wanted_body : PageQuery → PageOf → List ℕ
wanted_body wanted given = page_body wanted.from given.next (filtered_rows wanted.filter given.rows.items)

-- the answer with these rows, or with the fault that the office returned
abbrev pub given_page : PageQuery → Result PageOf Fault → AnswerEffects
given_page wanted (Ok given) = plain (json 200 (wanted_body wanted given))
given_page wanted (Err why) = fault_effects why

-- the answer to a request for a list, over records at a moment
abbrev pub RespondsList : Records → ℕ → ListRequest → AnswerEffects → Type 0
RespondsList records now (Page wanted) it =
    (given : Result PageOf Fault) × IsPaged records now wanted.most wanted.from given
    × (it ≡ given_page wanted given)
RespondsList records now OnlyGet it = it ≡ plain (method_not_allowed (codes "GET"))
RespondsList records now Unreadable it = it ≡ fault_effects (fault.Refused Syntax)
