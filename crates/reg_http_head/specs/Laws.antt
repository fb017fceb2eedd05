-- Laws over the definitions.
use Rattle.std.specs.Prelude.{◌≡◌, ℕ, List, Some}
use Rattle.http.specs.StatusCode.{reason_phrase}
use Rattle.reg_http_head.specs.Frame.{AsksFor}
use Rattle.httparse.specs.Grammar.{ResponseHead}
use Rattle.reg_http_head.specs.Response.{Response, phrase, IsText}
use Rattle.reg_http_head.specs.ResponseStart.{BeginsWith}
use Rattle.reg_http_head.specs.declared.response_head.ResponseHead.{ResponseHead as HeadRead}

-- the phrase of each of these status codes, which are all of the desk's but 429, is that of the crate `http`
abbrev pub ArePhrases : Type 0
ArePhrases =
    (reason_phrase 200 ≡ Some (phrase 200)) × (reason_phrase 400 ≡ Some (phrase 400))
    × (reason_phrase 404 ≡ Some (phrase 404)) × (reason_phrase 405 ≡ Some (phrase 405))
    × (reason_phrase 409 ≡ Some (phrase 409)) × (reason_phrase 411 ≡ Some (phrase 411))
    × (reason_phrase 413 ≡ Some (phrase 413)) × (reason_phrase 431 ≡ Some (phrase 431))
    × (reason_phrase 500 ≡ Some (phrase 500)) × (reason_phrase 503 ≡ Some (phrase 503))

-- the same bytes are never read as two different requests
abbrev pub IsOneRequest : Type 0
IsOneRequest =
    (took method target body method' target' body' : List ℕ)
    → AsksFor took method target body → AsksFor took method' target' body'
    → (method ≡ method') × (target ≡ target') × (body ≡ body')

-- the same bytes never begin with two different accepted heads of responses
abbrev pub IsOneResponseHead : Type 0
IsOneResponseHead =
    (bytes : List ℕ) (it other : HeadRead) (h k : ResponseHead) → BeginsWith bytes it h
    → BeginsWith bytes other k → it ≡ other

-- two texts of the same response at the same moment are equal
abbrev pub IsOneText : Type 0
IsOneText =
    (response : Response) (moment : ℕ) (text text' : List ℕ) → IsText response moment text
    → IsText response moment text' → text ≡ text'
