-- The text of a response (RFC 9112 4 to 6).
use Rattle.std.specs.Prelude.{◌≡◌, ℕ, ◌==◌, List, [], ◌∷◌, ◌++◌, length, codes, decimal, if◌then◌else◌, Option, Some, None, option_map}
use Rattle.httpdate.specs.Date.{unix_secs, date_text}
use Rattle.httpdate.specs.declared.date.HttpDate.{HttpDate}
use Rattle.reg_http_head.specs.declared.answer.Answer.{Answer}

-- the parts of a response: status code, media type, the method that a 405 allows, and body
pub record Response : Type 0 where
  pub status : ℕ
  pub kind : List ℕ
  pub allow : Option (List ℕ)
  pub body : List ℕ

-- the parts of an answer as bytes
abbrev pub shown : Answer → Response
shown answer = record {
  status = answer.status;
  kind = answer.kind.now;
  allow = option_map (λ method. method.now) answer.allow;
  body = answer.body.items;
}

-- the phrase of a status code (RFC 9110 15, RFC 6585 4 and 5; for 413 the older one, RFC 7231 6.5.11); empty for a code with which the desk
-- never answers
abbrev pub phrase : ℕ → List ℕ
phrase status =
    if status == 200 then codes "OK"
    else (if status == 400 then codes "Bad Request"
    else (if status == 404 then codes "Not Found"
    else (if status == 405 then codes "Method Not Allowed"
    else (if status == 409 then codes "Conflict"
    else (if status == 411 then codes "Length Required"
    else (if status == 413 then codes "Payload Too Large"
    else (if status == 429 then codes "Too Many Requests"
    else (if status == 431 then codes "Request Header Fields Too Large"
    else (if status == 500 then codes "Internal Server Error"
    else (if status == 503 then codes "Service Unavailable" else []))))))))))

-- a line with a prefix and a value, and its CR LF
unfoldable pub field_line : List ℕ → List ℕ → List ℕ
field_line start value = start ++ value ++ 13 ∷ 10 ∷ []

-- the status line: version, code and phrase (RFC 9112 4)
unfoldable pub status_line : ℕ → List ℕ
status_line status = codes "HTTP/1.1 " ++ decimal status ++ field_line (codes " ") (phrase status)

-- the line of the method that a 405 allows; no line for `None` (RFC 9110 10.2.1)
unfoldable pub allow_line : Option (List ℕ) → List ℕ
allow_line None = []
allow_line (Some method) = field_line (codes "Allow: ") method

-- a 429 asks the client to wait 60 seconds; no line for another status code (RFC 6585 4, RFC 9110 10.2.3)
unfoldable pub retry_line : ℕ → List ℕ
retry_line status = if status == 429 then field_line (codes "Retry-After: ") (codes "60") else []

-- the status line and the fields, up to and including the empty line; the connection is closed after each response (RFC 9112 9.6)
unfoldable pub head_text : List ℕ → Response → List ℕ
head_text date response =
    status_line response.status
    ++ field_line (codes "Date: ") date
    ++ allow_line response.allow
    ++ retry_line response.status
    ++ field_line (codes "Content-Type: ") response.kind
    ++ field_line (codes "Content-Length: ") (decimal (length response.body))
    ++ field_line (codes "Connection: close") []
    ++ field_line [] []

-- the date as IMF-fixdate of this moment (RFC 9110 5.6.7)
abbrev pub IsDateOf : ℕ → List ℕ → Type 0
IsDateOf moment date = (d : HttpDate) × (unix_secs d ≡ moment) × (date ≡ date_text d)

-- the bytes of the response at this moment
abbrev pub IsText : Response → ℕ → List ℕ → Type 0
IsText response moment text =
    (date : List ℕ) × IsDateOf moment date × (text ≡ head_text date response ++ response.body)

-- the response if there was no memory for another one: status 500, without a body
unfoldable pub memory_text : List ℕ
memory_text =
    field_line (codes "HTTP/1.1 500 Internal Server Error") []
    ++ field_line (codes "Connection: close") []
    ++ field_line (codes "Content-Length: 0") []
    ++ field_line [] []
