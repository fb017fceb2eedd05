-- The head of a request (RFC 9112 2 to 6): its end, its meaning, and the reasons to refuse it.
use Rattle.std.specs.Prelude.{◌≡◌, ℕ, ◌≤◌, ◌⊎◌, Bool, List, [], ◌∷◌, length, map, filter, codes, if◌then◌else◌, nat_lt, Option, Some, None, Result, Ok, Err, bytes_eq}
use Rattle.std.specs.Char.{to_ascii_lowercase}
use Rattle.reg_core.specs.Number.{number_of}
use Rattle.httparse.specs.Grammar.{RequestHead, ReadsRequest}
use Rattle.httparse.specs.Spans.{IsWithin, span_bytes, name_and_value, RequestExceeds}
use Rattle.reg_http_head.specs.declared.fields.Values.{Values}
use Rattle.reg_http_head.specs.declared.fields.Values.TheVariants.{Absent, One, Several}
use Rattle.reg_http_head.specs.declared.head.HeadSpans.{HeadSpans}

-- CR LF CR LF: the end of the last line, and the empty line (RFC 9112 2.1)
abbrev pub blank_line : List ℕ
blank_line = 13 ∷ 10 ∷ 13 ∷ 10 ∷ []

-- the most bytes of a head, with its empty line
abbrev pub longest_head : ℕ
longest_head = 8192

-- the most fields of a head
abbrev pub most_fields : ℕ
most_fields = 64

-- the most bytes of a body
abbrev pub longest_body : ℕ
longest_body = 65536

-- the bytes are exactly this head, with at most 64 fields (RFC 9112 2 to 5)
abbrev pub IsHead : List ℕ → RequestHead → Type 0
IsHead bytes h = ReadsRequest bytes h [] × (length h.fields ≤ most_fields)

-- the field has this name; names are compared without regard to case (RFC 9110 5.1)
abbrev pub is_named : List ℕ → List ℕ × List ℕ → Bool
is_named name field = bytes_eq (map to_ascii_lowercase field.0) (map to_ascii_lowercase name)

-- the values of the fields of this name, in their order
abbrev pub values_of : List ℕ → List (List ℕ × List ℕ) → List (List ℕ)
values_of name fields = map (λ field. field.1) (filter (is_named name) fields)

-- a length that was read; 400 if it is no number of 1 to 18 digits (`None`), 413 if it is above 65,536 (RFC 9110 15.5.14)
abbrev pub size_in_bounds : Option ℕ → Result ℕ ℕ
size_in_bounds None = Err 400
size_in_bounds (Some size) = if nat_lt longest_body size then Err 413 else Ok size

-- the length of a body by the values of Transfer-Encoding and of Content-Length (RFC 9112 6): 411 if there is a
-- Transfer-Encoding, or no Content-Length; 400 if there is more than one Content-Length
abbrev pub size_by : List (List ℕ) → List (List ℕ) → Result ℕ ℕ
size_by (coding ∷ codings) lengths = Err 411
size_by [] [] = Err 411
size_by [] (text ∷ []) = size_in_bounds (number_of text)
size_by [] (text ∷ other ∷ more) = Err 400

-- the length of the body that follows the fields; only POST has one
abbrev pub size_of : List ℕ → List (List ℕ × List ℕ) → Result ℕ ℕ
size_of method fields =
    if bytes_eq method (codes "POST")
    then size_by (values_of (codes "transfer-encoding") fields) (values_of (codes "content-length") fields)
    else Ok 0

-- the same for a head
abbrev pub body_size : RequestHead → Result ℕ ℕ
body_size h = size_of h.method (map name_and_value h.fields)

-- the status code that refuses a head: 431 for more than 64 fields, 400 for bytes that are no head, or the one for the length of its body
abbrev pub RefusesHead : List ℕ → ℕ → Type 0
RefusesHead bytes status =
    ((status ≡ 431) × RequestExceeds most_fields bytes)
    ⊎ (((status ≡ 400) × ((h : RequestHead) → ¬ (ReadsRequest bytes h [])))
    ⊎ ((h : RequestHead) × IsHead bytes h × (body_size h ≡ Err status)))

-- the values of the fields with one name, as they were found: none, one with its position in the head, or more than one
abbrev pub HasFieldValues : List ℕ → List (List ℕ) → Values → Type 0
HasFieldValues head values Absent = values ≡ []
HasFieldValues head values (One span) = IsWithin (length head) span × (values ≡ span_bytes head span ∷ [])
HasFieldValues head values Several = 2 ≤ length values

-- the bytes are this head, with its parts at these positions
pub record IsHeadAt (bytes : List ℕ) (spans : HeadSpans) (h : RequestHead) : Type 0 where
  pub reads : IsHead bytes h
  pub method_within : IsWithin (length bytes) spans.method
  pub target_within : IsWithin (length bytes) spans.target
  pub method_is : span_bytes bytes spans.method ≡ h.method
  pub target_is : span_bytes bytes spans.target ≡ h.target
  pub size_is : body_size h ≡ Ok spans.size

-- the bytes are a head with its parts at these positions
abbrev pub HoldsHead : List ℕ → HeadSpans → Type 0
HoldsHead bytes spans = (h : RequestHead) × IsHeadAt bytes spans h
