-- The query for a page of a list, by the list's name and its parameters.
use Rattle.std.specs.Prelude.{ℕ, zero, suc, ◌==◌, ◌&&◌, ◌||◌, List, [], ◌∷◌, length, bytes_eq, codes, cond, min, nat_le, nat_lt, if◌then◌else◌, Option, Some, None, is_some, option_map, option_and_then}
use Rattle.std.specs.Char.{is_ascii_hexdigit}
use Rattle.std.specs.List.{before_first, after_first, list_all, position_or_len}
use Rattle.reg_core.specs.Calendar.{moment_of}
use Rattle.reg_core.specs.Label.{label_of}
use Rattle.reg_core.specs.Number.{number_of}
use Rattle.reg_core_lists.specs.Cursors.{cursor_named, cursor_past}
use Rattle.reg_core_lists.specs.Filters.{all_rows, fits}
use Rattle.reg_core_lists.specs.declared.list_parameters.PageQuery.{PageQuery}
use Rattle.reg_core_lists.specs.declared.list_parameters.Params.{Params}
use Rattle.reg_core_lists.specs.declared.cursor.Cursor.{Cursor}
use Rattle.reg_core_lists.specs.declared.filter.Filter.{Filter}

-- the text, if it is 1 to 40 hexadecimal digits
abbrev pub prefix_of : List ℕ → Option (List ℕ)
prefix_of text = if list_all is_ascii_hexdigit text && nat_le (length text) 40 then label_of text else None

-- the parameters of an empty query: none
abbrev pub no_params : Params
no_params = record { after = None; before = None; limit = None; filter = all_rows }

-- the parameters with one more; `None` if it was given before, or its value can't be read (`limit` may be any number here)
abbrev pub with_after : Params → List ℕ → Option Params
with_after params value =
    cond (is_some params.after) None (option_map (λ key. record params { after = Some key }) (label_of value))

abbrev pub with_before : Params → List ℕ → Option Params
with_before params value =
    cond (is_some params.before) None
    (option_map (λ moment. record params { before = Some moment }) (moment_of value))

abbrev pub with_limit : Params → List ℕ → Option Params
with_limit params value =
    cond (is_some params.limit) None
    (option_map (λ limit. record params { limit = Some limit }) (number_of value))

-- a filter with one more condition; `None` if it was given before, or its value can't be read
abbrev pub filtered_by_name : Filter → List ℕ → Option Filter
filtered_by_name filter value =
    cond (is_some filter.subscriber) None
    (option_map (λ name. record filter { subscriber = Some name }) (label_of value))

abbrev pub filtered_by_serial : Filter → List ℕ → Option Filter
filtered_by_serial filter value =
    cond (is_some filter.serial) None
    (option_map (λ digits. record filter { serial = Some digits }) (prefix_of value))

abbrev pub filtered_from : Filter → List ℕ → Option Filter
filtered_from filter value =
    cond (is_some filter.from) None
    (option_map (λ moment. record filter { from = Some moment }) (moment_of value))

abbrev pub filtered_to : Filter → List ℕ → Option Filter
filtered_to filter value =
    cond (is_some filter.to) None
    (option_map (λ moment. record filter { to = Some moment }) (moment_of value))

abbrev pub filter_with : Filter → List ℕ → List ℕ → Option Filter
filter_with filter name value =
    if bytes_eq name (codes "subscriber") then filtered_by_name filter value
    else if bytes_eq name (codes "serial") then filtered_by_serial filter value
    else if bytes_eq name (codes "from") then filtered_from filter value
    else if bytes_eq name (codes "to") then filtered_to filter value
    else None

abbrev pub with_filter : Params → List ℕ → List ℕ → Option Params
with_filter params name value =
    option_map (λ filter. record params { filter = filter }) (filter_with params.filter name value)

-- the parameters with one more, by its name
abbrev pub with_value : Params → List ℕ → List ℕ → Option Params
with_value params name value =
    if bytes_eq name (codes "after") then with_after params value
    else if bytes_eq name (codes "before") then with_before params value
    else if bytes_eq name (codes "limit") then with_limit params value
    else with_filter params name value

-- the parameters with one more, as `NAME=VALUE`; `None` without `=` (61 is its code)
abbrev pub with_parameter : Params → List ℕ → Option Params
with_parameter params piece =
    cond (position_or_len (λ byte. byte == 61) piece == length piece) None
    (with_value params (before_first (λ byte. byte == 61) piece) (after_first (λ byte. byte == 61) piece))

-- the parameters with those in a text, at most this many, with `&` between them (38 is its code)
abbrev pub params_from : ℕ → List ℕ → Params → Option Params
params_from zero text params = None
params_from (suc n) text params =
    option_and_then
    (λ more. cond (position_or_len (λ byte. byte == 38) text == length text) (Some more)
    (params_from n (after_first (λ byte. byte == 38) text) more))
    (with_parameter params (before_first (λ byte. byte == 38) text))

-- the parameters in a text: at most seven
abbrev pub params_of : List ℕ → Option Params
params_of [] = Some no_params
params_of (byte ∷ text) = params_from 7 (byte ∷ text) no_params

-- the list after the key, if one is given
abbrev pub cursor_at : Cursor → Option (List ℕ) → Option Cursor
cursor_at from None = Some from
cursor_at from (Some key) = cursor_past key from

-- the most rows that a page reads: the limit, but at most 250; `None` if the limit is not 1 to 1,000
abbrev pub at_most : Option ℕ → Option ℕ
at_most None = Some 250
at_most (Some limit) = if (limit == 0) || nat_lt 1000 limit then None else Some (min limit 250)

-- the query itself, if the rows of its list have the fields that its filter needs
abbrev pub where_fits : PageQuery → Option PageQuery
where_fits wanted = cond (fits wanted.filter wanted.from) (Some wanted) None

-- the query for a page, by the list's name and its parameters: where it begins, the most rows that it reads, and its filter
abbrev pub page_query : List ℕ → List ℕ → Option PageQuery
page_query name query =
    option_and_then
    (λ params. option_and_then
    (λ start. option_and_then
    (λ from. option_and_then (λ most.
    where_fits (record { from = from; most = most; filter = params.filter })) (at_most params.limit))
    (cursor_at start params.after))
    (cursor_named name params.before))
    (params_of query)
