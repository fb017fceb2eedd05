-- Requests that were entered and declined, in any order: which rows they are, and which of them are declined.
use Rattle.std.proofs.Common.{◌≡◌, ◌∙◌, ◌<◌, ◌+◌, ℕ, Bool, true, false, ◌==◌, ◌&&◌, ◌||◌, List, [], ◌∷◌, ◌++◌, map, inl, inr, refl, sym, ap, subst, arith, append-nil, append_assoc}
use Rattle.std.specs.Prelude.{IsSome, cond}
use Rattle.std.specs.List.{AllByRecursion, list_any}
use Rattle.std.proofs.lemmas.Bool.{cases_Bool, false≢true}
use Rattle.std.proofs.lemmas.Bool.Decides.{nat_tests}
use Rattle.reg_core.specs.Changes.{declined_if}
use Rattle.reg_core.specs.Records.{request_in}
use Rattle.reg_core.specs.Sound.{NumberedFrom}
use Rattle.reg_core.specs.declared.rows.RequestRow.{RequestRow}
use Rattle.reg_core_laws.specs.Extends.{IsSameRequest, OnlyAdded, OnlyAddedOrDeclined}
use Rattle.reg_office_api.specs.Follows.{AreDeclinedLater, RequestEvent, decline_event, declined_requests, entered_requests, request_event, requests_after}
use Rattle.reg_office_api.specs.FollowedLeaders.{undeclined}
use Rattle.reg_office_api.proofs.DeclinedIds.{declined_ids, has_id}

-- ---- the rows

abbrev pub bare : List RequestRow → List RequestRow
bare rows = map undeclined rows

map_joined : {Row Other : Type 0} (f : Row → Other) (rows more : List Row) → map f (rows ++ more) ≡ map f rows ++ map f more
map_joined f [] more = refl
map_joined f (row ∷ rows) more = ap (λ l. f row ∷ l) (map_joined f rows more)

undeclined_if : (id : ℕ) (row : RequestRow) → undeclined (declined_if id row) ≡ undeclined row
undeclined_if id row = by_test (row.id == id)
  where
    by_test : (b : Bool) → undeclined (cond b (record row { declined = true }) row) ≡ undeclined row
    by_test true = refl
    by_test false = refl

bare_if : (id : ℕ) (rows : List RequestRow) → bare (map (declined_if id) rows) ≡ bare rows
bare_if id [] = refl
bare_if id (row ∷ rows) = λ i. undeclined_if id row i ∷ bare_if id rows i

pub bare_after : (events : List RequestEvent) (rows : List RequestRow) → bare (requests_after events rows) ≡ bare rows ++ bare (entered_requests events)
bare_after [] rows = sym (append-nil (bare rows))
bare_after (request_event row ∷ events) rows =
    bare_after events (rows ++ row ∷ []) ∙ ap (λ l. l ++ bare (entered_requests events)) (map_joined undeclined rows (row ∷ []))
    ∙ append_assoc (bare rows) (undeclined row ∷ []) (bare (entered_requests events))
bare_after (decline_event id ∷ events) rows = bare_after events (map (declined_if id) rows) ∙ ap (λ l. l ++ bare (entered_requests events)) (bare_if id rows)

pub bare_same : (rows : List RequestRow) → AllByRecursion (λ row. row.declined ≡ false) rows → bare rows ≡ rows
bare_same [] all = refl
bare_same (row ∷ rows) all = λ i. record row { declined = (sym all.0) i } ∷ bare_same rows all.1 i

pub bare_open : (rows : List RequestRow) → AllByRecursion (λ row. row.declined ≡ false) (bare rows)
bare_open [] = tt
bare_open (row ∷ rows) = (refl, bare_open rows)

same_bare : (row next : RequestRow) → IsSameRequest row next → undeclined next ≡ undeclined row
same_bare row next (inl is) = ap undeclined is
same_bare row next (inr is) = ap undeclined is

pub bare_added : (rows after : List RequestRow) → OnlyAddedOrDeclined rows after → OnlyAdded (bare rows) (bare after)
bare_added [] after added = (bare after, refl)
bare_added (row ∷ rows) [] added = absurd added
bare_added (row ∷ rows) (next ∷ others) (same, added) =
    let (more, is) = bare_added rows others added in
    (more, λ i. same_bare row next same i ∷ is i)

-- ---- the declined ones

ids_pushed : (rows : List RequestRow) (row : RequestRow) → row.declined ≡ false → declined_ids (rows ++ row ∷ []) ≡ declined_ids rows
ids_pushed [] row open_now = rw open_now refl
ids_pushed (first ∷ rows) row open_now = let rest = ids_pushed rows row open_now in grind (arith, rest)

ids_declined : (id target : ℕ) (rows : List RequestRow)
    → has_id id (declined_ids (map (declined_if target) rows)) ≡ (has_id id (declined_ids rows) || (list_any (λ row. row.id == target) rows && (target == id)))
ids_declined id target [] = refl
ids_declined id target (row ∷ rows) =
    let rest = ids_declined id target rows in
    elim (cases_Bool (row.id == target)) [
      | inl is ↦ rw is (let same : row.id ≡ target = grind (arith, nat_tests, is) in grind (arith, nat_tests, same, rest))
      | inr not ↦ rw not (grind (arith, nat_tests, rest))
    ]

some_any : (target : ℕ) (rows : List RequestRow) → IsSome (request_in rows target) → list_any (λ row. row.id == target) rows ≡ true
some_any target [] some = absurd (false≢true some)
some_any target (row ∷ rows) some = elim (cases_Bool (row.id == target)) [
  | inl is ↦ rw is refl
  | inr not ↦ rw not (some_any target rows (rw not at some))
]

pub declined_after : (id : ℕ) (events : List RequestEvent) (rows : List RequestRow) → AreDeclinedLater events rows → AllByRecursion (λ row. row.declined ≡ false) (entered_requests events)
    → has_id id (declined_ids (requests_after events rows)) ≡ (has_id id (declined_ids rows) || has_id id (declined_requests events))
declined_after id [] rows later all = or_none (has_id id (declined_ids rows))
  where
    or_none : (b : Bool) → b ≡ (b || false)
    or_none true = refl
    or_none false = refl
declined_after id (request_event row ∷ events) rows later all =
    declined_after id events (rows ++ row ∷ []) later all.1 ∙ ap (λ l. has_id id l || has_id id (declined_requests events)) (ids_pushed rows row all.0)
declined_after id (decline_event target ∷ events) rows later all =
    let any = some_any target rows later.0 in
    let here = ids_declined id target rows in
    let rest = declined_after id events (map (declined_if target) rows) later.1 all in
    grind (arith, any, here, rest)

-- ---- requests with the same ids, of which the same ones are declined

numbered_bare : (from : ℕ) (rows : List RequestRow) → NumberedFrom (λ row. row.id) from rows → NumberedFrom (λ row. row.id) from (bare rows)
numbered_bare from [] numbered = tt
numbered_bare from (row ∷ rows) numbered = (numbered.0, numbered_bare (from + 1) rows numbered.1)

bare_numbered : (from : ℕ) (rows : List RequestRow) → NumberedFrom (λ row. row.id) from (bare rows) → NumberedFrom (λ row. row.id) from rows
bare_numbered from [] numbered = tt
bare_numbered from (row ∷ rows) numbered = (numbered.0, bare_numbered (from + 1) rows numbered.1)

none_below : (from id : ℕ) (rows : List RequestRow) → NumberedFrom (λ row. row.id) from rows → id < from → has_id id (declined_ids rows) ≡ false
none_below from id [] numbered below = refl
none_below from id (row ∷ rows) numbered below =
    let number = numbered.0 in
    let rest = none_below (from + 1) id rows numbered.1 (omega arith) in
    grind (arith, nat_tests, number, below, rest)

-- the first row
flag_is : (from : ℕ) (row : RequestRow) (rows : List RequestRow) → NumberedFrom (λ row. row.id) from (row ∷ rows) → has_id row.id (declined_ids (row ∷ rows)) ≡ row.declined
flag_is from row rows numbered =
    let number = numbered.0 in
    let rest = none_below (from + 1) row.id rows numbered.1 (omega (arith, number)) in
    grind (arith, nat_tests, rest)

-- the other rows
rest_ids : (from id : ℕ) (row : RequestRow) (rows : List RequestRow) → NumberedFrom (λ row. row.id) from (row ∷ rows)
    → has_id id (declined_ids rows) ≡ (has_id id (declined_ids (row ∷ rows)) && cond (from == id) false true)
rest_ids from id row rows numbered =
    let number = numbered.0 in
    let none : id < from + 1 → has_id id (declined_ids rows) ≡ false = none_below (from + 1) id rows numbered.1 in
    grind (arith, nat_tests, number, none)

abbrev first_of : RequestRow → List RequestRow → RequestRow
first_of other [] = other
first_of other (row ∷ rows) = row

abbrev rest_of : List RequestRow → List RequestRow
rest_of [] = []
rest_of (row ∷ rows) = rows

same_flags : (from : ℕ) (rows others : List RequestRow) → NumberedFrom (λ row. row.id) from rows → NumberedFrom (λ row. row.id) from others
    → bare rows ≡ bare others → ((id : ℕ) → has_id id (declined_ids rows) ≡ has_id id (declined_ids others)) → rows ≡ others
same_flags from [] [] numbered numbered_others same ids = refl
same_flags from [] (other ∷ others) numbered numbered_others same ids = absurd (let bad : ⊥ = cc in bad)
same_flags from (row ∷ rows) [] numbered numbered_others same ids = absurd (let bad : ⊥ = cc in bad)
same_flags from (row ∷ rows) (other ∷ others) numbered numbered_others same ids =
    let first : undeclined row ≡ undeclined other = ap (first_of (undeclined row)) same in
    let rest : bare rows ≡ bare others = ap rest_of same in
    let id_is : row.id ≡ other.id = ap (λ (r : RequestRow). r.id) first in
    let flag : row.declined ≡ other.declined =
    sym (flag_is from row rows numbered) ∙ ids row.id ∙ ap (λ n. has_id n (declined_ids (other ∷ others))) id_is ∙ flag_is from other others numbered_others in
    let here : row ≡ other = λ i. record {
      id = id_is i;
      serial = ap (λ (r : RequestRow). r.serial) first i;
      ground = ap (λ (r : RequestRow). r.ground) first i;
      received = ap (λ (r : RequestRow). r.received) first i;
      declined = flag i;
    } in
    let later = same_flags (from + 1) rows others numbered.1 numbered_others.1 rest
    (λ id. rest_ids from id row rows numbered ∙ ap (λ b. b && cond (from == id) false true) (ids id) ∙ sym (rest_ids from id other others numbered_others)) in
    λ i. here i ∷ later i

pub same_requests : (rows others : List RequestRow) → NumberedFrom (λ row. row.id) 1 others → bare rows ≡ bare others
    → ((id : ℕ) → has_id id (declined_ids rows) ≡ has_id id (declined_ids others)) → rows ≡ others
same_requests rows others numbered same ids =
    same_flags 1 rows others (bare_numbered 1 rows (subst (NumberedFrom (λ row. row.id) 1) (sym same) (numbered_bare 1 others numbered))) numbered same ids
