-- The undecided requests that are kept, as revocations and requests come.
use Rattle.std.proofs.Common.{◌≡◌, ◌≤◌, ◌<◌, ◌+◌, ◌-◌, ◌==◌, ◌&&◌, ◌||◌, ◌++◌, ◌∷◌, [], ℕ, Bool, true, false, not, cond, List, map, length, take, drop, get_or, Option, Some, None, option_map, refl, sym, ap, subst, ◌∙◌, arith, inl, inr, ◌⊎◌, append_assoc, append-nil, length-append}
use Rattle.std.specs.Prelude.{⊤, is_some, nat_le, nat_lt, min, option_to_list, IfSome, OnOk, Result, Ok, Err}
use Rattle.std.specs.List.{filter, AllByRecursion}
use Rattle.std.proofs.lemmas.Bool.{cases_Bool, le-leb, lt-leb, ltb-false, ltb-true, leb-true, leb-false, eqb-false}
use Rattle.std.proofs.lemmas.List.{drop-take, length-drop, length-map, length-take, length-take-le, map-append, take-append-drop, take-append-le, take-map, take-take, take_all, take_min, take_more}
use Rattle.reg_core.specs.Changes.{declined_if}
use Rattle.reg_core.specs.Checks.{clock_checks, first_refusal}
use Rattle.reg_core.specs.Decisions.{IsDecidedBy}
use Rattle.reg_core.specs.Due.{deadline, is_open, overdue, overdue_report}
use Rattle.reg_core.specs.Records.{Records, certificate_in, revocation_in}
use Rattle.reg_core.specs.Status.{is_good, status_by}
use Rattle.reg_core.specs.declared.command.Status.TheVariants.{Good, Expired}
use Rattle.reg_core.specs.declared.command.Overdue.{Overdue}
use Rattle.reg_core.specs.declared.rows.CertRow.{CertRow}
use Rattle.reg_core.specs.declared.rows.RequestRow.{RequestRow}
use Rattle.reg_core.specs.declared.rows.RevocationRow.{RevocationRow}
use Rattle.reg_core_laws.specs.Extends.{OnlyAdded}
use Rattle.reg_core_laws.proofs.PublicLaws.{says}
use Rattle.reg_office_reads.specs.Looking.{clock_refusal}
use Rattle.reg_office_cache.specs.Undecided.{AreUndecided, AreAllUndecided, HasEnd, IsUndecidedRow, TakesRequests, ends_from, is_late_row, has_revocation, is_undecided}
use Rattle.reg_office_cache.specs.declared.undecided.UndecidedRequest.{UndecidedRequest}
use Rattle.reg_office_cache.specs.declared.undecided.UndecidedRequests.{UndecidedRequests}

-- ---- lists

-- the first rows and a page of the next ones are the first rows, as many more
pub next_taken : {A : Type 0} (m r : ℕ) (xs page : List A) → page ≡ take m (drop r xs) → take (r + length page) xs ≡ take r xs ++ page
next_taken m r xs page is =
    let long : length page ≡ min m (length (drop r xs)) = ap length is ∙ length-take m (drop r xs) in
    let whole : take (length page) (drop r xs) ≡ page = ap (λ n. take n (drop r xs)) long ∙ take_min m (drop r xs) ∙ sym is in
    sym (take-append-drop r (take (r + length page) xs))
    ∙ ap (λ front. front ++ drop r (take (r + length page) xs)) (take-take r (r + length page) xs (omega arith))
    ∙ ap (λ back. take r xs ++ back) (drop-take r (length page) xs ∙ whole)

-- so many more are there
pub next_within : {A : Type 0} (m r : ℕ) (xs page : List A) → page ≡ take m (drop r xs) → r ≤ length xs → r + length page ≤ length xs
next_within m r xs page is within =
    let long : length page ≡ min m (length (drop r xs)) = ap length is ∙ length-take m (drop r xs) in
    let rest = length-drop r xs in
    omega (arith, long, rest)

filter_and : {A : Type 0} (p q : A → Bool) (xs : List A) → filter (λ x. p x && q x) xs ≡ filter q (filter p xs)
filter_and p q [] = refl
filter_and p q (x ∷ xs) = let rest = filter_and p q xs in elim (cases_Bool (p x)) [
  | inl passed ↦ rw passed (elim (cases_Bool (q x)) [
    | inl kept ↦ rw kept (ap (λ l. x ∷ l) rest)
    | inr lost ↦ rw lost rest
  ])
  | inr failed ↦ rw failed rest
]

filter_as : {A : Type 0} (p q : A → Bool) → ((x : A) → p x ≡ q x) → (xs : List A) → filter p xs ≡ filter q xs
filter_as p q same [] = refl
filter_as p q same (x ∷ xs) = rw (same x, filter_as p q same xs) refl

filter_map_is : {A B : Type 0} (f : A → B) (p : B → Bool) (xs : List A) → filter p (map f xs) ≡ map f (filter (λ x. p (f x)) xs)
filter_map_is f p [] = refl
filter_map_is f p (x ∷ xs) = let rest = filter_map_is f p xs in elim (cases_Bool (p (f x))) [
  | inl passed ↦ rw passed (ap (λ l. f x ∷ l) rest)
  | inr failed ↦ rw failed rest
]

filter_push : {A : Type 0} (p : A → Bool) (xs : List A) (x : A) → filter p (xs ++ x ∷ []) ≡ filter p xs ++ cond (p x) (x ∷ []) []
filter_push p [] x = elim (cases_Bool (p x)) [
  | inl passed ↦ rw passed refl
  | inr failed ↦ rw failed refl
]
filter_push p (y ∷ xs) x = let rest = filter_push p xs x in elim (cases_Bool (p y)) [
  | inl passed ↦ rw passed (ap (λ l. y ∷ l) rest)
  | inr failed ↦ rw failed rest
]

all_filtered : {A : Type 0} (P : A → Type 0) (p : A → Bool) (xs : List A) → AllByRecursion P xs → AllByRecursion P (filter p xs)
all_filtered P p [] all = tt
all_filtered P p (x ∷ xs) all = let rest = all_filtered P p xs all.1 in elim (cases_Bool (p x)) [
  | inl passed ↦ rw passed (all.0, rest)
  | inr failed ↦ rw failed rest
]

-- a row more
row_more : (p : UndecidedRequest → Bool) (rows : List UndecidedRequest) (i : ℕ) (row : UndecidedRequest) → i < length rows → row ≡ get_or rows i row
    → map (λ (it : UndecidedRequest). it.request) (filter p (take (i + 1) rows)) ≡ map (λ (it : UndecidedRequest). it.request) (filter p (take i rows)) ++ cond (p row) (row.request ∷ []) []
row_more p rows i row within here =
    let request_of : UndecidedRequest → RequestRow = λ it. it.request in
    ap (λ front. map request_of (filter p front)) (take_more rows i row within ∙ ap (λ y. take i rows ++ y ∷ []) (sym here))
    ∙ ap (map request_of) (filter_push p (take i rows) row)
    ∙ map-append request_of (filter p (take i rows)) (cond (p row) (row ∷ []) [])
    ∙ ap (λ back. map request_of (filter p (take i rows)) ++ back) (by_test (p row))
  where
    by_test : (is : Bool) → map (λ (it : UndecidedRequest). it.request) (cond is (row ∷ []) []) ≡ cond is (row.request ∷ []) []
    by_test true = refl
    by_test false = refl

pub row_kept : (p : UndecidedRequest → Bool) (rows : List UndecidedRequest) (i : ℕ) (row : UndecidedRequest) → i < length rows → row ≡ get_or rows i row → p row ≡ true
    → map (λ (it : UndecidedRequest). it.request) (filter p (take (i + 1) rows)) ≡ map (λ (it : UndecidedRequest). it.request) (filter p (take i rows)) ++ row.request ∷ []
row_kept p rows i row within here is = row_more p rows i row within here ∙ rw is refl

pub row_left : (p : UndecidedRequest → Bool) (rows : List UndecidedRequest) (i : ℕ) (row : UndecidedRequest) → i < length rows → row ≡ get_or rows i row → p row ≡ false
    → map (λ (it : UndecidedRequest). it.request) (filter p (take (i + 1) rows)) ≡ map (λ (it : UndecidedRequest). it.request) (filter p (take i rows))
row_left p rows i row within here is = row_more p rows i row within here ∙ rw is (append-nil _)

fewer : {A : Type 0} (p : A → Bool) (xs : List A) → length (filter p xs) ≤ length xs
fewer p [] = omega arith
fewer p (x ∷ xs) = let rest = fewer p xs in elim (cases_Bool (p x)) [
  | inl passed ↦ rw passed (omega (arith, rest))
  | inr failed ↦ rw failed (omega (arith, rest))
]

same_report : (one other : Overdue) → Some one ≡ Some other → one ≡ other
same_report one other same = cc

-- a report counts no more rows than were read
pub report_few : (p : UndecidedRequest → Bool) (rows : List UndecidedRequest) (n : ℕ) (report : Option Overdue)
    → report ≡ overdue_report (map (λ (it : UndecidedRequest). it.request) (filter p (take n rows))) → IfSome report (λ it. it.count ≤ n)
report_few p rows n None is = tt
report_few p rows n (Some report) is =
    let counted = counts (map (λ (it : UndecidedRequest). it.request) (filter p (take n rows))) is in
    omega (arith, counted, length-map (filter p (take n rows)) (λ (it : UndecidedRequest). it.request), fewer p (take n rows), length-take n rows)
  where
    counts : (requests : List RequestRow) → Some report ≡ overdue_report requests → report.count ≡ length requests
    counts [] is = absurd (cc)
    counts (request ∷ rest) is = ap (λ (it : Overdue). it.count) (same_report report (record { count = length (request ∷ rest); first = request.id }) is)

-- ---- revocations

found_append : (rows more : List RevocationRow) (serial : ℕ) → has_revocation (rows ++ more) serial ≡ (has_revocation rows serial || has_revocation more serial)
found_append [] more serial = refl
found_append (row ∷ rows) more serial = let rest = found_append rows more serial in elim (cases_Bool (row.serial == serial)) [
  | inl same ↦ rw same refl
  | inr other ↦ rw other rest
]

neither : (a b c : Bool) → (not a && not (b || c)) ≡ ((not a && not b) && not c)
neither true b c = refl
neither false true c = refl
neither false false c = refl

undecided_append : (rows more : List RevocationRow) (request : RequestRow) → is_undecided (rows ++ more) request ≡ (is_undecided rows request && not (has_revocation more request.serial))
undecided_append rows more request =
    ap (λ found. not request.declined && not found) (found_append rows more request.serial)
    ∙ neither request.declined (has_revocation rows request.serial) (has_revocation more request.serial)

-- the next revocations take out the requests for their serial numbers
pub revocations_taken : (records : Records) (old new : UndecidedRequests) (most : ℕ) (page : List RevocationRow) → AreUndecided records old
    → page ≡ take most (drop old.revocations records.revocations) → new.revocations ≡ old.revocations + length page → new.requests ≡ old.requests
    → new.rows.items ≡ filter (λ row. not (has_revocation page row.request.serial)) old.rows.items → AreUndecided records new
revocations_taken records old new most page are is revocations requests rows =
    let revoked : UndecidedRequest → Bool = λ row. not (has_revocation page row.request.serial) in
    let request_of : UndecidedRequest → RequestRow = λ row. row.request in
    let still : RequestRow → Bool = λ request. not (has_revocation page request.serial) in
    let before = take old.revocations records.revocations in
    let after : take new.revocations records.revocations ≡ before ++ page = ap (λ n. take n records.revocations) revocations ∙ next_taken most old.revocations records.revocations page is in
    let within = next_within most old.revocations records.revocations page is are.revocations in
    record {
      requests = omega (arith, requests, are.requests);
      revocations = omega (arith, revocations, within);
      rows =
          ap (map request_of) rows ∙ sym (filter_map_is request_of still old.rows.items) ∙ ap (filter still) are.rows
          ∙ sym (filter_and (is_undecided before) still (take old.requests records.requests))
          ∙ sym (filter_as (is_undecided (before ++ page)) (λ request. is_undecided before request && still request) (undecided_append before page) (take old.requests records.requests))
          ∙ sym (ap (λ found. filter (is_undecided found) (take old.requests records.requests)) after)
          ∙ sym (ap (λ n. filter (is_undecided (take new.revocations records.revocations)) (take n records.requests)) requests);
      ends = rw rows (all_filtered (HasEnd records) revoked old.rows.items are.ends);
    }

-- none is kept
pub none_kept : (records : Records) (new : UndecidedRequests) → new.revocations ≤ length records.revocations → new.requests ≡ 0 → new.rows.items ≡ [] → AreUndecided records new
none_kept records new revocations requests rows = record {
  requests = omega (arith, requests);
  revocations = revocations;
  rows = rw (rows, requests) refl;
  ends = rw rows tt;
}

-- ---- requests

-- the next request is taken: with its certificate's notAfter if it is undecided, else not at all
pub request_taken : (records : Records) (old new : UndecidedRequests) (request : RequestRow) (found : Option UndecidedRequest) → AreUndecided records old
    → old.revocations ≡ length records.revocations
    → take (old.requests + 1) records.requests ≡ take old.requests records.requests ++ request ∷ []
    → IsUndecidedRow records request found
    → new.revocations ≡ old.revocations → new.requests ≡ old.requests + 1 → new.rows.items ≡ old.rows.items ++ option_to_list found → AreUndecided records new
request_taken records old new request found are all_revocations next row revocations requests rows =
    let within : old.requests + 1 ≤ length records.requests =
    omega (arith, are.requests, ap length next, length-take (old.requests + 1) records.requests, length-append (take old.requests records.requests) (request ∷ []), length-take-le old.requests records.requests are.requests) in
    let revoked = take old.revocations records.revocations in
    let whole : revoked ≡ records.revocations = take_all old.revocations records.revocations (omega (arith, all_revocations)) in
    let one : map (λ (row : UndecidedRequest). row.request) (option_to_list found) ≡ cond (is_undecided revoked request) (request ∷ []) [] =
    listed found (is_undecided records.revocations request) row.0 ∙ sym (ap (λ those. cond (is_undecided those request) (request ∷ []) []) whole) in
    record {
      requests = omega (arith, requests, within);
      revocations = omega (arith, revocations, are.revocations);
      rows =
          ap (map (λ (row : UndecidedRequest). row.request)) rows
          ∙ map-append (λ (row : UndecidedRequest). row.request) old.rows.items (option_to_list found)
          ∙ (λ i. are.rows i ++ one i)
          ∙ sym (filter_push (is_undecided revoked) (take old.requests records.requests) request)
          ∙ sym (ap (filter (is_undecided revoked)) next)
          ∙ sym (λ i. filter (is_undecided (take (revocations i) records.revocations)) (take (requests i) records.requests));
      ends = rw rows (all_with old.rows.items found are.ends row.1);
    }
  where
    listed : (found : Option UndecidedRequest) (is : Bool) → option_map (λ (row : UndecidedRequest). row.request) found ≡ cond is (Some request) None
        → map (λ (row : UndecidedRequest). row.request) (option_to_list found) ≡ cond is (request ∷ []) []
    listed None true is = absurd (cc)
    listed None false is = refl
    listed (Some row) true is = ap option_to_list is
    listed (Some row) false is = absurd (cc)

    all_with : (rows : List UndecidedRequest) (found : Option UndecidedRequest) → AllByRecursion (HasEnd records) rows → IfSome found (HasEnd records) → AllByRecursion (HasEnd records) (rows ++ option_to_list found)
    all_with [] None all here = tt
    all_with [] (Some row) all here = (here, tt)
    all_with (first ∷ rest) found all here = (all.0, all_with rest found all.1 here)

-- the part of a page that was read, and the row after it
pub page_part : {A : Type 0} (m r i : ℕ) (xs page : List A) (x : A) → page ≡ take m (drop r xs) → i < length page → x ≡ get_or page i x
    → take (r + i + 1) xs ≡ take (r + i) xs ++ x ∷ []
page_part m r i xs page x is within here =
    let some : take i page ≡ take i (drop r xs) = ap (take i) is ∙ take-take i m (drop r xs) (omega (arith, ap length is, length-take m (drop r xs))) in
    let long : length (take i page) ≡ i = length-take-le i page (omega arith) in
    let front : take (r + i) xs ≡ take r xs ++ take i page = ap (λ n. take (r + n) xs) (sym long) ∙ next_taken i r xs (take i page) some in
    let more : take (i + 1) page ≡ take (i + 1) (drop r xs) = ap (take (i + 1)) is ∙ take-take (i + 1) m (drop r xs) (omega (arith, ap length is, length-take m (drop r xs))) in
    let longer : length (take (i + 1) page) ≡ i + 1 = length-take-le (i + 1) page (omega arith) in
    ap (λ n. take n xs) (omega (arith, longer)) ∙ next_taken (i + 1) r xs (take (i + 1) page) more
    ∙ ap (λ back. take r xs ++ back) (take_more page i x within ∙ ap (λ y. take i page ++ y ∷ []) (sym here))
    ∙ sym (append_assoc (take r xs) (take i page) (x ∷ []))
    ∙ ap (λ front. front ++ x ∷ []) (sym front)

-- the next request of a page
pub requests_on : (records : Records) (old known new : UndecidedRequests) (m i : ℕ) (page : List RequestRow) (request : RequestRow) → known.requests ≡ old.requests + i
    → i < length page → request ≡ get_or page i request → (page ≡ take m (drop old.requests records.requests) → TakesRequests records old known)
    → (take (known.requests + 1) records.requests ≡ take known.requests records.requests ++ request ∷ [] → TakesRequests records known new)
    → page ≡ take m (drop old.requests records.requests) → TakesRequests records old new
requests_on records old known new m i page request reached within here before more is are all =
    let (known_are, same) = before is are all in
    let part = page_part m old.requests i records.requests page request is within here in
    let next : take (known.requests + 1) records.requests ≡ take known.requests records.requests ++ request ∷ [] =
    ap (λ n. take (n + 1) records.requests) reached ∙ part ∙ ap (λ n. take n records.requests ++ request ∷ []) (sym reached) in
    let (new_are, still) = more next known_are (same ∙ all) in
    (new_are, still ∙ same)

-- the rows of a page are taken
pub page_on : (records : Records) (old known new : UndecidedRequests) → TakesRequests records old known → TakesRequests records known new → TakesRequests records old new
page_on records old known new before more are all =
    let (known_are, same) = before are all in
    let (new_are, still) = more known_are (same ∙ all) in
    (new_are, still ∙ same)

-- a revocation is found where one is
pub found_revoked : (rows : List RevocationRow) (serial : ℕ) → is_some (revocation_in rows serial) ≡ has_revocation rows serial
found_revoked [] serial = refl
found_revoked (row ∷ rows) serial = let rest = found_revoked rows serial in elim (cases_Bool (row.serial == serial)) [
  | inl same ↦ rw same refl
  | inr other ↦ rw other rest
]

-- what is kept of a request whose certificate is revoked: nothing
pub revoked_row : (records : Records) (request : RequestRow) (found : Option RevocationRow) → found ≡ revocation_in records.revocations request.serial → is_some found ≡ true
    → IsUndecidedRow records request None
revoked_row records request found is some =
    let revoked : has_revocation records.revocations request.serial ≡ true = sym (found_revoked records.revocations request.serial) ∙ ap is_some (sym is) ∙ some in
    let decided : is_undecided records.revocations request ≡ false = ap (λ it. not request.declined && not it) revoked ∙ never (not request.declined) in
    (sym (ap (λ it. cond it (Some request) None) decided), tt)
  where
    never : (a : Bool) → (a && false) ≡ false
    never true = refl
    never false = refl

-- and of one that is undecided
pub row_of : (records : Records) (request : RequestRow) (found : Option RevocationRow) (certificate : CertRow) → found ≡ revocation_in records.revocations request.serial → is_some found ≡ false
    → request.declined ≡ false → certificate_in records.certificates request.serial ≡ Some certificate
    → IsUndecidedRow records request (Some (record { request = request; not_after = certificate.not_after }))
row_of records request found certificate is none undeclined has =
    let other : has_revocation records.revocations request.serial ≡ false = sym (found_revoked records.revocations request.serial) ∙ ap is_some (sym is) ∙ none in
    let undecided : is_undecided records.revocations request ≡ true = λ i. not (undeclined i) && not (other i) in
    (sym (ap (λ it. cond it (Some request) None) undecided), ap (option_map (λ (it : CertRow). it.not_after)) has)

-- after `forget`, the next revocations
pub forgotten : (records : Records) (old new : UndecidedRequests) (most : ℕ) (page : List RevocationRow) → AreUndecided records old
    → page ≡ take most (drop old.revocations records.revocations) → new.revocations ≡ old.revocations + length page → new.requests ≡ 0 → new.rows.items ≡ [] → AreUndecided records new
forgotten records old new most page are is revocations requests rows =
    none_kept records new (omega (arith, revocations, next_within most old.revocations records.revocations page is are.revocations)) requests rows

least : (m n : ℕ) → (min m n ≡ m) ⊎ (min m n ≡ n)
least m n = elim (cases_Bool (nat_le m n)) [
  | inl below ↦ let under = leb-true m n below in inl (omega arith)
  | inr above ↦ let over = leb-false m n above in inr (omega arith)
]

by_least : (m n k r all : ℕ) → k ≡ min m n → (k ≡ m → ⊥) → n ≡ all - r → r ≤ all → r + k ≡ all
by_least m n k r all is other rest within = elim (least m n) [
  | inl first ↦ absurd (other (is ∙ first))
  | inr second ↦ omega (arith, is, second, rest, within)
]

-- what follows from what holds after a success
pub on_ok_then : {T E : Type 0} (P Q : Type 0) (result : Result T E) → OnOk result P → (P → Q) → OnOk result Q
on_ok_then P Q (Ok done) holds then = then holds
on_ok_then P Q (Err fault) holds then = tt

-- a page that is not full is the last
pub last_page : {A : Type 0} (m r : ℕ) (xs page : List A) → page ≡ take m (drop r xs) → r ≤ length xs → (length page == m) ≡ false → r + length page ≡ length xs
last_page m r xs page is within other =
    let differs = eqb-false (length page) m other in
    let long : length page ≡ min m (length (drop r xs)) = ap length is ∙ length-take m (drop r xs) in
    let rest = length-drop r xs in
    by_least m (length (drop r xs)) (length page) r (length xs) long differs rest within

-- ---- which are open, and which overdue

within_is : (a b : ℕ) → not (nat_lt a b) ≡ nat_le b a
within_is a b = elim (cases_Bool (nat_lt a b)) [
  | inl past ↦ rw past (sym (lt-leb b a (ltb-true a b past)))
  | inr within ↦ rw within (sym (le-leb b a (ltb-false a b within)))
]

-- an open request is undecided
open_undecided : (records : Records) (now : ℕ) (request : RequestRow) → is_open records now request ≡ (is_undecided records.revocations request && is_open records now request)
open_undecided records now request =
    by_rows request.declined (certificate_in records.certificates request.serial) (revocation_in records.revocations request.serial)
    ∙ ap (λ revoked. (not request.declined && not revoked) && is_open records now request) (found_revoked records.revocations request.serial)
  where
    by_rows : (declined : Bool) (certificate : Option CertRow) (revocation : Option RevocationRow)
        → (not declined && is_good (status_by now certificate revocation)) ≡ ((not declined && not (is_some revocation)) && (not declined && is_good (status_by now certificate revocation)))
    by_rows true certificate revocation = refl
    by_rows false None (Some revocation) = refl
    by_rows false None None = refl
    by_rows false (Some certificate) (Some revocation) = refl
    by_rows false (Some certificate) None = refl

good_until : (past : Bool) → is_good (cond past Expired Good) ≡ not past
good_until true = refl
good_until false = refl

-- an undecided request is open until its certificate's notAfter
open_by_end : (records : Records) (now : ℕ) (row : UndecidedRequest) → is_undecided records.revocations row.request ≡ true → HasEnd records row
    → is_open records now row.request ≡ ends_from now row
open_by_end records now row undecided end =
    by_rows row.request.declined (certificate_in records.certificates row.request.serial) (revocation_in records.revocations row.request.serial)
    (ap (λ revoked. not row.request.declined && not revoked) (found_revoked records.revocations row.request.serial) ∙ undecided) end
  where
    by_rows : (declined : Bool) (certificate : Option CertRow) (revocation : Option RevocationRow) → (not declined && not (is_some revocation)) ≡ true
        → option_map (λ (it : CertRow). it.not_after) certificate ≡ Some row.not_after
        → (not declined && is_good (status_by now certificate revocation)) ≡ nat_le now row.not_after
    by_rows true certificate revocation undecided end = absurd (cc)
    by_rows false certificate (Some revocation) undecided end = absurd (cc)
    by_rows false None None undecided end = absurd (cc)
    by_rows false (Some certificate) None undecided end =
        let same : certificate.not_after ≡ row.not_after = cc in
        good_until (nat_lt certificate.not_after now) ∙ within_is certificate.not_after now ∙ ap (nat_le now) same

-- the rows that are open by their requests are those before their notAfter
open_rows : (records : Records) (now : ℕ) (rows : List UndecidedRequest) → AllByRecursion (λ (request : RequestRow). is_undecided records.revocations request ≡ true) (map (λ (row : UndecidedRequest). row.request) rows)
    → AllByRecursion (HasEnd records) rows → filter (λ row. is_open records now row.request) rows ≡ filter (ends_from now) rows
open_rows records now [] undecided ends = refl
open_rows records now (row ∷ rows) undecided ends =
    rw (open_by_end records now row undecided.0 ends.0, open_rows records now rows undecided.1 ends.1) refl

pass_filter : {A : Type 0} (p : A → Bool) (xs : List A) → AllByRecursion (λ x. p x ≡ true) (filter p xs)
pass_filter p [] = tt
pass_filter p (x ∷ xs) = let rest = pass_filter p xs in elim (cases_Bool (p x)) [
  | inl passed ↦ rw passed (passed, rest)
  | inr failed ↦ rw failed rest
]

-- the open requests are those of the rows before their notAfter
pub open_are : (records : Records) (known : UndecidedRequests) (now : ℕ) → AreAllUndecided records known
    → filter (is_open records now) records.requests ≡ map (λ (row : UndecidedRequest). row.request) (filter (ends_from now) known.rows.items)
open_are records known now all =
    let request_of : UndecidedRequest → RequestRow = λ row. row.request in
    let revoked : take known.revocations records.revocations ≡ records.revocations = take_all known.revocations records.revocations (omega (arith, all.revocations)) in
    let asked : take known.requests records.requests ≡ records.requests = take_all known.requests records.requests (omega (arith, all.requests)) in
    let rows : map request_of known.rows.items ≡ filter (is_undecided records.revocations) records.requests = all.are.rows ∙ (λ i. filter (is_undecided (revoked i)) (asked i)) in
    let undecided = subst (AllByRecursion (λ (request : RequestRow). is_undecided records.revocations request ≡ true)) (sym rows) (pass_filter (is_undecided records.revocations) records.requests) in
    filter_as (is_open records now) (λ request. is_undecided records.revocations request && is_open records now request) (open_undecided records now) records.requests
    ∙ filter_and (is_undecided records.revocations) (is_open records now) records.requests
    ∙ sym (ap (filter (is_open records now)) rows)
    ∙ filter_map_is request_of (is_open records now) known.rows.items
    ∙ ap (map request_of) (open_rows records now known.rows.items undecided all.are.ends)

pub open_counted : (records : Records) (known : UndecidedRequests) (now : ℕ) → AreAllUndecided records known
    → length (filter (ends_from now) known.rows.items) ≡ length (filter (is_open records now) records.requests)
open_counted records known now all =
    sym (length-map (filter (ends_from now) known.rows.items) (λ (row : UndecidedRequest). row.request)) ∙ sym (ap length (open_are records known now all))

pub overdue_are : (records : Records) (known : UndecidedRequests) (now : ℕ) → AreAllUndecided records known
    → map (λ (row : UndecidedRequest). row.request) (filter (is_late_row now) known.rows.items) ≡ overdue records now
overdue_are records known now all =
    let request_of : UndecidedRequest → RequestRow = λ row. row.request in
    let past : RequestRow → Bool = λ request. nat_lt (deadline request) now in
    ap (map request_of) (filter_and (ends_from now) (λ row. past row.request) known.rows.items)
    ∙ sym (filter_map_is request_of past (filter (ends_from now) known.rows.items))
    ∙ sym (ap (filter past) (open_are records known now all))
    ∙ sym (filter_and (is_open records now) past records.requests)

-- the clock lets the moment pass
pub passes : (records : Records) (now last : ℕ) (answered : Unit {0}) → last ≡ records.last
    → IsDecidedBy (first_refusal (clock_checks now last)) (λ (u : Unit {0}). ⊤) (Ok answered) → clock_refusal records now ≡ None
passes records now last answered same decides =
    (says (clock_refusal records now) (λ (u : Unit {0}). ⊤) (Ok answered)
    (subst (λ n. IsDecidedBy (first_refusal (clock_checks now n)) (λ (u : Unit {0}). ⊤) (Ok answered)) same decides)).0

-- ---- what comes to the records

-- the notAfter that was found is found behind other rows too
end_found : (rows more : List CertRow) (serial end : ℕ) → option_map (λ (it : CertRow). it.not_after) (certificate_in rows serial) ≡ Some end
    → option_map (λ (it : CertRow). it.not_after) (certificate_in (rows ++ more) serial) ≡ Some end
end_found [] more serial end has = absurd (cc)
end_found (row ∷ rows) more serial end has = by_test (row.serial == serial) (end_found rows more serial end) has
  where
    by_test : (is : Bool) → (option_map (λ (it : CertRow). it.not_after) (certificate_in rows serial) ≡ Some end → option_map (λ (it : CertRow). it.not_after) (certificate_in (rows ++ more) serial) ≡ Some end)
        → option_map (λ (it : CertRow). it.not_after) (cond is (Some row) (certificate_in rows serial)) ≡ Some end
        → option_map (λ (it : CertRow). it.not_after) (cond is (Some row) (certificate_in (rows ++ more) serial)) ≡ Some end
    by_test true rest has = has
    by_test false rest has = rest has

ends_stay : (before after : Records) → OnlyAdded before.certificates after.certificates → (rows : List UndecidedRequest) → AllByRecursion (HasEnd before) rows → AllByRecursion (HasEnd after) rows
ends_stay before after certificates [] all = tt
ends_stay before after certificates (row ∷ rows) all =
    (rw certificates.1 (end_found before.certificates certificates.0 row.request.serial row.not_after all.0), ends_stay before after certificates rows all.1)

-- the first rows stay the first
same_front : {A : Type 0} (xs ys : List A) (n : ℕ) → OnlyAdded xs ys → n ≤ length xs → take n ys ≡ take n xs
same_front xs ys n added within = ap (take n) added.1 ∙ take-append-le n xs added.0 within

-- certificates, requests and revocations were only added
pub stays_kept : (before after : Records) (known : UndecidedRequests) → OnlyAdded before.certificates after.certificates → OnlyAdded before.requests after.requests
    → OnlyAdded before.revocations after.revocations → AreUndecided before known → AreUndecided after known
stays_kept before after known certificates requests revocations are = record {
  requests = omega (arith, are.requests, ap length requests.1, length-append before.requests requests.0);
  revocations = omega (arith, are.revocations, ap length revocations.1, length-append before.revocations revocations.0);
  rows =
      are.rows
      ∙ sym (λ i. filter (is_undecided (same_front before.revocations after.revocations known.revocations revocations are.revocations i)) (same_front before.requests after.requests known.requests requests are.requests i));
  ends = ends_stay before after certificates known.rows.items are.ends;
}

-- certificates, requests and revocations are the same
pub same_rows : (before after : Records) (known : UndecidedRequests) → after.certificates ≡ before.certificates → after.requests ≡ before.requests
    → after.revocations ≡ before.revocations → AreUndecided before known → AreUndecided after known
same_rows before after known certificates requests revocations are =
    stays_kept before after known ([], certificates ∙ sym (append-nil _)) ([], requests ∙ sym (append-nil _)) ([], revocations ∙ sym (append-nil _)) are

-- what is declined is no longer undecided
one_less : (revoked : List RevocationRow) (id : ℕ) (xs : List RequestRow)
    → filter (is_undecided revoked) (map (declined_if id) xs) ≡ filter (λ request. not (request.id == id)) (filter (is_undecided revoked) xs)
one_less revoked id [] = refl
one_less revoked id (x ∷ xs) = let rest = one_less revoked id xs in elim (cases_Bool (x.id == id)) [
  | inl this ↦ elim (cases_Bool (is_undecided revoked x)) [
    | inl undecided ↦ rw (this, undecided) (rw this rest)
    | inr decided ↦ rw (this, decided) rest
  ]
  | inr other ↦ elim (cases_Bool (is_undecided revoked x)) [
    | inl undecided ↦ rw (other, undecided) (rw other (ap (λ l. x ∷ l) rest))
    | inr decided ↦ rw (other, decided) rest
  ]
]

-- a request was declined, and taken out
pub declined_kept : (before after : Records) (old new : UndecidedRequests) (id : ℕ) → after.certificates ≡ before.certificates → after.revocations ≡ before.revocations
    → after.requests ≡ map (declined_if id) before.requests
    → new.rows.items ≡ filter (λ row. not (row.request.id == id)) old.rows.items → new.requests ≡ old.requests → new.revocations ≡ old.revocations
    → AreUndecided before old → AreUndecided after new
declined_kept before after old new id certificates revocations requests rows same_requests same_revocations are =
    let request_of : UndecidedRequest → RequestRow = λ row. row.request in
    let other : RequestRow → Bool = λ request. not (request.id == id) in
    let revoked = take old.revocations before.revocations in
    record {
      requests = omega (arith, are.requests, same_requests, ap length requests, length-map before.requests (declined_if id));
      revocations = omega (arith, are.revocations, same_revocations, ap length revocations);
      rows =
          ap (map request_of) rows ∙ sym (filter_map_is request_of other old.rows.items) ∙ ap (filter other) are.rows
          ∙ sym (one_less revoked id (take old.requests before.requests))
          ∙ sym (ap (filter (is_undecided revoked)) (take-map (declined_if id) old.requests before.requests))
          ∙ sym (λ i. filter (is_undecided (take (same_revocations i) (revocations i))) (take (same_requests i) (requests i)));
      ends = rw rows (rw certificates (all_filtered (HasEnd before) (λ (row : UndecidedRequest). not (row.request.id == id)) old.rows.items are.ends));
    }
