-- Look-ups of an office that keeps records.
use Rattle.std.proofs.Common.{◌≡◌, ◌≤◌, ◌-◌, ℕ, List, ◌++◌, append_assoc, append-nil, Option, None, Some, Result, Ok, Err, sym, ap, subst, ◌∙◌}
use Rattle.std.specs.List.{find}
use Rattle.std.specs.Prelude.{IsErrAnd}
use Rattle.reg_core.specs.Checks.{clock_checks, first_refusal}
use Rattle.reg_core.specs.Records.{Records, request_in}
use Rattle.reg_core.specs.Sound.{SoundRows}
use Rattle.reg_core.specs.declared.refusal.Fault.{Fault}
use Rattle.reg_core.specs.declared.refusal.Fault.TheVariants.{Refused, Memory, Store, Signer, Read, Write}
use Rattle.reg_core.specs.declared.rows.RequestRow.{RequestRow}
use Rattle.reg_core.specs.AscendingRows.{key_of}
use Rattle.reg_core_lists.specs.Lists.{page, rows_from}
use Rattle.reg_core_lists.specs.Pages.{IsPaged, IsPageOfSoundRows, Pages}
use Rattle.reg_core_lists.specs.declared.cursor.Cursor.{Cursor}
use Rattle.reg_core_lists.specs.declared.cursor.Cursor.TheVariants as cursor
use Rattle.reg_core_lists.specs.declared.rows.Page.{Page}
use Rattle.reg_core_lists.specs.declared.rows.Row.{Row}
use Rattle.reg_core_lists.proofs.PublicLaws.{page_step, rest_of}
use Rattle.reg_office_api.specs.Leads.{Leads}
use Rattle.reg_office_api.specs.Signers.{OfficeSigners}
use Rattle.reg_office_api.proofs.PublicLaws.{chains, follows}
use Rattle.reg_desk_service.specs.ControlReplies.{IsReplyText}
use Rattle.reg_desk_service.specs.SerialDecisions.{request_of_row}
use Rattle.reg_desk_service.specs.RowLookUps.{FailsAt, IsLookedUp, IsSoundLookUp, AnswersShow, found_text, has_key, row_with_key}
use Rattle.reg_desk_service.specs.declared.words.RowKey.{RowKey}
use Rattle.reg_desk_service.specs.declared.words.RowKey.TheVariants.{Certificate, Request, Subscriber}
use Rattle.reg_desk_service.proofs.FoundRows.{certificate_seen, named_here, named_nowhere, none_more, request_back, request_seen}
use Rattle.reg_desk_service.proofs.PageByPage.{IsGoing}

-- why a page is not given is why a look-up fails
pub page_fails : (records : Records) (now m : ℕ) (from : Cursor) (why : Fault) → IsPaged records now m from (Err why) → FailsAt records now why
page_fails records now m from (Refused refusal) is = is
page_fails records now m from Memory is = tt
page_fails records now m from Store is = tt
page_fails records now m from Signer is = is
page_fails records now m from Read is = is
page_fails records now m from Write is = is

-- a fault that is passed on
passed_on : {A : Type 0} (P : Result A Fault → Type 0) (result : Result A Fault) (why : Fault) → IsErrAnd result (λ it. it ≡ why) → P (Err why) → P result
passed_on P (Ok found) why is made = absurd is
passed_on P (Err it) why is made = subst (λ one. P (Err one)) (sym is) made

seen_equal : {A : Type 0} (records : Records) (now : ℕ) (known other : A) (result : Result A Fault) → (SoundRows records → known ≡ other)
    → IsSoundLookUp records now known result → IsSoundLookUp records now other result
seen_equal records now known other (Ok found) same seen = (seen.0, (seen.1.0, seen.1.1 ∙ same seen.0))
seen_equal records now known other (Err why) same seen = seen

module _ {S : Type 0} (is_clean : S → Type 0) (stands : OfficeSigners → S → Records → Type 0) (now : ℕ) where
  abbrev Sees : {A : Type 0} → (Records → A) → Result A Fault → S → S → Type 0
  Sees known result = Leads is_clean stands (λ identity before after. IsSoundLookUp before now (known before) result × (after ≡ before))

  abbrev Paged : ℕ → Cursor → Result Page Fault → S → S → Type 0
  Paged m from given = Leads is_clean stands (λ identity before after. Pages before now m from given after)

  -- a page was not given
  pub unseen : {A : Type 0} (known : Records → A) (m : ℕ) (from : Cursor) (why : Fault) (result : Result A Fault) (s t : S)
      → IsErrAnd result (λ it. it ≡ why) → Paged m from (Err why) s t → Sees known result s t
  unseen known m from why result s t is paged =
      passed_on (λ it. Sees known it s t) result why is
      (follows is_clean stands
      (λ identity before after. Pages before now m from (Err why) after)
      (λ identity before after. IsSoundLookUp before now (known before) (Err why) × (after ≡ before))
      (λ identity before after made. ((tt, page_fails before now m from why made.0.1), made.1))
      s
      t
      paged)

  -- a row was looked for in a page
  pub seen_in : (from : Cursor) (shown : RowKey) (given : Page) (found : Option Row) (s t : S) → found ≡ find (has_key shown) given.rows.items
      → Paged 1 from (Ok given) s t → Sees (λ records. find (has_key shown) (page records now 1 from).rows) (Ok found) s t
  seen_in from shown given found s t is paged =
      follows is_clean stands
      (λ identity before after. Pages before now 1 from (Ok given) after)
      (λ identity before after. IsSoundLookUp before now (find (has_key shown) (page before now 1 from).rows) (Ok found) × (after ≡ before))
      (λ identity before after made. ((made.0.0, (made.0.1.0, is ∙ ap (find (has_key shown)) made.0.1.1.rows)), made.1))
      s
      t
      paged

  -- what was looked up is something else
  pub seen_as : {A : Type 0} (known other : Records → A) (result : Result A Fault) (s t : S) → ((r : Records) → SoundRows r → known r ≡ other r)
      → Sees known result s t → Sees other result s t
  seen_as known other result s t same seen =
      follows is_clean stands
      (λ identity before after. IsSoundLookUp before now (known before) result × (after ≡ before))
      (λ identity before after. IsSoundLookUp before now (other before) result × (after ≡ before))
      (λ identity before after made. (seen_equal before now (known before) (other before) result (same before) made.0, made.1))
      s
      t
      seen

  -- the row behind the number before a request's is looked at
  pub request_looked : (id before : ℕ) (shown : RowKey) (result : Result (Option Row) Fault) (s t : S) → shown ≡ Request id → before ≡ id - 1
      → Sees (λ records. find (has_key shown) (page records now 1 (cursor.Requests before)).rows) result s t
      → Sees (λ records. row_with_key records now shown) result s t
  request_looked id before shown result s t is after_answer seen =
      seen_as
      (λ records. find (has_key shown) (page records now 1 (cursor.Requests before)).rows)
      (λ records. row_with_key records now shown)
      result
      s
      t
      (λ r sound. (λ i. find (has_key (is i)) (page r now 1 (cursor.Requests (after_answer i))).rows) ∙ request_seen r now sound id ∙ sym (ap (row_with_key r now) is))
      seen

  pub certificate_looked : (serial : ℕ) (after : Option ℕ) (shown : RowKey) (result : Result (Option Row) Fault) (s t : S) → shown ≡ Certificate serial
      → 1 ≤ serial → key_of after ≡ serial - 1 → Sees (λ records. find (has_key shown) (page records now 1 (cursor.Certificates after)).rows) result s t
      → Sees (λ records. row_with_key records now shown) result s t
  certificate_looked serial after shown result s t is above after_answer seen =
      seen_as
      (λ records. find (has_key shown) (page records now 1 (cursor.Certificates after)).rows)
      (λ records. row_with_key records now shown)
      result
      s
      t
      (λ r sound. ap (λ it. find (has_key it) (page r now 1 (cursor.Certificates after)).rows) is ∙ certificate_seen r now sound serial after above after_answer
      ∙ sym (ap (row_with_key r now) is))
      seen

  -- ---- subscribers

  -- a page more, and what it says of the whole list
  pub going_on : (s t u : S) (passed : List Row) (from : Cursor) (given : Page) → Leads is_clean stands (IsGoing now (cursor.Subscribers 0) passed (Some from)) s t
      → Paged 250 from (Ok given) t u
      → Leads is_clean stands (λ identity before after. SoundRows before × (first_refusal (clock_checks now before.last) ≡ None)
      × (rows_from before now (cursor.Subscribers 0) ≡ passed ++ given.rows.items ++ rest_of before now given.next) × (after ≡ before)) s u
  going_on s t u passed from given first next =
      follows is_clean stands
      (λ identity before after. (middle : Records) × IsGoing now (cursor.Subscribers 0) passed (Some from) identity before middle × Pages middle now 250 from (Ok given) after)
      (λ identity before after. SoundRows before × (first_refusal (clock_checks now before.last) ≡ None)
      × (rows_from before now (cursor.Subscribers 0) ≡ passed ++ given.rows.items ++ rest_of before now given.next) × (after ≡ before))
      (λ identity before after made.
      let middle = made.0 in
      let paged : IsPageOfSoundRows before now 250 from (Ok given) = subst (λ records. IsPageOfSoundRows records now 250 from (Ok given)) made.1.0 made.2.0 in
      let is = paged.1.1 in (
        paged.0,
        paged.1.0,
        made.1.1 ∙ ap (λ l. passed ++ l) (page_step before now 249 paged.0 from ∙ (λ i. sym is.rows i ++ rest_of before now (sym is.next i)))
            ∙ sym (append_assoc passed given.rows.items (rest_of before now given.next)),
        made.2.1 ∙ made.1.0,
      ))
      s
      u
      (chains is_clean stands (IsGoing now (cursor.Subscribers 0) passed (Some from)) (λ identity before after. Pages before now 250 from (Ok given) after) s t u first next)

  -- the subscriber is in a page
  pub seen_here : (name : List ℕ) (s t u : S) (passed : List Row) (from : Cursor) (given : Page) (row : Row)
      → Leads is_clean stands (IsGoing now (cursor.Subscribers 0) passed (Some from)) s t → Paged 250 from (Ok given) t u
      → find (has_key (Subscriber name)) passed ≡ None → Some row ≡ find (has_key (Subscriber name)) given.rows.items
      → Sees (λ records. row_with_key records now (Subscriber name)) (Ok (Some row)) s u
  seen_here name s t u passed from given row first next none is =
      follows is_clean stands
      (λ identity before after. SoundRows before × (first_refusal (clock_checks now before.last) ≡ None)
      × (rows_from before now (cursor.Subscribers 0) ≡ passed ++ given.rows.items ++ rest_of before now given.next) × (after ≡ before))
      (λ identity before after. IsSoundLookUp before now (row_with_key before now (Subscriber name)) (Ok (Some row)) × (after ≡ before))
      (λ identity before after made.
      ((made.0, (made.1, named_here before now made.0 name passed given.rows.items (rest_of before now given.next) row made.2 none (sym is))), made.3))
      s
      u
      (going_on s t u passed from given first next)

  -- it is in none, and that was the last one
  pub seen_nowhere : (name : List ℕ) (s t u : S) (passed : List Row) (from : Cursor) (given : Page)
      → Leads is_clean stands (IsGoing now (cursor.Subscribers 0) passed (Some from)) s t → Paged 250 from (Ok given) t u
      → find (has_key (Subscriber name)) passed ≡ None → None ≡ find (has_key (Subscriber name)) given.rows.items → given.next ≡ None
      → Sees (λ records. row_with_key records now (Subscriber name)) (Ok None) s u
  seen_nowhere name s t u passed from given first next none is last =
      follows is_clean stands
      (λ identity before after. SoundRows before × (first_refusal (clock_checks now before.last) ≡ None)
      × (rows_from before now (cursor.Subscribers 0) ≡ passed ++ given.rows.items ++ rest_of before now given.next) × (after ≡ before))
      (λ identity before after. IsSoundLookUp before now (row_with_key before now (Subscriber name)) (Ok None) × (after ≡ before))
      (λ identity before after made.
      let whole = made.2 ∙ ap (λ n. passed ++ given.rows.items ++ rest_of before now n) last ∙ append-nil (passed ++ given.rows.items) in
      let lacks = none_more (has_key (Subscriber name)) passed given.rows.items none (sym is) in
      ((made.0, (made.1, named_nowhere before now made.0 name (passed ++ given.rows.items) whole lacks)), made.3))
      s
      u
      (going_on s t u passed from given first next)

  -- a page was not given behind others
  pub unseen_behind : {A : Type 0} (known : Records → A) (s t u : S) (passed : List Row) (from : Cursor) (why : Fault) (result : Result A Fault)
      → IsErrAnd result (λ it. it ≡ why) → Leads is_clean stands (IsGoing now (cursor.Subscribers 0) passed (Some from)) s t
      → Paged 250 from (Err why) t u → Sees known result s u
  unseen_behind known s t u passed from why result is first next =
      passed_on (λ it. Sees known it s u) result why is
      (follows is_clean stands
      (λ identity before after. (middle : Records) × IsGoing now (cursor.Subscribers 0) passed (Some from) identity before middle × Pages middle now 250 from (Err why) after)
      (λ identity before after. IsSoundLookUp before now (known before) (Err why) × (after ≡ before))
      (λ identity before after made.
      let paged : IsPageOfSoundRows before now 250 from (Err why) = subst (λ records. IsPageOfSoundRows records now 250 from (Err why)) made.1.0 made.2.0 in
      ((tt, page_fails before now 250 from why paged.1), made.2.1 ∙ made.1.0))
      s
      u
      (chains is_clean stands (IsGoing now (cursor.Subscribers 0) passed (Some from)) (λ identity before after. Pages before now 250 from (Err why) after) s t u first next))

  -- no register has so many pages
  pub unseen_at_last : {A : Type 0} (known : Records → A) (s t : S) (passed : List Row) (from : Cursor)
      → Leads is_clean stands (IsGoing now (cursor.Subscribers 0) passed (Some from)) s t → Sees known (Err Store) s t
  unseen_at_last known s t passed from going =
      follows is_clean stands
      (IsGoing now (cursor.Subscribers 0) passed (Some from))
      (λ identity before after. IsSoundLookUp before now (known before) (Err Store) × (after ≡ before))
      (λ identity before after made. ((tt, tt), made.0))
      s
      t
      going

  -- ---- what is told and decided by it

  -- the row is shown
  pub shown_by_row : (shown : RowKey) (found : Result (Option Row) Fault) (text : List ℕ) (s t : S) → Sees (λ records. row_with_key records now shown) found s t
      → IsReplyText (found_text shown found) text → Leads is_clean stands (λ identity before after. AnswersShow before now shown text × (after ≡ before)) s t
  shown_by_row shown found text s t seen shows =
      follows is_clean stands
      (λ identity before after. IsSoundLookUp before now (row_with_key before now shown) found × (after ≡ before))
      (λ identity before after. AnswersShow before now shown text × (after ≡ before))
      (λ identity before after made. ((found, made.0.1, shows), made.1))
      s
      t
      seen

  abbrev LooksUpRequest : ℕ → Result (Option RequestRow) Fault → S → S → Type 0
  LooksUpRequest id result = Leads is_clean stands (λ identity before after. IsLookedUp before now (request_in before.requests id) result × (after ≡ before))

  -- the request of a row
  pub request_had : (id : ℕ) (found : Option Row) (request : Option RequestRow) (s t : S) → request ≡ request_of_row found
      → Sees (λ records. row_with_key records now (Request id)) (Ok found) s t → LooksUpRequest id (Ok request) s t
  request_had id found request s t is seen =
      follows is_clean stands
      (λ identity before after. IsSoundLookUp before now (row_with_key before now (Request id)) (Ok found) × (after ≡ before))
      (λ identity before after. IsLookedUp before now (request_in before.requests id) (Ok request) × (after ≡ before))
      (λ identity before after made. ((made.0.1.0, is ∙ ap request_of_row made.0.1.1 ∙ request_back before now made.0.0 id), made.1))
      s
      t
      seen

  pub request_unhad : (id : ℕ) (why : Fault) (result : Result (Option RequestRow) Fault) (s t : S) → IsErrAnd result (λ it. it ≡ why)
      → Sees (λ records. row_with_key records now (Request id)) (Err why) s t → LooksUpRequest id result s t
  request_unhad id why result s t is seen =
      passed_on (λ it. LooksUpRequest id it s t) result why is
      (follows is_clean stands
      (λ identity before after. IsSoundLookUp before now (row_with_key before now (Request id)) (Err why) × (after ≡ before))
      (λ identity before after. IsLookedUp before now (request_in before.requests id) (Err why) × (after ≡ before))
      (λ identity before after made. (made.0.1, made.1))
      s
      t
      seen)
