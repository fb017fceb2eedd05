-- What the look-ups of a follower tell.
use Rattle.std.proofs.lemmas.Bool.{cases_Bool, eqb-true, false≢true}
use Rattle.std.proofs.lemmas.Bool.Decides.{Decides-eqb, nat_tests}
use Rattle.std.proofs.Common.{◌≡◌, ◌≢◌, ◌∙◌, ◌⊎◌, inl, inr, Bool, true, false, ◌&&◌, ◌==◌, ◌≤◌, ◌<◌, ◌+◌, ℕ, zero, suc, List, [], ◌∷◌, ◌++◌, length, take, drop, Result, refl, sym, ap, subst, arith}
use Rattle.std.specs.Bool.{Decides}
use Rattle.std.specs.Cmp.{first_so, second_so}
use Rattle.std.specs.Cmp.Lexicographic.{pointwise_decides}
use Rattle.std.specs.Prelude.{IfOk, nat_eq, nat_le}
use Rattle.std.proofs.lemmas.Grind.{flat_map-append}
use Rattle.std.proofs.lemmas.List.{append-nil}
use Rattle.reg_core.specs.Issuer.{Issuer}
use Rattle.reg_core.specs.Policy.{Terms}
use Rattle.reg_core.specs.Records.{Records}
use Rattle.reg_core.specs.Schedule.{same_step, same_steps}
use Rattle.reg_core_lists.specs.Feed.{RowLists, feed_rows_of}
use Rattle.reg_core_lists.specs.declared.feed_reader.FeedHead.{FeedHead}
use Rattle.reg_core_lists.specs.declared.feed_reader.ReceivedPage.{ReceivedPage}
use Rattle.reg_office_api.specs.Follows.{IsWithoutNews, page_rows}
use Rattle.reg_office.specs.Replays.{IsPageWithout, MayReplace, MayTakeHead, joined_rows, rows_and}

-- what may replace the issuer that was looked up may replace that of the records
pub in_records : {E F : Type 0} (head : FeedHead) (own : Issuer) (terms : Terms) (crls : ℕ) (records : Records) (result : Result (Result Issuer F) E) → own ≡ records.issuer → terms ≡ records.policy → crls ≡ length records.crls
    → IfOk result (λ found. IfOk found (MayReplace head own terms crls)) → IfOk result (λ found. IfOk found (MayTakeHead head records))
in_records head own terms crls records result own_is terms_are crls_are holds =
    subst (λ n. IfOk result (λ found. IfOk found (MayReplace head records.issuer records.policy n))) crls_are
    (subst (λ t. IfOk result (λ found. IfOk found (MayReplace head records.issuer t crls))) terms_are
    (subst (λ o. IfOk result (λ found. IfOk found (MayReplace head o terms crls))) own_is holds))

-- a page without news over what was looked up is one over the records
pub without_news : (page : ReceivedPage) (issuer : Issuer) (terms : Terms) (last : ℕ) (records : Records) → issuer ≡ records.issuer → terms ≡ records.policy → last ≡ records.last → IsPageWithout page issuer terms last → IsWithoutNews page records
without_news page issuer terms last records issuer_is terms_are last_is without = record {
  rows = without.rows;
  crl = without.crl;
  head = record {
    name = ap (λ (it : Issuer). it.name) (sym issuer_is) ∙ without.name;
    key = ap (λ (it : Issuer). it.key) (sym issuer_is) ∙ without.key;
    policy = sym terms_are ∙ without.policy;
    last = sym last_is ∙ without.moment;
  };
}

-- `==` finds schedules equal exactly if they have the same steps
pub same_schedules : (own given : List (ℕ × ℕ)) → Decides (same_steps own given) (own ≡ given)
same_schedules own given = pointwise_decides decides own given
  where
    decides : (left right : ℕ × ℕ) → Decides (same_step left right) (left ≡ right)
    decides left right = (
      (λ both i. (
        (Decides-eqb left.0 right.0).0 (first_so (nat_eq left.0 right.0) (nat_eq left.1 right.1) both) i,
        (Decides-eqb left.1 right.1).0 (second_so (nat_eq left.0 right.0) (nat_eq left.1 right.1) both) i,
      )),
      λ is i. (Decides-eqb left.0 right.0).1 (ap (λ (step : ℕ × ℕ). step.0) is) i && (Decides-eqb left.1 right.1).1 (ap (λ (step : ℕ × ℕ). step.1) is) i,
    )

-- a number up to the next one is up to this one, or the next one
pub up_to : (m n : ℕ) → m ≤ n + 1 → (m ≤ n) ⊎ (m ≡ n + 1)
up_to m n most = elim (cases_Bool (nat_le m n)) [
  | inl is ↦ inl (let within : m ≤ n = grind (arith, nat_tests) in within)
  | inr not ↦ inr (let past : n < m = grind (arith, nat_tests) in omega arith)
]

-- no row after so many: there are at most so many
pub none_after : {A : Type 0} (n : ℕ) (rows : List A) → take 1 (drop n rows) ≡ [] → length rows ≤ n
none_after n [] none = omega arith
none_after zero (row ∷ rows) none = absurd (let bad : ⊥ = cc in bad)
none_after (suc n) (row ∷ rows) none = let fewer = none_after n rows none in omega arith

-- a row after so many: there are more
pub some_after : {A : Type 0} (n : ℕ) (rows : List A) → take 1 (drop n rows) ≢ [] → n < length rows
some_after zero [] some = absurd (some refl)
some_after (suc n) [] some = absurd (some refl)
some_after zero (row ∷ rows) some = omega arith
some_after (suc n) (row ∷ rows) some = let more = some_after n rows some in omega arith

-- a list that has no element
pub nothing_in : {A : Type 0} (xs : List A) (answer : Bool) → answer ≡ (length xs == 0) → answer ≡ true → xs ≡ []
nothing_in [] answer answer_is is = refl
nothing_in (x ∷ xs) answer answer_is is = let none : length (x ∷ xs) ≡ 0 = eqb-true (length (x ∷ xs)) 0 (sym answer_is ∙ is) in absurd (omega arith)

-- the half of a count that is looked up
pub halves : {A : Type 0} (low high middle : ℕ) (rows found : List A) (none : Bool) (next : ℕ × ℕ) → (low ≤ length rows) × (length rows ≤ high) → found ≡ take 1 (drop middle rows) → none ≡ (length found == 0)
    → (none ≡ true → next ≡ (low, middle)) → (none ≡ false → next ≡ (middle + 1, high)) → (next.0 ≤ length rows) × (length rows ≤ next.1)
halves low high middle rows found true next within is empty if_none if_some =
    let nothing : found ≡ [] = nothing_in found true empty refl in
    let most : length rows ≤ middle = none_after middle rows (sym is ∙ nothing) in
    subst (λ (n : ℕ × ℕ). (n.0 ≤ length rows) × (length rows ≤ n.1)) (sym (if_none refl)) (within.0, most)
halves {A = A} low high middle rows found false next within is empty if_none if_some =
    let more : middle < length rows = some_after middle rows (λ nothing. false≢true (empty ∙ ap (λ (l : List A). length l == 0) (is ∙ nothing))) in
    let first : middle + 1 ≤ length rows = omega arith in
    subst (λ (n : ℕ × ℕ). (n.0 ≤ length rows) × (length rows ≤ n.1)) (sym (if_some refl)) (first, within.1)

-- issuers with the same stored name and key are the same
pub same_issuers : (own given : Issuer) → given.name ≡ own.name → given.key ≡ own.key → given ≡ own
same_issuers own given name key i = record { name = name i; key = key i }

-- ---- the rows of one page more

module _ (pages : List ReceivedPage) (page : ReceivedPage) where
  more : {A : Type 0} (table : RowLists → List A) → page_rows table (pages ++ page ∷ []) ≡ page_rows table pages ++ table (feed_rows_of page.rows)
  more table =
      flat_map-append (λ (p : ReceivedPage). table (feed_rows_of p.rows)) pages (page ∷ [])
      ∙ ap (λ l. page_rows table pages ++ l) (append-nil (table (feed_rows_of page.rows)))

  pub page_joined : joined_rows (pages ++ page ∷ []) ≡ rows_and (joined_rows pages) (feed_rows_of page.rows)
  page_joined i = record {
    subscribers = more (λ rows. rows.subscribers) i;
    orders = more (λ rows. rows.orders) i;
    certificates = more (λ rows. rows.certificates) i;
    requests = more (λ rows. rows.requests) i;
    declined = more (λ rows. rows.declined) i;
    revocations = more (λ rows. rows.revocations) i;
  }
