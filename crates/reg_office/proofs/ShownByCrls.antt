-- What CRLs show of a revocation, and of a serial number that is not revoked.
use Rattle.std.proofs.Common.{◌≡◌, ◌↔◌, ℕ, ◌+◌, ◌<◌, ◌≤◌, ◌==◌, Bool, true, false, nat_lt, MatchBool, List, [], ◌∷◌, ◌++◌, length, Option, Some, None, IsTrue, IsFalse, refl, sym, ap, ◌∙◌, subst, arith, append_assoc}
use Rattle.std.specs.List.{AllByRecursion}
use Rattle.std.proofs.lemmas.Bool.Decides.{nat_tests}
use Rattle.reg_core.specs.Crls.{entries}
use Rattle.reg_core.specs.Records.{Records, Crl, revocation_in}
use Rattle.reg_core.specs.Sound.{NumberedFrom}
use Rattle.reg_core.specs.declared.rows.Entry.{Entry}
use Rattle.reg_core.specs.declared.rows.RevocationRow.{RevocationRow}
use Rattle.reg_core_laws.specs.Headline.{lists, NonePastBetween, IsDueEntry}
use Rattle.reg_core_laws.proofs.PublicLaws.{all_append, all_push, all_back, all_weaker, all_join, all_found, find_none, key_found, none_any, numbered_above, any_unfound, numbered_back}
use Rattle.reg_office.specs.Shown.{entry_in, ListedThroughFirstPast}

-- ONE CRL

-- a CRL that lists a revoked serial number has its entry
pub entry_of_listed
    : (records : Records) (crl : Crl) (serial : ℕ) (revocation : RevocationRow)
    → AllByRecursion (IsDueEntry records crl.number) (entries records crl.number)
    → revocation_in records.revocations serial ≡ Some revocation
    → IsTrue (lists records crl.number serial)
    → entry_in records crl serial ≡ Some (record { serial = serial; at = revocation.at; reason = revocation.reason })
entry_of_listed records crl serial revocation due revoked listed = go (entry_in records crl serial) refl
  where
    wanted : Entry
    wanted = record { serial = serial; at = revocation.at; reason = revocation.reason }

    go : (found : Option Entry) → entry_in records crl serial ≡ found → found ≡ Some wanted
    go None is =
        let unlisted : lists records crl.number serial ≡ false = any_unfound (λ entry. entry.serial == serial) (entries records crl.number) is in
        absurd (let bad : ⊥ = cc in bad)
    go (Some entry) is =
        let its : IsDueEntry records crl.number entry = all_found (IsDueEntry records crl.number) (λ other. other.serial == serial) (entries records crl.number) entry is due in
        let key : entry.serial ≡ serial = key_found (λ other. other.serial) (entries records crl.number) serial entry is in
        let found : revocation_in records.revocations serial ≡ Some its.revocation = ap (revocation_in records.revocations) (sym key) ∙ its.revoked in
        let same : its.revocation ≡ revocation = cc in
        ap
        Some
        (its.entry_is ∙ (λ i. record { serial = key i; at = (same i).at; reason = (same i).reason }))

-- one that does not list it has none
pub no_entry
    : (records : Records) (crl : Crl) (serial : ℕ)
    → IsFalse (lists records crl.number serial)
    → entry_in records crl serial ≡ None
no_entry records crl serial unlisted =
    find_none
    (λ entry. entry.serial == serial)
    (entries records crl.number)
    (none_any (λ entry. entry.serial == serial) (entries records crl.number) unlisted)

-- nor has any CRL one of a serial number that is not revoked
pub no_entry_of_unrevoked
    : (records : Records) (crl : Crl) (serial : ℕ)
    → AllByRecursion (IsDueEntry records crl.number) (entries records crl.number)
    → revocation_in records.revocations serial ≡ None
    → entry_in records crl serial ≡ None
no_entry_of_unrevoked records crl serial due unrevoked = go (entry_in records crl serial) refl
  where
    go : (found : Option Entry) → entry_in records crl serial ≡ found → found ≡ None
    go None is = refl
    go (Some entry) is =
        let its : IsDueEntry records crl.number entry = all_found (IsDueEntry records crl.number) (λ other. other.serial == serial) (entries records crl.number) entry is due in
        let key : entry.serial ≡ serial = key_found (λ other. other.serial) (entries records crl.number) serial entry is in
        let found : revocation_in records.revocations serial ≡ Some its.revocation = ap (revocation_in records.revocations) (sym key) ∙ its.revoked in
        absurd (let bad : ⊥ = cc in bad)

-- CRLS IN ORDER

-- a CRL tells of the revocation as the headline says
abbrev pub ListsAsDue : Records → ℕ → ℕ → ℕ → Crl → Type 0
ListsAsDue records serial first not_after crl =
    (first ≤ crl.number)
    × (IsTrue (lists records crl.number serial)
    ↔ NonePastBetween records.crls first crl.number not_after)

-- a CRL is not past the end, where it can list the revocation
abbrev pub NotPast : ℕ → ℕ → Crl → Type 0
NotPast first not_after crl = first ≤ crl.number → crl.this_update ≤ not_after

module _ (records : Records) (serial first not_after : ℕ) (numbered : NumberedFrom (λ crl. crl.number) 1 records.crls) where
  -- A CRL among those in front of it and those behind it.
  module _ (front : List Crl) (crl : Crl) (rest : List Crl) (is : records.crls ≡ front ++ crl ∷ rest) where
    -- the numbers of CRLs from one place on
    numbers : NumberedFrom (λ other. other.number) (1 + length front) (crl ∷ rest)
    numbers = numbered_back (λ other. other.number) 1 front (crl ∷ rest) (subst (NumberedFrom (λ other. other.number) 1) is numbered)

    -- before it none is past the end, where none in front of it is
    none_past_before : AllByRecursion (NotPast first not_after) front → NonePastBetween records.crls first crl.number not_after
    none_past_before none =
        let P : Crl → Type 0 = λ other. first ≤ other.number → other.number < crl.number → other.this_update ≤ not_after in
        let behind : AllByRecursion P (crl ∷ rest) =
        all_weaker (λ other. 1 + length front ≤ other.number) P
        (λ other above can below. let own : crl.number ≡ 1 + length front = numbers.0 in omega arith) (crl ∷ rest)
        (numbered_above (λ other. other.number) (1 + length front) (crl ∷ rest) numbers) in
        subst (λ crls. NonePastBetween crls first crl.number not_after) (sym is)
        (all_append P front (crl ∷ rest) (all_weaker (NotPast first not_after) P (λ other holds can below. holds can) front none) behind)

    -- after it, where it is past the end, none lists the revocation
    none_after_past : first ≤ crl.number → not_after < crl.this_update → AllByRecursion (ListsAsDue records serial first not_after) rest
        → AllByRecursion (λ later. entry_in records later serial ≡ None) rest
    none_after_past can past listings =
        all_join
        (λ later. (1 + length front) + 1 ≤ later.number)
        (ListsAsDue records serial first not_after)
        (λ later. entry_in records later serial ≡ None)
        (λ later above its. no_entry records later serial (unlisted later above its (lists records later.number serial) refl))
        rest
        (numbered_above (λ other. other.number) ((1 + length front) + 1) rest numbers.1)
        listings
      where
        -- what holds of all CRLs holds of this one
        of_this : (n : ℕ) → NonePastBetween records.crls first n not_after → crl.number < n → crl.this_update ≤ not_after
        of_this n none below =
            let P : Crl → Type 0 = λ other. first ≤ other.number → other.number < n → other.this_update ≤ not_after in
            (all_back P front (crl ∷ rest) (subst (AllByRecursion P) is none)).0 can below

        unlisted
            : (later : Crl)
            → (1 + length front) + 1 ≤ later.number
            → ListsAsDue records serial first not_after later
            → (listed : Bool)
            → lists records later.number serial ≡ listed
            → IsFalse (lists records later.number serial)
        unlisted later above its false is_listed = is_listed
        unlisted later above its true is_listed =
            let own : crl.number ≡ 1 + length front = numbers.0 in
            let within : crl.this_update ≤ not_after = of_this later.number (its.1.0 is_listed) (omega arith) in
            absurd (omega arith)

module _ (records : Records) (serial : ℕ) (revocation : RevocationRow) (not_after : ℕ) (numbered : NumberedFrom (λ crl. crl.number) 1 records.crls)
    (due : (n : ℕ) → AllByRecursion (IsDueEntry records n) (entries records n)) (revoked : revocation_in records.revocations serial ≡ Some revocation) where
  abbrev entry : Entry
  entry = record { serial = serial; at = revocation.at; reason = revocation.reason }

  -- from the CRLs in front on, of which none is past the end, each lists the revocation up to and including the first past
  pub listed_through : (front rest : List Crl) → records.crls ≡ front ++ rest
      → AllByRecursion (NotPast revocation.first not_after) front
      → AllByRecursion (ListsAsDue records serial revocation.first not_after) rest
      → ListedThroughFirstPast records entry not_after rest
  listed_through front [] is none listings = tt
  listed_through front (crl ∷ rest) is none listings = (
    entry_of_listed records crl serial revocation (due crl.number) revoked
        (listings.0.1.1 (none_past_before records serial revocation.first not_after numbered front crl rest is none)),
    go (nat_lt not_after crl.this_update) refl
        (λ within. listed_through (front ++ crl ∷ []) rest (is ∙ sym (append_assoc front (crl ∷ []) rest))
        (all_push (NotPast revocation.first not_after) front crl none (λ can. within)) listings.1),
  )
    where
      go
          : (past : Bool)
          → nat_lt not_after crl.this_update ≡ past
          → (crl.this_update ≤ not_after → ListedThroughFirstPast records entry not_after rest)
          → MatchBool
          past
          (AllByRecursion (λ later. entry_in records later serial ≡ None) rest)
          (ListedThroughFirstPast records entry not_after rest)
      go true is_past more =
          none_after_past records serial revocation.first not_after numbered front crl rest is listings.0.0 (let past : not_after < crl.this_update = grind (arith, nat_tests) in past) listings.1
      go false is_past more = more (let within : crl.this_update ≤ not_after = grind (arith, nat_tests) in within)
