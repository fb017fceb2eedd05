-- A published CRL compared with a register, entry by entry.
use Rattle.std.proofs.Common.{◌≡◌, ℕ, ◌≤◌, Bool, List, [], ◌∷◌, ◌++◌, append_assoc, append-nil, length, Some, None, Ok, Err, inl, inr, refl, sym, ap, subst, ◌∙◌, arith}
use Rattle.std.proofs.lemmas.Bool.{lt-ltb, ltb-false}
use Rattle.std.specs.Prelude.{◌<◌, IsErrAnd, IsFalse, IsTrue, OnOk, Option, Result, codes, cond, decimal, false, nat_lt, option_map, true}
use Rattle.std.specs.Io.KnownBytes.{Appends}
use Rattle.std.specs.List.{AllByRecursion, flat_map}
use Rattle.reg_core.specs.Integer.{integer}
use Rattle.reg_core.specs.Records.{Records}
use Rattle.reg_core.specs.Status.{is_revoked, status}
use Rattle.reg_der.proofs.PublicLaws.{some_is}
use Rattle.reg_der.specs.TaggedValues.{expect_at}
use Rattle.reg_der.specs.ValueReading.{value_at}
use Rattle.reg_core.specs.Crls.{latest, row_of}
use Rattle.reg_core.specs.Serial.{serial_text}
use Rattle.reg_core.specs.declared.rows.CrlRow.{CrlRow}
use Rattle.reg_core.specs.declared.refusal.Fault.{Fault}
use Rattle.reg_core.specs.declared.refusal.Fault.TheVariants as fault
use Rattle.reg_crl.specs.Reading.{AreEntries, IsCrlWith, IsEntryAt, revoked_entry_at}
use Rattle.reg_desk_cli.specs.declared.failure.Failure.{Failure}
use Rattle.reg_desk_cli.specs.declared.failure.Failure.TheVariants as failure
use Rattle.reg_desk_jobs.specs.Conversations.{IsInput}
use Rattle.reg_desk_jobs.specs.Ends.{PrintsText}
use Rattle.reg_office_api.specs.Leads.{Leads, Looks}
use Rattle.reg_office_api.specs.Signers.{OfficeSigners}
use Rattle.reg_office_api.proofs.PublicLaws.{chains, follows, stays}
use Rattle.reg_desk_service.proofs.PublicLaws.{looks_as, looks_then}
use Rattle.reg_desk_jobs.specs.Published.{Compares, FindsMissing, FindsNothing, HasAll, ReportsMissing, latest_number, missing_at, missing_crl, missing_revocation}

-- ---- entries

-- one entry more
pub entries_more : (bytes done rest after : List ℕ) (serial : ℕ) → AreEntries bytes done rest → IsEntryAt rest serial after → AreEntries bytes (done ++ serial ∷ []) after
entries_more bytes [] rest after serial so_far entry = (after, subst (λ (b : List ℕ). IsEntryAt b serial after) (sym so_far) entry, refl)
entries_more bytes (first ∷ done) rest after serial so_far entry = (so_far.0, so_far.1, entries_more so_far.0 done rest after serial so_far.2 entry)

no_entry : revoked_entry_at [] ≡ None
unfolding revoked_entry_at expect_at value_at
no_entry = refl

none_some : {A : Type 0} (read : Option A) (a : A) → read ≡ None → read ≡ Some a → ⊥
none_some read a none some = absurd cc

-- no bytes are no entry
nothing_is_no_entry : (serial : ℕ) (after : List ℕ) → ¬ IsEntryAt [] serial after
nothing_is_no_entry serial after entry = none_some (revoked_entry_at []) (integer serial, after) no_entry entry.1

-- where the rest begins with no entry, the whole are not entries to the end
pub no_entries : (bytes done rest : List ℕ) → AreEntries bytes done rest → 1 ≤ length rest → ((serial : ℕ) (after : List ℕ) → ¬ IsEntryAt rest serial after)
    → (serials : List ℕ) → ¬ AreEntries bytes serials []
no_entries bytes [] rest so_far some none [] all = absurd (omega (arith, ap length (sym so_far ∙ all)))
no_entries bytes [] rest so_far some none (serial ∷ serials) all = none serial all.0 (subst (λ (b : List ℕ). IsEntryAt b serial all.0) so_far all.1)
no_entries bytes (first ∷ done) rest so_far some none [] all =
    nothing_is_no_entry first so_far.0 (subst (λ (b : List ℕ). IsEntryAt b first so_far.0) all so_far.1)
no_entries bytes (first ∷ done) rest so_far some none (serial ∷ serials) all =
    let same : (integer first, so_far.0) ≡ (integer serial, all.0) = some_is (integer first, so_far.0) (integer serial, all.0) (sym so_far.1.1 ∙ all.1.1) in
    let after : so_far.0 ≡ all.0 = ap (λ (x : List ℕ × List ℕ). x.1) same in
    no_entries so_far.0 done rest so_far.2 some none serials (subst (λ (b : List ℕ). AreEntries b serials []) (sym after) all.2)

-- ---- the lines of what is missing

flat_append : {A B : Type 0} (f : A → List B) (xs ys : List A) → flat_map f (xs ++ ys) ≡ flat_map f xs ++ flat_map f ys
flat_append f [] ys = refl
flat_append f (x ∷ xs) ys = ap (λ l. f x ++ l) (flat_append f xs ys) ∙ sym (append_assoc (f x) (flat_map f xs) (flat_map f ys))

-- the lines so far
abbrev pub HasMissing : ℕ → List ℕ → List ℕ → List ℕ → Records → Type 0
HasMissing moment old lines done records = lines ≡ old ++ flat_map (missing_at records moment) done

one_more : (records : Records) (moment serial : ℕ) (old lines more done : List ℕ) → HasMissing moment old lines done records
    → more ≡ lines ++ missing_at records moment serial → HasMissing moment old more (done ++ serial ∷ []) records
one_more records moment serial old lines more done so_far grown =
    let line = missing_at records moment in
    grown ∙ ap (λ l. l ++ line serial) so_far
    ∙ append_assoc old (flat_map line done) (line serial)
    ∙ ap (λ l. old ++ (flat_map line done ++ l)) (sym (append-nil (line serial)))
    ∙ ap (λ l. old ++ l) (sym (flat_append line done (serial ∷ [])))

module _ {S : Type 0} (is_clean : S → Type 0) (stands : OfficeSigners → S → Records → Type 0) (moment : ℕ) (old : List ℕ) where
  -- a line by whether it is revoked, as it was looked up
  pub looked_up : (s t : S) (new : List ℕ) (serial : ℕ) (is : Bool) (result : Result (Unit {0}) Fault)
      → Looks is_clean stands (λ records. is ≡ is_revoked (status records serial moment)) s t → OnOk result (new ≡ old ++ missing_revocation is serial)
      → Looks is_clean stands (λ records. OnOk result (new ≡ old ++ missing_at records moment serial)) s t
  looked_up s t new serial is result look put =
      looks_as is_clean stands (λ records. is ≡ is_revoked (status records serial moment)) (λ records. OnOk result (new ≡ old ++ missing_at records moment serial))
      (λ records it. subst (λ (b : Bool). OnOk result (new ≡ old ++ missing_revocation b serial)) it put) s t look

  pub looked_on : (s t u : S) (lines more done : List ℕ) (serial : ℕ) → Looks is_clean stands (HasMissing moment old lines done) s t
      → Looks is_clean stands (λ records. more ≡ lines ++ missing_at records moment serial) t u
      → Looks is_clean stands (HasMissing moment old more (done ++ serial ∷ [])) s u
  looked_on s t u lines more done serial first next =
      looks_as is_clean stands (λ records. HasMissing moment old lines done records × (more ≡ lines ++ missing_at records moment serial))
      (HasMissing moment old more (done ++ serial ∷ [])) (λ records it. one_more records moment serial old lines more done it.0 it.1) s u
      (looks_then is_clean stands _ _ s t u first next)

-- ---- ends

-- any fault may end a comparison
pub any_fault : (NoCrl : Type 0) (why : Fault) → FindsNothing NoCrl (failure.Fault why)
any_fault NoCrl (fault.Refused refusal) = tt
any_fault NoCrl fault.Memory = tt
any_fault NoCrl fault.Store = tt
any_fault NoCrl fault.Signer = tt
any_fault NoCrl fault.Read = tt
any_fault NoCrl fault.Write = tt

-- a fault that is passed on
passed_on : {A : Type 0} (P : Result A Failure → Type 0) (result : Result A Failure) (why : Failure) → IsErrAnd result (λ it. it ≡ why) → P (Err why) → P result
passed_on P (Ok found) why is made = absurd is
passed_on P (Err it) why is made = subst (λ one. P (Err one)) (sym is) made

-- the bytes of an input, where they are known
input_bytes : (input : Option (List ℕ)) → (bytes : List ℕ) × IsInput input bytes
input_bytes None = ([], tt)
input_bytes (Some all) = (all, refl)

-- the line of a number that is above that of the latest CRL
pub put_above : (row : Option CrlRow) (number latest_one : ℕ) (digits old new : List ℕ) (result : Result (Unit {0}) Fault) → latest_one ≡ latest_number row
    → latest_one < number → digits ≡ decimal number → OnOk result (new ≡ old ++ (codes "missing crl " ++ digits ++ 10 ∷ []))
    → OnOk result (new ≡ old ++ missing_crl row number)
put_above row number latest_one digits old new (Ok done) is above text put =
    let test : nat_lt (latest_number row) number ≡ true = ap (λ n. nat_lt n number) (sym is) ∙ lt-ltb latest_one number above in
    put ∙ ap (λ d. old ++ (codes "missing crl " ++ d ++ 10 ∷ [])) text
    ∙ ap (λ b. old ++ cond b (codes "missing crl " ++ decimal number ++ 10 ∷ []) []) (sym test)
put_above row number latest_one digits old new (Err why) is above text put = tt

pub reports_none : (out : Option (List ℕ)) (lines : List ℕ) → length lines ≡ 0 → ReportsMissing out out (Ok lines) (Ok tt)
reports_none out [] none = (refl, refl)
reports_none out (first ∷ rest) none = absurd (omega (arith, none))

pub reports_all : (out out' : Option (List ℕ)) (lines : List ℕ) → 1 ≤ length lines → Appends out out' lines → ReportsMissing out out' (Ok lines) (Err failure.LacksPublished)
reports_all out out' [] some added = absurd (omega (arith, some))
reports_all out out' (first ∷ rest) some added = inl (refl, added)

pub reports_front : (out out' : Option (List ℕ)) (lines : List ℕ) (why : Failure) (result : Result (Unit {0}) Failure) → 1 ≤ length lines
    → IsErrAnd result (λ it. it ≡ why) → PrintsText lines out out' (Err why) → ReportsMissing out out' (Ok lines) result
reports_front out out' [] why result some is said = absurd (omega (arith, some))
reports_front out out' (first ∷ rest) why result some is said =
    passed_on (λ it. ReportsMissing out out' (Ok (first ∷ rest)) it) result why is (inr (ap (λ (w : Failure). Err w) said.0, said.1))

empty_both : (xs ys : List ℕ) → [] ≡ xs ++ ys → (xs ≡ []) × (ys ≡ [])
empty_both [] ys same = (refl, sym same)
empty_both (x ∷ xs) ys same = absurd (omega (arith, ap length same))

last_some : (front : List ℕ) (last : ℕ) → front ++ last ∷ [] ≡ [] → ⊥
last_some [] last none = omega (arith, ap length none)
last_some (first ∷ front) last none = omega (arith, ap length none)

-- a line that is not there
not_above : (is : Bool) (front : List ℕ) → cond is (front ++ 10 ∷ []) [] ≡ [] → is ≡ false
not_above false front none = refl
not_above true front none = absurd (last_some front 10 none)

then_revoked : (is : Bool) (front : List ℕ) → cond is [] (front ++ 10 ∷ []) ≡ [] → is ≡ true
then_revoked true front none = refl
then_revoked false front none = absurd (last_some front 10 none)

all_revoked : (records : Records) (moment : ℕ) (serials : List ℕ) → flat_map (missing_at records moment) serials ≡ []
    → AllByRecursion (λ serial. IsTrue (is_revoked (status records serial moment))) serials
all_revoked records moment [] none = tt
all_revoked records moment (serial ∷ serials) none =
    let both = empty_both (missing_at records moment serial) (flat_map (missing_at records moment) serials) (sym none) in
    (then_revoked (is_revoked (status records serial moment)) (codes "missing revocation " ++ serial_text serial) both.0, all_revoked records moment serials both.1)

-- a comparison that is done found that nothing is missing
has_all : (records : Records) (input out out' : Option (List ℕ)) → Compares records input out out' (Ok tt) → HasAll records input
has_all records input out out' (Ok [], (bytes, is, (number, serials, published, text)), reports) =
    let latest_one = latest_number (option_map row_of (latest records.crls)) in
    let both = empty_both (missing_crl (option_map row_of (latest records.crls)) number) (flat_map (missing_at records records.last) serials) text in (
      bytes,
      number,
      serials,
      is,
      published,
      ltb-false latest_one number (not_above (nat_lt latest_one number) (codes "missing crl " ++ decimal number) both.0),
      all_revoked records records.last serials both.1,
    )
has_all records input out out' (Ok (first ∷ rest), found, inl reports) = let same : Ok tt ≡ Err failure.LacksPublished = reports.0 in absurd cc
has_all records input out out' (Ok (first ∷ rest), found, inr reports) = let same : Ok tt ≡ Err (failure.Fault fault.Write) = reports.0 in absurd cc
has_all records input out out' (Err why, found, reports) = let same : Ok tt ≡ Err why = reports.0 in absurd cc

module _ {S : Type 0} (is_clean : S → Type 0) (stands : OfficeSigners → S → Records → Type 0) where
  -- a look that tells nothing
  pub unlooked : (s t : S) → t ≡ s → Looks is_clean stands (λ records. Unit {0}) s t
  unlooked s t same =
      follows is_clean stands (λ identity before after. after ≡ before) (λ identity before after. Unit {0} × (after ≡ before))
      (λ identity before after it. (tt, it)) s t (stays is_clean stands s t same)

  -- a fault of reading
  pub compares_fault : (input out : Option (List ℕ)) (why : Fault) (result : Result (Unit {0}) Failure) (s : S) → IsErrAnd result (λ it. it ≡ failure.Fault why)
      → Looks is_clean stands (λ records. Compares records input out out result) s s
  compares_fault input out why result s is =
      passed_on (λ it. Looks is_clean stands (λ records. Compares records input out out it) s s) result (failure.Fault why) is
      (looks_as is_clean stands (λ records. Unit {0}) (λ records. Compares records input out out (Err (failure.Fault why)))
      (λ records it. (
        Err (failure.Fault why),
        (
          (input_bytes input).0,
          (input_bytes input).1,
          any_fault ((number : ℕ) → (serials : List ℕ) → ¬ IsCrlWith (input_bytes input).0 number serials) why,
        ),
        (refl, refl),
      )) s s (unlooked s s refl))

  pub compares : (input out out' : Option (List ℕ)) (bytes : List ℕ) (found : Result (List ℕ) Failure) (result : Result (Unit {0}) Failure) (s t : S)
      → IsInput input bytes → ReportsMissing out out' found result → Looks is_clean stands (λ records. FindsMissing records bytes found) s t
      → Looks is_clean stands (λ records. Compares records input out out' result) s t
  compares input out out' bytes found result s t is reports =
      looks_as is_clean stands (λ records. FindsMissing records bytes found) (λ records. Compares records input out out' result)
      (λ records it. (found, (bytes, is, it), reports)) s t

  -- what a register that has all of a CRL does then
  pub has_all_then : (input out out' : Option (List ℕ)) (is : Bool) (step : OfficeSigners → Records → Records → Type 0) (s m t : S)
      → Looks is_clean stands (λ records. Compares records input out out' (Ok tt)) s m → Leads is_clean stands step m t
      → Leads is_clean stands (λ identity before after. (IsTrue is → HasAll before input) × step identity before after) s t
  has_all_then input out out' is step s m t one two =
      follows is_clean stands
      (λ identity before after. (middle : Records) × (Compares before input out out' (Ok tt) × (middle ≡ before)) × step identity middle after)
      (λ identity before after. (IsTrue is → HasAll before input) × step identity before after)
      (λ identity before after both.
      let (middle, (compared, same), stepped) = both in
      ((λ it. has_all before input out out' compared), subst (λ (r : Records). step identity r after) same stepped))
      s t
      (chains is_clean stands
      (λ identity before after. Compares before input out out' (Ok tt) × (after ≡ before)) step s m t one two)

  -- what a register does that is compared with none
  pub uncompared : (input : Option (List ℕ)) (is : Bool) (step : OfficeSigners → Records → Records → Type 0) (s t : S) → IsFalse is
      → Leads is_clean stands step s t → Leads is_clean stands (λ identity before after. (IsTrue is → HasAll before input) × step identity before after) s t
  uncompared input is step s t not =
      follows is_clean stands step (λ identity before after. (IsTrue is → HasAll before input) × step identity before after)
      (λ identity before after it. ((λ yes. absurd cc), it)) s t
