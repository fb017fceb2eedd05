-- CRLs with the placeholder digest in records of a register that has a key now.
use Rattle.std.proofs.Common.{◌≡◌, ◌∙◌, ◌+◌, ◌^◌, ◌%◌, ◌<◌, ◌≤◌, ◌⊎◌, Bool, true, false, ℕ, List, [], ◌∷◌, ◌++◌, length, Option, None, Some, Ok, Bor, inl, inr, refl, sym, ap, subst, arith, append-nil, append_assoc, length-append}
use Rattle.std.specs.Prelude.{Err, IsFalse, IsTrue, not, option_map}
use Rattle.std.specs.List.{AllByRecursion}
use Rattle.std.proofs.lemmas.Bool.{false≢true}
use Rattle.std.proofs.lemmas.Option.{same_Some}
use Rattle.sha1.specs.Sha1.{sha1}
use Rattle.reg_core.specs.Changes.{Fits, changed_by}
use Rattle.reg_core.specs.Crls.{CertList, cert_list, entries, latest, listed_revocations, next_number, number_after, row_of}
use Rattle.reg_core.specs.Issuer.{Issuer}
use Rattle.reg_core.specs.Records.{Records, Crl}
use Rattle.reg_core.specs.Sound.{CrlsSigned, Sound}
use Rattle.reg_core.specs.declared.change.Change.{Change}
use Rattle.reg_core.specs.declared.change.Change.TheVariants.{Crl as NewCrl}
use Rattle.reg_core.specs.declared.command.Command.TheVariants.{Crl as IssueCrl}
use Rattle.reg_core.specs.declared.command.Reply.TheVariants.{Crl as CrlIssued}
use Rattle.reg_core.specs.declared.refusal.Fault.TheVariants.{Refused}
use Rattle.reg_core.specs.declared.refusal.Refusal.{Refusal}
use Rattle.reg_core.specs.declared.rows.CrlRow.{CrlRow}
use Rattle.reg_core.specs.declared.rows.Entry.{Entry}
use Rattle.reg_core_laws.proofs.PublicLaws.{all_join, next_is, numbered_below, step_keeps_sound}
use Rattle.reg_crl.specs.Crl.{certificate_list, crl_extensions, revoked_certificates, tbs_cert_list, tbs_of}
use Rattle.reg_crl.specs.Signing.{Identity, IsAlgorithm, has_placeholder_digest, sha1_algorithm, signed_by, signed_since}
use Rattle.reg_der.specs.Authority.{name_of}
use Rattle.reg_der.specs.Der.{tlv}
use Rattle.reg_der.specs.ValueReading.{Parts, value_at}
use Rattle.reg_der.specs.WrittenValues.{bits_value, integer_value, time_value}
use Rattle.reg_der.proofs.PublicLaws.{value_again, value_size}
use Rattle.reg_office_api.specs.Answered.{IsGiven}
use Rattle.reg_office_api.specs.Follows.{FormsSign}
use Rattle.reg_office.specs.Issuing.{IsNextOf}
use Rattle.reg_office.specs.Replays.{HasAlgorithm, IsBeforeKey, MayBeNextCrl}
use Rattle.reg_office.specs.Stands.{SoundFor}
use Rattle.reg_office.proofs.Following.{step_keeps_sound_for}
use Rattle.reg_office.proofs.Issuing.{may_issue, signed_list}

-- ---- the algorithm of a CRL, as it is read

-- the value at the front of bytes that begin with one
first_value : (tag : ℕ) (contents rest bytes : List ℕ) (parts : Parts) (after : List ℕ) → tag % 32 < 31 → length contents < 2 ^ 32
    → bytes ≡ tlv tag contents ++ rest → value_at bytes ≡ Some (parts, after) → (parts.tag ≡ tag) × (parts.contents ≡ contents) × (after ≡ rest)
first_value tag contents rest bytes parts after low short same read =
    let both : (parts, after) ≡ (record { tag = tag; contents = contents }, rest) =
    same_Some _ _ (sym read ∙ ap value_at same ∙ value_again tag contents rest low short) in
    (ap (λ (x : Parts × List ℕ). x.0.tag) both, ap (λ (x : Parts × List ℕ). x.0.contents) both, ap (λ (x : Parts × List ℕ). x.1) both)

-- the contents of the parts of a CRL
whole_contents : List ℕ → CertList → List ℕ → List ℕ
whole_contents algorithm list signature = tbs_of algorithm list ++ algorithm ++ bits_value signature

tbs_contents : List ℕ → CertList → List ℕ
tbs_contents algorithm list =
    integer_value 1 ++ algorithm ++ name_of list.issuer ++ time_value list.this_update ++ time_value list.next_update
    ++ revoked_certificates list.entries ++ crl_extensions list.issuer list.number

whole_is : (algorithm : List ℕ) (list : CertList) (signature : List ℕ)
    → certificate_list (tbs_of algorithm list) algorithm signature ≡ tlv 48 (whole_contents algorithm list signature)
unfolding certificate_list whole_contents
whole_is algorithm list signature = refl

parts_in_turn : (algorithm : List ℕ) (list : CertList) (signature : List ℕ)
    → whole_contents algorithm list signature ≡ tlv 48 (tbs_contents algorithm list) ++ algorithm ++ bits_value signature
unfolding tbs_cert_list whole_contents tbs_contents
parts_in_turn algorithm list signature = refl

parts_are : (algorithm : List ℕ) (list : CertList) (signature : List ℕ)
    → whole_contents algorithm list signature ≡ tlv 48 (tbs_contents algorithm list) ++ (algorithm ++ bits_value signature)
parts_are algorithm list signature = parts_in_turn algorithm list signature ∙ append_assoc (tlv 48 (tbs_contents algorithm list)) algorithm (bits_value signature)

-- the third value that is read in a CRL is its algorithm
pub algorithm_read : (bytes algorithm : List ℕ) → IsAlgorithm algorithm → HasAlgorithm bytes algorithm → length bytes < 2 ^ 32
    → (list tbs found : Parts) (after_list after_tbs after_found raw : List ℕ) → value_at bytes ≡ Some (list, after_list)
    → value_at list.contents ≡ Some (tbs, after_tbs) → value_at after_tbs ≡ Some (found, after_found) → raw ≡ tlv found.tag found.contents
    → raw ≡ algorithm
algorithm_read bytes algorithm is (fields, signature, octets) short list tbs found after_list after_tbs after_found raw read_list read_tbs read_found raw_is =
    let inner = whole_contents algorithm fields signature in
    let part = tbs_contents algorithm fields in
    let whole : bytes ≡ tlv 48 inner = octets ∙ whole_is algorithm fields signature in
    let short_inner : length inner < 2 ^ 32 = let size = (value_size 48 inner).least in let same = ap length whole in omega arith in
    let first = first_value 48 inner [] bytes list after_list (omega arith) short_inner (whole ∙ sym (append-nil (tlv 48 inner))) read_list in
    let split : list.contents ≡ tlv 48 part ++ (algorithm ++ bits_value signature) = first.1 ∙ parts_are algorithm fields signature in
    let short_part : length part < 2 ^ 32 =
    let size = (value_size 48 part).least in
    let same = ap length (parts_are algorithm fields signature) ∙ length-append (tlv 48 part) (algorithm ++ bits_value signature) in omega arith in
    let second = first_value 48 part (algorithm ++ bits_value signature) list.contents tbs after_tbs (omega arith) short_part split read_tbs in
    let spelled : after_tbs ≡ tlv 48 is.contents ++ bits_value signature =
    second.2 ∙ ap (λ (it : List ℕ). it ++ bits_value signature) is.sequence.spelled in
    let third = first_value 48 is.contents (bits_value signature) after_tbs found after_found (omega arith) is.sequence.short spelled read_found in
    raw_is ∙ (λ i. tlv (third.0 i) (third.1 i)) ∙ sym is.sequence.spelled

-- what is not the same, where the same is found to be
pub not_same : (same : Bool) (P : Type 0) → (P → IsTrue same) → IsTrue (not same) → ¬ P
not_same same P found differs holds = false≢true (sym (ap not (found holds)) ∙ differs)

-- ---- the CRLs so far

-- the latest CRL as it was looked up
pub before_by : (algorithm der : List ℕ) (records : Records) → IsGiven records None (Ok der) → ¬ HasAlgorithm der algorithm → IsBeforeKey algorithm records
before_by algorithm der records given other crl is has =
    let same : crl.bytes ≡ der = same_Some _ _ (sym (ap (option_map (λ (it : Crl). it.bytes)) is) ∙ given) in
    other (subst (λ (b : List ℕ). HasAlgorithm b algorithm) same has)

pub before_none : (algorithm : List ℕ) (records : Records) (why : Refusal) → IsGiven records None (Err (Refused why)) → IsBeforeKey algorithm records
before_none algorithm records why given crl is has = let none = given.1 in absurd (let bad : ⊥ = cc in bad)

no_latest : (first : Crl) (rest : List Crl) → latest (first ∷ rest) ≡ None → ⊥
no_latest first [] is = let bad : ⊥ = cc in bad
no_latest first (next ∷ rest) is = no_latest next rest is

-- without a latest one there is none
all_of_none : (P : Crl → Type 0) (crls : List Crl) → latest crls ≡ None → AllByRecursion P crls
all_of_none P [] is = tt
all_of_none P (first ∷ rest) is = absurd (no_latest first rest is)

-- what holds of each CRL holds of the latest
latest_too : (P : Crl → Type 0) (crls : List Crl) (crl : Crl) → AllByRecursion P crls → latest crls ≡ Some crl → P crl
latest_too P [] crl all is = absurd (let bad : ⊥ = cc in bad)
latest_too P (first ∷ []) crl all is = subst P (same_Some _ _ is) all.0
latest_too P (first ∷ next ∷ rest) crl all is = latest_too P (next ∷ rest) crl all.1 is

module _ (signs : Identity → List ℕ → List ℕ → Type 0) (identity : Identity) where
  -- the latest CRL has a digest, if it does not have the signer's algorithm
  latest_below : (records : Records) (since : ℕ) (crl : Crl) → IsBeforeKey identity.algorithm records → latest records.crls ≡ Some crl
      → signed_since since signs identity (cert_list records crl.number crl.this_update) crl.bytes → crl.number + 1 ≤ since
  latest_below records since crl before is (inl (below, digest)) = omega (arith, below)
  latest_below records since crl before is (inr (from, signed)) =
      absurd (before crl is (cert_list records crl.number crl.this_update, signed.0, signed.2))

  -- so all CRLs so far have one
  below_since : (records : Records) (sound : SoundFor signs identity records) → IsBeforeKey identity.algorithm records → (found : Option Crl)
      → latest records.crls ≡ found → (found ≡ None) ⊎ (number_after (option_map row_of found) ≤ sound.since)
  below_since records sound before None is = inl refl
  below_since records sound before (Some crl) is =
      inr (latest_below records sound.since crl before is
      (latest_too (λ (it : Crl). signed_since sound.since signs identity (cert_list records it.number it.this_update) it.bytes) records.crls crl sound.signatures is))

  -- one that was below a number is below a greater one
  still_below : (was since next : ℕ) (list : CertList) (bytes : List ℕ) → list.number < next → next ≤ was → next ≤ since
      → signed_since was signs identity list bytes → signed_since since signs identity list bytes
  still_below was since next list bytes below first second (inl (under, digest)) = inl (omega (arith, below, second), digest)
  still_below was since next list bytes below first second (inr (from, signed)) = absurd (omega (arith, below, first, from))

  digests_so_far : (records : Records) (sound : SoundFor signs identity records) (since : ℕ) → next_number records.crls ≤ since
      → (latest records.crls ≡ None) ⊎ (next_number records.crls ≤ sound.since) → CrlsSigned (signed_since since signs identity) records
  digests_so_far records sound since reached (inl none) =
      all_of_none (λ (crl : Crl). signed_since since signs identity (cert_list records crl.number crl.this_update) crl.bytes) records.crls none
  digests_so_far records sound since reached (inr covered) =
      let next : next_number records.crls ≡ length records.crls + 1 = next_is records.crls sound.rows.crls.numbered in
      all_join
      (λ (crl : Crl). crl.number < 1 + length records.crls)
      (λ (crl : Crl). signed_since sound.since signs identity (cert_list records crl.number crl.this_update) crl.bytes)
      (λ (crl : Crl). signed_since since signs identity (cert_list records crl.number crl.this_update) crl.bytes)
      (λ crl below stored.
      still_below sound.since since (next_number records.crls) (cert_list records crl.number crl.this_update) crl.bytes (omega (arith, below, next)) covered reached stored)
      records.crls
      (numbered_below (λ crl. crl.number) 1 records.crls sound.rows.crls.numbered)
      sound.signatures

  -- ---- the next CRL

  -- a change may be entered at a moment, and leaves the records sound
  pub record MayEnter (records : Records) (now : ℕ) (change : Change) : Type 0 where
    pub not_back : records.last ≤ now
    pub fits : Fits records now change
    pub sound : SoundFor signs identity (changed_by records now change)

  -- one in either form
  pub next_keeps_sound : (records : Records) (row : CrlRow) (next_update : ℕ) (bytes : List ℕ) (der : Bor (List ℕ)) → der.now ≡ bytes
      → IsNextOf records row.this_update (row, next_update) → SoundFor signs identity records → MayBeNextCrl signs identity records row bytes
      → MayEnter records row.this_update (NewCrl row der)
  next_keeps_sound records row next_update bytes der same is sound (inl signed) =
      let count = length (listed_revocations records row.number) in
      let it = may_issue (signed_by signs identity) records row.this_update (row, next_update) bytes count der same (is, λ update. (signed, refl)) in
      let after = changed_by records row.this_update (NewCrl row der) in
      record {
        not_back = it.not_back;
        fits = it.fits;
        sound = step_keeps_sound_for signs identity records row.this_update IssueCrl (Ok (CrlIssued row.number count)) after sound it.happens;
      }
  next_keeps_sound records row next_update bytes der same is sound (inr (before, digest)) =
      let since = next_number records.crls + 1 in
      let signed = signed_since since signs identity in
      let count = length (listed_revocations records row.number) in
      let number : row.number ≡ next_number records.crls = ap (λ (r : CrlRow). r.number) is.row_is in
      let stored : Sound signed records = record {
        rows = sound.rows;
        signatures = digests_so_far records sound since (omega arith) (below_since records sound before (latest records.crls) refl);
      } in
      let it = may_issue signed records row.this_update (row, next_update) bytes count der same (is, λ update. (inl (omega (arith, number), digest), refl)) in
      let after = changed_by records row.this_update (NewCrl row der) in
      let kept = step_keeps_sound signed records row.this_update IssueCrl (Ok (CrlIssued row.number count)) after stored it.happens in
      let first : next_number records.crls ≡ length records.crls + 1 = next_is records.crls sound.rows.crls.numbered in
      let last : next_number after.crls ≡ length after.crls + 1 = next_is after.crls kept.rows.crls.numbered in
      let longer : length after.crls ≡ length records.crls + 1 = length-append records.crls _ in
      record {
        not_back = it.not_back;
        fits = it.fits;
        sound = record { since = since; reached = omega (arith, first, last, longer); rows = kept.rows; signatures = kept.signatures };
      }

-- ---- its octets

-- a signature in the form of one counts as one
pub may_by_form : (signs forms : Identity → List ℕ → List ℕ → Type 0) (identity : Identity) (records : Records) (row : CrlRow) (bytes : List ℕ)
    → FormsSign signs forms → MayBeNextCrl forms identity records row bytes → MayBeNextCrl signs identity records row bytes
may_by_form signs forms identity records row bytes sign (inl (signature, has, is)) =
    inl (signature, sign identity (tbs_of identity.algorithm (cert_list records row.number row.this_update)) signature has, is)
may_by_form signs forms identity records row bytes sign (inr it) = inr it

-- what is signed by a digest has it
pub digest_of : (list : CertList) (bytes : List ℕ)
    → (signature : List ℕ) × (signature ≡ sha1 (tbs_of sha1_algorithm list)) × (bytes ≡ certificate_list (tbs_of sha1_algorithm list) sha1_algorithm signature)
    → has_placeholder_digest list bytes
digest_of list bytes (signature, is, octets) = octets ∙ ap (certificate_list (tbs_of sha1_algorithm list) sha1_algorithm) is

-- the octets of the parts that were looked up are those of the records' CRL, in the form that was looked at
pub in_either_form : (forms : Identity → List ℕ → List ℕ → Type 0) (identity : Identity) (records : Records) (row : CrlRow) (has_digest : Bool) (issuer : Issuer)
    (next_update : ℕ) (listed : List Entry) (bytes : List ℕ) → issuer ≡ records.issuer → next_update ≡ row.this_update + records.policy.crl_life
    → listed ≡ entries records row.number → (IsTrue has_digest → IsBeforeKey identity.algorithm records)
    → (IsTrue has_digest → has_placeholder_digest (record { issuer = issuer; number = row.number; this_update = row.this_update; next_update = next_update; entries = listed }) bytes)
    → (IsFalse has_digest → signed_by forms identity (record { issuer = issuer; number = row.number; this_update = row.this_update; next_update = next_update; entries = listed }) bytes)
    → MayBeNextCrl forms identity records row bytes
in_either_form forms identity records row true issuer next_update listed bytes issuer_is next_is listed_is before digest signed =
    inr (before refl, signed_list has_placeholder_digest records row issuer next_update listed bytes issuer_is next_is listed_is (digest refl))
in_either_form forms identity records row false issuer next_update listed bytes issuer_is next_is listed_is before digest signed =
    inl (signed_list (signed_by forms identity) records row issuer next_update listed bytes issuer_is next_is listed_is (signed refl))
