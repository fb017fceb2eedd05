-- With a key identifier more, which CRLs have from the next one on, the CRLs that were issued are signed over what they list.
use Rattle.std.proofs.Common.{◌≡◌, ℕ, ◌+◌, ◌<◌, ◌≤◌, List, [], ◌∷◌, length, inl, inr, refl, subst, sym, arith}
use Rattle.std.specs.List.{AllByRecursion}
use Rattle.reg_core.specs.Crls.{cert_list, next_number}
use Rattle.reg_core.specs.Issuer.{Issuer}
use Rattle.reg_core.specs.Records.{Records, Crl}
use Rattle.reg_core.specs.Sound.{NumberedFrom, SoundRows}
use Rattle.reg_core.specs.declared.rows.Entry.{Entry}
use Rattle.reg_crl.specs.Crl.{certificate_list, crl_extensions, key_identifier, tbs_cert_list, tbs_of}
use Rattle.reg_crl.specs.Signing.{Identity, with_placeholder_digest, signed_since, sha1_algorithm}
use Rattle.reg_der.specs.Authority.{HasIdentifier, key_identifier_at, name_of}
use Rattle.reg_der.specs.Issuers.{with_key_identifier}
use Rattle.reg_core_laws.proofs.PublicLaws.{next_is}
use Rattle.reg_office.specs.Stands.{SoundFor}

-- what is signed goes by the issuer's Name and by the key identifier that a CRL of this number has
pub same_tbs : (a b : Issuer) (algorithm : List ℕ) (number this_update next_update : ℕ) (entries : List Entry) → name_of a ≡ name_of b → key_identifier a number ≡ key_identifier b number
    → tbs_cert_list a algorithm number this_update next_update entries ≡ tbs_cert_list b algorithm number this_update next_update entries
unfolding tbs_cert_list crl_extensions
same_tbs a b algorithm number this_update next_update entries name identifier = rw (name, identifier) refl

-- that key identifier is the issuer's own, or follows from its key
pub same_identifier : (a b : Issuer) (number : ℕ) → key_identifier_at a number ≡ key_identifier_at b number → a.key ≡ b.key → key_identifier a number ≡ key_identifier b number
same_identifier a b number own key = rw (own, key) refl

module _ (signs : Identity → List ℕ → List ℕ → Type 0) (identity : Identity) (records : Records) (octets : List ℕ)
    (has : HasIdentifier records.issuer (next_number records.crls) octets) where
  abbrev after : Records
  after = with_key_identifier records octets

  tbs_stays : (algorithm : List ℕ) (number this_update : ℕ) → number < next_number records.crls → tbs_of algorithm (cert_list after number this_update) ≡ tbs_of algorithm (cert_list records number this_update)
  tbs_stays algorithm number this_update before =
      same_tbs after.issuer records.issuer algorithm number this_update (this_update + records.policy.crl_life) (cert_list records number this_update).entries has.name
      (same_identifier after.issuer records.issuer number (has.earlier number before) has.key)

  stored_stays : (since number this_update : ℕ) (bytes : List ℕ) → number < next_number records.crls
      → signed_since since signs identity (cert_list records number this_update) bytes → signed_since since signs identity (cert_list after number this_update) bytes
  stored_stays since number this_update bytes before (inl (below, is)) =
      inl (below, subst (λ tbs. bytes ≡ with_placeholder_digest tbs) (sym (tbs_stays sha1_algorithm number this_update before)) is)
  stored_stays since number this_update bytes before (inr (from, signed)) =
      inr (from, subst (λ tbs. (signature : List ℕ) × signs identity tbs signature × (bytes ≡ certificate_list tbs identity.algorithm signature)) (sym (tbs_stays identity.algorithm number this_update before)) signed)

  all_stored : (since from : ℕ) (crls : List Crl) → NumberedFrom (λ crl. crl.number) from crls → from + length crls ≤ next_number records.crls
      → AllByRecursion (λ crl. signed_since since signs identity (cert_list records crl.number crl.this_update) crl.bytes) crls
      → AllByRecursion (λ crl. signed_since since signs identity (cert_list after crl.number crl.this_update) crl.bytes) crls
  all_stored since from [] numbered few all = tt
  all_stored since from (crl ∷ crls) numbered few all =
      let here : crl.number ≡ from = numbered.0 in
      let before : crl.number < next_number records.crls = omega arith in
      (stored_stays since crl.number crl.this_update crl.bytes before all.0, all_stored since (from + 1) crls numbered.1 (omega arith) all.1)

  rows_stay : SoundRows records → SoundRows after
  rows_stay sound = record {
    before_clock_end = sound.before_clock_end;
    subscribers = sound.subscribers;
    orders = sound.orders;
    certificates = sound.certificates;
    requests = sound.requests;
    revocations = sound.revocations;
    crls = sound.crls;
  }

  pub identifier_keeps_sound : SoundFor signs identity records → SoundFor signs identity after
  identifier_keeps_sound sound = record {
    since = sound.since;
    reached = sound.reached;
    rows = rows_stay sound.rows;
    signatures = all_stored sound.since 1 records.crls sound.rows.crls.numbered (let next = next_is records.crls sound.rows.crls.numbered in omega arith) sound.signatures;
  }
