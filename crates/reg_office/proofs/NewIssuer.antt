-- Another issuer with the same Name and key, and with the same key identifiers in the CRLs that were issued: these are still signed over what they list.
use Rattle.std.proofs.Common.{◌≡◌, ℕ, ◌+◌, ◌≤◌, List, [], ◌∷◌, length, inl, inr, subst, sym, arith}
use Rattle.std.specs.List.{AllByRecursion}
use Rattle.reg_core.specs.Crls.{cert_list}
use Rattle.reg_core.specs.Issuer.{Issuer}
use Rattle.reg_core.specs.Records.{Records, Crl}
use Rattle.reg_core.specs.Sound.{NumberedFrom, SoundRows}
use Rattle.reg_crl.specs.Crl.{certificate_list, tbs_of}
use Rattle.reg_crl.specs.Signing.{Identity, with_placeholder_digest, signed_since, sha1_algorithm}
use Rattle.reg_der.specs.Issuers.{with_issuer}
use Rattle.reg_core_lists.specs.declared.feed_reader.FeedHead.{FeedHead}
use Rattle.reg_office.specs.Replays.{MayTakeHead}
use Rattle.reg_office.specs.Stands.{SoundFor}
use Rattle.reg_office.proofs.Identified.{same_identifier, same_tbs}

module _ (signs : Identity → List ℕ → List ℕ → Type 0) (identity : Identity) (head : FeedHead) (records : Records) (issuer : Issuer) (may : MayTakeHead head records issuer) where
  abbrev after : Records
  after = with_issuer records issuer

  tbs_stays : (algorithm : List ℕ) (number this_update : ℕ) → 1 ≤ number → number ≤ length records.crls → tbs_of algorithm (cert_list after number this_update) ≡ tbs_of algorithm (cert_list records number this_update)
  tbs_stays algorithm number this_update one within =
      same_tbs issuer records.issuer algorithm number this_update (this_update + records.policy.crl_life) (cert_list records number this_update).entries may.name
      (same_identifier issuer records.issuer number (may.identifiers number one within) may.key)

  stored_stays : (since number this_update : ℕ) (bytes : List ℕ) → 1 ≤ number → number ≤ length records.crls
      → signed_since since signs identity (cert_list records number this_update) bytes → signed_since since signs identity (cert_list after number this_update) bytes
  stored_stays since number this_update bytes one within (inl (below, is)) =
      inl (below, subst (λ tbs. bytes ≡ with_placeholder_digest tbs) (sym (tbs_stays sha1_algorithm number this_update one within)) is)
  stored_stays since number this_update bytes one within (inr (from, signed)) =
      inr (from, subst (λ tbs. (signature : List ℕ) × signs identity tbs signature × (bytes ≡ certificate_list tbs identity.algorithm signature)) (sym (tbs_stays identity.algorithm number this_update one within)) signed)

  all_stored : (since from : ℕ) (crls : List Crl) → 1 ≤ from → NumberedFrom (λ crl. crl.number) from crls → from + length crls ≤ length records.crls + 1
      → AllByRecursion (λ crl. signed_since since signs identity (cert_list records crl.number crl.this_update) crl.bytes) crls
      → AllByRecursion (λ crl. signed_since since signs identity (cert_list after crl.number crl.this_update) crl.bytes) crls
  all_stored since from [] one numbered few all = tt
  all_stored since from (crl ∷ crls) one numbered few all =
      let here : crl.number ≡ from = numbered.0 in
      let first : 1 ≤ crl.number = omega arith in
      let within : crl.number ≤ length records.crls = omega arith in
      (stored_stays since crl.number crl.this_update crl.bytes first within all.0, all_stored since (from + 1) crls (omega arith) numbered.1 (omega arith) all.1)

  rows_stay : SoundRows records → SoundRows after
  rows_stay sound = record {
    before_clock_end = sound.before_clock_end;
    subscribers = sound.subscribers;
    orders = sound.orders;
    certificates = sound.certificates;
    requests = sound.requests;
    revocations = sound.revocations;
    crls = sound.crls;
  }

  pub issuer_keeps_sound : SoundFor signs identity records → SoundFor signs identity after
  issuer_keeps_sound sound = record {
    since = sound.since;
    reached = sound.reached;
    rows = rows_stay sound.rows;
    signatures = all_stored sound.since 1 records.crls (omega arith) sound.rows.crls.numbered (omega arith) sound.signatures;
  }
