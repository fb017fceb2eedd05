-- What a signer adds after CRLs with the placeholder digest.
use Rattle.std.proofs.Common.{◌≡◌, ◌∙◌, ◌+◌, ◌<◌, ◌≤◌, ℕ, List, [], ◌∷◌, length, Result, inl, inr, refl, sym, ap, subst, le_refl, arith, length-append}
use Rattle.sha1.specs.Sha1.{sha1}
use Rattle.reg_core.specs.Changes.{with_schedule}
use Rattle.reg_core.specs.Crls.{CertList, cert_list, next_number}
use Rattle.reg_core.specs.Issuer.{Issuer}
use Rattle.reg_core.specs.Policy.{Terms}
use Rattle.reg_core.specs.Records.{Records, Crl, no_records}
use Rattle.reg_core.specs.Sound.{Sound, SoundRows}
use Rattle.reg_core.specs.declared.command.Command.{Command}
use Rattle.reg_core.specs.declared.command.Reply.{Reply}
use Rattle.reg_core.specs.declared.refusal.Fault.{Fault}
use Rattle.reg_crl.specs.Crl.{certificate_list, tbs_of}
use Rattle.reg_crl.specs.Signing.{Identity, has_placeholder_digest, signed_since, signed_by}
use Rattle.reg_office_api.proofs.PublicLaws.{happens_by}
use Rattle.reg_core_laws.specs.Run.{Happens, Run}
use Rattle.reg_core_laws.proofs.PublicLaws.{Grows, next_is, all_join, numbered_below, created_sound, schedule_keeps_sound, step_grows, step_keeps_sound}
use Rattle.reg_office.specs.Following.{IsDigestSigner}
use Rattle.reg_office.specs.Stands.{SoundFor}

-- the next number does not fall where records grow
next_grows : (before after : Records) → SoundRows before → SoundRows after → Grows before after → next_number before.crls ≤ next_number after.crls
next_grows before after sound sound_after grows =
    let first : next_number before.crls ≡ length before.crls + 1 = next_is before.crls sound.crls.numbered in
    let second : next_number after.crls ≡ length after.crls + 1 = next_is after.crls sound_after.crls.numbered in
    let longer : length after.crls ≡ length before.crls + length grows.more_crls = ap length grows.crls ∙ length-append before.crls grows.more_crls in
    omega arith

module _ (since : ℕ) (signs : Identity → List ℕ → List ℕ → Type 0) (identity : Identity) where
  -- a command of who signs is one over what is stored
  pub happens_since : (records : Records) (now : ℕ) (command : Command) (outcome : Result Reply Fault) (after : Records)
      → since ≤ next_number records.crls
      → Happens (signed_by signs identity) records now command outcome after
      → Happens (signed_since since signs identity) records now command outcome after
  happens_since records now command outcome after reached =
      happens_by (signed_by signs identity) (signed_since since signs identity) records now (λ bytes signed. inr (reached, signed)) command outcome after

  -- and so are the records after it
  pub step_since : (records : Records) (now : ℕ) (command : Command) (outcome : Result Reply Fault) (after : Records)
      → Sound (signed_since since signs identity) records → since ≤ next_number records.crls
      → Happens (signed_by signs identity) records now command outcome after
      → Sound (signed_since since signs identity) after × (since ≤ next_number after.crls)
  step_since records now command outcome after sound reached happens =
      let here = happens_since records now command outcome after reached happens in
      let sound_after = step_keeps_sound (signed_since since signs identity) records now command outcome after sound here in
      let later : next_number records.crls ≤ next_number after.crls =
      next_grows records after sound.rows sound_after.rows (step_grows (signed_since since signs identity) records now command outcome after sound here) in
      (sound_after, omega arith)

  -- a run likewise
  pub run_since : (records after : Records) (commands : List (ℕ × Command)) (outcomes : List (Result Reply Fault))
      → Sound (signed_since since signs identity) records → since ≤ next_number records.crls
      → Run (signed_by signs identity) records commands outcomes after
      → Run (signed_since since signs identity) records commands outcomes after
  run_since records after [] [] sound reached run = run
  run_since records after [] (outcome ∷ outcomes) sound reached run = absurd run
  run_since records after (timed ∷ commands) [] sound reached run = absurd run
  run_since records after (timed ∷ commands) (outcome ∷ outcomes) sound reached run =
      let next = step_since records timed.0 timed.1 outcome run.0 sound reached run.1 in (
        run.0,
        happens_since records timed.0 timed.1 outcome run.0 reached run.1,
        run_since run.0 after commands outcomes next.0 next.1 run.2,
      )

  pub after_since : (records after : Records) (commands : List (ℕ × Command)) (outcomes : List (Result Reply Fault))
      → Sound (signed_since since signs identity) records → since ≤ next_number records.crls
      → Run (signed_by signs identity) records commands outcomes after
      → Sound (signed_since since signs identity) after × (since ≤ next_number after.crls)
  after_since records after [] [] sound reached run =
      subst (λ (r : Records). Sound (signed_since since signs identity) r × (since ≤ next_number r.crls)) (sym run) (sound, reached)
  after_since records after [] (outcome ∷ outcomes) sound reached run = absurd run
  after_since records after (timed ∷ commands) [] sound reached run = absurd run
  after_since records after (timed ∷ commands) (outcome ∷ outcomes) sound reached run =
      let next = step_since records timed.0 timed.1 outcome run.0 sound reached run.1 in
      after_since run.0 after commands outcomes next.0 next.1 run.2

-- ---- records that are sound for who signs

module _ (signs : Identity → List ℕ → List ℕ → Type 0) (identity : Identity) where
  -- over what is stored in them
  abbrev pub over_stored : (records : Records) (sound : SoundFor signs identity records) → Sound (signed_since sound.since signs identity) records
  over_stored records sound = record { rows = sound.rows; signatures = sound.signatures }

  -- one command keeps them so
  pub step_keeps_sound_for : (records : Records) (now : ℕ) (command : Command) (outcome : Result Reply Fault) (after : Records)
      → SoundFor signs identity records → Happens (signed_by signs identity) records now command outcome after → SoundFor signs identity after
  step_keeps_sound_for records now command outcome after sound happens =
      let kept = step_since sound.since signs identity records now command outcome after (over_stored records sound) sound.reached happens in
      record { since = sound.since; reached = kept.1; rows = kept.0.rows; signatures = kept.0.signatures }

  -- so does another schedule
  pub schedule_keeps_sound_for : (records : Records) (schedule : List (ℕ × ℕ)) → SoundFor signs identity records → SoundFor signs identity (with_schedule records schedule)
  schedule_keeps_sound_for records schedule sound =
      let kept = schedule_keeps_sound (signed_since sound.since signs identity) records schedule (over_stored records sound) in
      record { since = sound.since; reached = sound.reached; rows = kept.rows; signatures = kept.signatures }

  -- a register as it is created
  pub created_sound_for : (issuer : Issuer) (policy : Terms) → SoundFor signs identity (no_records issuer policy)
  created_sound_for issuer policy =
      let made = created_sound (signed_since 1 signs identity) issuer policy in
      let next : next_number (no_records issuer policy).crls ≡ 1 = refl in
      record { since = 1; reached = omega (arith, next); rows = made.rows; signatures = made.signatures }

-- ---- any next signer, after CRLs with the placeholder digest alone

module _ (signs : Identity → List ℕ → List ℕ → Type 0) (digest : Identity) (is_digest : IsDigestSigner signs digest) where
  -- a CRL that this signer signs has the placeholder digest
  signed_is_digest : (crl : CertList) (bytes : List ℕ) → signed_by signs digest crl bytes → has_placeholder_digest crl bytes
  signed_is_digest crl bytes (signature, signed, is) =
      let tbs : List ℕ → List ℕ = λ algorithm. tbs_of algorithm crl in
      let Q : List ℕ → Type 0 = λ algorithm. bytes ≡ certificate_list (tbs algorithm) algorithm (sha1 (tbs algorithm)) in
      subst Q is_digest.algorithm
      (is ∙ ap (certificate_list (tbs digest.algorithm) digest.algorithm) (is_digest.signature_is_sha1 (tbs digest.algorithm) signature signed))

  stored_is_digest : (since : ℕ) (crl : CertList) (bytes : List ℕ) → signed_since since signs digest crl bytes → has_placeholder_digest crl bytes
  stored_is_digest since crl bytes (inl (below, is)) = is
  stored_is_digest since crl bytes (inr (from, signed)) = signed_is_digest crl bytes signed

  pub follows_digest : (identity : Identity) (records : Records) → SoundFor signs digest records → SoundFor signs identity records
  follows_digest identity records sound =
      let next : next_number records.crls ≡ length records.crls + 1 = next_is records.crls sound.rows.crls.numbered in
      record {
        since = next_number records.crls;
        reached = le_refl (next_number records.crls);
        rows = sound.rows;
        signatures =
            all_join
            (λ (crl : Crl). crl.number < 1 + length records.crls)
            (λ (crl : Crl). signed_since sound.since signs digest (cert_list records crl.number crl.this_update) crl.bytes)
            (λ (crl : Crl). signed_since (next_number records.crls) signs identity (cert_list records crl.number crl.this_update) crl.bytes)
            (λ crl below stored.
            let earlier : crl.number < next_number records.crls = omega (arith, below, next) in
            inl (earlier, stored_is_digest sound.since (cert_list records crl.number crl.this_update) crl.bytes stored))
            records.crls
            (numbered_below (λ crl. crl.number) 1 records.crls sound.rows.crls.numbered)
            sound.signatures;
      }
