-- Look-ups of an office's store, after which the signer of its CRLs may be another one.
use Rattle.std.specs.Prelude.{IfSome, IsFalse, IsSomeAnd}
use Rattle.std.proofs.Common.{◌≡◌, ◌⊎◌, inl, inr, List, ℕ, [], ◌∷◌, Option, Some, None, IsTrue, ap, refl, subst, sym, ◌∙◌}
use Rattle.std.proofs.lemmas.Bool.{false_from_ne_true, true≢false}
use Rattle.sqlite.specs.Held.{Held, state}
use Rattle.sqlite.specs.State.{HasCleanDisk}
use Rattle.sqlite_trees.specs.Tree.{Trees}
use Rattle.sqlite_trees.specs.declared.store.Store.{Ghosts}
use Rattle.reg_core.specs.Issuer.{Issuer}
use Rattle.reg_core.specs.Policy.{Terms}
use Rattle.reg_core.specs.Records.{Records, no_records}
use Rattle.reg_crl.specs.Signing.{Identity}
use Rattle.reg_crl_signer.specs.Forms.{identity_of}
use Rattle.reg_crl_signer.specs.KeyOrDigestSignatures.{digest}
use Rattle.reg_crl_signer.specs.declared.algorithm.Algorithm.{Algorithm}
use Rattle.reg_desk_service.specs.Signers.{unreachable_signer}
use Rattle.reg_office.specs.AfterStoppedCommand.{ChangingCall, LeavesReported}
use Rattle.reg_office.specs.Calls.{StandsWith}
use Rattle.reg_office.specs.Following.{FollowsDigest, IsDigestSigner}
use Rattle.reg_office_api.specs.CallSteps.{Signs}
use Rattle.reg_office_api.specs.Signers.{OfficeSigners, Responder}
use Rattle.reg_store_tables.proofs.PublicLaws.{after_look, was_clean}
use Rattle.reg_store_tables.specs.Shows.{Shows}
use Rattle.reg_store_tables.specs.Stays.{IsRegister, Looked}
use Rattle.reg_desk_program.specs.StoreSigners.{FitsRegister, MayExpectCrls}

if_some : {A : Type 0} (it : Option A) (P Q : Type 0) → (P → Q) → IfSome it (λ a. P) → IfSome it (λ a. Q)
if_some None P Q follows holds = tt
if_some (Some a) P Q follows holds = follows holds

-- an issuer with this key, and a policy
keyed : List ℕ → Records
keyed key = no_records (record { name = []; key = key }) (record { schedule = []; crl_life = 0; ocsp_life = 0; cap = 0 })

key_of_keyed : (key : List ℕ) → (keyed key).issuer.key ≡ key
unfolding keyed
key_of_keyed key = refl

-- no key is two keys
one_key : (it : Identity) → ((key : List ℕ) → it.public_key ≡ key) → ⊥
one_key it is = let bad : ◌≡◌ {A = List ℕ} [] (0 ∷ []) = sym (is []) ∙ is (0 ∷ []) in cc

-- what stands for some signers stands for them with the office's signer of CRLs
with_crls : {C : Type 0} (g : Ghosts C) (signs : Signs) (office : Held C × OfficeSigners) (signers : OfficeSigners) (records : Records) (interrupted : Option ChangingCall)
    → StandsWith g signs office signers records interrupted → StandsWith g signs office (record { crls = office.1.crls; answers = signers.answers }) records interrupted
with_crls g signs office signers records interrupted stands =
    subst (λ (v : OfficeSigners). StandsWith g signs office v records interrupted)
    (λ i. record { crls = sym (ap (λ (it : OfficeSigners). it.crls) stands.0) i; answers = signers.answers }) stands

-- nothing is looked up, and the signers stay
pub expects_still : {C : Type 0} (g : Ghosts C) (signs : Signs) (store : Held C) (signers : OfficeSigners) → MayExpectCrls g signs store store signers signers
expects_still g signs store signers = ((λ clean. clean), (λ those before interrupted stands clean. with_crls g signs (store, signers) those before interrupted stands))

-- A store before look-ups and after them.
module _ {C : Type 0} (g : Ghosts C) (signs : Signs) (old new : Held C) (looked : Looked g old new) where
  clean_before : HasCleanDisk (state g new) → HasCleanDisk (state g old)
  clean_before clean = was_clean (state g old) (state g new) looked.survives.clean clean

  -- a connection that is closed stays closed
  stays_closed : IsFalse (state g old).is_open → HasCleanDisk (state g new) → IsFalse (state g new).is_open
  stays_closed closed clean =
      let any : IsRegister (state g old) = record {
        now = λ was up. absurd (true≢false (sym up ∙ closed));
        committed = λ was up. absurd (true≢false (sym up ∙ closed));
      } in
      false_from_ne_true (state g new).is_open (λ up. true≢false (sym ((looked.same any).was_open clean up) ∙ closed))

  -- what a stop leaves
  left_before : HasCleanDisk (state g new) → (trees : Trees) → (state g new).may_leave trees → (state g old).may_leave trees
  left_before clean trees may = elim (looked.survives.crash clean trees may) [ inl was ↦ was | inr bad ↦ absurd bad ]

  still_reported : (identity : Identity) (records : Records) (interrupted : Option ChangingCall) → LeavesReported g signs old identity records interrupted
      → LeavesReported g signs new identity records interrupted
  still_reported identity records interrupted left = record {
    closed = λ clean. if_some interrupted _ _ (λ closed. stays_closed closed clean) (left.closed (clean_before clean));
    leaves = λ clean trees may under. left.leaves (clean_before clean) trees (left_before clean trees may) under;
  }

  none_reported : (identity other : Identity) (records : Records) → LeavesReported g signs old identity records None
      → LeavesReported g signs new other records None
  none_reported identity other records left = record {
    closed = λ clean. tt;
    leaves = λ clean trees may under. elim (left.leaves (clean_before clean) trees (left_before clean trees may) under) [ inl shows ↦ inl shows | inr bad ↦ absurd bad ];
  }

  -- the signers stay
  pub expects_none : (was becomes : OfficeSigners) → becomes ≡ was → MayExpectCrls g signs old new was becomes
  expects_none was becomes same = (
    clean_before,
    (λ signers before interrupted (is, stands, left) clean.
        with_crls g signs (new, becomes) signers before interrupted (
          same ∙ is,
          record { shown = after_look g old new before looked.survives.clean looked.same stands.shown; sound = stands.sound },
          still_reported signers.crls before interrupted left,
        )),
  )

  -- a signer was found for the issuer's key, so the connection is open
  module _ (answers : Identity → Responder) (identity : Identity) (algorithm : Algorithm)
      (fits : FitsRegister g old new answers identity (unreachable_signer (Some algorithm))) where
    not_closed : IsFalse (state g old).is_open → HasCleanDisk (state g new) → ⊥
    not_closed closed clean =
        one_key identity (λ key.
        let shown : Shows g old (keyed key) = record {
          saved = λ was up. absurd (true≢false (sym up ∙ closed));
          tables = λ was up. absurd (true≢false (sym up ∙ closed));
        } in
        ap (λ (it : Identity). it.public_key) (fits.is_signing (keyed key) shown clean) ∙ key_of_keyed key)

    none_interrupted : (records : Records) (other : Identity) (interrupted : Option ChangingCall) → LeavesReported g signs old other records interrupted
        → HasCleanDisk (state g new) → interrupted ≡ None
    none_interrupted records other None left clean = refl
    none_interrupted records other (Some call) left clean = absurd (not_closed (left.closed (clean_before clean)) clean)

    -- a signer without a key is replaced by one with the issuer's key, behind a delegated responder
    pub expects_key : FollowsDigest g signs → IsDigestSigner signs digest → (was becomes : OfficeSigners) → was.crls ≡ digest
        → becomes.answers ≡ was.answers → MayExpectCrls g signs old new was becomes
    expects_key follows is_digest was becomes by_digest same_answers = (
      clean_before,
      (λ signers before interrupted (is, stands, left) clean.
          let none = none_interrupted before signers.crls interrupted left clean in
          let left_none = subst (λ (it : Option ChangingCall). LeavesReported g signs old signers.crls before it) none left in
          let by : signers.crls ≡ digest = sym (ap (λ (it : OfficeSigners). it.crls) is) ∙ by_digest in
          let answers_same : becomes.answers ≡ signers.answers = same_answers ∙ ap (λ (it : OfficeSigners). it.answers) is in
          let those : OfficeSigners = record { crls = becomes.crls; answers = signers.answers } in
          subst (λ (it : Option ChangingCall). StandsWith g signs (new, becomes) those before it) (sym none) (
            (λ i. record { crls = becomes.crls; answers = answers_same i }),
            follows new signers.crls becomes.crls before (subst (λ (it : Identity). IsDigestSigner signs it) (sym by) is_digest)
                (record { shown = after_look g old new before looked.survives.clean looked.same stands.shown; sound = stands.sound }),
            none_reported signers.crls becomes.crls before left_none,
          )),
    )
