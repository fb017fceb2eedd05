-- The call of an office that enters pages, as a step of its records, and what a stop leaves: a look-up, and then the pages, if they have news.
use Rattle.std.proofs.Common.{◌≡◌, ℕ, List, [], ◌∷◌, Option, None, Some, Result, Ok, Err, inl, inr, refl, sym, subst, ◌∙◌}
use Rattle.std.specs.Prelude.{IfSome, IsErr, IsFalse}
use Rattle.sqlite_trees.specs.declared.store.Store.{Ghosts}
use Rattle.sqlite.specs.Held.{state}
use Rattle.sqlite.specs.State.{HasCleanDisk}
use Rattle.reg_core.specs.Issuer.{Issuer}
use Rattle.reg_core.specs.Records.{Records}
use Rattle.reg_core_lists.specs.declared.feed_reader.ReceivedPage.{ReceivedPage}
use Rattle.reg_core_lists.specs.declared.positions.Positions.{Positions}
use Rattle.reg_crl.specs.declared.signer.Signer.{Ghosts as Signer}
use Rattle.reg_office_api.specs.Follows.{EntersPages, FollowStep, IsWithoutNews}
use Rattle.reg_office_api.specs.Signers.{OfficeSigners}
use Rattle.reg_office_api.specs.declared.follow.FollowFault.{FollowFault}
use Rattle.reg_store_tables.proofs.PublicLaws.{was_clean}
use Rattle.reg_office.specs.AfterStoppedCommand.{ChangingCall, follow_call}
use Rattle.reg_office.specs.Calls.{MayInterrupt, OfficeLeads, OfficeLooks, OfficeStops, seen, store_result}
use Rattle.reg_office.specs.Stands.{Stands}
use Rattle.reg_office.specs.declared.office.Office.{Office}
use Rattle.reg_office.proofs.Leading.{looked_stands, stops_lead}
use Rattle.reg_office.proofs.Leaving.{stands_closed, unshown}

-- what a look-up shows
pub looks_as : {C S : Type 0} (g : Ghosts C) (signer : Signer S) {IsSo Holds : Records → Type 0} (old new : Office C S) → OfficeLooks g signer IsSo old new → ((records : Records) → IsSo records → Holds records) → OfficeLooks g signer Holds old new
looks_as g signer old new looks holds = record { looked = looks.looked; same = looks.same; found = λ records stands clean. holds records (looks.found records stands clean) }

-- an issuer with this key
keyed : List ℕ → Issuer
keyed key = record { name = []; key = key }

key_of_keyed : (key : List ℕ) → (unshown (keyed key)).issuer.key ≡ key
unfolding keyed
key_of_keyed key = refl

module _ {C S : Type 0} (g : Ghosts C) (signer : Signer S) (from : Positions) (pages : List ReceivedPage) where
  -- the call with this result
  abbrev Stops : Result Positions FollowFault → Office C S → Office C S → Type 0
  Stops result old new = OfficeStops g signer (follow_call pages) (store_result result) (λ signers. FollowStep from pages result) old new

  -- as a step of the records
  pub step_of : (result : Result Positions FollowFault) (old new : Office C S) → Stops result old new → OfficeLeads g signer (λ signers. FollowStep from pages result) old new
  step_of result old new stops = stops_lead g signer.signs (follow_call pages) (store_result result) (λ signers. FollowStep from pages result) (seen signer old) (seen signer new) stops

  -- pages that are entered after a look-up
  pub entered_stops : {IsSo : Records → Type 0} (result : Result Positions FollowFault) (old mid new : Office C S) → OfficeLooks g signer IsSo old mid
      → OfficeStops g signer (follow_call pages) (store_result result) (λ signers. EntersPages pages result) mid new → Stops result old new
  entered_stops result old mid new looks stops = (
    (λ clean. was_clean (state g old.store) (state g mid.store) looks.looked.survives.clean (stops.0 clean)),
    (λ those before first stood clean.
        let (after, last, made, stands, may) =
        stops.1 those before first (looked_stands g signer.signs (seen signer old) (seen signer mid) those before first looks.looked looks.same stood) clean in
        (after, last, inl made, stands, may)),
  )

  -- only a look-up
  looked_stops : {IsSo : Records → Type 0} (result : Result Positions FollowFault) (old new : Office C S) → OfficeLooks g signer IsSo old new
      → ((records : Records) → IsSo records → FollowStep from pages result records records)
      → ((first : Option ChangingCall) → IfSome first (λ call. IsFalse (state g old.store).is_open) → HasCleanDisk (state g new.store)
      → MayInterrupt first (follow_call pages) (store_result result) first)
      → Stops result old new
  looked_stops result old new looks step may = (
    was_clean (state g old.store) (state g new.store) looks.looked.survives.clean,
    (λ those before first stood clean.
        let (is, stands, left) = stood in
        let P : OfficeSigners → Type 0 = λ v. Stands g signer.signs old.store v.crls before in (
          before,
          first,
          step before (looks.found before (subst P (sym is) stands) clean),
          looked_stands g signer.signs (seen signer old) (seen signer new) those before first looks.looked looks.same stood,
          may first (left.closed (was_clean (state g old.store) (state g new.store) looks.looked.survives.clean clean)) clean,
        )),
  )

  -- an error in the look-up
  pub error_stops : {IsSo : Records → Type 0} (result : Result Positions FollowFault) (old new : Office C S) → IsErr result → OfficeLooks g signer IsSo old new → Stops result old new
  error_stops (Ok reached) old new error looks = absurd (let bad : ⊥ = cc in bad)
  error_stops (Err fault) old new error looks = looked_stops (Err fault) old new looks (λ records it. inl refl) may
    where
      may : (first : Option ChangingCall) → IfSome first (λ call. IsFalse (state g old.store).is_open) → HasCleanDisk (state g new.store)
          → MayInterrupt first (follow_call pages) (store_result (Err fault)) first
      may None closed clean = inl refl
      may (Some call) closed clean = (refl, refl)

  -- One page without news. Over a closed connection there is none: any records stand there, with different keys of their issuers.
  pub stays_stops : (old new : Office C S) (page : ReceivedPage) (earlier : List ReceivedPage) → (earlier ≡ [] → pages ≡ page ∷ []) → OfficeLooks g signer (λ records. (earlier ≡ []) × IsWithoutNews page records) old new
      → Stops (Ok from) old new
  stays_stops old new page earlier alone looks =
      looked_stops (Ok from) old new looks (λ records it. inr (record { page = page; alone = alone it.0; without = it.1; same = refl; stays = refl })) may
    where
      its_key : IsFalse (state g old.store).is_open → HasCleanDisk (state g new.store) → (key : List ℕ) → key ≡ page.head.key.items
      its_key closed clean key =
          sym (key_of_keyed key) ∙ (looks.found (unshown (keyed key)) (stands_closed g signer.signs (signer.identity old.signer) old.store (keyed key) closed) clean).1.head.key

      may : (first : Option ChangingCall) → IfSome first (λ call. IsFalse (state g old.store).is_open) → HasCleanDisk (state g new.store)
          → MayInterrupt first (follow_call pages) (store_result (Ok from)) first
      may None closed clean = refl
      may (Some call) closed clean =
          absurd (let bad : ◌≡◌ {A = List ℕ} [] (0 ∷ []) = its_key closed clean [] ∙ sym (its_key closed clean (0 ∷ [])) in let wrong : ⊥ = cc in wrong)
