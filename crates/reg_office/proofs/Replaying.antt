-- Steps inside a transaction that replays commands.
use Rattle.std.proofs.Common.{◌≡◌, ◌≢◌, ◌∙◌, ◌≤◌, ◌<◌, ◌+◌, true, ℕ, List, length, Bor, Result, Ok, Err, IfOk, OnOk, IsTrue, refl, sym, ap, subst, arith}
use Rattle.sqlite_trees.specs.declared.store.Store.{Ghosts}
use Rattle.sqlite.specs.Effect.{Database}
use Rattle.sqlite.specs.Held.{Held, state}
use Rattle.sqlite.specs.State.{HasCleanDisk}
use Rattle.reg_core.specs.Calendar.{clock_end}
use Rattle.reg_core.specs.Changes.{Fits, changed_by, touched, with_crl, with_schedule}
use Rattle.reg_core.specs.Issuer.{Issuer}
use Rattle.reg_core.specs.Records.{Records, Crl}
use Rattle.reg_core.specs.Sound.{SoundRevocation, SoundRows}
use Rattle.reg_core.specs.declared.change.Change.{Change}
use Rattle.reg_core.specs.Crls.{CertList, cert_list, listed_revocations}
use Rattle.reg_core.specs.declared.change.Change.TheVariants.{Touch, Crl as NewCrl}
use Rattle.reg_core.specs.declared.command.Command.{Command}
use Rattle.reg_core.specs.declared.command.Command.TheVariants.{Crl as IssueCrl}
use Rattle.reg_core.specs.declared.command.Reply.{Reply}
use Rattle.reg_core.specs.declared.command.Reply.TheVariants.{Crl as CrlIssued}
use Rattle.reg_core.specs.declared.rows.CrlRow.{CrlRow}
use Rattle.reg_core.specs.declared.rows.RequestRow.{RequestRow}
use Rattle.reg_core_laws.proofs.PublicLaws.{all_weaker}
use Rattle.reg_core_lists.specs.declared.feed_reader.FeedHead.{FeedHead}
use Rattle.reg_crl.specs.Crl.{certificate_list, tbs_of}
use Rattle.reg_crl.specs.Signing.{Identity, signed_by}
use Rattle.reg_office_api.specs.Follows.{FormsSign}
use Rattle.reg_der.specs.Issuers.{with_issuer}
use Rattle.reg_store_changes.specs.ChangeEffects.{derived_after}
use Rattle.reg_store_changes.specs.ChangeSteps.{Enters, ReplacesIssuer, WritesSchedule}
use Rattle.reg_store_changes.specs.WithinTransactions.{IsInTransaction, StepsWithin}
use Rattle.reg_store_changes.proofs.PublicLaws.{kept_change, kept_issuer, kept_schedule, looked_step, staged_both, steps_clean}
use Rattle.reg_store_tables.specs.LookUps.{LooksUp}
use Rattle.reg_store_tables.specs.Shows.{AreRecordsAndDerived}
use Rattle.reg_store_tables.specs.Stays.{Moves}
use Rattle.reg_store_tables.specs.Steps.{WritesRows}
use Rattle.reg_office.specs.Batches.{StandsWithin}
use Rattle.reg_office.specs.Issuing.{IsNextOf}
use Rattle.reg_office_reads.specs.Looking.{IsAcceptance}
use Rattle.reg_office.specs.Replays.{LeadsIf, LeadsWithin, MayBeNextCrl, MayTakeHead, with_feed_row}
use Rattle.reg_office.specs.declared.feed_row.FeedRow.{FeedRow}
use Rattle.reg_office.specs.Stands.{SoundFor}
use Rattle.reg_office.proofs.Batching.{until_end}
use Rattle.reg_office.proofs.CommandsRun.{MayChange, may_change}
use Rattle.reg_office.proofs.Following.{schedule_keeps_sound_for, step_keeps_sound_for}
use Rattle.reg_office.proofs.BeforeKey.{MayEnter, next_keeps_sound}
use Rattle.reg_office.proofs.Issuing.{next_of}
use Rattle.reg_office.proofs.NewIssuer.{issuer_keeps_sound}

-- ---- the last accepted moment alone

touched_rows : (records : Records) (now : ℕ) → SoundRows records → records.last ≤ now → now < clock_end → SoundRows (touched records now)
touched_rows records now sound later below = record {
  before_clock_end = below;
  subscribers = sound.subscribers;
  orders = sound.orders;
  certificates = sound.certificates;
  requests = record {
    numbered = sound.requests.numbered;
    certificates_exist = sound.requests.certificates_exist;
    received_by_last = all_weaker (λ (row : RequestRow). row.received ≤ records.last) (λ (row : RequestRow). row.received ≤ now) (λ row by. omega arith) records.requests sound.requests.received_by_last;
    within_cap = sound.requests.within_cap;
  };
  revocations = record {
    serials_differ = sound.revocations.serials_differ;
    requests_differ = sound.revocations.requests_differ;
    each =
        all_weaker
        (SoundRevocation records.last records.certificates records.requests records.crls)
        (SoundRevocation now records.certificates records.requests records.crls)
        (λ row holds. record {
          within_validity = holds.within_validity;
          by_request = holds.by_request;
          at_by_last = (let by = holds.at_by_last in omega arith);
          first_from_one = holds.first_from_one;
          first_by_next = holds.first_by_next;
          crls_before = holds.crls_before;
          crls_after = holds.crls_after;
        })
        records.revocations sound.revocations.each;
  };
  crls = record {
    numbered = sound.crls.numbered;
    updates_never_decrease = sound.crls.updates_never_decrease;
    updates_by_last = all_weaker (λ (crl : Crl). crl.this_update ≤ records.last) (λ (crl : Crl). crl.this_update ≤ now) (λ crl by. omega arith) records.crls sound.crls.updates_by_last;
    within_cap = sound.crls.within_cap;
  };
}

-- no CRL is signed over the last accepted moment
touch_keeps_sound : (signs : Identity → List ℕ → List ℕ → Type 0) (identity : Identity) (records : Records) (now : ℕ) → SoundFor signs identity records → records.last ≤ now → now < clock_end
    → SoundFor signs identity (touched records now)
touch_keeps_sound signs identity records now sound later below = record {
  since = sound.since;
  reached = sound.reached;
  rows = touched_rows records now sound.rows later below;
  signatures = sound.signatures;
}

-- ---- steps

module _ {C : Type 0} (g : Ghosts C) (signs : Identity → List ℕ → List ℕ → Type 0) (identity : Identity) where
  -- nothing is done
  pub leads_nowhere : (Did : Records → Records → Type 0) (held : Held C) → ((records : Records) → Did records records) → LeadsWithin g signs identity held held Did
  leads_nowhere Did held did within clean before stands = (before, did before, stands)

  -- what a step leads to
  pub leads_as : {First Second : Records → Records → Type 0} (old new : Held C) → LeadsWithin g signs identity old new First
      → ((before after : Records) → First before after → Second before after) → LeadsWithin g signs identity old new Second
  leads_as old new leads follows within clean before stands =
      let (after, made, standing) = leads within clean before stands in
      (after, follows before after made, standing)

  -- one step after another
  pub leads_then : {First Second Third : Records → Records → Type 0} (old mid new : Held C) → StepsWithin g old mid → StepsWithin g mid new
      → LeadsWithin g signs identity old mid First → LeadsWithin g signs identity mid new Second
      → ((before middle after : Records) → First before middle → Second middle after → Third before after) → LeadsWithin g signs identity old new Third
  leads_then old mid new first second leads leads_on follows within clean before stands =
      let (middle, one, standing) = leads within (steps_clean second clean) before stands in
      let (after, two, standing_now) = leads_on (first.within within) clean middle standing in
      (after, follows before middle after one two, standing_now)

  -- look-ups that leave the transaction under way
  pub looked_leads : {IsSo : Records → Type 0} (old new : Held C) → LooksUp g old new IsSo → new.in_transaction ≡ true
      → LeadsWithin g signs identity old new (λ before after. (after ≡ before) × IsSo before)
  looked_leads old new looks under within clean records stands =
      let up : IsTrue (state g new).is_open = looks.looked.live clean under stands.under_way.0 in
      let same = looks.looked.within (λ whole open_now. within.register.now whole open_now) clean up under in (
        records,
        (refl, looks.found records (until_end g signs identity old new records under stands) stands.sound.rows clean),
        record {
          under_way = (up, under);
          columns = stands.columns;
          both = subst (λ (db : Database). AreRecordsAndDerived db records stands.columns) (sym same.now) stands.both;
          kept = stands.kept;
          sound = stands.sound;
        },
      )

  -- a step after look-ups, by what they found
  pub after_look_leads : {IsSo : Records → Type 0} {Did : Records → Records → Type 0} (old mid new : Held C) → LooksUp g old mid IsSo → mid.in_transaction ≡ true → StepsWithin g mid new
      → LeadsIf g signs identity IsSo mid new Did → LeadsWithin g signs identity old new Did
  after_look_leads old mid new looks under stepped leads within clean records stands =
      let clean_mid = steps_clean stepped clean in
      let up : IsTrue (state g mid).is_open = looks.looked.live clean_mid under stands.under_way.0 in
      let same = looks.looked.within (λ whole open_now. within.register.now whole open_now) clean_mid up under in
      leads ((looked_step {g = g} {a = old} {b = mid} looks.looked).within within) clean records
      (record {
        under_way = (up, under);
        columns = stands.columns;
        both = subst (λ (db : Database). AreRecordsAndDerived db records stands.columns) (sym same.now) stands.both;
        kept = stands.kept;
        sound = stands.sound;
      })
      (looks.found records (until_end g signs identity old mid records under stands) stands.sound.rows clean_mid)

  -- the same, from records of which something holds
  pub after_look_leads_if : {May IsSo : Records → Type 0} {Did : Records → Records → Type 0} (old mid new : Held C) → LooksUp g old mid IsSo → mid.in_transaction ≡ true → StepsWithin g mid new
      → LeadsIf g signs identity (λ records. May records × IsSo records) mid new Did → LeadsIf g signs identity May old new Did
  after_look_leads_if old mid new looks under stepped leads within clean records stands may =
      let clean_mid = steps_clean stepped clean in
      let up : IsTrue (state g mid).is_open = looks.looked.live clean_mid under stands.under_way.0 in
      let same = looks.looked.within (λ whole open_now. within.register.now whole open_now) clean_mid up under in
      leads ((looked_step {g = g} {a = old} {b = mid} looks.looked).within within) clean records
      (record {
        under_way = (up, under);
        columns = stands.columns;
        both = subst (λ (db : Database). AreRecordsAndDerived db records stands.columns) (sym same.now) stands.both;
        kept = stands.kept;
        sound = stands.sound;
      })
      (may, looks.found records (until_end g signs identity old mid records under stands) stands.sound.rows clean_mid)

  -- ---- one step each

  -- what stands after a change at a moment, which the records fit and which leaves them sound
  entered : (old new : Held C) (now : ℕ) (change : Change) (records : Records) (stands : StandsWithin signs identity (state g old) records)
      → Moves (state g old) (state g new) (Enters now change (state g old).now) → records.last ≤ now → Fits records now change
      → SoundFor signs identity (changed_by records now change) → StandsWithin signs identity (state g new) (changed_by records now change)
  entered old new now change records stands moved later fits sound = record {
    under_way = (moved.is_open, moved.under_way);
    columns = derived_after now change stands.columns;
    both = (moved.tables.turns records stands.columns stands.sound.rows fits stands.both).0;
    kept = kept_change records stands.columns now stands.sound.rows later stands.kept change fits;
    sound = sound;
  }

  -- a change that may be entered
  pub changed_leads : {May : Records → Type 0} (old new : Held C) (now : ℕ) (change : Change)
      → (IsInTransaction (state g old) → HasCleanDisk (state g new) → Moves (state g old) (state g new) (Enters now change (state g old).now))
      → ((records : Records) → May records → SoundFor signs identity records → MayEnter signs identity records now change)
      → LeadsIf g signs identity May old new (λ before after. after ≡ changed_by before now change)
  changed_leads old new now change moves may within clean records stands holds =
      let it = may records holds stands.sound in
      (changed_by records now change, refl, entered old new now change records stands (moves within clean) it.not_back it.fits it.sound)

  -- a change that a command makes
  pub entered_leads : {May : Records → Type 0} (old new : Held C) (now : ℕ) (command : Command) (change : Change)
      → (IsInTransaction (state g old) → HasCleanDisk (state g new) → Moves (state g old) (state g new) (Enters now change (state g old).now))
      → ((records : Records) → May records → SoundRows records → (reply : Reply) × MayChange (signed_by signs identity) records now command reply change)
      → LeadsIf g signs identity May old new (λ before after. after ≡ changed_by before now change)
  entered_leads old new now command change moves may =
      changed_leads old new now change moves (λ records holds sound.
      let (reply, it) = may records holds sound.rows in
      record {
        not_back = it.not_back;
        fits = it.fits;
        sound = step_keeps_sound_for signs identity records now command (Ok reply) (changed_by records now change) sound it.happens;
      })

  -- the last accepted moment alone
  pub touched_leads : {May : Records → Type 0} (old new : Held C) (now : ℕ)
      → (IsInTransaction (state g old) → HasCleanDisk (state g new) → Moves (state g old) (state g new) (Enters now Touch (state g old).now))
      → ((records : Records) → May records → (records.last ≤ now) × (now < clock_end))
      → LeadsIf g signs identity May old new (λ before after. after ≡ touched before now)
  touched_leads old new now moves may within clean records stands holds =
      let clock = may records holds in
      let sound = touch_keeps_sound signs identity records now stands.sound clock.0 clock.1 in
      (touched records now, refl, entered old new now Touch records stands (moves within clean) clock.0 tt sound)

  -- a schedule
  pub schedule_leads : (old new : Held C) (steps : List (ℕ × ℕ))
      → (IsInTransaction (state g old) → HasCleanDisk (state g new) → Moves (state g old) (state g new) (WritesSchedule steps (state g old).now))
      → LeadsWithin g signs identity old new (λ before after. after ≡ with_schedule before steps)
  schedule_leads old new steps moves within clean records stands =
      let moved = moves within clean in (
        with_schedule records steps,
        refl,
        record {
          under_way = (moved.is_open, moved.under_way);
          columns = stands.columns;
          both = staged_both (state g old).now (state g new).now records stands.columns steps stands.both moved.tables;
          kept = kept_schedule stands.columns records steps stands.kept;
          sound = schedule_keeps_sound_for signs identity records steps stands.sound;
        },
      )

  -- an issuer
  pub issuer_leads : (old new : Held C) (head : FeedHead) (issuer : Issuer)
      → (IsInTransaction (state g old) → HasCleanDisk (state g new)
      → Moves (state g old) (state g new) (λ after. ReplacesIssuer issuer (state g old).now after × WritesRows (state g old).now after))
      → LeadsIf g signs identity (λ records. MayTakeHead head records issuer) old new (λ before after. MayTakeHead head before issuer × (after ≡ with_issuer before issuer))
  issuer_leads old new head issuer moves within clean records stands may =
      let moved = moves within clean in (
        with_issuer records issuer,
        (may, refl),
        record {
          under_way = (moved.is_open, moved.under_way);
          columns = stands.columns;
          both = moved.tables.0 records stands.columns (sym may.key) stands.both;
          kept = kept_issuer stands.columns records issuer stands.kept;
          sound = issuer_keeps_sound signs identity head records issuer may stands.sound;
        },
      )

  -- ---- a row, and a CRL

  -- the row that the register decides on is entered
  pub row_leads : (old mid new : Held C) (now : ℕ) (command : Command) (decided : Reply × Change) (row : FeedRow)
      → LooksUp g old mid (λ records. IsAcceptance now command records decided) → mid.in_transaction ≡ true → StepsWithin g mid new
      → (IsInTransaction (state g mid) → HasCleanDisk (state g new) → Moves (state g mid) (state g new) (Enters now decided.1 (state g mid).now))
      → command ≢ IssueCrl → ((records : Records) (moment : ℕ) → changed_by records moment decided.1 ≡ with_feed_row records moment row)
      → LeadsWithin g signs identity old new (λ before after. after ≡ with_feed_row before now row)
  row_leads old mid new now command decided row looks under stepped moves other same =
      leads_as old new
      (after_look_leads old mid new looks under stepped
      (entered_leads mid new now command decided.1 moves (λ records accepted sound. (decided.0, may_change records now command decided other accepted))))
      (λ before after is. is ∙ same before now)

  -- the CRL is entered whose octets are those that the records give
  pub crl_leads : {IsSo : Records → Type 0} (old mid new : Held C) (row : CrlRow) (next_update : ℕ) (der : Bor (List ℕ)) (bytes : List ℕ) → der.now ≡ bytes
      → LooksUp g old mid IsSo → mid.in_transaction ≡ true → StepsWithin g mid new
      → (IsInTransaction (state g mid) → HasCleanDisk (state g new) → Moves (state g mid) (state g new) (Enters row.this_update (NewCrl row der) (state g mid).now))
      → ((records : Records) → IsSo records → next_update ≡ row.this_update + records.policy.crl_life → MayBeNextCrl signs identity records row bytes)
      → LeadsIf g signs identity (λ records. IsNextOf records row.this_update (row, next_update)) old new
      (λ before after. after ≡ with_crl before row.this_update (record { number = row.number; this_update = row.this_update; bytes = bytes }))
  crl_leads {IsSo = IsSo} old mid new row next_update der bytes same looks under stepped moves may within clean records stands next =
      let entered_now : LeadsIf g signs identity (λ r. IsNextOf r row.this_update (row, next_update)) old new (λ before after. after ≡ changed_by before row.this_update (NewCrl row der)) =
      after_look_leads_if old mid new looks under stepped
      (changed_leads mid new row.this_update (NewCrl row der) moves
      (λ r it sound. next_keeps_sound signs identity r row next_update bytes der same it.0 sound (may r it.1 (next_of r row.this_update (row, next_update) it.0)))) in
      let (after, is, standing) = entered_now within clean records stands next in
      (after, is ∙ ap (λ octets. with_crl records row.this_update (record { number = row.number; this_update = row.this_update; bytes = octets })) same, standing)

-- what follows from the clause of a step that succeeds
pub ok_leads : {T E : Type 0} {First Second : T → Type 0} (result : Result T E) → IfOk result First → ((given : T) → First given → Second given) → IfOk result Second
ok_leads (Ok given) first follows = follows given first
ok_leads (Err fault) first follows = tt

-- the same, with a second clause of the step
pub ok_more : {T E A : Type 0} {First Second : T → Type 0} (result : Result T E) → OnOk result A → IfOk result First → ((given : T) → A → First given → Second given) → IfOk result Second
ok_more (Ok given) holds first follows = follows given holds first
ok_more (Err fault) holds first follows = tt

-- octets are a signed CRL, if they are those of its parts, with a signature in the form of one
pub has_signed_form : (forms : Identity → List ℕ → List ℕ → Type 0) (identity : Identity) (list : CertList) (signature tbs octets first second : List ℕ) → first ≡ identity.algorithm → second ≡ identity.algorithm
    → tbs ≡ tbs_of first list → octets ≡ certificate_list tbs second signature → forms identity tbs signature → signed_by forms identity list octets
has_signed_form forms identity list signature tbs octets first second first_is second_is tbs_is octets_are has =
    let made : tbs ≡ tbs_of identity.algorithm list = tbs_is ∙ ap (λ (algorithm : List ℕ). tbs_of algorithm list) first_is in
    (signature, subst (λ (t : List ℕ). forms identity t signature) made has, octets_are ∙ (λ i. certificate_list (made i) (second_is i) signature))

-- two calls that request no signature
pub untouched_then : {A B : Type 0} {old mid new : A} {old_other mid_other new_other : B} → (mid ≡ old) × (mid_other ≡ old_other) → (new ≡ mid) × (new_other ≡ mid_other) → (new ≡ old) × (new_other ≡ old_other)
untouched_then first second = (second.0 ∙ first.0, second.1 ∙ first.1)

-- what a step leads to on success, by a clause of it
pub ok_given : {T E A : Type 0} {Second : T → Type 0} (result : Result T E) → OnOk result A → ((given : T) → A → Second given) → IfOk result Second
ok_given (Ok given) holds follows = follows given holds
ok_given (Err fault) holds follows = tt

-- what a conditional step leads to
pub leads_if_as : {C : Type 0} (g : Ghosts C) (signs : Identity → List ℕ → List ℕ → Type 0) (identity : Identity) {May : Records → Type 0} {First Second : Records → Records → Type 0} (old new : Held C)
    → LeadsIf g signs identity May old new First → ((before after : Records) → First before after → Second before after) → LeadsIf g signs identity May old new Second
leads_if_as g signs identity old new leads follows within clean before stands may =
    let (after, made, standing) = leads within clean before stands may in
    (after, follows before after made, standing)
