-- What a stop leaves, from call to call.
use Rattle.std.specs.Prelude.{IfSome, IsFalse, IsSomeAnd}
use Rattle.std.proofs.Common.{◌≡◌, ◌⊎◌, inl, inr, ℕ, List, [], length, pos, Option, Some, None, Result, Ok, Err, IsTrue, refl, sym, ap, subst, ◌∙◌, arith}
use Rattle.std.proofs.lemmas.Bool.{cases_Bool, false_from_ne_true, true≢false}
use Rattle.std.proofs.lemmas.List.Sorted.{IsPermutation-refl}
use Rattle.sqlite_catalog.proofs.ReadLemmas.{lists_once}
use Rattle.sqlite_catalog.specs.Listing.{IsSound}
use Rattle.sqlite_schema.specs.declared.schema.Schema.{Schema}
use Rattle.sqlite_trees.specs.Objects.{catalog_tree}
use Rattle.sqlite_trees.specs.Tree.{Trees}
use Rattle.sqlite_trees.specs.declared.store.Store.{Ghosts}
use Rattle.sqlite.specs.Held.{Held, state}
use Rattle.sqlite.specs.Effect.{Database}
use Rattle.sqlite.specs.State.{HasCleanDisk, IsLive, Opens, Survives}
use Rattle.reg_core.specs.Crls.{CertList}
use Rattle.reg_core.specs.Issuer.{Issuer}
use Rattle.reg_core.specs.Policy.{Terms}
use Rattle.reg_core.specs.Records.{Records, no_records}
use Rattle.reg_core.specs.Status.{counts as counts_at}
use Rattle.reg_core.specs.Step.{StepBy}
use Rattle.reg_core.specs.declared.command.Command.{Command}
use Rattle.reg_core.specs.declared.command.Reply.{Reply}
use Rattle.reg_core.specs.declared.refusal.Fault.{Fault}
use Rattle.reg_core.specs.declared.refusal.Fault.TheVariants.{Refused, Memory, Store, Signer, Read, Write}
use Rattle.reg_core.specs.declared.refusal.Refusal.{Refusal}
use Rattle.reg_crl.specs.Signing.{Identity, signed_by}
use Rattle.reg_core_laws.specs.Run.{Happens}
use Rattle.reg_core_laws.proofs.PublicLaws.{Stays, Changes, created_sound, outcome_of, step_grows}
use Rattle.reg_store.proofs.PublicLaws.{at_rest, live_at_rest}
use Rattle.reg_store_tables.specs.Kept.{ShowsKept}
use Rattle.reg_store_tables.specs.Schema.{no_schema, register_schema}
use Rattle.reg_store_tables.specs.Shows.{Shows}
use Rattle.reg_store_tables.specs.Stays.{Changed, IsRegister, Looked, Stays as KeepsTables}
use Rattle.reg_store_tables.specs.AfterStop.{ShowsDerivedAfterStop}
use Rattle.reg_store_tables.proofs.PublicLaws.{kept_shows, was_clean as clean_first}
use Rattle.reg_office.specs.AfterStoppedCommand.{ChangingCall, Does, IsCallDone, LeavesThese, LeavesReported, command_call}
use Rattle.reg_office.specs.Calls.{MayInterrupt}
use Rattle.reg_office.specs.Stands.{HasOutcome, Stands}
use Rattle.reg_office.proofs.Following.{created_sound_for}
use Rattle.reg_office.proofs.Stopping.{Settles}

-- a fault or a refusal leaves the records
pub records_left : (signed : CertList → List ℕ → Type 0) (records : Records) (now : ℕ) (command : Command) (fault : Fault) (after : Records)
    → Happens signed records now command (Err fault) after → after ≡ records
records_left signed records now command fault after happens = elim (outcome_of signed records now command (Err fault) after happens) [
  | Stays why is same ↦ same
  | Changes bytes passed is signs same ↦ (let bad : ⊥ = cc in absurd bad)
]

-- a command that is refused is not accepted over the same records
not_both : (signed : CertList → List ℕ → Type 0) (records : Records) (now : ℕ) (command : Command) (why : Refusal) (reply : Reply) (after other : Records)
    → Happens signed records now command (Err (Refused why)) after → Happens signed records now command (Ok reply) other → ⊥
not_both signed records now command why reply after other refused accepted = elim (outcome_of signed records now command (Ok reply) other accepted) [
  | Stays fault is same ↦ (let bad : ⊥ = cc in bad)
  | Changes bytes passed is signs same ↦
      let step : StepBy signed None records now command (Err (Refused why)) after =
      subst (λ (refusal : Option Refusal). StepBy signed refusal records now command (Err (Refused why)) after) passed refused in
      (let bad : ⊥ = cc step.1 in bad)
]

-- ---- a closed connection

-- a policy that allows no row, and records under it, which no register's tables show
abbrev no_room : Terms
no_room = record { schedule = []; crl_life = 0; ocsp_life = 0; cap = 0 }

abbrev pub unshown : Issuer → Records
unshown issuer = no_records issuer no_room

-- the tables of a register don't show them
pub not_left : (trees : Trees) (records : Records) → records.policy.cap ≡ 0 → ShowsDerivedAfterStop records trees → ⊥
not_left trees records none rests = omega (arith, rests.1.shown.rows.policy.cap.0, none)

module _ {C : Type 0} (g : Ghosts C) where
  pub not_open : (held : Held C) (records : Records) → records.policy.cap ≡ 0 → ShowsKept g held records → HasCleanDisk (state g held)
      → IsFalse (state g held).is_open
  not_open held records none shown clean =
      false_from_ne_true (state g held).is_open (λ up. omega (arith, (shown.1.tables clean up).shown.rows.policy.cap.0, none))

  pub not_closed : (held : Held C) → IsTrue (state g held).is_open → IsFalse (state g held).is_open → ⊥
  not_closed held up closed = true≢false (sym up ∙ closed)

  -- a connection that is closed stays closed
  stays_closed : (old new : Held C) → (IsRegister (state g old) → KeepsTables (state g old) (state g new))
      → IsFalse (state g old).is_open → HasCleanDisk (state g new) → IsFalse (state g new).is_open
  stays_closed old new stays closed clean =
      let any : IsRegister (state g old) = record {
        now = λ was up. absurd (not_closed old up closed);
        committed = λ was up. absurd (not_closed old up closed);
      } in
      false_from_ne_true (state g new).is_open (λ up. not_closed old ((stays any).was_open clean up) closed)

-- a refusal interrupts nothing
pub by_refusal : (T : Type 0) (first : Option ChangingCall) (it : ChangingCall) (why : Refusal) → MayInterrupt {T = T} first it (Err (Refused why)) first
by_refusal T None it why = refl
by_refusal T (Some call) it why = (refl, refl)

-- what holds if a call was interrupted
if_some : (interrupted : Option ChangingCall) (P Q : Type 0) → (P → Q) → IfSome interrupted (λ call. P) → IfSome interrupted (λ call. Q)
if_some None P Q follows holds = tt
if_some (Some call) P Q follows holds = follows holds

module _ {C : Type 0} (g : Ghosts C) (signs : Identity → List ℕ → List ℕ → Type 0) (identity : Identity) where
  -- any records stand where nothing is shown
  pub stands_closed : (held : Held C) (issuer : Issuer) → IsFalse (state g held).is_open → Stands g signs held identity (unshown issuer)
  stands_closed held issuer closed = record {
    shown = (
      record { letters = []; counts = counts_at (unshown issuer) 0; listed = []; days = pos 0 },
      record { saved = λ clean up. absurd (not_closed g held up closed); tables = λ clean up. absurd (not_closed g held up closed) },
      record { letters = IsPermutation-refl []; counts = refl; listed = IsPermutation-refl [] },
    );
    sound = created_sound_for signs identity issuer no_room;
  }

  -- a command that is accepted leaves the policy
  same_room : (issuer : Issuer) (now : ℕ) (command : Command) (reply : Reply) (after : Records)
      → Happens (signed_by signs identity) (unshown issuer) now command (Ok reply) after → after.policy.cap ≡ 0
  same_room issuer now command reply after happens =
      let signed = signed_by signs identity in
      ap (λ (policy : Terms). policy.cap)
      (step_grows signed (unshown issuer) now command (Ok reply) after (created_sound signed issuer no_room) happens).policy

  -- so over a closed connection a stop finds no command
  undone : (held : Held C) (issuer : Issuer) (now : ℕ) (command : Command) (trees : Trees) → IsFalse (state g held).is_open
      → Does g signs held identity now command trees → ⊥
  undone held issuer now command trees closed does =
      let it = does (unshown issuer) (stands_closed held issuer closed) in
      not_left trees it.after (same_room issuer now command it.answer it.after it.happens) it.rests

  -- and none is accepted
  unaccepted : (old new : Held C) (issuer : Issuer) (now : ℕ) (command : Command) (reply : Reply)
      → ((records : Records) → Stands g signs old identity records → HasCleanDisk (state g new) → HasOutcome g signs new identity records now command (Ok reply))
      → IsFalse (state g old).is_open → IsTrue (state g new).is_open → HasCleanDisk (state g new) → ⊥
  unaccepted old new issuer now command reply step closed up clean =
      let it = step (unshown issuer) (stands_closed old issuer closed) clean in
      not_closed g new up (not_open g new it.after (same_room issuer now command reply it.after it.happens) it.stands.shown clean)

  -- ---- a call

  -- a call that makes no change which a stop could find
  pub leaves_kept : (old new : Held C) (records : Records) (interrupted : Option ChangingCall) (Made : Trees → Type 0)
      → Survives (state g old) (state g new) Made → (HasCleanDisk (state g new) → (trees : Trees) → Made trees → ⊥)
      → (IsRegister (state g old) → KeepsTables (state g old) (state g new))
      → LeavesReported g signs old identity records interrupted → LeavesReported g signs new identity records interrupted
  leaves_kept old new records interrupted Made survives none stays left =
      let was : HasCleanDisk (state g new) → HasCleanDisk (state g old) = clean_first (state g old) (state g new) survives.clean in
      record {
        closed = λ clean. if_some interrupted (IsFalse (state g old).is_open) (IsFalse (state g new).is_open) (λ closed. stays_closed g old new stays closed clean) (left.closed (was clean));
        leaves = λ clean trees may register. elim (survives.crash clean trees may) [
          | inl before ↦ left.leaves (was clean) trees before register
          | inr made ↦ absurd (none clean trees made)
        ];
      }

  -- a look-up
  pub leaves_looked : (old new : Held C) (records : Records) (interrupted : Option ChangingCall) → Looked g old new
      → LeavesReported g signs old identity records interrupted → LeavesReported g signs new identity records interrupted
  leaves_looked old new records interrupted looked =
      leaves_kept old new records interrupted (λ trees. ⊥) looked.survives (λ clean trees made. made) looked.same

  -- a call that left the connection open, over records that are shown
  pub leaves_settled : (held : Held C) (records : Records) → Settles g → (HasCleanDisk (state g held) → IsTrue (state g held).is_open)
      → ShowsKept g held records → LeavesReported g signs held identity records None
  leaves_settled held records settles up shown = record {
    closed = λ clean. tt;
    leaves = λ clean trees may register. inl (at_rest g held records trees clean (up clean) shown register (settles held trees (up clean) may));
  }

  -- a call that failed, where none was interrupted before
  pub leaves_failed : (it : ChangingCall) (old new : Held C) (records : Records) (Made : Trees → Type 0) → Settles g
      → Survives (state g old) (state g new) Made → ((trees : Trees) → Made trees → IsCallDone signs identity records it trees)
      → ShowsKept g new records → LeavesReported g signs old identity records None
      → (last : Option ChangingCall) × LeavesReported g signs new identity records last × ((last ≡ None) ⊎ (last ≡ Some it))
  leaves_failed it old new records Made settles survives done shown left = elim (cases_Bool (state g new).is_open) [
    | inl up ↦ (None, leaves_settled new records settles (λ clean. up) shown, inl refl)
    | inr closed ↦ (
      Some it,
      record {
        closed = λ clean. closed;
        leaves = λ clean trees may register. elim (survives.crash clean trees may) [
          | inl before ↦ elim (left.leaves (clean_first (state g old) (state g new) survives.clean clean) trees before register) [
            | inl rests ↦ inl rests
            | inr none ↦ absurd none
          ]
          | inr made ↦ inr (done trees made)
        ];
      },
      inr refl,
    )
  ]

  -- ---- a command

  module _ (old new : Held C) (before after : Records) (now : ℕ) (command : Command) (settles : Settles g)
      (stood : Stands g signs old identity before) (stands : Stands g signs new identity after) (clean : HasCleanDisk (state g new)) where
    abbrev It : ChangingCall
    It = command_call now command

    abbrev Makes : Result Reply Fault → Type 0
    Makes outcome = Changed g old new (Does g signs old identity now command) outcome

    abbrev Runs : Result Reply Fault → Type 0
    Runs outcome = (records : Records) → Stands g signs old identity records → HasCleanDisk (state g new) → HasOutcome g signs new identity records now command outcome

    abbrev Came : Result Reply Fault → Type 0
    Came outcome = Happens (signed_by signs identity) before now command outcome after

    abbrev Leaves : Option ChangingCall → Result Reply Fault → Type 0
    Leaves first outcome = (last : Option ChangingCall) × LeavesReported g signs new identity after last × MayInterrupt first It outcome last

    -- it was accepted
    accepted : (reply : Reply) (first : Option ChangingCall) → Makes (Ok reply) → Runs (Ok reply) → LeavesReported g signs old identity before first
        → Leaves first (Ok reply)
    accepted reply None makes runs left = (None, leaves_settled new after settles makes.live stands.shown, refl)
    accepted reply (Some call) makes runs left =
        absurd (unaccepted old new before.issuer now command reply runs (left.closed (clean_first (state g old) (state g new) makes.survives.clean clean)) (makes.live clean) clean)

    -- the records are those before
    over : (fault : Fault) (last : Option ChangingCall) → Came (Err fault) → LeavesReported g signs new identity before last → LeavesReported g signs new identity after last
    over fault last came =
        subst (λ (r : Records). LeavesReported g signs new identity r last) (sym (records_left (signed_by signs identity) before now command fault after came))

    -- it was refused
    refused : (why : Refusal) (first : Option ChangingCall) → Makes (Err (Refused why)) → Came (Err (Refused why)) → LeavesReported g signs old identity before first
        → Leaves first (Err (Refused why))
    refused why first makes came left = (
      first,
      over (Refused why) first came
          (leaves_kept old new before first (Does g signs old identity now command) makes.survives
          (λ clean trees does.
          let done = does before stood in
          not_both (signed_by signs identity) before now command why done.answer after done.after came done.happens)
          makes.err left),
      by_refusal Reply first It why,
    )

    -- a fault
    failed : (fault : Fault) (first : Option ChangingCall)
        → ((last : Option ChangingCall) → (last ≡ None) ⊎ (last ≡ Some It) → MayInterrupt {T = Reply} None It (Err fault) last)
        → Makes (Err fault) → Came (Err fault) → LeavesReported g signs old identity before first → Leaves first (Err fault)
    failed fault None meets makes came left =
        let same = records_left (signed_by signs identity) before now command fault after came in
        let (last, leaves, which) = leaves_failed It old new before (Does g signs old identity now command) settles makes.survives (λ trees does. does before stood)
        (subst (λ (r : Records). ShowsKept g new r) same stands.shown) left in
        (last, over fault last came leaves, meets last which)
    failed fault (Some call) meets makes came left =
        let closed = left.closed (clean_first (state g old) (state g new) makes.survives.clean clean) in (
          Some call,
          over fault (Some call) came
              (leaves_kept old new before (Some call) (Does g signs old identity now command) makes.survives
              (λ clean trees does. undone old before.issuer now command trees closed does) makes.err left),
          (refl, refl),
        )

    pub leaves_done : (first : Option ChangingCall) (outcome : Result Reply Fault) → Makes outcome → Runs outcome → Came outcome
        → LeavesReported g signs old identity before first → Leaves first outcome
    leaves_done first (Ok reply) makes runs came left = accepted reply first makes runs left
    leaves_done first (Err (Refused why)) makes runs came left = refused why first makes came left
    leaves_done first (Err Memory) makes runs came left = failed Memory first (λ last which. which) makes came left
    leaves_done first (Err Store) makes runs came left = failed Store first (λ last which. which) makes came left
    leaves_done first (Err Signer) makes runs came left = failed Signer first (λ last which. which) makes came left
    leaves_done first (Err Read) makes runs came left = failed Read first (λ last which. which) makes came left
    leaves_done first (Err Write) makes runs came left = failed Write first (λ last which. which) makes came left

-- ---- what was there before the first call

-- no rows list a register's tables and no table
no_register : (trees : Trees) → IsSound no_schema trees → IsSound register_schema trees → ⊥
unfolding register_schema
no_register trees none its =
    let same : no_schema ≡ register_schema = lists_once (trees catalog_tree) no_schema register_schema none.lists its.lists in
    let wrong : 0 ≡ 11 = ap (λ (schema : Schema). length schema.tables) same in
    absurd (omega (arith, wrong))

module _ {C : Type 0} (g : Ghosts C) (connection held : Held C) (records : Records) (Made : Trees → Type 0) (settles : Settles g)
    (whole : HasCleanDisk (state g connection) → Opens (state g connection) × IsLive (state g connection))
    (survives : Survives (state g connection) (state g held) Made) where
  -- the disk was clean then
  was_clean : HasCleanDisk (state g held) → HasCleanDisk (state g connection)
  was_clean = clean_first (state g connection) (state g held) survives.clean

  -- a register that was opened, where its tables were not made anew
  pub leaves_opened : ShowsKept g connection records
      → ((trees : Trees) → HasCleanDisk (state g connection) → IsTrue (state g connection).is_open → Shows g connection records
      → (trees ≡ (state g connection).committed.trees) ⊎ Made trees → trees ≡ (state g connection).committed.trees)
      → LeavesThese g held records
  leaves_opened kept untouched clean trees may =
      let was = was_clean clean in
      let (opens, live) = whole was in
      let found : (trees ≡ (state g connection).committed.trees) ⊎ Made trees = elim (survives.crash clean trees may) [
        | inl before ↦ inl (settles connection trees opens.is_open before)
        | inr made ↦ inr made
      ] in
      live_at_rest g connection records trees was opens.is_open kept live (untouched trees was opens.is_open (kept_shows g connection records kept) found)

  -- a register that was made where there was no table
  pub leaves_made : (signs : Identity → List ℕ → List ℕ → Type 0) (identity : Identity) → connection.schema ≡ no_schema
      → ((trees : Trees) → Made trees → ShowsDerivedAfterStop records trees) → LeavesReported g signs held identity records None
  leaves_made signs identity empty makes = record {
    closed = λ clean. tt;
    leaves = λ clean trees may register. elim (survives.crash clean trees may) [
      | inl before ↦ (
          let (opens, live) = whole (was_clean clean) in
          let is = settles connection trees opens.is_open before in
          let none : (state g connection).committed.schema ≡ no_schema = sym (ap (λ (db : Database). db.schema) opens.clean) ∙ empty in
          let sound : IsSound (state g connection).committed.schema trees = subst (λ (t : Trees). IsSound (state g connection).committed.schema t) (sym is) (live opens.is_open).1 in
          absurd (no_register trees (subst (λ (schema : Schema). IsSound schema trees) none sound) register))
      | inr made ↦ inl (makes trees made)
    ];
  }
