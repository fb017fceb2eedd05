-- A transaction from its beginning to its end.
use Rattle.std.proofs.Common.{◌≡◌, ◌≤◌, true, Result, Ok, Err, IsErr, OnOk, OnErr, IsTrue, inr, sym, subst, ◌∙◌}
use Rattle.std.proofs.lemmas.Bool.{false≢true}
use Rattle.sqlite_trees.specs.Tree.{Trees}
use Rattle.sqlite_trees.specs.View.{doubt}
use Rattle.sqlite_trees.specs.declared.store.Store.{Ghosts}
use Rattle.sqlite.specs.Effect.{Database}
use Rattle.sqlite.specs.Held.{Held, state}
use Rattle.sqlite.specs.State.{State, HasCleanDisk, IsRolledBack, KeepsCommit, Survives}
use Rattle.sqlite.specs.declared.transaction.Transaction.{Transaction}
use Rattle.sqlite.proofs.Callers.{survives_begin}
use Rattle.sqlite.proofs.StateLemmas.{survives_then, survives_weaker}
use Rattle.reg_core.specs.Records.{Records}
use Rattle.reg_store_tables.specs.DerivedRows.{DerivedRows, office_days}
use Rattle.reg_store_tables.specs.Kept.{Kept, ShowsKept}
use Rattle.reg_store_tables.specs.Shows.{AreRecordsAndDerived, Holds, KeepsOfficeDays}
use Rattle.reg_store_tables.specs.Stays.{Changed, Looked, Moves, Stays, Stepped}
use Rattle.reg_store_tables.proofs.Staying.{stays_register, stays_then}
use Rattle.reg_store_tables.specs.Commits.{AreLed, Commits, Ends, IsMade}
use Rattle.reg_store_tables.proofs.Moving.{was_clean}
use Rattle.reg_store_tables.proofs.StopsAfterTransactions.{leaves_first, leaves_less}

-- what was begun was there before
module _ {S : Type 0} (g : Ghosts S) (was begun : Held S) (begins : begun ≡ record was { in_transaction = true }) where
  -- the disk was clean as the transaction began, if it is after a step
  pub clean_before : (entered : Held S) → doubt (state g begun).is_clean ≤ doubt (state g entered).is_clean → HasCleanDisk (state g entered) → HasCleanDisk (state g was)
  clean_before entered forgets clean = subst (λ h. HasCleanDisk (state g h)) begins (was_clean (state g begun) (state g entered) forgets clean)

  -- what is known of it once it is undone
  undone : (entered ended : State) → KeepsCommit (state g begun) entered → IsRolledBack entered ended → Stays (state g was) ended
  undone entered ended kept back =
      let same : IsTrue entered.is_open → entered.committed ≡ (state g was).committed = λ up. subst (λ h. entered.committed ≡ (state g h).committed) begins (kept.committed up) in
      record {
        was_open = λ clean up. subst (λ h. IsTrue (state g h).is_open) begins (kept.was_open (back.was_open up));
        now = λ clean up. inr ((back.undone up).0 ∙ same (back.was_open up));
        committed = λ clean up. (back.undone up).1 ∙ same (back.was_open up);
      }

-- an end, where the steps before it led to a database
module _ {S : Type 0} (g : Ghosts S) (was ended : Held S) (begun entered : Transaction S) (begins : begun.conn.now ≡ record was { in_transaction = true }) (stepped : Stepped g begun entered) (Leads : Database → Database → Type 0)
    (moved : HasCleanDisk (state g entered.conn.now) → Moves (state g begun.conn.now) (state g entered.conn.now) (Leads (state g begun.conn.now).now)) where
  entered_led : HasCleanDisk (state g entered.conn.now) → IsTrue (state g was).is_open × Leads (state g was).now (state g entered.conn.now).now
  entered_led clean =
      let P : Held S → Type 0 = λ h. IsTrue (state g h).is_open × Leads (state g h).now (state g entered.conn.now).now in
      subst P begins ((moved clean).was_open, (moved clean).tables)

  made_by : {E : Type 0} (r : Result (Unit {0}) E) → Ends g entered.conn.now ended r → HasCleanDisk (state g ended) → OnOk r (IsMade (state g was) (state g ended) Leads)
  made_by (Ok x) ends clean =
      let led = entered_led (was_clean (state g entered.conn.now) (state g ended) ends.survives.clean clean) in
      record {
        was_open = led.0;
        is_open = (ends.committed clean).is_open;
        saved = (ends.committed clean).now_is ∙ sym (ends.committed clean).committed_is;
        led = subst (Leads (state g was).now) (sym (ends.committed clean).now_is) led.1;
      }
  made_by (Err e) ends clean = tt

  stays_by : {E : Type 0} (r : Result (Unit {0}) E) → Ends g entered.conn.now ended r → OnErr r (Stays (state g was) (state g ended))
  stays_by (Ok x) ends = tt
  stays_by (Err e) ends =
      let mid : HasCleanDisk (state g ended) → HasCleanDisk (state g entered.conn.now) = was_clean (state g entered.conn.now) (state g ended) ends.survives.clean in
      let back : HasCleanDisk (state g ended) → Stays (state g was) (state g ended) = λ clean.
      undone g was begun.conn.now begins (state g entered.conn.now) (state g ended) (stepped.kept (mid clean)) (ends.undone clean (moved (mid clean)).under_way) in
      record { was_open = λ clean up. (back clean).was_open clean up; now = λ clean up. (back clean).now clean up; committed = λ clean up. (back clean).committed clean up }

  survives_by : {E : Type 0} (r : Result (Unit {0}) E) → Ends g entered.conn.now ended r → Survives (state g was) (state g ended) (AreLed (state g was) Leads)
  survives_by r ends =
      let P : Held S → Type 0 = λ h. Survives (state g h) (state g ended) (AreLed (state g was) Leads) in
      survives_begin g was (state g ended) (AreLed (state g was) Leads)
      (subst P begins
      (survives_then (state g begun.conn.now) (state g entered.conn.now) (state g ended) (λ _. ⊥) (λ trees. trees ≡ (state g entered.conn.now).now.trees) (AreLed (state g was) Leads)
      (λ clean trees none. absurd none)
      (λ clean trees is. let led = entered_led (was_clean (state g entered.conn.now) (state g ended) ends.survives.clean clean) in (led.0, (state g entered.conn.now).now, is, led.1))
      stepped.survives ends.survives))

  pub commits : {E : Type 0} (back : Held S) (r : Result (Unit {0}) E) → Ends g entered.conn.now ended r → ended ≡ back → Commits g was back r Leads
  commits back r ends same =
      let P : Held S → Type 0 = λ h. Commits g was h r Leads in
      subst P same (record { made = made_by r ends; stays = stays_by r ends; survives = survives_by r ends })

-- what a transaction does to what is known of the tables before it
module _ {S T E : Type 0} {g : Ghosts S} {old new : Held S} {r : Result T E} {Leads : Database → Database → Type 0} (commits : Commits g old new r Leads) where
  clean_old : HasCleanDisk (state g new) → HasCleanDisk (state g old)
  clean_old = was_clean (state g old) (state g new) commits.survives.clean

  pub lives : HasCleanDisk (state g new) → OnOk r (IsTrue (state g new).is_open)
  lives clean = go r (commits.made clean)
    where
      go : (r : Result T E) → OnOk r (IsMade (state g old) (state g new) Leads) → OnOk r (IsTrue (state g new).is_open)
      go (Ok x) made = made.is_open
      go (Err e) made = tt

  -- what the database before leads to, of which this held
  pub led : (P : Database → Type 0) → Holds g old P → {X : Type 0} → HasCleanDisk (state g new) → ((after : Database) → P (state g old).now → Leads (state g old).now after → X) → OnOk r X
  led P holds {X} clean leads = go r (commits.made clean)
    where
      go : (r : Result T E) → OnOk r (IsMade (state g old) (state g new) Leads) → OnOk r X
      go (Ok x) made = leads (state g new).now (holds.tables (clean_old clean) made.was_open) made.led
      go (Err e) made = tt

  -- of the tables holds what follows from what held
  pub turns : (P Q : Database → Type 0) → Holds g old P → (HasCleanDisk (state g new) → (before after : Database) → P before → Leads before after → Q after) → OnOk r (Holds g new Q)
  turns P Q holds leads = go r commits.made
    where
      go : (r : Result T E) → (HasCleanDisk (state g new) → OnOk r (IsMade (state g old) (state g new) Leads)) → OnOk r (Holds g new Q)
      go (Ok x) made = record {
        saved = λ clean up. (made clean).saved;
        tables = λ clean up. leads clean (state g old).now (state g new).now (holds.tables (clean_old clean) (made clean).was_open) (made clean).led;
      }
      go (Err e) made = tt

  -- the records are shown that follow from those that were, and what is kept stands for them
  pub keeps : (records later : Records) (columns others known : DerivedRows)
      → Holds g old (λ db. AreRecordsAndDerived db records columns) → (HasCleanDisk (state g new) → (before after : Database) → AreRecordsAndDerived before records columns → Leads before after → AreRecordsAndDerived after later others)
      → (HasCleanDisk (state g new) → others ≡ known) → Kept known later → OnOk r (ShowsKept g new later)
  keeps records later columns others known holds leads same stands = go r (turns (λ db. AreRecordsAndDerived db records columns) (λ db. AreRecordsAndDerived db later known) holds
      (λ clean before after both on. subst (λ k. AreRecordsAndDerived after later k) (same clean) (leads clean before after both on)))
    where
      go : (r : Result T E) → OnOk r (Holds g new (λ db. AreRecordsAndDerived db later known)) → OnOk r (ShowsKept g new later)
      go (Ok x) both = (known, both, stands)
      go (Err e) both = tt

  -- a stop finds rows of what follows
  pub left : (Made : Trees → Type 0) → (HasCleanDisk (state g old) → IsTrue (state g old).is_open → (after : Database) (trees : Trees) → trees ≡ after.trees → Leads (state g old).now after → Made trees)
      → Survives (state g old) (state g new) Made
  left Made makes = survives_weaker (state g old) (state g new) (AreLed (state g old) Leads) Made (λ clean trees led. makes (clean_old clean) led.0 led.1 trees led.2 led.3) commits.survives

  -- so does what is known of the change
  pub changes : (Made : Trees → Type 0) → (HasCleanDisk (state g old) → IsTrue (state g old).is_open → (after : Database) (trees : Trees) → trees ≡ after.trees → Leads (state g old).now after → Made trees)
      → Changed g old new Made r
  changes Made makes = record { live = lives; err = λ _. commits.stays; survives = left Made makes }

  -- the office keeps its days
  pub keeps_days : (P : Database → Type 0) → Holds g old P → (HasCleanDisk (state g new) → (before after : Database) → P before → Leads before after → office_days (after.trees 0) ≡ office_days (before.trees 0))
      → OnOk r (KeepsOfficeDays g old new)
  keeps_days P holds leads = go r commits.made
    where
      go : (r : Result T E) → (HasCleanDisk (state g new) → OnOk r (IsMade (state g old) (state g new) Leads)) → OnOk r (KeepsOfficeDays g old new)
      go (Ok x) made = λ days has. record {
        saved = λ clean up. (made clean).saved;
        tables = λ clean up.
            let first = clean_old clean in
            leads clean (state g old).now (state g new).now (holds.tables first (made clean).was_open) (made clean).led ∙ has.tables first (made clean).was_open;
      }
      go (Err e) made = tt

-- a change after look-ups
pub looked_changes : {S T E : Type 0} {g : Ghosts S} {a b c : Held S} {Made : Trees → Type 0} (r : Result T E) → Looked g a b → Changed g b c Made r → Changed g a c Made r
looked_changes {T = T} {E = E} {g = g} {a = a} {b = b} {c = c} {Made = Made} r looked changed = record {
  live = changed.live;
  err = λ register.
      let first = looked.same register in
      go r first (changed.err (stays_register (state g a) (state g b) looked.survives.clean first register));
  survives = leaves_first (state g a) (state g b) (state g c) Made looked.survives changed.survives;
}
  where
    go : (r : Result T E) → Stays (state g a) (state g b) → OnErr r (Stays (state g b) (state g c)) → OnErr r (Stays (state g a) (state g c))
    go (Ok x) first second = tt
    go (Err e) first second = stays_then (state g a) (state g b) (state g c) changed.survives.clean first second

-- look-ups after which nothing is changed
pub looked_fails : {S T E : Type 0} {g : Ghosts S} {a b : Held S} {Made : Trees → Type 0} (r : Result T E) → IsErr r → Looked g a b → Changed g a b Made r
looked_fails (Ok x) is looked = absurd (false≢true is)
looked_fails {g = g} {a = a} {b = b} {Made = Made} (Err e) is looked =
    record { live = λ clean. tt; err = looked.same; survives = leaves_less (state g a) (state g b) Made looked.survives }
