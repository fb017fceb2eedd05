-- What a query leaves: nothing has changed, or a failure has undone a transaction.
use Rattle.std.specs.Prelude.{OnOk}
use Rattle.std.specs.Option.{ok_or, IfSome}
use Rattle.std.proofs.Common.{◌≡◌, ◌≤◌, ◌⊎◌, inl, inr, true, false, ℕ, List, Option, None, Some, Ok, Err, IfOk, Result, IsTrue, refl, sym, ap, subst, ◌∙◌, arith}
use Rattle.std.proofs.lemmas.Bool.{cases_Bool, false≢true}
use Rattle.sqlite_value.specs.Order.{Row}
use Rattle.sqlite_trees.specs.Tree.{Trees}
use Rattle.sqlite_trees.specs.View.{doubt}
use Rattle.sqlite_trees.specs.declared.store.Store.{Ghosts}
use Rattle.sqlite_schema.specs.declared.command.Returning.{Returning}
use Rattle.sqlite_resolve.specs.declared.compiled.Compiled.{Compiled}
use Rattle.sqlite.specs.declared.error.Error.{Error}
use Rattle.sqlite.specs.declared.transaction.Transaction.{Transaction}
use Rattle.sqlite.specs.Effect.{Database}
use Rattle.sqlite.specs.Given.{IsPlain}
use Rattle.sqlite.specs.Held.{Held, state}
use Rattle.sqlite.specs.Listing.{understood}
use Rattle.sqlite.specs.State.{State, HasCleanDisk, Survives, CommitsShowing, IsUnchanged, IsRolledBack, IsNotRun, FailsToQuery, FailsToShow, ShowsRows, Shown, RunsCommand}
use Rattle.sqlite.proofs.Callers.{reads_as}
use Rattle.sqlite.proofs.StateLemmas.{survives_then, survives_weaker}
use Rattle.reg_store_tables.specs.Schema.{register_schema}
use Rattle.reg_store_tables.specs.ReadStatements.{Answers, IsReading, NeverReturns, command_of}
use Rattle.reg_core.specs.Records.{Records}
use Rattle.reg_store_tables.specs.DerivedRows.{DerivedRows}
use Rattle.reg_store_tables.specs.Shows.{Holds, HoldsUntil, Shows, ShowsBoth, ShowsBothNow, ShowsUntil, IsShownBy, AreRecordsAndDerived}
use Rattle.reg_store_tables.specs.Kept.{ShowsKept, ShowsKeptUntil}
use Rattle.reg_store_tables.specs.Stays.{HasSchema, IsRegister, IsSame, Stays, LeavesNothing, Looked, Stepped}

abbrev pub Remains : State → State → Type 0
Remains old new = IsUnchanged old new ⊎ IsRolledBack old new

pub remains_open : (old new : State) → Remains old new → IsTrue new.is_open → IsTrue old.is_open
remains_open old new (inl same) open_new = same.0.was_open
remains_open old new (inr back) open_new = back.was_open open_new

remains_now : (old new : State) → Remains old new → IsTrue new.is_open → (new.now ≡ old.now) ⊎ (new.now ≡ old.committed)
remains_now old new (inl same) open_new = inl same.0.now_is
remains_now old new (inr back) open_new = inr (back.undone open_new).0

pub remains_committed : (old new : State) → Remains old new → IsTrue new.is_open → new.committed ≡ old.committed
remains_committed old new (inl same) open_new = same.0.committed_is
remains_committed old new (inr back) open_new = (back.undone open_new).1

pub stays_by : (old new : State) → (HasCleanDisk new → Remains old new) → Stays old new
stays_by old new remains = record {
  was_open = λ clean up. remains_open old new (remains clean) up;
  now = λ clean up. remains_now old new (remains clean) up;
  committed = λ clean up. remains_committed old new (remains clean) up;
}

pub not_run_remains : (old new : State) (sql : List ℕ) (params : Row) (e : Error) → IsNotRun old new sql params e → Remains old new
unfolding IsNotRun
not_run_remains old new sql params e (inl h) = inl h.1
not_run_remains old new sql params e (inr h) = inr h.3

pub ran_remains : (old new : State) (sql : List ℕ) (c : Compiled) (params : Row) (e : Error) → RunsCommand old new sql c params (Err e) → Remains old new
ran_remains old new sql c params e (inl h) = inl h.1
ran_remains old new sql c params e (inr h) = inr h.3

shows_remains : (old new : State) (sql : List ℕ) (c : Compiled) (params : Row) (e : Error) (returning : Option Returning) → FailsToShow old new sql c params e returning → Remains old new
shows_remains old new sql c params e None h = inl h.3
shows_remains old new sql c params e (Some what) h = ran_remains old new sql c params e h

pub fails_remains : (old new : State) (sql : List ℕ) (params : Row) (e : Error) → FailsToQuery sql params old new e → Remains old new
unfolding FailsToQuery
fails_remains old new sql params e (inl h) = not_run_remains old new sql params e h
fails_remains old new sql params e (inr h) = shows_remains old new sql h.0 _ e _ h.2

pub fails_stays : (old new : State) (sql : List ℕ) (params : Row) (e : Error) → (HasCleanDisk new → FailsToQuery sql params old new e) → Stays old new
fails_stays old new sql params e fails = stays_by old new (λ clean. fails_remains old new sql params e (fails clean))

-- an answer is given by an open connection
rows_open : (old new : State) (sql : List ℕ) (c : Compiled) (params : Row) (rows : List Row) (returning : Option Returning) → ShowsRows old new sql c params rows returning → IsTrue old.is_open
rows_open old new sql c params rows None h = h.3.0.was_open
rows_open old new sql c params rows (Some what) h = h.1.shown.was_open

pub shown_open : (old new : State) (sql : List ℕ) (params : Row) (rows : List Row) → Shown sql params old new rows → IsTrue old.is_open
unfolding Shown
shown_open old new sql params rows h = rows_open old new sql h.0 _ rows _ h.2

pub rows_same : (old new : State) (sql : List ℕ) (c : Compiled) (params : Row) (rows : List Row) (returning : Option Returning) → returning ≡ None → ShowsRows old new sql c params rows returning → IsUnchanged old new
rows_same old new sql c params rows None none h = h.3
rows_same old new sql c params rows (Some what) none h = absurd (cc)

pub shown_same : (old new : State) (sql : List ℕ) (params : Row) (rows : List Row) → IsPlain (understood old.now.schema sql) → Shown sql params old new rows → IsUnchanged old new
unfolding Shown
shown_same old new sql params rows plain h = rows_same old new sql h.0 _ rows _ (subst IsPlain h.1.is plain).0 h.2

was_clean : (old new : State) → doubt old.is_clean ≤ doubt new.is_clean → HasCleanDisk new → HasCleanDisk old
was_clean old new forgets clean = omega arith

schema_was : (old new : State) → doubt old.is_clean ≤ doubt new.is_clean → HasSchema old → (sql : List ℕ) (params : Row) (rows : List Row) → HasCleanDisk new → Shown sql params old new rows → old.now.schema ≡ register_schema
schema_was old new forgets schema sql params rows clean shown = schema (was_clean old new forgets clean) (shown_open old new sql params rows shown)

shown_unchanged : (old new : State) → doubt old.is_clean ≤ doubt new.is_clean → HasSchema old → (sql : List ℕ) (params : Row) (rows : List Row) → IsReading sql → HasCleanDisk new → Shown sql params old new rows → IsUnchanged old new
shown_unchanged old new forgets is sql params rows reading clean shown =
    let schema : old.now.schema ≡ register_schema = schema_was old new forgets is sql params rows clean shown in
    shown_same old new sql params rows (subst (λ s. IsPlain (understood s sql)) (sym schema) reading.plain) shown

pub shown_stays : (old new : State) → doubt old.is_clean ≤ doubt new.is_clean → IsRegister old → (sql : List ℕ) (params : Row) (rows : List Row) → IsReading sql → (HasCleanDisk new → Shown sql params old new rows) → Stays old new
shown_stays old new forgets register sql params rows reading shown = stays_by old new (λ clean. inl (shown_unchanged old new forgets register.now sql params rows reading clean (shown clean)))

-- in a transaction that is still under way, nothing has changed
remains_within : (old new : State) → Remains old new → new.in_transaction ≡ true → IsSame old new
remains_within old new (inl same) under = record { was_open = same.0.was_open; now = same.0.now_is; committed = same.0.committed_is }
remains_within old new (inr back) under = absurd (false≢true (sym back.autocommit ∙ under))

-- and the connection is open
pub remains_opens : (old new : State) → Remains old new → new.in_transaction ≡ true → IsTrue new.is_open
remains_opens old new (inl same) under = same.0.is_open
remains_opens old new (inr back) under = absurd (false≢true (sym back.autocommit ∙ under))

rows_opens : (old new : State) (sql : List ℕ) (c : Compiled) (params : Row) (rows : List Row) (returning : Option Returning) → ShowsRows old new sql c params rows returning → IsTrue new.is_open
rows_opens old new sql c params rows None h = h.3.0.is_open
rows_opens old new sql c params rows (Some what) h = h.1.shown.is_open

pub shown_opens : (old new : State) (sql : List ℕ) (params : Row) (rows : List Row) → Shown sql params old new rows → IsTrue new.is_open
unfolding Shown
shown_opens old new sql params rows h = rows_opens old new sql h.0 _ rows _ h.2

pub fails_within : (old new : State) (sql : List ℕ) (params : Row) (e : Error) → FailsToQuery sql params old new e → new.in_transaction ≡ true → IsSame old new
fails_within old new sql params e fails = remains_within old new (fails_remains old new sql params e fails)

pub shown_within : (old new : State) → doubt old.is_clean ≤ doubt new.is_clean → HasSchema old → (sql : List ℕ) (params : Row) (rows : List Row) → IsReading sql → HasCleanDisk new → Shown sql params old new rows → IsSame old new
shown_within old new forgets is sql params rows reading clean shown =
    let same = shown_unchanged old new forgets is sql params rows reading clean shown in
    record { was_open = same.0.was_open; now = same.0.now_is; committed = same.0.committed_is }

pub shown_answers : (old new : State) → doubt old.is_clean ≤ doubt new.is_clean → HasSchema old → (sql : List ℕ) (params : Row) (rows : List Row) → IsReading sql → HasCleanDisk new → Shown sql params old new rows
    → Answers old sql params rows
shown_answers old new forgets is sql params rows reading clean shown =
    let schema : old.now.schema ≡ register_schema = schema_was old new forgets is sql params rows clean shown in
    record {
      is_open = shown_open old new sql params rows shown;
      reads = reads_as sql params old new register_schema schema (command_of (understood register_schema sql)) refl reading.plain reading.unlisted rows shown;
    }

-- ---- what holds of the tables, over what stays

from_either : (P : Database → Type 0) (old new : State) → old.now ≡ old.committed → (new.now ≡ old.now) ⊎ (new.now ≡ old.committed) → P old.now → P new.now
from_either P old new saved (inl same) holds = subst P (sym same) holds
from_either P old new saved (inr back) holds = subst P (saved ∙ sym back) holds

either_saved : (old new : State) → old.now ≡ old.committed → (new.now ≡ old.now) ⊎ (new.now ≡ old.committed) → new.committed ≡ old.committed → new.now ≡ new.committed
either_saved old new saved (inl same) committed = same ∙ saved ∙ sym committed
either_saved old new saved (inr back) committed = back ∙ sym committed

-- a look-up keeps what holds of the tables
pub stays_holds : {S : Type 0} (g : Ghosts S) (old new : Held S) (P : Database → Type 0) → doubt (state g old).is_clean ≤ doubt (state g new).is_clean → Stays (state g old) (state g new) → Holds g old P → Holds g new P
stays_holds g old new P forgets stays holds = record {
  saved = λ clean up.
      let was = was_clean (state g old) (state g new) forgets clean in
      either_saved (state g old) (state g new) (holds.saved was (stays.was_open clean up)) (stays.now clean up) (stays.committed clean up);
  tables = λ clean up.
      let was = was_clean (state g old) (state g new) forgets clean in
      from_either P (state g old) (state g new) (holds.saved was (stays.was_open clean up)) (stays.now clean up) (holds.tables was (stays.was_open clean up));
}

-- tables that show records are those of a register
pub shows_register : {S : Type 0} (g : Ghosts S) (h : Held S) (records : Records) → Shows g h records → IsRegister (state g h)
shows_register g h records shows = record {
  now = λ clean up. (shows.tables clean up).schema;
  committed = λ clean up. subst (λ (db : Database). db.schema ≡ register_schema) (shows.saved clean up) (shows.tables clean up).schema;
}

pub both_shows : {S : Type 0} (g : Ghosts S) (h : Held S) (records : Records) (columns : DerivedRows) → ShowsBoth g h records columns → Shows g h records
both_shows g h records columns both = record { saved = both.saved; tables = λ clean up. (both.tables clean up).shown }

pub kept_shows : {S : Type 0} (g : Ghosts S) (h : Held S) (records : Records) → ShowsKept g h records → Shows g h records
kept_shows g h records kept = both_shows g h records kept.0 kept.1

pub stays_shows : {S : Type 0} (g : Ghosts S) (old new : Held S) (records : Records) → doubt (state g old).is_clean ≤ doubt (state g new).is_clean → Stays (state g old) (state g new) → Shows g old records → Shows g new records
stays_shows g old new records = stays_holds g old new (λ db. IsShownBy db records)

pub stays_both : {S : Type 0} (g : Ghosts S) (old new : Held S) (records : Records) (columns : DerivedRows) → doubt (state g old).is_clean ≤ doubt (state g new).is_clean → Stays (state g old) (state g new)
    → ShowsBoth g old records columns → ShowsBoth g new records columns
stays_both g old new records columns = stays_holds g old new (λ db. AreRecordsAndDerived db records columns)

pub stays_kept : {S : Type 0} (g : Ghosts S) (old new : Held S) (records : Records) → doubt (state g old).is_clean ≤ doubt (state g new).is_clean → Stays (state g old) (state g new)
    → ShowsKept g old records → ShowsKept g new records
stays_kept g old new records forgets stays kept = (kept.0, stays_both g old new records kept.0 forgets stays kept.1, kept.2)

-- ---- one look-up after another

stays_schema : (old new : State) → IsRegister old → HasCleanDisk old → IsTrue old.is_open → (new.now ≡ old.now) ⊎ (new.now ≡ old.committed) → new.now.schema ≡ register_schema
stays_schema old new register clean up (inl same) = ap (λ (db : Database). db.schema) same ∙ register.now clean up
stays_schema old new register clean up (inr back) = ap (λ (db : Database). db.schema) back ∙ register.committed clean up

-- a register's tables stay so
pub stays_register : (old new : State) → doubt old.is_clean ≤ doubt new.is_clean → Stays old new → IsRegister old → IsRegister new
stays_register old new forgets stays register = record {
  now = λ clean up. stays_schema old new register (was_clean old new forgets clean) (stays.was_open clean up) (stays.now clean up);
  committed = λ clean up. ap (λ (db : Database). db.schema) (stays.committed clean up) ∙ register.committed (was_clean old new forgets clean) (stays.was_open clean up);
}

then_either : (a b c : State) → (b.now ≡ a.now) ⊎ (b.now ≡ a.committed) → b.committed ≡ a.committed → (c.now ≡ b.now) ⊎ (c.now ≡ b.committed) → (c.now ≡ a.now) ⊎ (c.now ≡ a.committed)
then_either a b c (inl first) committed (inl second) = inl (second ∙ first)
then_either a b c (inr first) committed (inl second) = inr (second ∙ first)
then_either a b c first committed (inr second) = inr (second ∙ committed)

pub stays_then : (a b c : State) → doubt b.is_clean ≤ doubt c.is_clean → Stays a b → Stays b c → Stays a c
stays_then a b c forgets first second = record {
  was_open = λ clean up. first.was_open (was_clean b c forgets clean) (second.was_open clean up);
  now = λ clean up.
      let was = was_clean b c forgets clean in
      let was_up = second.was_open clean up in
      then_either a b c (first.now was was_up) (first.committed was was_up) (second.now clean up);
  committed = λ clean up. second.committed clean up ∙ first.committed (was_clean b c forgets clean) (second.was_open clean up);
}

-- what a result gives gives more
pub ok_then : {T E : Type 0} {P Q : T → Type 0} (r : Result T E) → IfOk r P → ((x : T) → P x → Q x) → IfOk r Q
ok_then (Ok x) h more = more x h
ok_then (Err e) h more = tt

-- and so do two things together
pub ok_also : {T E : Type 0} {P Q R : T → Type 0} (r : Result T E) → IfOk r P → IfOk r Q → ((x : T) → P x → Q x → R x) → IfOk r R
ok_also (Ok x) first second more = more x first second
ok_also (Err e) first second more = tt

-- what each result gives holds beside what it gives
pub ok_both : {T E : Type 0} (P : Type 0) (Q : T → Type 0) (r : Result T E) → OnOk r P → IfOk r Q → IfOk r (λ x. P × Q x)
ok_both P Q (Ok x) holds gives = (holds, gives)
ok_both P Q (Err e) holds gives = tt

-- what it gives where something holds
pub ok_if : {T E : Type 0} (P : Type 0) (Q : T → Type 0) (r : Result T E) → (P → IfOk r Q) → IfOk r (λ x. P → Q x)
ok_if P Q (Ok x) gives = gives
ok_if P Q (Err e) gives = tt

-- what an option gives, a result gives where its lack is an error
pub some_then : {T E : Type 0} {P Q : T → Type 0} (r : Result T E) (o : Option T) (e : E) → r ≡ ok_or o e → IfSome o P → ((x : T) → P x → Q x) → IfOk r Q
some_then {Q = Q} r (Some x) e is h more = subst (λ r. IfOk r Q) (sym is) (more x h)
some_then {Q = Q} r None e is h more = subst (λ r. IfOk r Q) (sym is) tt

pub both_then : {S : Type 0} (g : Ghosts S) (old new : Held S) (records : Records) (columns : DerivedRows) → doubt (state g old).is_clean ≤ doubt (state g new).is_clean → HasCleanDisk (state g new) → IsTrue (state g old).is_open
    → ShowsBoth g old records columns → AreRecordsAndDerived (state g old).now records columns
both_then g old new records columns forgets clean up both = both.tables (was_clean (state g old) (state g new) forgets clean) up

-- ---- what a stop leaves after what commits nothing

never_shows : (sql : List ℕ) (params : Row) (s : State) (db : Trees) → NeverReturns sql → CommitsShowing sql params s db → ⊥
unfolding CommitsShowing
never_shows sql params s db never h = let some = rw (never.none s.now.schema h.0 h.1.is) at h.2 in absurd (cc)

-- a text that returns nothing of a write commits nothing
pub reads_nothing : (old new : State) (sql : List ℕ) (params : Row) → NeverReturns sql → Survives old new (CommitsShowing sql params old) → LeavesNothing old new
reads_nothing old new sql params never = survives_weaker old new (CommitsShowing sql params old) (λ _. ⊥) (λ clean db commits. never_shows sql params old db never commits)

-- one such call after another
pub leaves_then : (a b c : State) → LeavesNothing a b → LeavesNothing b c → LeavesNothing a c
leaves_then a b c = survives_then a b c (λ _. ⊥) (λ _. ⊥) (λ _. ⊥) (λ clean db none. none) (λ clean db none. none)

-- a transaction that is under way after a look-up was so before it
pub under_before : {S : Type 0} {g : Ghosts S} {a b : Held S} → Looked g a b → b.in_transaction ≡ true → a.in_transaction ≡ true
under_before {a = a} looked under = elim (cases_Bool a.in_transaction) [
  | inl was ↦ was
  | inr idle ↦ absurd (false≢true (sym (looked.idle idle) ∙ under))
]

same_then : (a b c : State) → IsSame a b → IsSame b c → IsSame a c
same_then a b c first second = record { was_open = first.was_open; now = second.now ∙ first.now; committed = second.committed ∙ first.committed }

same_schema : {S : Type 0} (g : Ghosts S) (a b : Held S) → Looked g a b → HasSchema (state g a) → b.in_transaction ≡ true → HasSchema (state g b)
same_schema g a b looked schema under = λ clean up.
    let same = looked.within schema clean up under in
    ap (λ (db : Database). db.schema) same.now ∙ schema (was_clean (state g a) (state g b) looked.survives.clean clean) same.was_open

-- one look-up after another is one
pub looked_then : {S : Type 0} {g : Ghosts S} {a b c : Held S} → Looked g a b → Looked g b c → Looked g a c
looked_then {g = g} {a = a} {b = b} {c = c} first second = record {
  same = λ register.
      let was = first.same register in
      stays_then (state g a) (state g b) (state g c) second.survives.clean was (second.same (stays_register (state g a) (state g b) first.survives.clean was register));
  survives = leaves_then (state g a) (state g b) (state g c) first.survives second.survives;
  within = λ schema clean up under.
      let was = was_clean (state g b) (state g c) second.survives.clean clean in
      let mid = under_before second under in
      let then = second.within (same_schema g a b first schema mid) clean up under in
      same_then (state g a) (state g b) (state g c) (first.within schema was then.was_open mid) then;
  live = λ clean under up. second.live clean under (first.live (was_clean (state g b) (state g c) second.survives.clean clean) (under_before second under) up);
  idle = λ was. second.idle (first.idle was);
}

-- what is shown before a look-up is shown after it
pub looked_shows : {S : Type 0} {g : Ghosts S} {old new : Held S} → Looked g old new → (records : Records) → Shows g old records → Shows g new records
looked_shows {g = g} {old = old} {new = new} looked records shows = stays_shows g old new records looked.survives.clean (looked.same (shows_register g old records shows)) shows

-- and what is kept beside it
pub looked_both : {S : Type 0} {g : Ghosts S} {old new : Held S} → Looked g old new → (records : Records) (columns : DerivedRows) → ShowsBoth g old records columns → ShowsBoth g new records columns
looked_both {g = g} {old = old} {new = new} looked records columns both =
    stays_both g old new records columns looked.survives.clean (looked.same (shows_register g old records (both_shows g old records columns both))) both

-- ---- what is shown until a call's end

-- what holds, with all committed, holds until then
pub holds_until : {S : Type 0} {g : Ghosts S} {old : Held S} {P : Database → Type 0} (new : Held S) → Holds g old P → HoldsUntil g old new P
holds_until new holds = record { saved = λ idle. holds.saved; tables = holds.tables }

pub shows_until : {S : Type 0} {g : Ghosts S} {old : Held S} {records : Records} (new : Held S) → Shows g old records → ShowsUntil g old new records
shows_until new = holds_until new

pub kept_until : {S : Type 0} {g : Ghosts S} {old : Held S} {records : Records} (new : Held S) → ShowsKept g old records → ShowsKeptUntil g old new records
kept_until new kept = (kept.0, holds_until new kept.1, kept.2)

pub kept_shows_until : {S : Type 0} (g : Ghosts S) (old new : Held S) (records : Records) → ShowsKeptUntil g old new records → ShowsUntil g old new records
kept_shows_until g old new records kept = record { saved = kept.1.saved; tables = λ clean up. (kept.1.tables clean up).shown }

pub until_schema : {S : Type 0} (g : Ghosts S) (old new : Held S) (records : Records) → ShowsUntil g old new records → HasSchema (state g old)
until_schema g old new records shows = λ clean up. (shows.tables clean up).schema

module _ {S : Type 0} {g : Ghosts S} {a b c : Held S} (first : Looked g a b) (second : Looked g b c) (P : Database → Type 0) (of_register : (db : Database) → P db → db.schema ≡ register_schema) (until : HoldsUntil g a c P) where
  -- until the end of the first look-up
  pub until_first : HoldsUntil g a b P
  until_first = record { saved = λ idle. until.saved (second.idle idle); tables = until.tables }

  was_saved : b.in_transaction ≡ false → HasCleanDisk (state g b) → IsTrue (state g b).is_open → (IsTrue (state g a).is_open) × ((state g b).now ≡ (state g a).now) × ((state g b).committed ≡ (state g a).committed)
  was_saved idle clean up =
      let was = was_clean (state g a) (state g b) first.survives.clean clean in
      let saved = until.saved (second.idle idle) was in
      let stays = first.same (record {
        now = λ clean up. of_register (state g a).now (until.tables clean up);
        committed = λ clean up. subst (λ (db : Database). db.schema ≡ register_schema) (until.saved (second.idle idle) clean up) (of_register (state g a).now (until.tables clean up));
      }) in
      let was_up = stays.was_open clean up in
      (was_up, from_either (λ db. db ≡ (state g a).now) (state g a) (state g b) (saved was_up) (stays.now clean up) refl, stays.committed clean up)

  -- the first one changed nothing
  pub unchanged_first : HasCleanDisk (state g b) → IsTrue (state g b).is_open → (IsTrue (state g a).is_open) × ((state g b).now ≡ (state g a).now) × ((state g b).committed ≡ (state g a).committed)
  unchanged_first clean up = elim (cases_Bool b.in_transaction) [
    | inl under ↦
        let same = first.within (λ clean up. of_register (state g a).now (until.tables clean up)) clean up under in
        (same.was_open, same.now, same.committed)
    | inr idle ↦ was_saved idle clean up
  ]

  -- so what held before it holds until the end of the second
  pub until_second : HoldsUntil g b c P
  until_second = record {
    saved = λ idle clean up.
        let same = unchanged_first clean up in
        same.1 ∙ until.saved idle (was_clean (state g a) (state g b) first.survives.clean clean) same.0 ∙ sym same.2;
    tables = λ clean up.
        let same = unchanged_first clean up in
        subst P (sym same.1) (until.tables (was_clean (state g a) (state g b) first.survives.clean clean) same.0);
  }

module _ {S : Type 0} {g : Ghosts S} {a b c : Held S} (first : Looked g a b) (second : Looked g b c) (records : Records) (shows : ShowsUntil g a c records) where
  pub shown_first : ShowsUntil g a b records
  shown_first = until_first first second (λ db. IsShownBy db records) (λ db it. it.schema) shows

  pub shown_second : ShowsUntil g b c records
  shown_second = until_second first second (λ db. IsShownBy db records) (λ db it. it.schema) shows

  -- and the derived tables have the rows that they had
  pub both_second : (columns : DerivedRows) → ShowsBothNow (state g a) records columns → ShowsBothNow (state g b) records columns
  both_second columns both = λ clean up.
      let same = unchanged_first first second (λ db. IsShownBy db records) (λ db it. it.schema) shows clean up in
      subst (λ db. AreRecordsAndDerived db records columns) (sym same.1) (both (was_clean (state g a) (state g b) first.survives.clean clean) same.0)

module _ {S : Type 0} {g : Ghosts S} {a b c : Held S} (first : Looked g a b) (second : Looked g b c) (records : Records) (kept : ShowsKeptUntil g a c records) where
  pub kept_first : ShowsKeptUntil g a b records
  kept_first = (kept.0, until_first first second (λ db. AreRecordsAndDerived db records kept.0) (λ db it. it.shown.schema) kept.1, kept.2)

  pub kept_second : ShowsKeptUntil g b c records
  kept_second = (kept.0, until_second first second (λ db. AreRecordsAndDerived db records kept.0) (λ db it. it.shown.schema) kept.1, kept.2)

-- one step after another is one
pub stepped_then : {S : Type 0} {g : Ghosts S} {a b c : Transaction S} → Stepped g a b → Stepped g b c → Stepped g a c
stepped_then {g = g} {a = a} {b = b} {c = c} first second = record {
  same_reference = second.same_reference ∙ first.same_reference;
  kept = λ clean.
      let was : HasCleanDisk (state g b.conn.now) = was_clean (state g b.conn.now) (state g c.conn.now) second.survives.clean clean in
      record {
        was_open = λ up. (first.kept was).was_open ((second.kept clean).was_open up);
        committed = λ up. (second.kept clean).committed up ∙ (first.kept was).committed ((second.kept clean).was_open up);
      };
  survives = leaves_then (state g a.conn.now) (state g b.conn.now) (state g c.conn.now) first.survives second.survives;
}
