-- What stands behind an office over a call.
use Rattle.std.proofs.Common.{◌≡◌, ◌≤◌, ℕ, List, Result, Ok, Err, refl, subst}
use Rattle.std.specs.Prelude.{IsErr}
use Rattle.sqlite_trees.specs.Tree.{Trees}
use Rattle.sqlite_trees.specs.View.{doubt}
use Rattle.sqlite_trees.specs.declared.store.Store.{Ghosts}
use Rattle.sqlite.specs.Held.{Held, state}
use Rattle.sqlite.specs.State.{HasCleanDisk}
use Rattle.sqlite.proofs.StateLemmas.{survives_then, survives_weaker}
use Rattle.reg_core.specs.Records.{Records}
use Rattle.reg_core.specs.declared.refusal.Fault.{Fault}
use Rattle.reg_core.specs.declared.refusal.Fault.TheVariants.{Signer}
use Rattle.reg_crl.specs.Signing.{Identity}
use Rattle.reg_store_tables.specs.Stays.{Changed, IsRegister, Looked, Stays}
use Rattle.reg_store_tables.proofs.PublicLaws.{after_look, stays_register, stays_then}
use Rattle.reg_office_reads.specs.Faults.{IsOfficeFault, IsTableFault}
use Rattle.reg_office.specs.Stands.{Stands}

-- what stood stands over a call that leaves a register's tables as they are
pub stands_on :
    {C : Type 0} (g : Ghosts C) (signs : Identity → List ℕ → List ℕ → Type 0) (old new : Held C) (identity : Identity)
    (records : Records)
    → doubt (state g old).is_clean ≤ doubt (state g new).is_clean
    → (IsRegister (state g old) → Stays (state g old) (state g new))
    → Stands g signs old identity records → Stands g signs new identity records
stands_on g signs old new identity records forgets same stands = record {
  shown = after_look g old new records forgets same stands.shown;
  sound = stands.sound;
}

-- the same over a look-up
pub stands_looked :
    {C : Type 0} {g : Ghosts C} {old new : Held C} {signs : Identity → List ℕ → List ℕ → Type 0} {identity : Identity} {records : Records}
    → Looked g old new → Stands g signs old identity records → Stands g signs new identity records
stands_looked {g = g} {old = old} {new = new} {signs = signs} {identity = identity} {records = records} looked stands =
    stands_on g signs old new identity records looked.survives.clean looked.same stands

pub office_fault : (fault : Fault) → IsTableFault fault → IsOfficeFault fault
office_fault Signer h = absurd h
office_fault other h = h

-- and not the signer's
pub never_signer : {P : Type 0} (fault : Fault) → IsTableFault fault → fault ≡ Signer → P
never_signer fault h is = absurd (subst IsTableFault is h)

-- ---- look-ups, and then a change or an error

-- an error after look-ups
pub looked_failed :
    {C T E : Type 0} {g : Ghosts C} {a b : Held C} {Made : Trees → Type 0} (outcome : Result T E)
    → IsErr outcome → Looked g a b → Changed g a b Made outcome
looked_failed (Ok x) failed looked = absurd (let bad : ⊥ = cc in bad)
looked_failed {g = g} {a = a} {b = b} {Made = Made} (Err e) failed looked = record {
  live = λ clean. tt;
  err = λ register. looked.same register;
  survives = survives_weaker (state g a) (state g b) (λ _. ⊥) Made (λ clean trees none. absurd none) looked.survives;
}

-- a change after look-ups, which fails
pub changed_failed :
    {C T E U F : Type 0} {g : Ghosts C} {a b c : Held C} {First Made : Trees → Type 0} {failure : F} (outcome : Result T E)
    → IsErr outcome → Looked g a b → Changed {T = U} {E = F} g b c First (Err failure)
    → (HasCleanDisk (state g c) → (trees : Trees) → First trees → Made trees) → Changed g a c Made outcome
changed_failed (Ok x) failed looked changed more = absurd (let bad : ⊥ = cc in bad)
changed_failed {g = g} {a = a} {b = b} {c = c} {First = First} {Made = Made} (Err e) failed looked changed more = record {
  live = λ clean. tt;
  err = λ register.
      let was = looked.same register in
      stays_then (state g a) (state g b) (state g c) changed.survives.clean was (changed.err (stays_register (state g a) (state g b) looked.survives.clean was register));
  survives = survives_then (state g a) (state g b) (state g c) (λ _. ⊥) First Made (λ clean trees none. absurd none) more looked.survives changed.survives;
}

-- a change after look-ups, which is made
pub changed_made :
    {C T E U F : Type 0} {g : Ghosts C} {a b c : Held C} {First Made : Trees → Type 0} {value : U} {reply : T}
    → Looked g a b → Changed {T = U} {E = F} g b c First (Ok value)
    → (HasCleanDisk (state g c) → (trees : Trees) → First trees → Made trees) → Changed {T = T} {E = E} g a c Made (Ok reply)
changed_made {g = g} {a = a} {b = b} {c = c} {First = First} {Made = Made} looked changed more = record {
  live = changed.live;
  err = λ register. tt;
  survives = survives_then (state g a) (state g b) (state g c) (λ _. ⊥) First Made (λ clean trees none. absurd none) more looked.survives changed.survives;
}

-- a change after look-ups, whether it is made or not
pub changed_after :
    {C T E : Type 0} {g : Ghosts C} {a b c : Held C} {First Made : Trees → Type 0} (outcome : Result T E)
    → Looked g a b → Changed g b c First outcome
    → (HasCleanDisk (state g c) → (trees : Trees) → First trees → Made trees) → Changed g a c Made outcome
changed_after (Ok x) looked changed more = changed_made looked changed more
changed_after (Err e) looked changed more = changed_failed (Err e) refl looked changed more
