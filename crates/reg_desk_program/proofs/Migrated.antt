-- What a stop leaves of a register of an older version that was opened, and so migrated.
use Rattle.std.proofs.Common.{◌≡◌, inl, inr, ℕ, [], ◌∷◌, IsTrue, sym, ap, subst, ◌∙◌, arith}
use Rattle.sqlite_value.specs.Order.{column, Row}
use Rattle.sqlite_trees.specs.Tree.{Trees}
use Rattle.sqlite_trees.specs.declared.store.Store.{Ghosts}
use Rattle.sqlite.specs.Effect.{Database}
use Rattle.sqlite.specs.Held.{Held, state}
use Rattle.sqlite.specs.State.{HasCleanDisk, Survives}
use Rattle.reg_core.specs.Records.{Records}
use Rattle.reg_store_migration.specs.Older.{IsShownByOlder, ShowsOlder, stored_older, version_number}
use Rattle.reg_store_migration.specs.declared.version.OlderVersion.{OlderVersion}
use Rattle.reg_store_migration.specs.declared.version.OlderVersion.TheVariants.{First, Second}
use Rattle.reg_store_tables.proofs.PublicLaws.{was_clean as clean_first}
use Rattle.reg_store_tables.specs.AfterStop.{ShowsDerivedAfterStop}
use Rattle.reg_store_tables.specs.Kept.{ShowsKept}
use Rattle.reg_store_tables.specs.Rows.{number, stored_office}
use Rattle.reg_store_tables.specs.Shows.{AreRows}
use Rattle.reg_store_tables.specs.Stays.{LeavesNothing}
use Rattle.reg_office.specs.AfterStoppedCommand.{LeavesThese}
use Rattle.reg_desk_program.specs.Files.{IsWhole}

never_three : (version : OlderVersion) → 3 ≡ version_number version → ⊥
never_three First e =
    let wrong : 3 ≡ 1 = e in
    absurd (omega (arith, wrong))
never_three Second e =
    let wrong : 3 ≡ 2 = e in
    absurd (omega (arith, wrong))

number_is : (a b : ℕ) → number a ≡ number b → a ≡ b
number_is a b e = cc

only_row : (a b : Row) → a ∷ [] ≡ b ∷ [] → a ≡ b
only_row a b e = cc

-- the row of the office has one version
two_versions : (version : OlderVersion) (older now : Database) (before after : Records) → IsShownByOlder version older before → AreRows now.trees after
    → older.trees ≡ now.trees → ⊥
two_versions version older now before after shown rows same =
    let its : Row = stored_office rows.days after.issuer after.policy after.last in
    let row : its ≡ stored_older version shown.days before.issuer before.policy before.last =
    only_row its (stored_older version shown.days before.issuer before.policy before.last)
    (sym rows.office ∙ ap (λ (trees : Trees). trees 0) (sym same) ∙ shown.office) in
    never_three version (number_is 3 (version_number version) (ap (λ (r : Row). column r 2) row))

module _ {C : Type 0} (g : Ghosts C) where
  -- a stop leaves the migrated rows, if the connection was open after the migration
  leaves_migrated : (connection opened : Held C) (version : OlderVersion) (records : Records) (Made : Trees → Type 0)
      → ((store : Held C) (trees : Trees) → IsTrue (state g store).is_open → (state g store).may_leave trees → trees ≡ (state g store).committed.trees)
      → IsWhole g connection
      → Survives (state g connection) (state g opened) Made → ((trees : Trees) → Made trees → ShowsDerivedAfterStop records trees)
      → ShowsOlder version g connection records → ShowsKept g opened records → (HasCleanDisk (state g opened) → IsTrue (state g opened).is_open)
      → LeavesThese g opened records
  leaves_migrated connection opened version records Made settles whole survives makes older kept live clean trees may = elim (survives.crash clean trees may) [
    | inl before ↦ (
        let was = clean_first (state g connection) (state g opened) survives.clean clean in
        let found = (whole was).0 in
        let up = live clean in
        absurd (two_versions version (state g connection).now (state g opened).now records records (older.tables was found.is_open)
        (kept.1.tables clean up).shown.rows
        (ap (λ (d : Database). d.trees) found.clean ∙ sym (settles connection trees found.is_open before) ∙ settles opened trees up may
        ∙ ap (λ (d : Database). d.trees) (sym (kept.1.saved clean up))))
        )
    | inr made ↦ makes trees made
  ]

  -- and so after look-ups
  pub leaves_looked_up : (connection opened after held : Held C) → held ≡ after → (version : OlderVersion) (records : Records) (Made : Trees → Type 0)
      → ((store : Held C) (trees : Trees) → IsTrue (state g store).is_open → (state g store).may_leave trees → trees ≡ (state g store).committed.trees)
      → IsWhole g connection
      → Survives (state g connection) (state g opened) Made → ((trees : Trees) → Made trees → ShowsDerivedAfterStop records trees)
      → ShowsOlder version g connection records → ShowsKept g opened records → (HasCleanDisk (state g opened) → IsTrue (state g opened).is_open)
      → LeavesNothing (state g opened) (state g after) → LeavesThese g held records
  leaves_looked_up connection opened after held is version records Made settles whole survives makes older kept live nothing =
      let P : Held C → Type 0 = λ v. LeavesThese g v records in
      subst P (sym is) (λ clean trees may. elim (nothing.crash clean trees may) [
        | inl before ↦ leaves_migrated connection opened version records Made settles whole survives makes older kept live
            (clean_first (state g opened) (state g after) nothing.clean clean) trees before
        | inr none ↦ absurd none
      ])
