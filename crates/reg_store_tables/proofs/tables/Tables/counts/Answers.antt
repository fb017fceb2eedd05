use Rattle.std.proofs.Common.{◌≡◌, ◌+◌, ℕ, Ok, Result, length, rules, ap, ◌∙◌, arith, ◌<◌, ◌≤◌, ◌^◌, IsTrue}
use Rattle.std.specs.List.{filter}
use Rattle.sqlite_trees.specs.declared.store.Store.{Ghosts}
use Rattle.sqlite.specs.Held.{Held, state}
use Rattle.reg_core.specs.Policy.{IsPolicy}
use Rattle.reg_core.specs.Records.{Records}
use Rattle.reg_core.specs.Status.{counts}
use Rattle.reg_core.specs.declared.command.Counts.{Counts}
use Rattle.reg_store_tables.specs.DerivedRows.{DerivedRows, ends_before}
use Rattle.reg_store_tables.specs.LookUps.{Finds}
use Rattle.reg_store_tables.specs.Shows.{ShowsBothNow}
use Rattle.reg_store_tables.specs.declared.fault.DatabaseFault.{DatabaseFault}
use Rattle.reg_store_tables.proofs.CountLaws.{letters_as_many, good_then, revoked_then, expired_then, letters_few, ended_within, sums_few}
use Rattle.reg_store_tables.proofs.LookingUp.{finds_ok, finds_then, passed_on, unfound}
use Rattle.reg_store_tables.proofs.Staying.{both_second}
use Rattle.reg_store_tables.proofs.tables.Tables.counts.Goals as goal

-- the kept counts, and how many have ended since
abbrev Since : {C : Type 0} → Ghosts C → Held C → ℕ → Counts → Records → ℕ → Type 0
Since g held now were records ended =
    (columns : DerivedRows) → ShowsBothNow (state g held) records columns
    → (were ≡ columns.counts) × (length columns.letters ≤ 1000000 → ended ≡ length (filter (ends_before now) columns.letters)) × IsPolicy records.policy

both_found : {C : Type 0} {g : Ghosts C} {a b c : Held C} (now : ℕ) {were : Counts} {result : Result ℕ DatabaseFault}
    → Finds g a b (Ok were) (λ records it. (columns : DerivedRows) → ShowsBothNow (state g a) records columns → it ≡ columns.counts)
    → Finds g b c result (λ records ended. (columns : DerivedRows) → ShowsBothNow (state g b) records columns → IsTrue (state g b).is_open × (length columns.letters ≤ 1000000 → ended ≡ length (filter (ends_before now) columns.letters)))
    → Finds g a c result (Since g a now were)
both_found now first second = finds_then first second (λ records written was may. may) (λ records shows clean was ended now_ended columns both.
    let mid = both_second first.looked second.looked records shows columns both in
    let known = now_ended columns mid in
    (was columns both, known.1, (mid clean known.0).shown.rows.policy))

pub returns-in_err-kept : goal.returns-in_err-kept
returns-in_err-kept g c = rw (← c.self.view_is) (passed_on _ _ (search rules) (λ records written may. may) c.in_err-kept.ensures)

pub returns-in_err-ended : goal.returns-in_err-ended
returns-in_err-ended g c =
    rw (← c.self.view_is) (passed_on _ _ (search rules) (λ records written may. may) (both_found c.args.now c.in_ok-kept.ensures c.in_err-ended.ensures))

pub returns : goal.returns
returns g c =
    rw (← c.self.view_is) (finds_ok (both_found c.args.now c.in_ok-kept.ensures c.in_ok-ended.ensures) (λ records shows found_since kept sound later.
    let it = found_since kept.0 kept.1 in
    let was = it.0 in
    let many = letters_as_many records sound.certificates.serials_differ c.args.now later kept.0 kept.2 in
    let cap = it.2.cap.1 in
    let within = sound.certificates.within_cap in
    let ended = it.1 (omega arith) in
    let good = good_then records sound.certificates.serials_differ c.args.now later kept.0 kept.2 in
    let revoked = revoked_then records sound.certificates.serials_differ c.args.now later kept.0 kept.2 in
    let expired = expired_then records sound.certificates.serials_differ c.args.now later kept.0 kept.2 in
    let taken : c.in_ok-kept.kept.good ≡ c.in_ok-ok_or.field-0 + c.in_ok-ended.ended = search rules in
    let added : c.in_ok-ok_or-2.field-0 ≡ c.in_ok-kept.kept.expired + c.in_ok-ended.ended = search rules in
    let was_good = ap (λ (k : Counts). k.good) was in
    let was_expired = ap (λ (k : Counts). k.expired) was in
    let good_is : c.in_ok-ok_or.field-0 ≡ (counts records c.args.now).good = omega arith in
    let revoked_is : c.in_ok-kept.kept.revoked ≡ (counts records c.args.now).revoked = ap (λ (k : Counts). k.revoked) was ∙ revoked in
    let expired_is : c.in_ok-ok_or-2.field-0 ≡ (counts records c.args.now).expired = omega arith in
    λ i. record { good = good_is i; revoked = revoked_is i; expired = expired_is i }))

pub returns-in_err-ok_or : goal.returns-in_err-ok_or
returns-in_err-ok_or g c =
    let less : c.in_ok-kept.kept.good < c.in_ok-ended.ended = search rules in
    rw (← c.self.view_is) (unfound _ c.from_residual-in_err-ok_or.ensures.0 (both_found c.args.now c.in_ok-kept.ensures c.in_ok-ended.ensures) (λ records may written found_since.
    let kept = written.kept in
    let it = found_since kept.0 kept.1.tables in
    let ended = it.1 (letters_few records written.sound written.policy kept.0 kept.2) in
    let within = ended_within records written.sound c.args.now kept.0 kept.2 in
    let good = ap (λ (k : Counts). k.good) it.0 in
    omega arith))

pub returns-in_err-ok_or-2 : goal.returns-in_err-ok_or-2
returns-in_err-ok_or-2 g c =
    let past : 2 ^ 64 ≤ c.in_ok-kept.kept.expired + c.in_ok-ended.ended = search rules in
    rw (← c.self.view_is) (unfound _ c.from_residual-in_err-ok_or-2.ensures.0 (both_found c.args.now c.in_ok-kept.ensures c.in_ok-ended.ensures) (λ records may written found_since.
    let kept = written.kept in
    let it = found_since kept.0 kept.1.tables in
    let ended = it.1 (letters_few records written.sound written.policy kept.0 kept.2) in
    let few = sums_few records written.sound written.policy c.args.now kept.0 kept.2 in
    let expired = ap (λ (k : Counts). k.expired) it.0 in
    omega arith))
