use Rattle.std.proofs.Common.{◌<◌, arith, rules, sym, subst}
use Rattle.std.specs.List.{AllByRecursion}
use Rattle.std.proofs.lemmas.List.{take_all}
use Rattle.std.proofs.lemmas.List.Elements.{All-from_recursion}
use Rattle.reg_core.specs.Calendar.{clock_end}
use Rattle.reg_core.specs.declared.rows.CrlRow.{CrlRow}
use Rattle.sqlite.specs.Held.{state}
use Rattle.sqlite.specs.State.{HasCleanDisk}
use Rattle.reg_store_tables.proofs.PublicLaws.{looked_shows, looked_then}
use Rattle.reg_audit.specs.Faults.{EndsAtBrokenRow}
use Rattle.reg_audit.specs.Stored.{IsStored}
use Rattle.reg_audit.proofs.Signed.{all_more}
use Rattle.reg_audit.proofs.stored.check_each.Goals as goal

pub loop-crl-preserved : goal.loop-crl-preserved
loop-crl-preserved g c =
    let before = state g.S.Store c.loop-crl.conn in
    record {
      looked = looked_then c.loop-crl.invariant.looked c.check_stored.ensures.looked;
      bytes = λ records shows lists clean.
          let was_clean : HasCleanDisk before = omega (arith, c.check_stored.ensures.looked.survives.clean) in
          let mid = looked_shows c.loop-crl.invariant.looked records shows in
          all_more (IsStored records) c.args.crls.now c.loop-crl.crl-index c.crl-item.result c.loop-crl-test.true c.crl-item.is (c.loop-crl.invariant.bytes records shows lists was_clean)
          (c.in_ok-check_stored.ensures.bytes records mid lists clean);
    }

pub returns-clause-bytes : goal.returns-clause-bytes
returns-clause-bytes g c records shows lists clean =
    subst (AllByRecursion (IsStored records)) (take_all c.loop-crl.crl-index c.args.crls.now c.loop-crl-test.false) (c.loop-crl.invariant.bytes records shows lists clean)

pub returns-in_err-check_stored-clause-others : goal.returns-in_err-check_stored-clause-others
returns-in_err-check_stored-clause-others g c records shows lists can before clean =
    let here = looked_shows c.loop-crl.invariant.looked records shows in
    let at = c.loop-crl.crl-index in
    let row = c.crl-item.result in
    let early = subst (λ (crl : CrlRow). crl.this_update < clock_end) (sym c.crl-item.is) (All-from_recursion (λ (crl : CrlRow). crl.this_update < clock_end) c.args.crls.now before at row c.loop-crl-test.true) in
    let no : EndsAtBrokenRow c.in_err-check_stored.field-0.0 → AllByRecursion (IsStored records) c.args.crls.now → ⊥ =
    λ is all. c.in_err-check_stored.ensures.others records here lists can early clean is
    (subst (IsStored records) (sym c.crl-item.is) (All-from_recursion (IsStored records) c.args.crls.now all at row c.loop-crl-test.true)) in
    search rules

pub returns-in_err-check_stored-clause-looked : goal.returns-in_err-check_stored-clause-looked
returns-in_err-check_stored-clause-looked g c = looked_then c.loop-crl.invariant.looked c.check_stored.ensures.looked
