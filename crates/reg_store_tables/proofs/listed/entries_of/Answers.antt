use Rattle.std.proofs.Common.{◌≡◌, ◌∙◌, length, refl, sym, ap, subst, arith, rules}
use Rattle.reg_core.specs.Crls.{EntriesAscend}
use Rattle.reg_store_tables.specs.Faults.{row_fault_of}
use Rattle.reg_store_tables.specs.declared.fault.DatabaseFault.TheVariants.{Memory}
use Rattle.reg_store_tables.proofs.listed.entries_of.Goals as goal

pub returns-clause-read : goal.returns-clause-read
returns-clause-read c shown serials is = c.in_ok-entries.ensures.read shown serials (c.deref.ensures.value ∙ is)

pub returns-clause-ascending : goal.returns-clause-ascending
returns-clause-ascending c = subst EntriesAscend c.deref-2.ensures.value (c.if-not-ascends.ensures.0 refl)

pub returns-clause-at_most : goal.returns-clause-at_most
returns-clause-at_most c = omega arith

pub returns-in_err-entries-clause-has : goal.returns-in_err-entries-clause-has
returns-in_err-entries-clause-has c shown serials is values ascend few =
    let fault_is : row_fault_of c.in_err-entries.field-0.0 ≡ Memory = ap row_fault_of (c.in_err-entries.ensures.has shown serials values (c.deref.ensures.value ∙ is)) in
    search rules

pub returns-then-len-gt-MOST_ENTRIES-clause-has : goal.returns-then-len-gt-MOST_ENTRIES-clause-has
returns-then-len-gt-MOST_ENTRIES-clause-has c shown serials is values ascend few =
    let sizes = ap length (c.in_ok-entries.ensures.read shown serials (c.deref.ensures.value ∙ is)) in
    absurd (omega arith)

pub returns-then-not-ascends-clause-has : goal.returns-then-not-ascends-clause-has
returns-then-not-ascends-clause-has c shown serials is values ascend few =
    let same = c.in_ok-entries.ensures.read shown serials (c.deref.ensures.value ∙ is) in
    let up : EntriesAscend c.deref-2.result.now = subst EntriesAscend (sym (c.deref-2.ensures.value ∙ same)) ascend in
    let no : ⊥ = search rules in
    absurd no
