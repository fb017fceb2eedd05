use Rattle.std.proofs.Common.{refl, sym}
use Rattle.std.proofs.lemmas.Bool.{false≢true}
use Rattle.reg_store_tables.proofs.PublicLaws.{looked_none}
use Rattle.reg_office.proofs.FollowLookUps.{nothing_in}
use Rattle.reg_office.proofs.Leading.{office_looks}
use Rattle.reg_office_reads.proofs.PublicLaws.{lent}
use Rattle.reg_office.proofs.office.Office.have_news.Goals as goal

pub returns-then-not-is_empty : goal.returns-then-not-is_empty
returns-then-not-is_empty g c = record { looked = looked_none; same = refl; found = λ records stands clean none. absurd (false≢true (sym none)) }

pub returns-in-Ok : goal.returns-in-Ok
returns-in-Ok g c =
    office_looks g.C.Store g.S.Signer _ _ _ _ (lent c.deref_mut.ensures.shows c.in-Ok.ensures) refl
    (λ records sound it none. (nothing_in c.args.earlier.now c.is_empty.result c.is_empty.ensures c.if-not-is_empty.false, it none))

pub returns-in-Err : goal.returns-in-Err
returns-in-Err g c =
    office_looks g.C.Store g.S.Signer _ _ _ _ (lent c.deref_mut.ensures.shows c.in-Err.ensures) refl (λ records sound it. tt)
