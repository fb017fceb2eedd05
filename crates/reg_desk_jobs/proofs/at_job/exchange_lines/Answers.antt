use Rattle.reg_desk_jobs.proofs.ConversationLemmas.{begins, cuts, ends, goes_on, one_more}
use Rattle.reg_desk_jobs.proofs.at_job.exchange_lines.Goals as goal

pub loop-init : goal.loop-init
loop-init g c = begins _ _ _ _

pub loop-preserved : goal.loop-preserved
loop-preserved g c =
    let sent = rw c.deref.ensures.value at c.in_ok-print_text.ensures.prints in
    let so = goes_on _ _ _ _ _ _ _ _ _ _ _ _ _ _ c.in_ok-piece.piece _ _ _ c.loop.invariant c.in_ok-piece.ensures.ok sent c.in_ok-piece_is_accepted.ensures.ok
    c.both-is_accepted.ensures in
    one_more _ _ _ _ _ _ _ _ _ _ _ c.in_ok-piece.piece _ c.requires c.in_ok-piece.ensures.ok c.in-Full.is so

pub returns-in-Cut : goal.returns-in-Cut
returns-in-Cut g c =
    let sent = rw c.deref.ensures.value at c.in_ok-print_text.ensures.prints in
    let so = goes_on _ _ _ _ _ _ _ _ _ _ _ _ _ _ c.in_ok-piece.piece _ _ _ c.loop.invariant c.in_ok-piece.ensures.ok sent c.in_ok-piece_is_accepted.ensures.ok
    c.both-is_accepted.ensures in
    cuts _ _ _ _ _ _ _ (g.R.Read.remaining c.next_piece.new.input) _ _ _ _ _ (rw c.in-Cut.is at so) c.failure_at_cut.ensures

pub returns-in-End : goal.returns-in-End
returns-in-End g c =
    let sent = rw c.deref.ensures.value at c.in_ok-print_text.ensures.prints in
    let so = goes_on _ _ _ _ _ _ _ _ _ _ _ _ _ _ c.in_ok-piece.piece _ _ _ c.loop.invariant c.in_ok-piece.ensures.ok sent c.in_ok-piece_is_accepted.ensures.ok
    c.both-is_accepted.ensures in
    ends _ _ _ _ _ _ _ (g.R.Read.remaining c.next_piece.new.input) _ _ _ _ _ (rw c.in-End.is at so) c.result_at_end.ensures
