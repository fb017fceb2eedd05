use Rattle.std.proofs.Common.{rules, inl, inr, refl}
use Rattle.reg_desk_jobs.proofs.FollowRuns.{claims}
use Rattle.reg_desk_jobs.proofs.jobs.init.Goals as goal

pub returns-then-is_ours : goal.returns-then-is_ours
returns-then-is_ours g c =
    let claimed = rw c.as_str-path.ensures at (c.in-Ok.ensures.ours c.if-is_ours.true) in
    let makes = rw c.as_str-path.ensures at c.in-Err-make_at.ensures in
    let removed = rw c.as_str-path.ensures at c.remove.ensures in
    search rules

pub returns-in-Err-NotEmpty : goal.returns-in-Err-NotEmpty
returns-in-Err-NotEmpty g c =
    let claimed = rw c.as_str-path.ensures at (claims _ _ _ _ c.in-Ok.is_ours c.in-Ok.ensures.ours c.in-Ok.ensures.taken c.in-Ok.ensures.same) in
    let makes = rw (c.as_str-path.ensures, c.in-Err-NotEmpty.field-0-is, c.in_ok-issuer.ensures.ok.1) at c.in-Err-NotEmpty.ensures in
    inr (c.in_ok-issuer.issuer, search rules, search rules, (c.claim.new.self, c.make_at.new.machine, claimed, makes, inl (inl refl, refl)))

pub returns-else-is_ours : goal.returns-else-is_ours
returns-else-is_ours g c =
    let taken = rw c.as_str-path.ensures at (c.in-Ok.ensures.taken c.if-is_ours.false) in
    let makes = rw c.as_str-path.ensures at c.in-Err-make_at.ensures in
    search rules
