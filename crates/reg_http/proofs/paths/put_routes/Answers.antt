use Rattle.std.proofs.Common.{refl}
use Rattle.matchit.proofs.OnLiterals.{matchit_on_literals}
use Rattle.reg_http.proofs.paths.put_routes.Goals as goal

pub returns : goal.returns
unfolding matchit_on_literals
returns c =
    let a = rw c.requires at c.in_ok-insert.ensures in
    let b = rw a.1 at c.in_ok-insert-2.ensures in
    let d = rw b.1 at c.in_ok-insert-3.ensures in
    let e = rw d.1 at c.in_ok-insert-4.ensures in
    let f = rw e.1 at c.in_ok-insert-5.ensures in
    let h = rw f.1 at c.in_ok-insert-6.ensures in
    let i = rw h.1 at c.in_ok-insert-7.ensures in
    rw i.1 refl
