use Rattle.std.proofs.Common.{[], ◌++◌, sym, append-nil}
use Rattle.reg_crl_signer.proofs.Carried.{behind_tbs, is_under}
use Rattle.reg_crl_signer.proofs.Pairs.{is_all}
use Rattle.reg_crl_signer.proofs.signed.crl_algorithm.Goals as goal

pub returns-in_err-list : goal.returns-in_err-list
returns-in_err-list c =
    rw c.from_residual.ensures (λ algorithm is. c.in_err-list.ensures.none c.args.crl.now [] _ 48 is.sequence (sym (append-nil c.args.crl.now)))

pub returns-in_err-rest : goal.returns-in_err-rest
returns-in_err-rest c =
    let list = c.in_ok-list.ensures.found in
    rw c.from_residual-in_err-rest.ensures (λ algorithm is.
    c.in_err-rest.ensures.none is.tbs (algorithm ++ is.behind) _ 48 is.is_tbs (is_all c.args.crl.now _ _ _ _ _ list.0 list.1 is.sequence).same)

pub returns-in_err-algorithm : goal.returns-in_err-algorithm
returns-in_err-algorithm c =
    let list = c.in_ok-list.ensures.found in
    let first = c.in_ok-rest.ensures.found in
    rw c.from_residual-in_err-algorithm.ensures (λ algorithm is.
    c.in_err-algorithm.ensures.none algorithm is.behind _ 48 is.is_algorithm
    (behind_tbs _ _ _ _ _ _ _ first.0 first.1 is (is_all c.args.crl.now _ _ _ _ _ list.0 list.1 is.sequence).same))

pub returns : goal.returns
returns c algorithm is =
    let list = c.in_ok-list.ensures.found in
    let first = c.in_ok-rest.ensures.found in
    let behind = behind_tbs _ _ _ _ _ _ _ first.0 first.1 is (is_all c.args.crl.now _ _ _ _ _ list.0 list.1 is.sequence).same in
    let second = c.in_ok-algorithm.ensures.found in
    is_under _ _ _ _ _ _ _ second.0 second.1 is behind
