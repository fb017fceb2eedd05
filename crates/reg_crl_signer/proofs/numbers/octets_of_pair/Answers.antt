use Rattle.std.proofs.Common.{[], sym, ◌∙◌, append-nil}
use Rattle.reg_crl_signer.proofs.Pairs.{is_all, is_nothing, is_something, left_behind, holds_pair}
use Rattle.reg_crl_signer.proofs.numbers.octets_of_pair.Goals as goal
use Rattle.reg_crl_signer.proofs.numbers.octets_of_pair.Goals.{then-sequence-ne-SEQUENCE-via-then-sequence-ne-SEQUENCE, then-sequence-ne-SEQUENCE-via-else-sequence-ne-SEQUENCE+then-not-is_empty}

pub returns-in_err-sequence : goal.returns-in_err-sequence
returns-in_err-sequence c =
    rw c.from_residual.ensures (λ first second pair. c.in_err-sequence.ensures.none c.args.bytes.now [] _ 48 pair.sequence (sym (append-nil c.args.bytes.now)))

pub returns-then-sequence-ne-SEQUENCE : goal.returns-then-sequence-ne-SEQUENCE
returns-then-sequence-ne-SEQUENCE c first second pair =
    let found = c.in_ok-sequence.ensures.found in
    let all = is_all c.args.bytes.now _ _ _ _ _ found.0 found.1 pair.sequence in
    elim c.then-sequence-ne-SEQUENCE.branch [
      | then-sequence-ne-SEQUENCE-via-then-sequence-ne-SEQUENCE w ↦ w.if-sequence-ne-SEQUENCE.true all.sequence
      | then-sequence-ne-SEQUENCE-via-else-sequence-ne-SEQUENCE+then-not-is_empty w ↦ is_something _ _ w.is_empty.ensures w.if-not-is_empty.true all.nothing
    ]

pub returns-in_err-first : goal.returns-in_err-first
returns-in_err-first c =
    let found = c.in_ok-sequence.ensures.found in
    rw c.from_residual-in_err-first.ensures (λ first second pair.
    let all = is_all c.args.bytes.now _ _ _ _ _ found.0 found.1 pair.sequence in
    c.in_err-first.ensures pair.first_bytes pair.second_bytes first pair.first_is all.same)

pub returns-in_err-second : goal.returns-in_err-second
returns-in_err-second c =
    let found = c.in_ok-sequence.ensures.found in
    rw c.from_residual-in_err-second.ensures (λ first second pair.
    let all = is_all c.args.bytes.now _ _ _ _ _ found.0 found.1 pair.sequence in
    let left = left_behind _ _ _ _ _ _ c.in_ok-first.ensures pair.first_is all.same in
    c.in_err-second.ensures pair.second_bytes [] second pair.second_is (left ∙ sym (append-nil pair.second_bytes)))

pub returns-then-not-is_empty-2 : goal.returns-then-not-is_empty-2
returns-then-not-is_empty-2 c first second pair =
    let found = c.in_ok-sequence.ensures.found in
    let all = is_all c.args.bytes.now _ _ _ _ _ found.0 found.1 pair.sequence in
    let left = left_behind _ _ _ _ _ _ c.in_ok-first.ensures pair.first_is all.same in
    is_something _ _ c.is_empty-2.ensures c.if-not-is_empty-2.true
    (left_behind _ _ _ _ _ _ c.in_ok-second.ensures pair.second_is (left ∙ sym (append-nil pair.second_bytes)))

pub returns : goal.returns
returns c =
    let found = c.in_ok-sequence.ensures.found in
    holds_pair c.args.bytes.now _ _ _ _ _ _ _ _ found.0 found.1 c.if-sequence-ne-SEQUENCE.false
    (is_nothing _ _ c.is_empty.ensures c.if-not-is_empty.false) c.in_ok-first.ensures c.in_ok-second.ensures
    (is_nothing _ _ c.is_empty-2.ensures c.if-not-is_empty-2.false)
