use Rattle.reg_core_lists.specs.Feed.{last_line}
use Rattle.reg_core_lists.proofs.LinesRead.{no_crl}
use Rattle.reg_core_lists.proofs.feed_reader.read_after_rows.Goals as goal

pub returns-in-None-clause-only : goal.returns-in-None-clause-only
returns-in-None-clause-only c crl ends positions ok ok_positions is =
    let crl_found = c.in_ok-found.ensures.only crl (last_line ends positions) ok (no_crl ends positions) is in
    rw c.in-None.is at crl_found

pub returns-in-None-2-clause-only : goal.returns-in-None-2-clause-only
returns-in-None-2-clause-only c crl ends positions ok ok_positions is =
    let crl_found = c.in_ok-found.ensures.only crl (last_line ends positions) ok (no_crl ends positions) is in
    let read = rw c.in-Some.is at crl_found in
    let end_found = c.in_ok-ends.ensures.only ends positions ok_positions read.1 in
    rw c.in-None-2.is at end_found

pub returns-in-Some-2-clause-only : goal.returns-in-Some-2-clause-only
returns-in-Some-2-clause-only c crl ends positions ok ok_positions is =
    let crl_found = c.in_ok-found.ensures.only crl (last_line ends positions) ok (no_crl ends positions) is in
    let read = rw c.in-Some.is at crl_found in
    let end_found = c.in_ok-ends.ensures.only ends positions ok_positions read.1 in
    let end = rw c.in-Some-2.is at end_found in
    (read.0, end.0, end.1)
