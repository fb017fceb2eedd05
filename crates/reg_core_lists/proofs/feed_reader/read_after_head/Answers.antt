use Rattle.std.proofs.Common.{◌++◌, ◌∙◌}
use Rattle.reg_core_lists.specs.Feed.{crl_part, last_line}
use Rattle.reg_core_lists.specs.ReceivedPages.{positions_of}
use Rattle.reg_core_lists.proofs.LinesRead.{no_row}
use Rattle.reg_core_lists.proofs.PartsRead.{parts_text}
use Rattle.reg_core_lists.proofs.feed_reader.read_after_head.Goals as goal

pub returns-in-None-clause-only : goal.returns-in-None-clause-only
returns-in-None-clause-only c it ok is =
    let rows_found =
    c.in_ok-found.ensures.only it.parts.rows (crl_part it.parts.crl ++ last_line it.parts.ends (positions_of it)) ok.rows
    (no_row it.parts.crl it.parts.ends (positions_of it)) (is ∙ parts_text it) in
    rw c.in-None.is at rows_found

pub returns-in-None-2-clause-only : goal.returns-in-None-2-clause-only
returns-in-None-2-clause-only c it ok is =
    let rows_found =
    c.in_ok-found.ensures.only it.parts.rows (crl_part it.parts.crl ++ last_line it.parts.ends (positions_of it)) ok.rows
    (no_row it.parts.crl it.parts.ends (positions_of it)) (is ∙ parts_text it) in
    let rows = rw c.in-Some.is at rows_found in
    let others_found = c.in_ok-crl.ensures.only it.parts.crl it.parts.ends (positions_of it) ok.crl ok.positions rows.1 in
    rw c.in-None-2.is at others_found

pub returns-in-Some-2-clause-only : goal.returns-in-Some-2-clause-only
returns-in-Some-2-clause-only c it ok is =
    let rows_found =
    c.in_ok-found.ensures.only it.parts.rows (crl_part it.parts.crl ++ last_line it.parts.ends (positions_of it)) ok.rows
    (no_row it.parts.crl it.parts.ends (positions_of it)) (is ∙ parts_text it) in
    let rows = rw c.in-Some.is at rows_found in
    let others_found = c.in_ok-crl.ensures.only it.parts.crl it.parts.ends (positions_of it) ok.crl ok.positions rows.1 in
    let others = rw c.in-Some-2.is at others_found in
    (rows.0, others.0, others.1, others.2)
