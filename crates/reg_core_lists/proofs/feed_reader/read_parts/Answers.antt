use Rattle.std.proofs.Common.{◌≡◌, ◌≢◌, ◌∙◌}
use Rattle.std.specs.Prelude.{option_map}
use Rattle.reg_core_lists.specs.Feed.{crl_behind, feed_crl_of, feed_rows_of}
use Rattle.reg_core_lists.specs.ReceivedPages.{HasRoomForCrl, received_of, received_text}
use Rattle.reg_core_lists.specs.declared.feed_reader.ReceivedPage.{ReceivedPage}
use Rattle.reg_core_lists.proofs.PartsRead.{if_some, whole_parts}
use Rattle.reg_core_lists.proofs.feed_reader.read_parts.Goals as goal

pub returns-in-Some-2-clause-text : goal.returns-in-Some-2-clause-text
returns-in-Some-2-clause-text c =
    let head = rw c.in-Some.is at c.in_ok-found.ensures.text in
    let parts = rw c.in-Some-2.is at c.in_ok-rows.ensures.text in
    let page : ReceivedPage =
    record {
      head = c.in-Some.found.0;
      rows = c.in-Some-2.rows;
      crl = c.in-Some-2.crl;
      ends = c.in-Some-2.ends;
      positions = c.in-Some-2.positions;
    } in
    if_some (crl_behind (feed_rows_of page.rows) (option_map feed_crl_of page.crl) ≢ option_map feed_crl_of page.crl)
    (λ it. HasRoomForCrl (received_of it).parts) (λ it. c.args.page.now ≡ received_text (received_of it)) page c.page_with.result c.page_with.ensures
    (head ∙ whole_parts (received_of page) c.in-Some.found.1.now parts)
