use Rattle.std.proofs.Common.{sym, ap, ◌∙◌}
use Rattle.reg_core.specs.Changes.{changed_by}
use Rattle.reg_office.specs.Replays.{with_feed_row}
use Rattle.reg_office.proofs.feed_row.FeedRow.is_entered_by.Goals as goal

pub returns-in-Subscriber : goal.returns-in-Subscriber
returns-in-Subscriber c is records now = ap (changed_by records now) (c.enters_subscriber.ensures.0 is) ∙ ap (with_feed_row records now) (sym c.in-Subscriber.is)

pub returns-in-Order : goal.returns-in-Order
returns-in-Order c is records now = ap (changed_by records now) (c.enters_order.ensures.0 is) ∙ ap (with_feed_row records now) (sym c.in-Order.is)

pub returns-in-Certificate : goal.returns-in-Certificate
returns-in-Certificate c is records now = ap (changed_by records now) (c.enters_certificate.ensures.0 is) ∙ ap (with_feed_row records now) (sym c.in-Certificate.is)

pub returns-in-Request : goal.returns-in-Request
returns-in-Request c is records now = ap (changed_by records now) (c.enters_request.ensures.0 is) ∙ ap (with_feed_row records now) (sym c.in-Request.is)

pub returns-in-Declined : goal.returns-in-Declined
returns-in-Declined c is records now = ap (changed_by records now) (c.enters_decline.ensures.0 is) ∙ ap (with_feed_row records now) (sym c.in-Declined.is)

-- the notAfter goes into no record
pub returns-in-Revocation : goal.returns-in-Revocation
returns-in-Revocation c is records now =
    let (not_after, same) = c.enters_revocation.ensures.0 is in
    ap (changed_by records now) same ∙ ap (with_feed_row records now) (sym c.in-Revocation.is)
