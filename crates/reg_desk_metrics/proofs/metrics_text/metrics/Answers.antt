use Rattle.reg_desk_metrics.proofs.MetricsTexts.{further}
use Rattle.reg_desk_metrics.proofs.metrics_text.metrics.Goals as goal

pub returns : goal.returns
returns c =
    let program = further _ _ _ _ (further _ _ _ _ c.in_ok-text.ensures.items c.in_ok-put_build.ensures) c.in_ok-put_clock.ensures in
    let register = further _ _ _ _ (further _ _ _ _ program c.in_ok-put_register.ensures) c.in_ok-put_requests.ensures in
    let outcomes = further _ _ _ _ (further _ _ _ _ register c.in_ok-put_answers.ensures) c.in_ok-put_lines.ensures in
    let signatures = further _ _ _ _ (further _ _ _ _ (further _ _ _ _ outcomes c.in_ok-put_signed.ensures) c.in_ok-put_last.ensures) c.in_ok-put_failing_since.ensures in
    let connections = further _ _ _ _ (further _ _ _ _ signatures c.in_ok-put_connections.ensures) c.in_ok-put_lost.ensures in
    let seconds = further _ _ _ _ (further _ _ _ _ connections c.in_ok-put_times.ensures) c.in_ok-put_routes.ensures in
    further _ _ _ _ (further _ _ _ _ seconds c.in_ok-put_failures.ensures) c.in_ok-put_responder.ensures
