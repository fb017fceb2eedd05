use Rattle.reg_desk_metrics.specs.Metrics.{requests_text}
use Rattle.reg_desk_metrics.proofs.MetricsTexts.{parts_3}
use Rattle.reg_desk_metrics.proofs.metrics_text.put_requests.Goals as goal

pub returns : goal.returns
unfolding requests_text
returns c =
    rw c.in-Some.is (parts_3 _ _ _ _ _ _ _ c.in_ok-put_sample.ensures c.in_ok-put_sample-2.ensures c.in_ok-put_moment.ensures)
