use Rattle.reg_desk_metrics.specs.Metrics.{numbers_text}
use Rattle.reg_desk_metrics.proofs.MetricsTexts.{parts_6}
use Rattle.reg_desk_metrics.proofs.metrics_text.put_numbers.Goals as goal

pub returns : goal.returns
unfolding numbers_text
returns c =
    parts_6 _ _ _ _ _ _ _ _ _ _ _ _ _ c.in_ok-put_sample.ensures c.in_ok-put_certificates.ensures c.in_ok-put_rows.ensures c.in_ok-put_moment.ensures c.in_ok-put_crl.ensures
    c.in_ok-put_moment-2.ensures
