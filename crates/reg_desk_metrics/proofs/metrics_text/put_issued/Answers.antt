use Rattle.std.proofs.Common.{ℕ, ◌-◌, ap, ◌∙◌}
use Rattle.reg_desk_metrics.proofs.MetricsTexts.{issued_is}
use Rattle.reg_desk_metrics.proofs.metrics_text.put_issued.Goals as goal

pub returns : goal.returns
returns c =
    issued_is _ _ _ _ _ c.args.now c.args.crl c.args.life _ _ _ c.in_ok-put_sample.ensures c.in_ok-put_sample-2.ensures c.in_ok-put_sample-3.ensures
    c.in_ok-put_sample-4.ensures c.secs-this_update.ensures.value c.saturating_add.ensures (c.saturating_sub.ensures ∙ ap (λ (it : ℕ). it - c.secs-this_update.result) c.secs.ensures.value)
