use Rattle.std.proofs.Common.{◌≡◌, ◌+◌}
use Rattle.reg_desk_metrics.specs.Metrics.{sum_of}
use Rattle.reg_desk_metrics.proofs.MetricsTexts.{buckets_begin, buckets_more, sum_begin, sum_more}
use Rattle.reg_desk_metrics.proofs.metrics_text.put_buckets.Goals as goal

pub loop-index-init : goal.loop-index-init
loop-index-init c = (buckets_begin c.args.text.now.items c.args.buckets.now, sum_begin c.args.buckets.now)

pub loop-index-preserved : goal.loop-index-preserved
loop-index-preserved c =
    let counted : c.saturating_add-sum.result ≡ sum_of c.args.buckets.now (c.loop-index.index + 1) =
    sum_more c.loop-index.sum c.saturating_add-sum.result c.args.buckets.now c.loop-index.index c.loop-index.invariant.1 c.saturating_add-sum.ensures in (
      buckets_more c.args.text.now.items c.loop-index.text.items c.put_bucket.new.text.items c.bucket_name.result.now c.args.buckets.now c.loop-index.index
          c.saturating_add-sum.result c.loop-index.invariant.0 c.in_ok-put_bucket.ensures c.bucket_name.ensures counted,
      counted,
    )
