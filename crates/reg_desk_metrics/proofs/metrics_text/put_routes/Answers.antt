use Rattle.reg_desk_metrics.proofs.MetricsTexts.{routes_begin, routes_more}
use Rattle.reg_desk_metrics.proofs.metrics_text.put_routes.Goals as goal

pub loop-index-init : goal.loop-index-init
loop-index-init c = routes_begin c.extend_from_slice.new.self.items c.args.tally.now

pub loop-index-preserved : goal.loop-index-preserved
loop-index-preserved c =
    routes_more c.extend_from_slice.new.self.items c.loop-index.text.items c.put_route.new.text.items c.route_name.result.now c.args.tally.now c.loop-index.index
    c.loop-index.invariant c.in_ok-put_route.ensures c.route_name.ensures
