use Rattle.reg_http.proofs.Routed.{finds_at, ocsp_at}
use Rattle.reg_http.proofs.paths.route_for_path.Goals as goal

pub returns-then-is_ocsp : goal.returns-then-is_ocsp
returns-then-is_ocsp c = ocsp_at c.args.path.now (c.is_ocsp.ensures c.if-is_ocsp.true)

pub returns-in-Ok : goal.returns-in-Ok
returns-in-Ok c = finds_at c.in-Ok.router c.args.path.now c.matched_route.result c.in-Ok.ensures c.requires c.matched_route.ensures
