use Rattle.std.proofs.Common.{◌≡◌, ◌≤◌, ◌++◌, ◌∷◌, [], List, length, sym, ◌∙◌, ap, subst, arith}
use Rattle.std.proofs.lemmas.Bool.{eqb-false}
use Rattle.std.proofs.lemmas.List.{map_push}
use Rattle.reg_ocsp.specs.Request.{Id}
use Rattle.reg_ocsp.specs.Views.{ids_model, id_model}
use Rattle.reg_ocsp.proofs.Loops.{Lists, ids_go_on}
use Rattle.reg_ocsp.proofs.ocsp_request.ids.Goals as goal

pub loop-rest-preserved : goal.loop-rest-preserved
loop-rest-preserved c =
    let some : 1 ≤ length c.loop-rest.rest.now = let ne = eqb-false (length c.loop-rest.rest.now) 0 (sym c.is_empty-in-loop-rest.ensures ∙ c.loop-rest-test.true) in omega (arith, ne) in
    let pushed : ids_model c.push.new.self.items ≡ ids_model c.loop-rest.ids.items ++ id_model c.in-Some.id ∷ [] =
    ap ids_model c.in_ok-push.ensures.items ∙ map_push id_model c.loop-rest.ids.items c.in-Some.id in
    subst (λ (front : List Id). Lists front c.in-Some.after.now c.args.bytes.now) (sym pushed)
    (ids_go_on (ids_model c.loop-rest.ids.items) c.loop-rest.rest.now c.in-Some.after.now c.args.bytes.now (id_model c.in-Some.id) some c.in-Some.ensures.exact c.loop-rest.invariant)
