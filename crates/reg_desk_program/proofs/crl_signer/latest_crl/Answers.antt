use Rattle.std.proofs.Common.{◌∙◌, sym, ap}
use Rattle.std.specs.Prelude.{option_map}
use Rattle.std.proofs.lemmas.Result.{IfOk-weaker}
use Rattle.sqlite.specs.Held.{state}
use Rattle.reg_core.specs.Records.{Crl}
use Rattle.reg_store_tables.proofs.PublicLaws.{looked_shows, looked_then, shows_until, was_clean}
use Rattle.reg_office.proofs.PublicLaws.{latest_in}
use Rattle.reg_desk_program.proofs.crl_signer.latest_crl.Goals as goal

pub returns-in-Some-clause-found : goal.returns-in-Some-clause-found
returns-in-Some-clause-found g c records shown sound clean =
    let s = g.C.Store in
    let first = c.latest_crl.new.self in
    let second = c.crl.new.self in
    let shown_1 = looked_shows c.latest_crl.ensures.looked records shown in
    let clean_1 = was_clean (state s first) (state s second) c.crl.ensures.looked.survives.clean clean in
    let latest_is = sym (c.in_ok-row.ensures.found records (shows_until _ shown) clean_1) ∙ c.in-Some.is in
    let same = (latest_in 1 records.crls c.in-Some.row sound.crls.numbered latest_is).0 in
    IfOk-weaker c.crl.result _ _ (λ der read. read ∙ ap (option_map (λ (crl : Crl). crl.bytes)) same) (c.crl.ensures.found records (shows_until _ shown_1) clean)

pub returns-in-Some-clause-looked : goal.returns-in-Some-clause-looked
returns-in-Some-clause-looked g c = looked_then c.latest_crl.ensures.looked c.crl.ensures.looked
