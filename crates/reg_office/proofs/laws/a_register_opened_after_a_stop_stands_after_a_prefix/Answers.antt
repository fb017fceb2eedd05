-- What a stop may leave of a run is shown by the register that is opened again.
use Rattle.std.proofs.Math.Logic.{∥∥₁_map}
use Rattle.sqlite.specs.Held.{state}
use Rattle.reg_office.specs.OpenedAgain.{StandsPartlyRun}
use Rattle.reg_office.proofs.OpenedAgain.{stands_partly_run}
use Rattle.reg_office.proofs.Stopping.{Settles, partly_run}
use Rattle.reg_office.proofs.laws.a_register_opened_after_a_stop_stands_after_a_prefix.Goals as goal

pub returns : goal.returns
returns g c = λ old new again identity records commands outcomes stands up live runs opened.
    let s = g.C.Store in
    let signs = g.S.Signer.signs in
    let settles : Settles s = λ held found is_open leaves. g.met.C.Store.settled held.store found is_open leaves in
    ∥∥₁_map opened.found (λ may.
    let stands_part : StandsPartlyRun s signs again identity records commands outcomes =
    stands_partly_run s signs again identity opened.opens opened.live records commands outcomes
    (partly_run s signs identity old new records commands outcomes (state s again).committed.trees settles stands up live runs opened.honest may) in
    stands_part)
