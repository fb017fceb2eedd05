use Rattle.std.proofs.Common.{subst, sym}
use Rattle.reg_core.specs.Records.{no_records}
use Rattle.reg_office.proofs.PublicLaws.{created_sound_for, leaves_made}
use Rattle.reg_desk_program.specs.Files.{MakesOver}
use Rattle.reg_desk_program.proofs.OpeningFaults.{not_created}
use Rattle.reg_desk_program.proofs.offices.create_over.Goals as goal

pub returns-in-Ok-clause-made : goal.returns-in-Ok-clause-made
returns-in-Ok-clause-made g c =
    let store = g.C.Store in
    let signs = g.S.Signer.signs in
    let signers = g.S.Signer.identity c.new.result.signer in
    let records = no_records c.args.issuer c.args.policy in
    let made = c.in-Ok.ensures.creates in
    subst (λ held. MakesOver store c.args.connection signs held signers records) (sym c.new.ensures.store) (record {
      stands = record { shown = made.kept; sound = created_sound_for signs signers c.args.issuer c.args.policy };
      leaves = λ whole.
          leaves_made store c.args.connection c.in-Ok.store records _ (λ held trees is_open leaves. g.met.C.Store.settled held.store trees is_open leaves)
          whole made.survives signs signers made.empty (λ trees created. created.1);
      empty = made.empty;
      clean = made.survives.clean;
    })

pub returns-in-Err-clause-err : goal.returns-in-Err-clause-err
returns-in-Err-clause-err g c = not_created _ _ c.from.ensures c.in-Err.ensures.uncreated.faults
