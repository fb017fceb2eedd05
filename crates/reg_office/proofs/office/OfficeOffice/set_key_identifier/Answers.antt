use Rattle.std.proofs.Common.{Ok, Err, refl}
use Rattle.reg_der.specs.Issuers.{with_key_identifier}
use Rattle.reg_office_api.specs.Settings.{SetsKeyIdentifier}
use Rattle.reg_office.specs.AfterStoppedCommand.{IsIdentified, identifier_call}
use Rattle.reg_office_reads.proofs.PublicLaws.{answer_of_fault}
use Rattle.reg_office.proofs.Identified.{identifier_keeps_sound}
use Rattle.reg_office.proofs.Leading.{stops_lead}
use Rattle.reg_office.proofs.Setting.{set_change, set_stops, unset_change}
use Rattle.reg_office.proofs.office.OfficeOffice.set_key_identifier.Goals as goal

pub returns-in-Ok-clause-ok : goal.returns-in-Ok-clause-ok
returns-in-Ok-clause-ok g c records stands clean =
    let identity = g.S.Signer.identity c.args.self.now.signer in
    record {
      shown = c.in-Ok.ensures.ok records stands.shown clean;
      sound = identifier_keeps_sound g.S.Signer.signs identity records c.args.octets (c.in-Ok.ensures.follows records stands.shown clean) stands.sound;
    }

pub returns-in-Ok-clause-stops : goal.returns-in-Ok-clause-stops
returns-in-Ok-clause-stops g c =
    set_stops g.C.Store g.S.Signer.signs _ _ _ _ (identifier_call c.args.octets) (λ records. with_key_identifier records c.args.octets) (SetsKeyIdentifier c.args.octets)
    (λ done records. refl) (λ why records. refl) (λ records. refl) (λ identity records trees rests. rests)
    (IsIdentified g.C.Store c.args.self.now.store c.args.octets)
    (λ held trees is_open leaves. g.met.C.Store.settled held.store trees is_open leaves) refl
    (λ records stands trees identified. identified records stands.shown)
    (Ok tt) (set_change tt c.in-Ok.ensures.changed) tt (returns-in-Ok-clause-ok g c)

pub returns-in-Ok-clause-sets : goal.returns-in-Ok-clause-sets
returns-in-Ok-clause-sets g c =
    stops_lead g.C.Store g.S.Signer.signs (identifier_call c.args.octets) _ (λ signers. SetsKeyIdentifier c.args.octets (Ok tt)) _ _
    (returns-in-Ok-clause-stops g c)

pub returns-in-Err-clause-stops : goal.returns-in-Err-clause-stops
returns-in-Err-clause-stops g c =
    set_stops g.C.Store g.S.Signer.signs _ _ _ _ (identifier_call c.args.octets) (λ records. with_key_identifier records c.args.octets) (SetsKeyIdentifier c.args.octets)
    (λ done records. refl) (λ why records. refl) (λ records. refl) (λ identity records trees rests. rests)
    (IsIdentified g.C.Store c.args.self.now.store c.args.octets)
    (λ held trees is_open leaves. g.met.C.Store.settled held.store trees is_open leaves) refl
    (λ records stands trees identified. identified records stands.shown)
    (Err c.from.result) (unset_change c.in-Err.fault c.from.result c.in-Err.ensures.changed)
    (answer_of_fault c.in-Err.fault c.from.result c.from.ensures) (λ records stands clean. tt)

pub returns-in-Err-clause-sets : goal.returns-in-Err-clause-sets
returns-in-Err-clause-sets g c =
    stops_lead g.C.Store g.S.Signer.signs (identifier_call c.args.octets) _ (λ signers. SetsKeyIdentifier c.args.octets (Err c.from.result)) _ _
    (returns-in-Err-clause-stops g c)
