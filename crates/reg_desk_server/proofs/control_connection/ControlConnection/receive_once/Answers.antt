use Rattle.std.proofs.Common.{◌≡◌, ◌⊎◌, ◌∙◌, ap, subst, sym}
use Rattle.std.specs.Prelude.{Option, Some}
use Rattle.std.specs.Io.KnownBytes.{IsAtEnd}
use Rattle.reg_desk_server.specs.ControlLines.{ends_by}
use Rattle.reg_desk_server.specs.declared.handler.ConnectionFault.{ConnectionFault}
use Rattle.reg_desk_server.specs.declared.handler.ConnectionFault.TheVariants as fault
use Rattle.reg_desk_server.proofs.Gatherings.{ends_by_read, gathers_taken}
use Rattle.reg_desk_server.proofs.control_connection.ControlConnection.receive_once.Goals as goal

pub returns-clause-gathers : goal.returns-clause-gathers
returns-clause-gathers g c =
    gathers_taken _ _ _ _ c.gather-received.result _ (λ lost. c.is_end-self.ensures ∙ ap ends_by lost) c.gather-received.ensures.receives

pub returns-clause-ends : goal.returns-clause-ends
returns-clause-ends g c room was ends =
    let failed = g.S.Source-1.failed in
    let left = g.S.Read.remaining c.gather-received.new.reader in
    subst (λ (why : Option ConnectionFault). IsAtEnd left ⊎ (failed ⊎ (why ≡ Some fault.Memory))) (sym c.fault_of-self.ensures)
    (ends_by_read failed left c.gather-received.result (c.gather-received.ensures.ends room) (sym c.is_end-self.ensures ∙ ends))
