-- The outcome of a request.
use Rattle.std.specs.Prelude.{ℕ, Vec}
use Rattle.reg_desk_server.specs.Exchange.{Outcome, said, pending}
use Rattle.reg_io.specs.declared.begun.ReadyOrUnsigned.{ReadyOrUnsigned}
use Rattle.reg_io.specs.declared.begun.ReadyOrUnsigned.TheVariants.{Ready, Unsigned}

-- the outcome for a handler's result: the answer's text, or the ticket of an answer that is to be signed
abbrev pub outcome_of : {T Z : Type 0} → ReadyOrUnsigned (Vec ℕ Z) T → Outcome T
outcome_of (Ready text) = said text.items
outcome_of (Unsigned ticket) = pending ticket
