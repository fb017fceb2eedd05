use Rattle.std.proofs.Common.{◌≡◌, ◌≤◌, ◌⊎◌, length}
use Rattle.reg_crl_signer.specs.SignerConnections.{HoldsAnswer, Receives}
use Rattle.reg_crl_signer.specs.declared.signer_connection.Framing.TheVariants.{ByLength}
use Rattle.reg_crl_signer.specs.declared.signer_connection.Progress.TheVariants.{Waiting}
use Rattle.reg_crl_signer.proofs.signer_connection.SignerConnection.receive.Given as goal

-- what has come so far: at least an octet with each read
abbrev pub invariant-loop-reads : goal.invariant-loop-reads
invariant-loop-reads g l = record {
  so_far : Receives g.S.Read.remaining l.initial.self l.self;
  waits : ((l.self ≡ l.initial.self) × (l.reads ≡ 0)) ⊎ ((l.self.progress ≡ Waiting) × (length l.self.received.items ≤ 4100));
  grows : l.reads ≤ length l.self.received.items;
  partial : l.self.progress ≡ Waiting → l.self.framing ≡ ByLength → ¬ HoldsAnswer l.initial.self → ¬ HoldsAnswer l.self;
}
