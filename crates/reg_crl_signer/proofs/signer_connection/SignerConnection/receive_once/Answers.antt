use Rattle.std.proofs.Common.{◌≡◌, ℕ, ◌<◌, List, Option, Result, Ok, length, take, subst, ap, arith}
use Rattle.std.specs.Io.KnownBytes.{Consumes, IsAtEnd, ReadConsumes}
use Rattle.std.proofs.lemmas.List.{length-take-le}
use Rattle.reg_crl_signer.specs.SignerConnections.{memory}
use Rattle.reg_crl_signer.proofs.Receipts.{fails_after, fails_at_end, receives_kept}
use Rattle.reg_crl_signer.proofs.signer_connection.SignerConnection.receive_once.Goals as goal

pub returns-in-Err-clause-receives : goal.returns-in-Err-clause-receives
returns-in-Err-clause-receives g c = receives_kept g.S.Read.remaining c.args.self.now _ c.in-Err.ensures.bytes

-- what a read gave, by its result
read_gave : {E : Type 0} (old new : Option (List ℕ)) (result : Result ℕ E) (count : ℕ) (buf : List ℕ) → result ≡ Ok count → ReadConsumes old new result buf
    → Consumes old new (take count buf) × (count ≡ 0 → 0 < length buf → IsAtEnd new)
read_gave {E} old new result count buf is gave = subst (λ (r : Result ℕ E). ReadConsumes old new r buf) is gave

pub returns-in-Ok-eq0-clause-fails : goal.returns-in-Ok-eq0-clause-fails
returns-in-Ok-eq0-clause-fails g c works is =
    let gave =
    read_gave (g.S.Read.remaining c.args.self.now.stream) (g.S.Read.remaining c.try_read.new.self) c.try_read.result c.in-Ok-eq0.field-0
    c.try_read.new.buf c.in-Ok-eq0.is c.try_read.ensures.bytes in
    fails_at_end g.S.Read.remaining g.S.Source.failed c.args.self.now _ (take c.in-Ok-eq0.field-0 c.try_read.new.buf) gave.0
    (gave.1 c.in-Ok-eq0.field-0-test (omega (arith, c.try_read.auto.buf))) (c.progress_after-self.ensures.failed is)

pub returns-in-Ok-extend_from_slice-clause-fails : goal.returns-in-Ok-extend_from_slice-clause-fails
returns-in-Ok-extend_from_slice-clause-fails g c works is =
    let came : length (take c.in-Ok.count c.try_read.new.buf) ≡ c.in-Ok.count = length-take-le c.in-Ok.count c.try_read.new.buf c.in-Ok.ensures.bound.0 in
    fails_after g.S.Read.remaining g.S.Source.failed c.args.self.now _ (take c.in-Ok.count c.try_read.new.buf) c.in-Ok.ensures.bytes.0 (omega arith)
    (c.progress_after-self-in-Ok-extend_from_slice.ensures.failed is)

-- nothing that came was stored
pub returns-in-Err-extend_from_slice-clause-fails : goal.returns-in-Err-extend_from_slice-clause-fails
returns-in-Err-extend_from_slice-clause-fails g c works is =
    let came : length (take c.in-Ok.count c.try_read.new.buf) ≡ c.in-Ok.count = length-take-le c.in-Ok.count c.try_read.new.buf c.in-Ok.ensures.bound.0 in
    memory (take c.in-Ok.count c.try_read.new.buf) c.in-Ok.ensures.bytes.0 (omega (arith, ap length c.in-Err-extend_from_slice.ensures.items))
