use Rattle.std.proofs.Common.{arith, inr}
use Rattle.reg_crl_signer.proofs.Receipts.{fails_on, partial_on, receives_on, rests_on, whole_on, same_or_waiting, too_many}
use Rattle.reg_crl_signer.proofs.signer_connection.SignerConnection.receive.Goals as goal

pub returns-then-not-receive_once-clause-receives : goal.returns-then-not-receive_once-clause-receives
returns-then-not-receive_once-clause-receives g c =
    receives_on g.S.Read.remaining c.args.self.now c.loop-reads.self c.receive_once.new.self
    c.loop-reads.invariant.so_far (same_or_waiting c.loop-reads.self c.args.self.now c.loop-reads.reads c.loop-reads.invariant.waits) c.receive_once.ensures.receives

pub returns-then-not-receive_once-clause-rests : goal.returns-then-not-receive_once-clause-rests
returns-then-not-receive_once-clause-rests g c =
    rests_on g.S.Read.remaining g.S.Source.failed c.args.self.now c.loop-reads.self c.receive_once.new.self
    c.loop-reads.invariant.so_far (same_or_waiting c.loop-reads.self c.args.self.now c.loop-reads.reads c.loop-reads.invariant.waits) (c.receive_once.ensures.rests c.if-not-receive_once.true)

pub returns-then-not-receive_once-clause-whole : goal.returns-then-not-receive_once-clause-whole
returns-then-not-receive_once-clause-whole g c =
    whole_on g.S.Read.remaining c.args.self.now c.loop-reads.self c.receive_once.new.self
    (same_or_waiting c.loop-reads.self c.args.self.now c.loop-reads.reads c.loop-reads.invariant.waits) c.receive_once.ensures.whole

pub returns-then-not-receive_once-clause-partial : goal.returns-then-not-receive_once-clause-partial
returns-then-not-receive_once-clause-partial g c =
    partial_on g.S.Read.remaining c.args.self.now c.loop-reads.self c.receive_once.new.self c.receive_once.ensures.receives.same_framing
    (same_or_waiting c.loop-reads.self c.args.self.now c.loop-reads.reads c.loop-reads.invariant.waits) c.loop-reads.invariant.partial
    c.receive_once.ensures.partial

pub returns-then-not-receive_once-clause-fails : goal.returns-then-not-receive_once-clause-fails
returns-then-not-receive_once-clause-fails g c =
    fails_on g.S.Read.remaining g.S.Source.failed c.args.self.now c.loop-reads.self c.receive_once.new.self
    c.loop-reads.invariant.so_far (same_or_waiting c.loop-reads.self c.args.self.now c.loop-reads.reads c.loop-reads.invariant.waits) c.receive_once.ensures.fails

pub loop-reads-preserved : goal.loop-reads-preserved
loop-reads-preserved g c =
    let grows = c.receive_once.ensures.grows c.if-not-receive_once.false in
    record {
      so_far = receives_on g.S.Read.remaining c.args.self.now c.loop-reads.self c.receive_once.new.self
          c.loop-reads.invariant.so_far (same_or_waiting c.loop-reads.self c.args.self.now c.loop-reads.reads c.loop-reads.invariant.waits) c.receive_once.ensures.receives;
      waits = inr (c.receive_once.ensures.more c.if-not-receive_once.false, grows.1);
      grows = omega (arith, c.loop-reads.invariant.grows, grows.0);
      partial = partial_on g.S.Read.remaining c.args.self.now c.loop-reads.self c.receive_once.new.self c.receive_once.ensures.receives.same_framing
          (same_or_waiting c.loop-reads.self c.args.self.now c.loop-reads.reads c.loop-reads.invariant.waits) c.loop-reads.invariant.partial
          c.receive_once.ensures.partial;
    }

-- more reads than the longest answer has octets are not made
pub returns-clause-receives : goal.returns-clause-receives
returns-clause-receives g c = c.loop-reads.invariant.so_far

pub returns-clause-rests : goal.returns-clause-rests
returns-clause-rests g c is works = absurd (too_many c.loop-reads.self c.args.self.now c.loop-reads.reads c.loop-reads.invariant.waits c.loop-reads.invariant.grows (omega arith))

pub returns-clause-whole : goal.returns-clause-whole
returns-clause-whole g c waited arrived = absurd (too_many c.loop-reads.self c.args.self.now c.loop-reads.reads c.loop-reads.invariant.waits c.loop-reads.invariant.grows (omega arith))

pub returns-clause-partial : goal.returns-clause-partial
returns-clause-partial g c = c.loop-reads.invariant.partial

pub returns-clause-fails : goal.returns-clause-fails
returns-clause-fails g c works is = absurd (too_many c.loop-reads.self c.args.self.now c.loop-reads.reads c.loop-reads.invariant.waits c.loop-reads.invariant.grows (omega arith))
