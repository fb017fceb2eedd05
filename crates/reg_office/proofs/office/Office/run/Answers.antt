use Rattle.std.specs.Prelude.{Result}
use Rattle.std.proofs.Common.{◌≡◌, ◌+◌, ℕ, List, [], ◌∷◌, ◌++◌, length, take, refl, sym, ap, subst, ◌∙◌, append_assoc, arith}
use Rattle.std.proofs.lemmas.List.{append-nil as append_nil, take_all, take_more}
use Rattle.sqlite.specs.Held.{state}
use Rattle.reg_core.specs.declared.command.Command.{Command}
use Rattle.reg_core.specs.declared.command.Reply.{Reply}
use Rattle.reg_core.specs.declared.refusal.Fault.{Fault}
use Rattle.reg_crl.specs.Signing.{Identity}
use Rattle.reg_office.specs.AfterStoppedCommand.{AreRunByOne, IsRunOne}
use Rattle.reg_office.specs.Stands.{HasOutcome, HasRun}
use Rattle.reg_store_tables.proofs.PublicLaws.{was_clean}
use Rattle.reg_office.proofs.Stopping.{one_more, partly_run, ran_all, run_clean, run_length}
use Rattle.reg_office.proofs.office.Office.run.Goals as goal

pub loop-now-init : goal.loop-now-init
loop-now-init g c = record {
  room = omega (arith, c.in-Ok.ensures.ok);
  same_identity = refl;
  same_responder = refl;
  idle = λ clean was. was;
  came = ([], c.in-Ok.ensures.items ∙ sym (append_nil c.args.outcomes.now.items), refl);
}

pub loop-now-preserved : goal.loop-now-preserved
loop-now-preserved g c =
    let s = g.C.Store in
    let signs = g.S.Signer.signs in
    let signers = g.S.Signer.identity c.args.self.now.signer in
    let commands = c.args.commands.now in
    let i = c.loop-now.now-index in
    let timed = c.loop-now-item.result in
    let ran = c.run_one-outcome in
    let new = ran.new.self.store in
    let all : take (i + 1) commands ≡ take i commands ++ timed ∷ [] =
    take_more commands i timed c.loop-now-test.true ∙ ap (λ (x : ℕ × Command). take i commands ++ x ∷ []) (sym c.loop-now-item.is) in
    let one : IsRunOne s signs signers c.loop-now.self.store new timed.0 timed.1 ran.result =
    subst
    (λ (w : Identity). IsRunOne s signs w c.loop-now.self.store new timed.0 timed.1 ran.result)
    c.loop-now.invariant.same_identity
    (record {
      step = λ stood standing clean.
          subst (λ (w : Identity). HasOutcome s signs new w stood timed.0 timed.1 ran.result) ran.ensures.ran.same_identity (ran.ensures.ran.step stood standing clean);
      live = ran.ensures.ran.changed.live;
      survives = ran.ensures.ran.changed.survives;
    }) in
    let earlier = c.loop-now.invariant.came in
    record {
      room = omega (arith, c.in-Ok-push.ensures.len, c.in-Ok-push.ensures.capacity, c.loop-now.invariant.room);
      same_identity = ran.ensures.ran.same_identity ∙ c.loop-now.invariant.same_identity;
      same_responder = ran.ensures.same_responder ∙ c.loop-now.invariant.same_responder;
      idle = λ clean was.
          ran.ensures.ran.idle clean (c.loop-now.invariant.idle (was_clean (state s c.loop-now.self.store) (state s new) ran.ensures.ran.changed.survives.clean clean) was);
      came = (
        earlier.0 ++ ran.result ∷ [],
        c.in-Ok-push.ensures.items
            ∙ (ap (λ (l : List (Result Reply Fault)). l ++ ran.result ∷ []) earlier.1 ∙ append_assoc c.args.outcomes.now.items earlier.0 (ran.result ∷ [])),
        subst
            (λ (l : List (ℕ × Command)). AreRunByOne s signs signers c.args.self.now.store l (earlier.0 ++ ran.result ∷ []) new)
            (sym all)
            (one_more s signs signers c.args.self.now.store c.loop-now.self.store new (take i commands) earlier.0 timed ran.result earlier.2 one),
      );
    }

pub returns-clause-each : goal.returns-clause-each
returns-clause-each g c =
    let signers = g.S.Signer.identity c.args.self.now.signer in
    let came = c.loop-now.invariant.came in
    let all = take_all c.loop-now.now-index c.args.commands.now c.loop-now-test.false in
    (came.0, came.1, run_length g.C.Store g.S.Signer.signs signers c.args.self.now.store c.loop-now.self.store _ came.0 came.2 ∙ ap length all)

pub returns-clause-ran : goal.returns-clause-ran
returns-clause-ran g c records stands clean =
    let signers = g.S.Signer.identity c.args.self.now.signer in
    let came = c.loop-now.invariant.came in
    let all = take_all c.loop-now.now-index c.args.commands.now c.loop-now-test.false in
    let done = c.loop-now.self in (
      came.0,
      came.1,
      subst
          (λ (w : Identity). HasRun g.C.Store g.S.Signer.signs done.store w records c.args.commands.now came.0)
          (sym c.loop-now.invariant.same_identity)
          (ran_all g.C.Store g.S.Signer.signs signers c.args.self.now.store done.store records c.args.commands.now came.0
          (subst (λ (l : List (ℕ × Command)). AreRunByOne g.C.Store g.S.Signer.signs signers c.args.self.now.store l came.0 done.store) all came.2) stands clean),
    )

pub returns-clause-survives : goal.returns-clause-survives
returns-clause-survives g c records stands up live clean =
    let signers = g.S.Signer.identity c.args.self.now.signer in
    let came = c.loop-now.invariant.came in
    let all = take_all c.loop-now.now-index c.args.commands.now c.loop-now-test.false in
    let done = c.loop-now.self in (
      came.0,
      came.1,
      λ trees may. partly_run g.C.Store g.S.Signer.signs signers c.args.self.now.store done.store records c.args.commands.now came.0 trees
          (λ held trees is_open leaves. g.met.C.Store.settled held.store trees is_open leaves) stands up live
          (subst (λ (l : List (ℕ × Command)). AreRunByOne g.C.Store g.S.Signer.signs signers c.args.self.now.store l came.0 done.store) all came.2) clean may,
    )

pub returns-clause-clean : goal.returns-clause-clean
returns-clause-clean g c =
    let signers = g.S.Signer.identity c.args.self.now.signer in
    let came = c.loop-now.invariant.came in
    run_clean g.C.Store g.S.Signer.signs signers c.args.self.now.store c.loop-now.self.store _ came.0 came.2

pub returns-in_default-push-clause-none_ran : goal.returns-in_default-push-clause-none_ran
returns-in_default-push-clause-none_ran g c =
    absurd (omega (arith, c.in_default-push.ensures.full, c.loop-now.invariant.room, c.loop-now-test.true))

pub returns-in_default-push-clause-idle : goal.returns-in_default-push-clause-idle
returns-in_default-push-clause-idle g c =
    absurd (omega (arith, c.in_default-push.ensures.full, c.loop-now.invariant.room, c.loop-now-test.true))

pub returns-in_default-push-clause-clean : goal.returns-in_default-push-clause-clean
returns-in_default-push-clause-clean g c =
    absurd (omega (arith, c.in_default-push.ensures.full, c.loop-now.invariant.room, c.loop-now-test.true))
