use Rattle.std.specs.Prelude.{Result}
use Rattle.std.proofs.Common.{◌≡◌, ◌+◌, ℕ, List, [], ◌∷◌, ◌++◌, take, sym, ap, subst, ◌∙◌}
use Rattle.std.proofs.lemmas.List.{take_all, take_more}
use Rattle.reg_core.specs.declared.command.Command.{Command}
use Rattle.reg_core.specs.declared.command.Reply.{Reply}
use Rattle.reg_core.specs.declared.refusal.Fault.{Fault}
use Rattle.reg_office.specs.Batches.{HappensWithin, RunsWithin}
use Rattle.reg_office.proofs.Batching.{one_more_within}
use Rattle.reg_store_changes.proofs.PublicLaws.{steps_then}
use Rattle.reg_office.proofs.office.Office.run_each.Goals as goal

pub loop-now-preserved : goal.loop-now-preserved
loop-now-preserved g c =
    let s = g.C.Store in
    let signs = g.S.Signer.signs in
    let identity = g.S.Signer.identity c.args.self.now.signer in
    let commands = c.args.commands.now in
    let i = c.loop-now.now-index in
    let timed = c.loop-now-item.result in
    let old = c.args.self.now.store in
    let mid = c.loop-now.self.store in
    let new = c.run_within.new.self.store in
    let earlier = c.loop-now.invariant in
    let ran = c.run_within.ensures in
    let outcome = c.in-Ok-run_within.outcome in
    let all : take (i + 1) commands ≡ take i commands ++ timed ∷ [] =
    take_more commands i timed c.loop-now-test.true ∙ ap (λ (x : ℕ × Command). take i commands ++ x ∷ []) (sym c.loop-now-item.is) in
    let one : HappensWithin s signs identity mid new timed.0 timed.1 outcome =
    subst (λ signer. HappensWithin s signs (g.S.Signer.identity signer) mid new timed.0 timed.1 outcome) earlier.untouched.0 c.in-Ok-run_within.ensures.ran in
    let more = one_more_within s signs identity old mid new (take i commands) c.loop-now.outcomes.items timed outcome earlier.stepped ran.stepped earlier.ran one in
    record {
      untouched = (ran.untouched.0 ∙ earlier.untouched.0, ran.untouched.1 ∙ earlier.untouched.1);
      stepped = steps_then earlier.stepped ran.stepped;
      ran = subst (λ (l : List (ℕ × Command)). RunsWithin s signs identity old new l c.push.new.self.items) (sym all)
          (subst (λ (o : List (Result Reply Fault)). RunsWithin s signs identity old new (take i commands ++ timed ∷ []) o) (sym c.in-Ok-push.ensures.items) more);
    }

pub returns-clause-ran : goal.returns-clause-ran
returns-clause-ran g c =
    let identity = g.S.Signer.identity c.args.self.now.signer in
    let all = take_all c.loop-now.now-index c.args.commands.now c.loop-now-test.false in
    subst (λ (l : List (ℕ × Command)). RunsWithin g.C.Store g.S.Signer.signs identity c.args.self.now.store c.loop-now.self.store l c.loop-now.outcomes.items) all c.loop-now.invariant.ran
