use Rattle.std.proofs.Common.{refl}
use Rattle.reg_desk_server.specs.declared.request_bytes.Received.TheVariants as received
use Rattle.reg_desk_server.proofs.FeedLemmas.{proceeds_of}
use Rattle.reg_desk_server.proofs.feed_exchange.FeedExchange.advance.Goals as goal

pub returns-in-Blocked-clause-proceeds : goal.returns-in-Blocked-clause-proceeds
returns-in-Blocked-clause-proceeds g c =
    proceeds_of _ _ _ _ c.transfer_at.result _ (λ lost. let bad : ⊥ = cc in absurd bad) c.transfer_at.ensures.transfers

pub returns-in-More-clause-proceeds : goal.returns-in-More-clause-proceeds
returns-in-More-clause-proceeds g c =
    proceeds_of _ _ _ _ c.transfer_at.result _ (λ lost. let bad : ⊥ = cc in absurd bad) c.transfer_at.ensures.transfers

pub returns-in-Ended-clause-proceeds : goal.returns-in-Ended-clause-proceeds
returns-in-Ended-clause-proceeds g c =
    proceeds_of _ _ _ _ c.transfer_at.result _ (λ lost. let bad : ⊥ = cc in absurd bad) c.transfer_at.ensures.transfers

pub returns-in-Whole-clause-proceeds : goal.returns-in-Whole-clause-proceeds
returns-in-Whole-clause-proceeds g c = proceeds_of _ _ _ _ c.transfer_at.result _ (λ lost. refl) c.transfer_at.ensures.transfers

pub returns-in-Broken-clause-proceeds : goal.returns-in-Broken-clause-proceeds
returns-in-Broken-clause-proceeds g c = proceeds_of _ _ _ _ c.transfer_at.result _ (λ lost. refl) c.transfer_at.ensures.transfers

pub returns-in-OutOfMemory-clause-proceeds : goal.returns-in-OutOfMemory-clause-proceeds
returns-in-OutOfMemory-clause-proceeds g c = proceeds_of _ _ _ _ c.transfer_at.result _ (λ lost. refl) c.transfer_at.ensures.transfers

pub returns-in-Blocked-clause-progress : goal.returns-in-Blocked-clause-progress
returns-in-Blocked-clause-progress g c = record {
  result = received.Blocked;
  transfers = rw c.in-Blocked.is at c.transfer_at.ensures.transfers;
  states = c.progress.ensures;
}

pub returns-in-More-clause-progress : goal.returns-in-More-clause-progress
returns-in-More-clause-progress g c = record {
  result = received.More;
  transfers = rw c.in-More.is at c.transfer_at.ensures.transfers;
  states = c.progress_at_once.ensures;
}

pub returns-in-Ended-clause-progress : goal.returns-in-Ended-clause-progress
returns-in-Ended-clause-progress g c = record {
  result = received.Ended;
  transfers = rw c.in-Ended.is at c.transfer_at.ensures.transfers;
  states = c.progress_at_end.ensures;
}

pub returns-in-Whole-clause-progress : goal.returns-in-Whole-clause-progress
returns-in-Whole-clause-progress g c = record {
  result = received.Whole;
  transfers = rw c.in-Whole.is at c.transfer_at.ensures.transfers;
  states = refl;
}

pub returns-in-Broken-clause-progress : goal.returns-in-Broken-clause-progress
returns-in-Broken-clause-progress g c = record {
  result = received.Broken;
  transfers = rw c.in-Broken.is at c.transfer_at.ensures.transfers;
  states = refl;
}

pub returns-in-OutOfMemory-clause-progress : goal.returns-in-OutOfMemory-clause-progress
returns-in-OutOfMemory-clause-progress g c = record {
  result = received.OutOfMemory;
  transfers = rw c.in-OutOfMemory.is at c.transfer_at.ensures.transfers;
  states = refl;
}
