use Rattle.std.proofs.Common.{List}
use Rattle.reg_desk_jobs.specs.Fetches.{WentOn}
use Rattle.reg_desk_server.specs.declared.feed_exchange.FeedExchange.{FeedExchange}
use Rattle.reg_desk_server.specs.declared.leader_stream.LeaderStream.{LeaderStream}
use Rattle.reg_desk_jobs.proofs.fill_job.Fetcher.fetch_once.Given as goal

-- the exchange went on, and the program waited in each turn
abbrev pub invariant-loop : goal.invariant-loop
invariant-loop g l =
    ((steps : List (FeedExchange LeaderStream)) × WentOn steps l.initial.exchange l.exchange) × g.M.Machine.waited l.counter
