use Rattle.std.proofs.Common.{◌≡◌, ◌+◌, rules}
use Rattle.reg_store_tables.proofs.PublicLaws.{so}
use Rattle.reg_office_cache.proofs.UndecidedRows.{request_taken}
use Rattle.reg_office_cache.proofs.undecided.take_request.Goals as goal

pub returns-clause-looks : goal.returns-clause-looks
returns-clause-looks g c =
    let more : c.in_ok-requests.requests ≡ c.args.known.now.requests + 1 = search rules in
    so c.in_ok-row.ensures (λ records sound row next are all. (
      request_taken records c.args.known.now (record { rows = c.put.new.self.rows; requests = c.in_ok-requests.requests; revocations = c.put.new.self.revocations }) c.args.request c.in_ok-row.row are all next row c.put.ensures.revocations more
          c.in_ok-put.ensures.ok,
      c.put.ensures.revocations,
    ))
