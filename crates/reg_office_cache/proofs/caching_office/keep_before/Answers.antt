use Rattle.std.proofs.Common.{◌∙◌, sym}
use Rattle.reg_crl.specs.Signing.{signed_by}
use Rattle.reg_office_cache.proofs.KeptRows.{run_kept, run_none}
use Rattle.reg_office_cache.proofs.caching_office.keep_before.Goals as goal

pub returns-then-has_decline-clause-ran : goal.returns-then-has_decline-clause-ran
returns-then-has_decline-clause-ran g c identity before after outcomes run are =
    run_none (signed_by g.S.Signer.signs identity) before after c.args.commands.now outcomes c.args.known.now c.forget.new.self c.forget.ensures.rows c.forget.ensures.requests c.forget.ensures.revocations run are

pub returns-else-has_decline-clause-ran : goal.returns-else-has_decline-clause-ran
returns-else-has_decline-clause-ran g c identity before after outcomes run are =
    run_kept (signed_by g.S.Signer.signs identity) before after c.args.commands.now outcomes c.args.known.now (sym c.has_decline.ensures ∙ c.if-has_decline.false) run are
