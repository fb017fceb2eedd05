use Rattle.std.proofs.Common.{◌∙◌, arith}
use Rattle.reg_desk_jobs.proofs.Comparing.{put_above}
use Rattle.reg_desk_jobs.proofs.published.put_missing_crl.Goals as goal

pub returns : goal.returns
returns c =
    put_above c.args.latest c.args.number c.latest_number-most.result _ _ _ _ c.latest_number-most.ensures (omega (arith, c.if-number-most.false))
    (c.as_bytes.ensures.text ∙ c.of.ensures.text) c.put_line.ensures
