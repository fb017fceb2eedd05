use Rattle.std.proofs.Common.{◌-◌, length, drop, sym, ap, ◌∙◌, arith, length-drop, if◌then◌else◌}
use lib.Seq.{take_all}
use Rattle.reg_crl_signer.proofs.announcement.signature_in.Goals as goal

pub returns-then-is_announced-clause-signature : goal.returns-then-is_announced-clause-signature
returns-then-is_announced-clause-signature c =
    let all = c.args.answer.now in
    take_all (length all - 16) (drop 16 all) (omega (arith, length-drop 16 all))
    ∙ ap (λ b. if b then drop 16 all else all) (sym c.if-is_announced.true ∙ c.is_announced.ensures.announced)
