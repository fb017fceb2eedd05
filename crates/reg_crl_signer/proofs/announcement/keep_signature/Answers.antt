use Rattle.std.proofs.Common.{◌≡◌, ◌≤◌, ◌+◌, ◌-◌, take, drop, sym, ap, ◌∙◌, arith, length-drop, length-take-le, if◌then◌else◌}
use lib.Seq.{paste}
use Rattle.std.proofs.lemmas.List.{drop-take}
use Rattle.std.proofs.lemmas.List.Edits.{take-paste}
use Rattle.reg_crl_signer.proofs.announcement.keep_signature.Goals as goal

pub returns-clause-signature : goal.returns-clause-signature
returns-clause-signature c =
    let all = c.args.room.now in
    let left = c.args.count - 16 in
    let same : left ≡ 0 + left = omega arith in
    let long : 16 ≤ c.args.count = omega (arith, c.is_announced.ensures.long, length-take-le c.args.count all c.requires) in
    let whole : 16 + left ≡ c.args.count = omega arith in
    ap (take left) c.copy_within.ensures.after ∙ ap (λ k. take k (paste all 0 (drop 16 all) left)) same
    ∙ take-paste all 0 (drop 16 all) left (omega arith) (omega (arith, c.requires, length-drop 16 all))
    ∙ sym (drop-take 16 left all) ∙ ap (λ k. drop 16 (take k all)) whole
    ∙ ap (λ b. if b then drop 16 (take c.args.count all) else take c.args.count all) (sym c.if-not-is_announced.false ∙ c.is_announced.ensures.announced)
