use Rattle.std.proofs.Common.{◌≡◌, ◌∙◌, length, ap, rules, arith}
use Rattle.reg_desk_files.proofs.Finding.{over_all, whole}
use Rattle.reg_desk_files.proofs.read_only.copy_of.Goals as goal

pub returns-clause-bytes : goal.returns-clause-bytes
returns-clause-bytes g c honest =
    let zeros = c.in_ok-copy.copy in
    let new = c.fill.new.buf in
    let sized : c.in_ok-size.size ≡ length (g.F.ReadAt.bytes c.args.file.now) = c.in_ok-size.ensures honest in
    let zeroed : length zeros.items ≡ c.in_ok-size.size = c.in_ok-copy.ensures in
    let filled : length new ≡ length zeros.items = search rules in
    let all : zeros.len ≡ length zeros.items = search rules in
    over_all zeros.len new zeros.items filled all
    ∙ whole (g.F.ReadAt.bytes c.args.file.now) new (filled ∙ zeroed ∙ sized) (λ some. c.in_ok-fill.ensures honest (omega (arith, ap length c.deref_mut.ensures.value, filled)))
