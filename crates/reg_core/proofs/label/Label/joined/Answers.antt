use Rattle.std.proofs.Common.{◌<◌, ◌++◌, arith, sym, length-append}
use Rattle.std.proofs.lemmas.List.Elements.{All-append}
use Rattle.reg_core.proofs.Labels.{bytes_of_slice, written_behind, label_holds}
use Rattle.reg_core.proofs.label.Label.joined.Goals as goal

pub invariant_of-result : goal.invariant_of-result
invariant_of-result c =
    let first = c.args.first.now in
    let second = c.args.second.now in
    label_holds (first ++ second) c.write_at-2.new.bytes _
    (record {
      not_empty = omega (arith, length-append first second, c.requires.not_empty);
      at_most_64 = omega (arith, length-append first second, c.requires.at_most_64);
      bytes = All-append (λ byte. byte < 256) first second (bytes_of_slice first c.type_inv.first) (bytes_of_slice second c.type_inv.second);
    })
    (sym (length-append first second))
    (written_behind first second c.write_at.new.bytes c.write_at-2.new.bytes c.write_at.ensures c.write_at-2.ensures)
