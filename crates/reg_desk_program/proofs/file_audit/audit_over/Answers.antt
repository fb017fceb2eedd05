use Rattle.std.proofs.Common.{refl}
use Rattle.reg_desk_program.proofs.OpeningFaults.{opened}
use Rattle.reg_desk_program.proofs.file_audit.audit_over.Goals as goal

pub returns-in-Ok-clause-ok : goal.returns-in-Ok-clause-ok
returns-in-Ok-clause-ok g c = (
  record {
    connection = c.args.connection;
    after = c.judge-judged.new.conn;
    connects = c.requires.connects;
    says = record {
      sound = c.in-Ok.ensures.sound;
      shown = c.in-Ok.ensures.shown (λ clean. (c.requires.connects.whole clean).0.is_open);
      counted = c.in-Ok.ensures.counted;
      broken = c.in-Ok.ensures.broken;
      reports_tables = c.in-Ok.ensures.reports_tables;
      register = c.in-Ok.ensures.register;
      stays = c.judge-judged.ensures.same;
    };
  },
  refl,
)

pub returns-clause-err : goal.returns-clause-err
returns-clause-err g c = opened _ _ c.from.ensures c.in-Err.ensures.faults
