use Rattle.std.proofs.Common.{◌≡◌, true, false, is_some, refl, sym, ◌∙◌, arith, rules}
use Rattle.sqlite.specs.Held.{state}
use Rattle.sqlite.specs.State.{HasCleanDisk}
use Rattle.reg_store_tables.proofs.PublicLaws.{stays_both, stays_holds, stays_register, stays_then}
use Rattle.reg_audit.specs.Complete.{ShowsSound}
use Rattle.reg_audit.proofs.Ends.{ended_older, ended_other, failed_first, never_newer, never_none, says_older, stays_same, tables_said}
use Rattle.reg_audit.proofs.Ordered.{tables_are}
use Rattle.reg_audit.proofs.AuditResultLemmas.{always_said, counted_said, denied_said, register_by, says_third, sound_said}
use Rattle.reg_audit.proofs.audit_result.judge.Goals as goal

pub returns-in_err-is_register : goal.returns-in_err-is_register
returns-in_err-is_register g c =
    let memory = c.in_err-is_register.ensures.faults in
    failed_first g.S.Store c.args.conn.now c.args.conn.now (stays_same (state g.S.Store c.args.conn.now)) c.requires
    c.from_residual.result c.in_err-is_register.field-0.0 c.from_residual.ensures.1 (λ clean e. absurd (let bad : ⊥ = cc in bad)) (λ clean e. absurd (let bad : ⊥ = cc in bad)) (λ e. let bad : ⊥ = cc in bad)

pub returns-in_err-older : goal.returns-in_err-older
returns-in_err-older g c =
    failed_first g.S.Store c.args.conn.now c.examine.new.conn c.examine.ensures.same c.examine.ensures.idle
    c.from_residual-in_err-older.result c.in_err-older.field-0.0 c.from_residual-in_err-older.ensures.1 c.in_err-older.ensures.newer c.in_err-older.ensures.none c.in_err-older.ensures.faults

pub returns-then-is_some : goal.returns-then-is_some
returns-then-is_some g c =
    let some : is_some c.in_ok-older.older ≡ true = search rules in
    ended_older g.S.Store c.args.conn.now c.examine.new.conn c.examine.ensures.same c.examine.ensures.idle
    (λ clean. says_older (state g.S.Store c.args.conn.now).now c.in_ok-older.older some (c.in_ok-older.ensures.ok clean))

pub returns-then-not-is_register : goal.returns-then-not-is_register
returns-then-not-is_register g c =
    let db = (state g.S.Store c.args.conn.now).now in
    let other : c.in_ok-is_register.is_register ≡ false = search rules in
    let third : is_some c.in_ok-older.older ≡ false = search rules in
    ended_other g.S.Store c.args.conn.now c.examine.new.conn c.examine.ensures.same c.examine.ensures.idle
    (λ clean. (says_third db c.in_ok-older.older third (c.in_ok-older.ensures.ok clean), c.in_ok-is_register.ensures.other c.requires other))

pub returns : goal.returns
returns g c =
    let s = g.S.Store in
    let old = c.args.conn.now in
    let mid = c.examine.new.conn in
    let new = c.audit.new.conn in
    let db = (state s old).now in
    let third : is_some c.in_ok-older.older ≡ false = search rules in
    let is = c.in_ok-is_register.ensures.is c.if-not-is_register.false in
    let clean_first = c.examine.ensures.survives.clean in
    let first = c.examine.ensures.same in
    let looked = c.audit.ensures.looked in
    let result_is = c.audit_result_or_fault.ensures.is in
    let register = stays_register (state s old) (state s mid) clean_first first (register_by (state s old) is.schema is.saved) in
    record {
      sound = λ records columns shows clean.
          sound_said _ c.audit.result c.audit_result_or_fault.result result_is (c.audit.ensures.sound records columns (stays_both s old mid records columns clean_first first shows) clean);
      shown = λ up presumed clean.
          let mid_clean : HasCleanDisk (state s mid) = omega (arith, looked.survives.clean) in
          let old_clean : HasCleanDisk (state s old) = omega (arith, clean_first) in
          let tables = tables_are s old (g.met.S.Store.ordered old.store) (g.met.S.Alter.listed old.store) is presumed (up old_clean) in
          let there = stays_holds s old mid (λ now. now ≡ db) clean_first first (record { saved = λ was still. is.saved still; tables = λ was still. refl }) in
          sound_said (ShowsSound db) c.audit.result c.audit_result_or_fault.result result_is (c.audit.ensures.shown db there tables clean);
      counted = λ records columns shows clean.
          counted_said records c.audit.result c.audit_result_or_fault.result result_is (c.audit.ensures.counted records columns (stays_both s old mid records columns clean_first first shows) clean);
      broken = λ records columns shows clean.
          denied_said records columns c.audit.result c.audit_result_or_fault.result result_is (c.audit.ensures.broken records columns (stays_both s old mid records columns clean_first first shows) clean);
      reports_tables = λ clean.
          let mid_clean : HasCleanDisk (state s mid) = omega (arith, looked.survives.clean) in
          tables_said db c.audit.result c.audit_result_or_fault.result result_is (says_third db c.in_ok-older.older third (c.in_ok-older.ensures.ok mid_clean), is.schema);
      newer = λ clean e. never_newer c.audit.result (sym result_is ∙ e);
      none = λ clean e. never_none c.audit.result (sym result_is ∙ e);
      register = always_said _ c.audit_result_or_fault.result (stays_register (state s mid) (state s new) looked.survives.clean (looked.same register) register);
      same = stays_then (state s old) (state s mid) (state s new) looked.survives.clean first (looked.same register);
      idle = looked.idle c.examine.ensures.idle;
      faults = c.audit_result_or_fault.ensures.faults;
    }
