use Rattle.std.proofs.Common.{refl, inl, inr, subst, sym}
use Rattle.reg_desk_service.specs.ControlWords.{helps, why, copies, shows, decides, accepts, schedules, commands}
use Rattle.reg_desk_service.specs.Following.{IsTextKind}
use Rattle.reg_desk_service.specs.declared.line_kinds.LineKind.TheVariants.{Command, Query as Question, Other}
use Rattle.reg_desk_service.proofs.LineKinds.{kind_by}
use Rattle.reg_desk_service.proofs.line_kinds.kind_of.Goals as goal

pub returns-in-Ok-Help : goal.returns-in-Ok-Help
returns-in-Ok-Help c = kind_by c.args.line.now helps Other (rw c.in-Ok-Help.field-0-is at c.in-Ok-Help.ensures) refl

pub returns-in-Ok-Why : goal.returns-in-Ok-Why
returns-in-Ok-Why c = kind_by c.args.line.now why Other (rw c.in-Ok-Why.field-0-is at c.in-Ok-Why.ensures) refl

pub returns-in-Ok-Copy : goal.returns-in-Ok-Copy
returns-in-Ok-Copy c = kind_by c.args.line.now copies Other (rw c.in-Ok-Copy.field-0-is at c.in-Ok-Copy.ensures) refl

pub returns-in-Ok-Show : goal.returns-in-Ok-Show
returns-in-Ok-Show c = kind_by c.args.line.now _ Question (rw c.in-Ok-Show.field-0-is at c.in-Ok-Show.ensures) refl

pub returns-in-Ok-Decide : goal.returns-in-Ok-Decide
returns-in-Ok-Decide c = kind_by c.args.line.now _ Command (rw c.in-Ok-Decide.field-0-is at c.in-Ok-Decide.ensures) refl

pub returns-in-Ok-AcceptClock : goal.returns-in-Ok-AcceptClock
returns-in-Ok-AcceptClock c = kind_by c.args.line.now _ Command (rw c.in-Ok-AcceptClock.field-0-is at c.in-Ok-AcceptClock.ensures) refl

pub returns-in-Ok-Schedule : goal.returns-in-Ok-Schedule
returns-in-Ok-Schedule c = kind_by c.args.line.now _ Command (rw c.in-Ok-Schedule.field-0-is at c.in-Ok-Schedule.ensures) refl

pub returns-in-Ok-Line-Some : goal.returns-in-Ok-Line-Some
returns-in-Ok-Line-Some c =
    let word = rw (c.in-Ok-Line-Some.field-0-is, c.in-Ok-Line-Some.field-0-0-is) at c.in-Ok-Line-Some.ensures in
    kind_by c.args.line.now commands c.kind_of_text.result word.0
    (inl (word.1.1, subst (λ text. IsTextKind text c.kind_of_text.result) word.1.0 c.kind_of_text.ensures))

pub returns-in-Ok-Line-None : goal.returns-in-Ok-Line-None
returns-in-Ok-Line-None c =
    let word = rw (c.in-Ok-Line-None.field-0-is, c.in-Ok-Line-None.field-0-0-is) at c.in-Ok-Line-None.ensures in
    kind_by c.args.line.now commands Other word.0 (inr (word.1, refl))
