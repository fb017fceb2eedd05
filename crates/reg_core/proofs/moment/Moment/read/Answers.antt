use Rattle.std.proofs.Common.{None, Some, sym, ap, ◌∙◌}
use Rattle.reg_core.specs.Calendar.{civil_of, moment_text}
use Rattle.reg_core.proofs.Dates.{ranges, shown_injective}
use Rattle.reg_core.proofs.MomentTexts.{reads_moment}
use Rattle.reg_core.proofs.Moments.{digits_of, date_time_injective, given}
use Rattle.reg_core.proofs.moment.Moment.read.Goals as goal

pub returns-in_err-read-clause-none : goal.returns-in_err-read-clause-none
unfolding moment_text
returns-in_err-read-clause-none c =
    rw c.from_residual.ensures (λ m h e. c.in_err-read.ensures (civil_of m) (digits_of (civil_of m) (ranges m h)) e)

pub returns-in_err-read-clause-only : goal.returns-in_err-read-clause-only
unfolding moment_text
returns-in_err-read-clause-only c = λ m h e.
    absurd (c.in_err-read.ensures (civil_of m) (digits_of (civil_of m) (ranges m h)) e)

pub returns-in_err-seconds-clause-none : goal.returns-in_err-seconds-clause-none
unfolding moment_text
returns-in_err-seconds-clause-none c =
    rw c.from_residual-in_err-seconds.ensures (λ m h e. c.in_err-seconds.ensures m h (date_time_injective (civil_of m) _ (sym e ∙ c.in_ok-read.ensures.1)))

pub returns-in_err-seconds-clause-only : goal.returns-in_err-seconds-clause-only
unfolding moment_text
returns-in_err-seconds-clause-only c = λ m h e.
    absurd (c.in_err-seconds.ensures m h (date_time_injective (civil_of m) _ (sym e ∙ c.in_ok-read.ensures.1)))

pub returns-clause-found : goal.returns-clause-found
unfolding moment_text
returns-clause-found c =
    let s = c.in_ok-seconds.ensures in
    rw (given _ _ s.0 c.of_secs.ensures, s.1) (s.0, c.in_ok-read.ensures.1)

pub returns-clause-only : goal.returns-clause-only
unfolding moment_text
returns-clause-only c = λ m h e.
    let s = c.in_ok-seconds.ensures in
    let parts = date_time_injective (civil_of m) c.in_ok-read.field-0 (sym e ∙ c.in_ok-read.ensures.1) in
    given _ _ s.0 c.of_secs.ensures ∙ ap Some (shown_injective _ m s.0 h (s.1 ∙ sym parts))

pub returns-in_err-read-clause-exact : goal.returns-in_err-read-clause-exact
unfolding moment_text
returns-in_err-read-clause-exact c =
    rw c.from_residual.ensures (reads_moment None c.args.bytes.now tt
    (λ m h e. absurd (c.in_err-read.ensures (civil_of m) (digits_of (civil_of m) (ranges m h)) e)))

pub returns-in_err-seconds-clause-exact : goal.returns-in_err-seconds-clause-exact
unfolding moment_text
returns-in_err-seconds-clause-exact c =
    rw c.from_residual-in_err-seconds.ensures (reads_moment None c.args.bytes.now tt
    (λ m h e. absurd (c.in_err-seconds.ensures m h (date_time_injective (civil_of m) _ (sym e ∙ c.in_ok-read.ensures.1)))))

pub returns-clause-exact : goal.returns-clause-exact
unfolding moment_text
returns-clause-exact c =
    let s = c.in_ok-seconds.ensures in
    reads_moment _ c.args.bytes.now (rw (given _ _ s.0 c.of_secs.ensures, s.1) (s.0, c.in_ok-read.ensures.1)) (returns-clause-only c)
