use Rattle.std.proofs.Common.{rules, ◌≡◌, ◌≤◌, ℕ, ap, arith, length, sym, ◌∙◌, take, subst}
use Rattle.httparse.specs.Grammar.{HasNoResponse}
use Rattle.reg_http_head.specs.Head.{longest_head, most_fields}
use Rattle.reg_http_head.specs.ResponseStart.{length_of}
use Rattle.reg_http_head.proofs.ResponseLemmas.{never_from_prefix, never_overflowing, never_unstated, never_long, begins_from_prefix}
use Rattle.reg_http_head.proofs.response_head.read_response_start.Goals as goal

pub returns-in-Some : goal.returns-in-Some
returns-in-Some c =
    let (h, found) = rw c.in-Ok-Complete.field-0-is at c.in-Ok-Complete.ensures.complete in
    let within = rw c.in-Ok-Complete.field-0-is at c.in-Ok-Complete.ensures.within in
    let room : length c.parse_response.new.headers ≤ most_fields = search rules in (
      h,
      begins_from_prefix c.args.bytes.now c.min.result c.in-Some.length _ c.in-Ok-Complete.parts h found within.section.len_fits (omega (arith, c.min.ensures)) room
          (sym c.stated_length.ensures ∙ c.in-Some.is),
    )

pub returns-in-None : goal.returns-in-None
returns-in-None c =
    let (h, found) = rw c.in-Ok-Complete.field-0-is at c.in-Ok-Complete.ensures.complete in
    never_from_prefix c.args.bytes.now c.min.result (never_unstated _ _ h found.reads (ap length_of (sym found.fields) ∙ sym c.stated_length.ensures ∙ c.in-None.is))

pub returns-in-Ok-Partial-2 : goal.returns-in-Ok-Partial-2
returns-in-Ok-Partial-2 c =
    let long : longest_head ≤ length c.args.bytes.now = omega (arith, c.if-bytes-lt-LONGEST_HEAD.false) in
    let all : c.min.result ≡ longest_head = omega (arith, c.min.ensures, long) in
    let none : HasNoResponse (take c.min.result c.args.bytes.now) = rw c.in-Ok-Partial.field-0-is at c.in-Ok-Partial.ensures.partial in
    never_long c.args.bytes.now long (subst (λ (n : ℕ). HasNoResponse (take n c.args.bytes.now)) all none)

pub returns-in-Err : goal.returns-in-Err
returns-in-Err c = never_from_prefix c.args.bytes.now c.min.result (never_overflowing _ c.in-Err.ensures.no_room)
