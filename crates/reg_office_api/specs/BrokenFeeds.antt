-- The line of a part of a page of the changes feed that breaks a rule, without its LF.
use Rattle.std.specs.Prelude.{ℕ, ◌==◌, List, [], ◌∷◌, ◌++◌, codes, decimal, if◌then◌else◌}
use Rattle.reg_core.specs.Lines.{refusal_line}
use Rattle.reg_office_api.specs.declared.follow.BrokenFeed.{BrokenFeed}
use Rattle.reg_office_api.specs.declared.follow.FeedPart.{FeedPart}
use Rattle.reg_office_api.specs.declared.follow.FeedPart.TheVariants.{Head, Subscriber, Order, Certificate, Request, Declined, Revocation, Crl, Positions}
use Rattle.reg_office_api.specs.declared.follow.FeedRule.{FeedRule}
use Rattle.reg_office_api.specs.declared.follow.FeedRule.TheVariants as rule

-- the name of a part
abbrev pub part_name : FeedPart → List ℕ
part_name Head = codes "head"
part_name Subscriber = codes "subscriber"
part_name Order = codes "order"
part_name Certificate = codes "certificate"
part_name Request = codes "request"
part_name Declined = codes "declined"
part_name Revocation = codes "revocation"
part_name Crl = codes "crl"
part_name Positions = codes "positions"

-- the number of a row and a space (32); nothing for no row
abbrev pub row_number_text : ℕ → List ℕ
row_number_text row = if row == 0 then [] else decimal row ++ 32 ∷ []

-- the word of a rule; the line of a refusal
abbrev pub rule_text : FeedRule → List ℕ
rule_text (rule.Refused refusal) = refusal_line refusal
rule_text rule.OtherRow = codes "other-row"
rule_text rule.OtherIssuer = codes "other-issuer"
rule_text rule.OtherPolicy = codes "other-policy"
rule_text rule.OtherCrl = codes "other-crl"
rule_text rule.NoSignature = codes "no-signature"
rule_text rule.OtherPositions = codes "other-positions"
rule_text rule.NoEnd = codes "no-end"

-- the part, the number of the row if there is one, and the rule
unfoldable pub broken_line : BrokenFeed → List ℕ
broken_line broken = part_name broken.part ++ 32 ∷ row_number_text broken.row ++ rule_text broken.why
