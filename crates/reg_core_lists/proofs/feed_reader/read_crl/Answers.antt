use Rattle.std.proofs.Common.{◌≡◌, ℕ, Option, None, Some, length, refl, sym, ap, ◌∙◌}
use Rattle.std.specs.Prelude.{◌++◌, IfOk, MatchOption, option_map}
use Rattle.reg_core.specs.Crls.{row_of}
use Rattle.reg_core.specs.Records.{Crl}
use Rattle.reg_core.specs.declared.rows.CrlRow.{CrlRow}
use Rattle.reg_core_lists.specs.Feed.{crl_part, feed_crl_of}
use Rattle.reg_core_lists.specs.FeedReading.{crl_line_read}
use Rattle.reg_core_lists.specs.ReceivedPages.{IsReadableCrlPart}
use Rattle.reg_core_lists.proofs.PartsRead.{crl_found, none_some, some_same}
use Rattle.reg_core_lists.proofs.feed_reader.read_crl.Goals as goal

pub returns-in-Some-clause-only : goal.returns-in-Some-clause-only
returns-in-Some-clause-only c crl rest ok none is = by crl ok is
  where
    by : (crl : Option Crl) → IsReadableCrlPart crl → c.args.text.now ≡ crl_part crl ++ rest
        → IfOk c.read_crl_octets.result (λ found. MatchOption found ⊥ (λ it. (option_map feed_crl_of it.0 ≡ crl) × (it.1.now ≡ rest)))
    by None ok is = absurd (none_some (c.in-Some.row, c.in-Some.octets) (sym (c.in-Some.ensures ∙ ap crl_line_read is ∙ none)))
    by (Some crl) ok is =
        let read : Some (c.in-Some.row, c.in-Some.octets) ≡ Some (row_of crl, length crl.bytes) =
        c.in-Some.ensures ∙ ap crl_line_read is ∙ crl_found crl rest ok in
        let both : (c.in-Some.row, c.in-Some.octets) ≡ (row_of crl, length crl.bytes) = some_same _ _ read in
        c.read_crl_octets.ensures.only crl rest (ap (λ (it : CrlRow × ℕ). it.0) both) (ap (λ (it : CrlRow × ℕ). it.1) both) is

pub returns-in-None-clause-only : goal.returns-in-None-clause-only
returns-in-None-clause-only c crl rest ok none is = by crl ok is
  where
    by : (crl : Option Crl) → IsReadableCrlPart crl → c.args.text.now ≡ crl_part crl ++ rest → (None ≡ crl) × (c.args.text.now ≡ rest)
    by None ok is = (refl, is)
    by (Some crl) ok is = absurd (none_some (row_of crl, length crl.bytes) (c.in-None.ensures ∙ ap crl_line_read is ∙ crl_found crl rest ok))
