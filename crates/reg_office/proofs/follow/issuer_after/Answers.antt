use Rattle.std.proofs.Common.{◌∙◌}
use Rattle.reg_office.proofs.follow.issuer_after.Goals as goal

pub returns : goal.returns
returns c =
    let terms = c.has_same_terms.ensures.0 c.if-not-has_same_terms.false in
    let kept = c.continues.ensures.0 c.if-not-continues.false in
    record {
      name_is = c.in-Ok.ensures.ok.0 ∙ c.deref.ensures.value;
      key_is = c.in-Ok.ensures.ok.1 ∙ c.deref-2.ensures.value;
      name = kept.0;
      key = kept.1;
      identifiers = kept.2;
      crl_life = terms.0;
      ocsp_life = terms.1;
      cap = terms.2;
    }
