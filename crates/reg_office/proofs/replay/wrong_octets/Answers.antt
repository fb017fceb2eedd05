use Rattle.std.proofs.Common.{◌≡◌, List, ℕ, Bool, sym, ap, subst, ◌∙◌}
use Rattle.std.specs.Bool.{OnTrue}
use Rattle.reg_core.specs.Crls.{CertList}
use Rattle.reg_crl.specs.Crl.{certificate_list}
use Rattle.reg_office.proofs.Replaying.{has_signed_form}
use Rattle.reg_office.proofs.replay.wrong_octets.Goals as goal

pub returns : goal.returns
returns g c none =
    let forms = g.S.Signer.forms in
    let identity = g.S.Signer.identity c.args.signer.now in
    let signature : List ℕ = c.in-Some.signature.now in
    let tbs : List ℕ = c.in_ok-tbs.tbs.items in
    let second : List ℕ = c.algorithm-2.result.now in
    let list : CertList = record {
      issuer = c.args.issuer.now;
      number = c.args.row.now.number;
      this_update = c.args.row.now.this_update;
      next_update = c.args.next_update;
      entries = c.args.entries.now;
    } in
    let octets : c.args.der.now ≡ certificate_list tbs second signature =
    sym (c.same_octets.ensures.0 c.if-not-same_octets.false) ∙ c.deref-2.ensures.value ∙ c.in_ok-whole.ensures.bytes ∙ ap (λ (t : List ℕ). certificate_list t second signature) c.deref.ensures.value in
    let has : forms identity c.deref-3.result.now signature = subst (λ (b : Bool). OnTrue b (forms identity c.deref-3.result.now signature)) c.if-not-has_form.false c.has_form.ensures in
    has_signed_form forms identity list signature tbs c.args.der.now c.algorithm.result.now second c.algorithm.ensures.value c.algorithm-2.ensures.value c.in_ok-tbs.ensures.crl octets
    (subst (λ (t : List ℕ). forms identity t signature) c.deref-3.ensures.value has)
