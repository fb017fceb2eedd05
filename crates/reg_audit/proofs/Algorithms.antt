-- The AlgorithmIdentifier that stands in a CRL.
use Rattle.std.proofs.Common.{◌≡◌, ℕ, ◌+◌, ◌≤◌, List, [], ◌++◌, length, Some, refl, sym, ap, subst, ◌∙◌, arith, append-nil, append_assoc, length-append}
use Rattle.reg_core.specs.Crls.{CertList}
use Rattle.reg_crl.specs.Crl.{tbs_of, tbs_cert_list, certificate_list}
use Rattle.reg_der.specs.Der.{IsTlv, tlv}
use Rattle.reg_der.specs.ValueReading.{Parts, value_at}
use Rattle.reg_der.specs.WrittenValues.{bits_value}
use Rattle.reg_der.proofs.PublicLaws.{value_again, value_size}
use Rattle.reg_audit.specs.Stored.{IsSomeCrl, behind_signed}

value_between : (tbs algorithm signature : List ℕ) → length (certificate_list (tlv 48 tbs) (tlv 48 algorithm) signature) ≤ 268435456
    → behind_signed (certificate_list (tlv 48 tbs) (tlv 48 algorithm) signature) ≡ Some (record { tag = 48; contents = algorithm })
unfolding certificate_list
value_between tbs algorithm signature short =
    let list = tlv 48 tbs ++ tlv 48 algorithm ++ bits_value signature in
    let at_list = (value_size 48 list).least in
    let at_tbs = (value_size 48 tbs).least in
    let at_algorithm = (value_size 48 algorithm).least in
    let size : length list ≡ length (tlv 48 tbs) + length (tlv 48 algorithm) + length (bits_value signature) = rw (length-append, length-append) refl in
    let one : value_at (tlv 48 list) ≡ Some (record { tag = 48; contents = list }, []) = ap value_at (sym (append-nil (tlv 48 list))) ∙ value_again 48 list [] (omega arith) (omega arith) in
    let two : value_at list ≡ Some (record { tag = 48; contents = tbs }, tlv 48 algorithm ++ bits_value signature) = ap value_at (append_assoc (tlv 48 tbs) (tlv 48 algorithm) (bits_value signature)) ∙ value_again 48 tbs (tlv 48 algorithm ++ bits_value signature) (omega arith) (omega arith) in
    let three : value_at (tlv 48 algorithm ++ bits_value signature) ≡ Some (record { tag = 48; contents = algorithm }, bits_value signature) = value_again 48 algorithm (bits_value signature) (omega arith) (omega arith) in
    rw one (rw two (rw three refl))

-- what stands behind what is signed is the algorithm's value
pub algorithm_again : (crl : CertList) (bytes : List ℕ) (is : IsSomeCrl crl bytes) → behind_signed bytes ≡ Some (record { tag = 48; contents = is.form.contents })
unfolding tbs_cert_list
algorithm_again crl bytes is =
    let spelled = is.whole.2 ∙ ap (λ a. certificate_list (tbs_of is.algorithm crl) a is.whole.0) is.form.sequence.spelled in
    ap behind_signed spelled ∙ value_between _ is.form.contents is.whole.0 (subst (λ l. length l ≤ 268435456) spelled is.short)

-- so the value that is read there is the algorithm, whole
pub record Stands (crl : CertList) (bytes raw : List ℕ) (tag : ℕ) (is : IsSomeCrl crl bytes) : Type 0 where
  pub sequence : tag ≡ 48
  pub same : raw ≡ is.algorithm
  pub short : length raw ≤ 1024

pub algorithm_stands : (crl : CertList) (bytes raw contents : List ℕ) (tag : ℕ) (is : IsSomeCrl crl bytes) → behind_signed bytes ≡ Some (record { tag = tag; contents = contents }) → IsTlv raw tag contents → Stands crl bytes raw tag is
algorithm_stands crl bytes raw contents tag is read value =
    let here : Parts = record { tag = tag; contents = contents } in
    let there : Parts = record { tag = 48; contents = is.form.contents } in
    let again : behind_signed bytes ≡ Some there = algorithm_again crl bytes is in
    let both : Some here ≡ Some there = sym read ∙ again in
    let parts : here ≡ there = cc in
    let same = value.spelled ∙ ap (λ (p : Parts). tlv p.tag p.contents) parts ∙ sym is.form.sequence.spelled in
    record { sequence = ap (λ (p : Parts). p.tag) parts; same = same; short = subst (λ l. length l ≤ 1024) (sym same) is.form.short }
