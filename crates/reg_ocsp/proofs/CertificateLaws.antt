-- Certificates: reading gives only trees whose encoding is the bytes, and gives each of them.
use Rattle.std.proofs.Common.{◌≡◌, ℕ, suc, ◌≤◌, ◌&&◌, true, false, eqb, leb, ltb, List, [], ◌∷◌, ◌++◌, length, Option, Some, None, refl, sym, ap, subst, ◌∙◌, arith}
use Rattle.std.specs.Prelude.{IfSome, option_map}
use Rattle.std.proofs.lemmas.Bool.{eqb-true, le-ltb, ltb-false}
use Rattle.std.proofs.lemmas.Bool.Decides.{nat_tests}
use Rattle.std.proofs.lemmas.List.{length-append}
use Rattle.reg_core.specs.Integer.{IsBytes}
use Rattle.reg_der.specs.Authority.{IsKey}
use Rattle.reg_der.specs.Der.{tlv}
use Rattle.reg_der.specs.ValueReading.{AgreesWith}
use Rattle.reg_der.specs.WrittenValues.{bits_value}
use Rattle.reg_der.proofs.PublicLaws.{value_size, bind_then, kept, some_is}
use Rattle.reg_ocsp.specs.declared.certificate.SubjectPublicKey.{SubjectPublicKey}
use Rattle.reg_ocsp.specs.Certificate.{CertificateTree, IsCertificateOf, key_info, certificate, no_unused, as_key, key_info_at, after_subject_at, tbs_contents_at, certificate_at}
use Rattle.reg_der.specs.TaggedValues.{expect_at, whole_at, optional_at}
use Rattle.reg_ocsp.specs.Request.{optional}
use Rattle.reg_ocsp.specs.Views.{key_model}
use Rattle.reg_ocsp.proofs.PartLaws.{chosen, expect_takes, expect_again, expect_next, whole_takes, whole_again, optional_takes, optional_next, begins_value}

-- ---- the key

-- bits that are a key: the string's contents are the octet 0 and these
record IsBits (string key : List ℕ) : Type 0 where
  spelled : string ≡ 0 ∷ key
  some : 1 ≤ length key
  short : length key ≤ 2048

bits_used : (string bits : List ℕ) → no_unused string ≡ Some bits → string ≡ 0 ∷ bits
bits_used [] bits e = absurd cc
bits_used (unused ∷ rest) bits e =
    let g = chosen (eqb unused 0) (Some rest) bits e in
    let zero : unused ≡ 0 = eqb-true unused 0 g.0 in
    let same : rest ≡ bits = some_is rest bits g.1 in
    λ i. zero i ∷ same i

bits_take : (string bits key : List ℕ) → no_unused string ≡ Some bits → as_key bits ≡ Some key → IsBits string key
bits_take string bits key used is =
    let g = chosen (leb 1 (length bits) && leb (length bits) 2048) (Some bits) key is in
    let some : 1 ≤ length bits = grind (arith, nat_tests, g.0) in
    let short : length bits ≤ 2048 = grind (arith, nat_tests, g.0) in
    subst (λ (k : List ℕ). IsBits string k) (some_is bits key g.1)
    (record { spelled = bits_used string bits used; some = some; short = short })

key_again : (key : List ℕ) → 1 ≤ length key → length key ≤ 2048 → as_key key ≡ Some key
key_again key some short =
    let passes : (leb 1 (length key) && leb (length key) 2048) ≡ true = grind (arith, nat_tests) in
    rw passes refl

-- the contents of a SubjectPublicKeyInfo
record TakesKey (bytes raw key : List ℕ) : Type 0 where
  algorithm : List ℕ
  spelled : bytes ≡ tlv 0x30 algorithm ++ bits_value key
  same : raw ≡ tlv 0x30 algorithm
  is_key : IsKey key

key_bytes : (key : List ℕ) → IsBytes (0 ∷ key) → IsBytes key
key_bytes key each = λ i. each (suc i)

key_info_takes : (bytes : List ℕ) (x : List ℕ × List ℕ) → IsBytes bytes → key_info_at bytes ≡ Some x → TakesKey bytes x.0 x.1
unfolding key_info_at
key_info_takes bytes x each e =
    bind_then (expect_at 0x30 bytes) _ x e (λ algorithm read_algorithm e1.
    bind_then (whole_at 0x03 algorithm.1) _ x e1 (λ string read_string e2.
    bind_then (no_unused string) _ x e2 (λ bits read_bits e3.
    bind_then (as_key bits) _ x e3 (λ key read_key e4.
    let t0 = expect_takes 0x30 bytes algorithm each read_algorithm in
    let t1 = whole_takes 0x03 algorithm.1 string t0.taken.each read_string in
    let b = bits_take string bits key read_bits read_key in
    let spelled : bytes ≡ tlv 0x30 algorithm.0 ++ bits_value key =
    t0.taken.parts ∙ ap (λ (r : List ℕ). tlv 0x30 algorithm.0 ++ r) (t1.spelled ∙ ap (tlv 0x03) b.spelled) in
    let is_bytes : IsBytes (0 ∷ key) = subst IsBytes b.spelled t1.inner in
    subst (λ (y : List ℕ × List ℕ). TakesKey bytes y.0 y.1) (some_is (tlv 0x30 algorithm.0, key) x e4)
    (record {
      algorithm = algorithm.0;
      spelled = spelled;
      same = refl;
      is_key = record { each = key_bytes key is_bytes; some = b.some; short = b.short };
    })))))

key_info_again : (algorithm key : List ℕ) → IsKey key → length algorithm ≤ 65536 → key_info_at (tlv 0x30 algorithm ++ bits_value key) ≡ Some (tlv 0x30 algorithm, key)
unfolding key_info_at
key_info_again algorithm key is small =
    let e0 = expect_again 0x30 algorithm (bits_value key) (omega arith) small in
    let e1 = whole_again 0x03 (0 ∷ key) (omega arith) (omega (arith, is.short)) in
    let e2 = key_again key is.some is.short in
    rw (e0, e1, e2) refl

-- ---- what stands before it

record TakesSubject (bytes rest : List ℕ) : Type 0 where
  version : Option (List ℕ)
  serial : List ℕ
  signature : List ℕ
  issuer : List ℕ
  validity : List ℕ
  subject : List ℕ
  each : IsBytes rest
  spelled : bytes ≡ optional 0xA0 version ++ (tlv 0x02 serial ++ (tlv 0x30 signature ++ (tlv 0x30 issuer ++ (tlv 0x30 validity ++ (tlv 0x30 subject ++ rest)))))

subject_takes : (bytes rest : List ℕ) → IsBytes bytes → after_subject_at bytes ≡ Some rest → TakesSubject bytes rest
unfolding after_subject_at
subject_takes bytes rest each e =
    bind_then (optional_at 0xA0 bytes) _ rest e (λ version read_version e1.
    bind_then (expect_at 0x02 version.1) _ rest e1 (λ serial read_serial e2.
    bind_then (expect_at 0x30 serial.1) _ rest e2 (λ signature read_signature e3.
    bind_then (expect_at 0x30 signature.1) _ rest e3 (λ issuer read_issuer e4.
    bind_then (expect_at 0x30 issuer.1) _ rest e4 (λ validity read_validity e5.
    bind_then (expect_at 0x30 validity.1) _ rest e5 (λ subject read_subject e6.
    let t0 = optional_takes 0xA0 bytes version each read_version in
    let t1 = expect_takes 0x02 version.1 serial t0.taken.each read_serial in
    let t2 = expect_takes 0x30 serial.1 signature t1.taken.each read_signature in
    let t3 = expect_takes 0x30 signature.1 issuer t2.taken.each read_issuer in
    let t4 = expect_takes 0x30 issuer.1 validity t3.taken.each read_validity in
    let t5 = expect_takes 0x30 validity.1 subject t4.taken.each read_subject in
    let s5 = t5.taken.parts in
    let s4 = t4.taken.parts ∙ ap (λ (r : List ℕ). tlv 0x30 validity.0 ++ r) s5 in
    let s3 = t3.taken.parts ∙ ap (λ (r : List ℕ). tlv 0x30 issuer.0 ++ r) s4 in
    let s2 = t2.taken.parts ∙ ap (λ (r : List ℕ). tlv 0x30 signature.0 ++ r) s3 in
    let s1 = t1.taken.parts ∙ ap (λ (r : List ℕ). tlv 0x02 serial.0 ++ r) s2 in
    let s0 = t0.taken.parts ∙ ap (λ (r : List ℕ). optional 0xA0 version.0 ++ r) s1 in
    subst (λ (y : List ℕ). TakesSubject bytes y) (some_is subject.1 rest e6)
    (record {
      version = version.0;
      serial = serial.0;
      signature = signature.0;
      issuer = issuer.0;
      validity = validity.0;
      subject = subject.0;
      each = t5.taken.each;
      spelled = s0;
    })))))))

subject_again : (version : Option (List ℕ)) (serial signature issuer validity subject rest : List ℕ)
    → length (optional 0xA0 version ++ (tlv 0x02 serial ++ (tlv 0x30 signature ++ (tlv 0x30 issuer ++ (tlv 0x30 validity ++ (tlv 0x30 subject ++ rest)))))) ≤ 65536
    → (after_subject_at (optional 0xA0 version ++ (tlv 0x02 serial ++ (tlv 0x30 signature ++ (tlv 0x30 issuer ++ (tlv 0x30 validity ++ (tlv 0x30 subject ++ rest)))))) ≡ Some rest) × (length rest ≤ 65536)
unfolding after_subject_at
subject_again version serial signature issuer validity subject rest small =
    let b5 = tlv 0x30 subject ++ rest in
    let b4 = tlv 0x30 validity ++ b5 in
    let b3 = tlv 0x30 issuer ++ b4 in
    let b2 = tlv 0x30 signature ++ b3 in
    let s0 = optional_next 0xA0 version (tlv 0x02 serial ++ b2) (omega arith) small (begins_value 0xA0 0x02 serial b2 (λ same. absurd (omega (arith, same)))) in
    let s1 = expect_next 0x02 serial b2 (omega arith) s0.1 in
    let s2 = expect_next 0x30 signature b3 (omega arith) s1.1 in
    let s3 = expect_next 0x30 issuer b4 (omega arith) s2.1 in
    let s4 = expect_next 0x30 validity b5 (omega arith) s3.1 in
    let s5 = expect_next 0x30 subject rest (omega arith) s4.1 in
    (rw (s0.0, s1.0, s2.0, s3.0, s4.0, s5.0) refl, s5.1)

-- ---- what is signed

record TakesPart (bytes part : List ℕ) : Type 0 where
  short : length bytes ≤ 65536
  signature_algorithm : List ℕ
  signed : List ℕ
  each : IsBytes part
  spelled : bytes ≡ tlv 0x30 (tlv 0x30 part ++ (tlv 0x30 signature_algorithm ++ tlv 0x03 signed))

part_takes : (bytes part : List ℕ) → IsBytes bytes → tbs_contents_at bytes ≡ Some part → TakesPart bytes part
unfolding tbs_contents_at
part_takes bytes part each e =
    let g = kept (ltb 65536 (length bytes)) _ part e in
    bind_then (whole_at 0x30 bytes) _ part g.1 (λ outer read_outer e1.
    bind_then (expect_at 0x30 outer) _ part e1 (λ first read_first e2.
    bind_then (expect_at 0x30 first.1) _ part e2 (λ under read_under e3.
    bind_then (whole_at 0x03 under.1) _ part e3 (λ signed read_signed e4.
    let t0 = whole_takes 0x30 bytes outer each read_outer in
    let t1 = expect_takes 0x30 outer first t0.inner read_first in
    let t2 = expect_takes 0x30 first.1 under t1.taken.each read_under in
    let t3 = whole_takes 0x03 under.1 signed t2.taken.each read_signed in
    let inner : outer ≡ tlv 0x30 first.0 ++ (tlv 0x30 under.0 ++ tlv 0x03 signed) =
    t1.taken.parts ∙ ap (λ (r : List ℕ). tlv 0x30 first.0 ++ r) (t2.taken.parts ∙ ap (λ (r : List ℕ). tlv 0x30 under.0 ++ r) t3.spelled) in
    let short = ltb-false 65536 (length bytes) g.0 in
    subst (λ (y : List ℕ). TakesPart bytes y) (some_is first.0 part e4)
    (record {
      short = short;
      signature_algorithm = under.0;
      signed = signed;
      each = t1.inner;
      spelled = t0.spelled ∙ ap (tlv 0x30) inner;
    })))))

part_again : (part signature_algorithm signed : List ℕ) → length (tlv 0x30 (tlv 0x30 part ++ (tlv 0x30 signature_algorithm ++ tlv 0x03 signed))) ≤ 65536
    → tbs_contents_at (tlv 0x30 (tlv 0x30 part ++ (tlv 0x30 signature_algorithm ++ tlv 0x03 signed))) ≡ Some part
unfolding tbs_contents_at
part_again part signature_algorithm signed small =
    let b2 = tlv 0x03 signed in
    let b1 = tlv 0x30 signature_algorithm ++ b2 in
    let b0 = tlv 0x30 part ++ b1 in
    let within : length b0 ≤ 65536 = omega (arith, (value_size 0x30 b0).least) in
    let t : ltb 65536 (length (tlv 0x30 b0)) ≡ false = le-ltb 65536 (length (tlv 0x30 b0)) small in
    let e0 = whole_again 0x30 b0 (omega arith) within in
    let s1 = expect_next 0x30 part b1 (omega arith) within in
    let s2 = expect_next 0x30 signature_algorithm b2 (omega arith) s1.1 in
    let e3 = whole_again 0x03 signed (omega arith) (omega (arith, s2.1, (value_size 0x03 signed).least)) in
    rw (t, e0, s1.0, s2.0, e3) refl

-- ---- the whole

certificate_takes : (bytes : List ℕ) (x : List ℕ × List ℕ) → IsBytes bytes → certificate_at bytes ≡ Some x → IsCertificateOf bytes x.0 x.1
unfolding certificate_at
certificate_takes bytes x each e =
    bind_then (tbs_contents_at bytes) _ x e (λ part read_part e1.
    bind_then (after_subject_at part) _ x e1 (λ rest read_rest e2.
    bind_then (expect_at 0x30 rest) _ x e2 (λ info read_info e3.
    let t0 = part_takes bytes part each read_part in
    let t1 = subject_takes part rest t0.each read_rest in
    let t2 = expect_takes 0x30 rest info t1.each read_info in
    let t3 = key_info_takes info.0 x t2.inner e3 in
    let form : CertificateTree = record {
      version = t1.version;
      serial = t1.serial;
      signature = t1.signature;
      issuer = t1.issuer;
      validity = t1.validity;
      subject = t1.subject;
      algorithm = t3.algorithm;
      key = x.1;
      behind = info.1;
      signature_algorithm = t0.signature_algorithm;
      signed = t0.signed;
    } in
    let of_info : rest ≡ key_info form ++ info.1 = t2.taken.parts ∙ ap (λ (c : List ℕ). tlv 0x30 c ++ info.1) t3.spelled in
    let of_part : part ≡ optional 0xA0 form.version ++ (tlv 0x02 form.serial ++ (tlv 0x30 form.signature ++ (tlv 0x30 form.issuer ++ (tlv 0x30 form.validity ++ (tlv 0x30 form.subject ++ (key_info form ++ form.behind)))))) =
    t1.spelled ∙ ap (λ (r : List ℕ). optional 0xA0 t1.version ++ (tlv 0x02 t1.serial ++ (tlv 0x30 t1.signature ++ (tlv 0x30 t1.issuer ++ (tlv 0x30 t1.validity ++ (tlv 0x30 t1.subject ++ r)))))) of_info in
    record {
      each = each;
      short = t0.short;
      form = form;
      spelled = t0.spelled ∙ ap (λ (p : List ℕ). tlv 0x30 (tlv 0x30 p ++ (tlv 0x30 t0.signature_algorithm ++ tlv 0x03 t0.signed))) of_part;
      under = t3.same;
      of_key = refl;
      is_key = t3.is_key;
    })))

certificate_reads : (c : CertificateTree) → IsKey c.key → length (certificate c) ≤ 65536 → certificate_at (certificate c) ≡ Some (tlv 0x30 c.algorithm, c.key)
unfolding certificate_at
certificate_reads c is small =
    let info = tlv 0x30 c.algorithm ++ bits_value c.key in
    let rest = tlv 0x30 info ++ c.behind in
    let part = optional 0xA0 c.version ++ (tlv 0x02 c.serial ++ (tlv 0x30 c.signature ++ (tlv 0x30 c.issuer ++ (tlv 0x30 c.validity ++ (tlv 0x30 c.subject ++ rest))))) in
    let after = tlv 0x30 c.signature_algorithm ++ tlv 0x03 c.signed in
    let whole = tlv 0x30 part ++ after in
    let size = length-append (tlv 0x30 part) after in
    let within : length part ≤ 65536 = omega (arith, small, size, (value_size 0x30 whole).least, (value_size 0x30 part).least) in
    let e0 = part_again part c.signature_algorithm c.signed small in
    let s1 = subject_again c.version c.serial c.signature c.issuer c.validity c.subject rest within in
    let s2 = expect_next 0x30 info c.behind (omega arith) s1.1 in
    let few : length info ≤ 65536 = omega (arith, s1.1, length-append (tlv 0x30 info) c.behind, (value_size 0x30 info).least) in
    let e3 = key_info_again c.algorithm c.key is (omega (arith, few, length-append (tlv 0x30 c.algorithm) (bits_value c.key), (value_size 0x30 c.algorithm).least)) in
    rw (e0, s1.0, s2.0, e3) refl

-- a certificate is read so
pub certificate_again : (bytes algorithm key : List ℕ) → IsCertificateOf bytes algorithm key → certificate_at bytes ≡ Some (algorithm, key)
certificate_again bytes algorithm key is =
    let short : length (certificate is.form) ≤ 65536 = subst (λ (b : List ℕ). length b ≤ 65536) is.spelled is.short in
    let its : IsKey is.form.key = subst IsKey is.of_key is.is_key in
    ap certificate_at is.spelled ∙ certificate_reads is.form its short
    ∙ (λ i. Some (sym is.under i, sym is.of_key i))

-- ---- what the call gives

pub is_found : (bytes : List ℕ) (result : Option SubjectPublicKey) → IsBytes bytes → AgreesWith key_model result (certificate_at bytes)
    → IfSome result (λ it. IsCertificateOf bytes it.algorithm.now it.key.now)
is_found bytes (Some it) each gives = certificate_takes bytes (key_model it) each gives
is_found bytes None each gives = tt

pub is_only : (bytes : List ℕ) (result : Option SubjectPublicKey) → AgreesWith key_model result (certificate_at bytes)
    → (algorithm key : List ℕ) → IsCertificateOf bytes algorithm key → option_map key_model result ≡ Some (algorithm, key)
is_only bytes (Some it) gives algorithm key is = sym gives ∙ certificate_again bytes algorithm key is
is_only bytes None gives algorithm key is = absurd (let bad : None ≡ Some (algorithm, key) = sym gives ∙ certificate_again bytes algorithm key is in cc)
