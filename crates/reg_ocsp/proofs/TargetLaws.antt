-- CertIDs and single requests: reading gives only trees whose encoding is the bytes, and gives each of them.
use Rattle.std.proofs.Common.{◌≡◌, ℕ, ◌%◌, ◌<◌, ◌≤◌, true, false, not, ◌&&◌, ◌||◌, eqb, ltb, leb, List, [], ◌∷◌, ◌++◌, length, Option, Some, None, refl, sym, ap, subst, ◌∙◌, arith}
use Rattle.std.specs.Prelude.{IfSome}
use Rattle.std.proofs.lemmas.Bool.{eqb-true, eqb-false, ne_eqb, not-false}
use Rattle.std.proofs.lemmas.Bool.Decides.{nat_tests}
use Rattle.std.proofs.lemmas.List.{append-nil, nil_from_length, length-append}
use Rattle.reg_core.specs.Integer.{IsBytes, IsShortest}
use Rattle.reg_der.specs.Der.{tlv}
use Rattle.reg_der.specs.ValueReading.{Parts, value_at, Takes}
use Rattle.reg_der.proofs.PublicLaws.{value_takes, value_again, value_size, bind_then, kept, some_is, or_false}
use Rattle.reg_ocsp.specs.Request.{CertIdTree, IsCertIdTree, Single, IsSingle, Id, id_of, cert_id_in, parameters, algorithm, cert_id, single, extensions}
use Rattle.reg_der.specs.TaggedValues.{expect_at, whole_at}
use Rattle.reg_ocsp.specs.RequestReading.{last_nonce_at, read_all, algorithm_at, is_shortest, serial_at, hashes_and_serial_at, cert_id_at, single_at}
use Rattle.reg_ocsp.proofs.PartLaws.{chosen, expect_takes, expect_again, expect_next, whole_takes, whole_again}
use Rattle.reg_ocsp.proofs.ItemLaws.{Reads, TakesItem}
use Rattle.reg_ocsp.proofs.ExtensionLaws.{last_nonce_takes, last_nonce_again}

-- ---- parameters

record TakesParameters (bytes : List ℕ) : Type 0 where
  tree : Option Parts
  low_tag : IfSome tree (λ any. any.tag % 32 < 31)
  spelled : bytes ≡ parameters tree

parameters_from : (bytes : List ℕ) (read : Option (Parts × List ℕ)) → IsBytes bytes → value_at bytes ≡ read → read_all bytes read ≡ true → TakesParameters bytes
parameters_from bytes None each e all =
    let nothing : bytes ≡ [] = nil_from_length bytes (eqb-true (length bytes) 0 all) in
    record { tree = None; low_tag = tt; spelled = nothing }
parameters_from bytes (Some x) each e all =
    let t = value_takes bytes x each e in
    let nothing : x.1 ≡ [] = nil_from_length x.1 (eqb-true (length x.1) 0 all) in
    let text = tlv x.0.tag x.0.contents in
    record { tree = Some x.0; low_tag = t.fits.low_tag; spelled = t.taken.parts ∙ ap (λ (r : List ℕ). text ++ r) nothing ∙ append-nil text }

parameters_again : (any : Option Parts) → IfSome any (λ x. x.tag % 32 < 31) → length (parameters any) ≤ 65536 → read_all (parameters any) (value_at (parameters any)) ≡ true
unfolding value_at
parameters_again None low small = refl
parameters_again (Some x) low small = any_again x low small
  where
    any_again : (x : Parts) → x.tag % 32 < 31 → length (tlv x.tag x.contents) ≤ 65536 → read_all (tlv x.tag x.contents) (value_at (tlv x.tag x.contents)) ≡ true
    any_again x low small =
        let again : value_at (tlv x.tag x.contents) ≡ Some (x, []) = ap value_at (sym (append-nil (tlv x.tag x.contents))) ∙ value_again x.tag x.contents [] low (omega (arith, (value_size x.tag x.contents).least)) in
        rw again refl

-- ---- the algorithm

record TakesAlgorithm (bytes raw rest : List ℕ) : Type 0 where
  identifier : List ℕ
  any : Option Parts
  identified : 1 ≤ length identifier
  low_tag : IfSome any (λ x. x.tag % 32 < 31)
  taken : Takes bytes (algorithm identifier any) rest
  same : raw ≡ algorithm identifier any

algorithm_takes : (bytes : List ℕ) (x : List ℕ × List ℕ) → IsBytes bytes → algorithm_at bytes ≡ Some x → TakesAlgorithm bytes x.0 x.1
unfolding algorithm_at
algorithm_takes bytes x each e =
    bind_then (expect_at 0x30 bytes) _ x e (λ outer read_outer e1.
    bind_then (expect_at 0x06 outer.0) _ x e1 (λ identifier read_identifier e2.
    let g = kept (eqb (length identifier.0) 0 || not (read_all identifier.1 (value_at identifier.1))) (Some (tlv 0x30 outer.0, outer.1)) x e2 in
    let tests = or_false (eqb (length identifier.0) 0) (not (read_all identifier.1 (value_at identifier.1))) g.0 in
    let ne = eqb-false (length identifier.0) 0 tests.0 in
    let t0 = expect_takes 0x30 bytes outer each read_outer in
    let t1 = expect_takes 0x06 outer.0 identifier t0.inner read_identifier in
    let p = parameters_from identifier.1 (value_at identifier.1) t1.taken.each refl (not-false (read_all identifier.1 (value_at identifier.1)) tests.1) in
    let inner : outer.0 ≡ tlv 0x06 identifier.0 ++ parameters p.tree = t1.taken.parts ∙ ap (λ (r : List ℕ). tlv 0x06 identifier.0 ++ r) p.spelled in
    subst (λ (y : List ℕ × List ℕ). TakesAlgorithm bytes y.0 y.1) (some_is (tlv 0x30 outer.0, outer.1) x g.1)
    (record {
      identifier = identifier.0;
      any = p.tree;
      identified = omega (arith, ne);
      low_tag = p.low_tag;
      taken = subst (λ (c : List ℕ). Takes bytes (tlv 0x30 c) outer.1) inner t0.taken;
      same = ap (tlv 0x30) inner;
    })))

algorithm_again : (identifier : List ℕ) (any : Option Parts) (rest : List ℕ) → 1 ≤ length identifier → IfSome any (λ x. x.tag % 32 < 31) → length (algorithm identifier any) ≤ 65536
    → algorithm_at (algorithm identifier any ++ rest) ≡ Some (algorithm identifier any, rest)
unfolding algorithm_at
algorithm_again identifier any rest some low small =
    let contents = tlv 0x06 identifier ++ parameters any in
    let len = length-append (tlv 0x06 identifier) (parameters any) in
    let l0 : length contents ≤ 65536 = omega (arith, (value_size 0x30 contents).least) in
    let l1 : length identifier ≤ 65536 = omega (arith, (value_size 0x06 identifier).least) in
    let e0 = expect_again 0x30 contents rest (omega arith) l0 in
    let e1 = expect_again 0x06 identifier (parameters any) (omega arith) l1 in
    let e2 : eqb (length identifier) 0 ≡ false = ne_eqb (length identifier) 0 (λ same. absurd (omega arith)) in
    let e3 = parameters_again any low (omega arith) in
    rw (e0, e1, e2, e3) refl

-- ---- the serial number

shortest_from_tests : (first second : ℕ) → (not (eqb first 0 && ltb second 128) && not (eqb first 255 && leb 128 second)) ≡ true → (first ≡ 0 → 128 ≤ second) × (first ≡ 255 → second < 128)
shortest_from_tests first second e = grind (arith, nat_tests)

shortest_from : (octets : List ℕ) → is_shortest octets ≡ true → IsShortest octets
shortest_from [] e = absurd cc
shortest_from (first ∷ []) e = tt
shortest_from (first ∷ second ∷ rest) e = shortest_from_tests first second e

shortest_to_tests : (first second : ℕ) → (first ≡ 0 → 128 ≤ second) → (first ≡ 255 → second < 128) → (not (eqb first 0 && ltb second 128) && not (eqb first 255 && leb 128 second)) ≡ true
shortest_to_tests first second zeros ones = grind (arith, nat_tests)

shortest_passes : (octets : List ℕ) → IsShortest octets → is_shortest octets ≡ true
shortest_passes [] is = absurd is
shortest_passes (first ∷ []) is = refl
shortest_passes (first ∷ second ∷ rest) is = shortest_to_tests first second is.0 is.1

-- ---- the CertID

-- a serial number that was read
record IsSerialRead (bytes serial : List ℕ) : Type 0 where
  spelled : bytes ≡ tlv 0x02 serial
  shortest : IsShortest serial

serial_takes : (bytes serial : List ℕ) → IsBytes bytes → serial_at bytes ≡ Some serial → IsSerialRead bytes serial
unfolding serial_at
serial_takes bytes serial each e =
    bind_then (whole_at 0x02 bytes) _ serial e (λ octets read then.
    let g = chosen (is_shortest octets) (Some octets) serial then in
    subst (λ (s : List ℕ). IsSerialRead bytes s) (some_is octets serial g.1)
    (record { spelled = (whole_takes 0x02 bytes octets each read).spelled; shortest = shortest_from octets g.0 }))

-- hashes and a serial number that were read
record AreNamesRead (bytes name key serial : List ℕ) : Type 0 where
  spelled : bytes ≡ tlv 0x04 name ++ (tlv 0x04 key ++ tlv 0x02 serial)
  shortest : IsShortest serial

names_take : (bytes : List ℕ) (x : List ℕ × List ℕ × List ℕ) → IsBytes bytes → hashes_and_serial_at bytes ≡ Some x → AreNamesRead bytes x.0 x.1 x.2
unfolding hashes_and_serial_at
names_take bytes x each e =
    bind_then (expect_at 0x04 bytes) _ x e (λ name read_name e1.
    bind_then (expect_at 0x04 name.1) _ x e1 (λ key read_key e2.
    bind_then (serial_at key.1) _ x e2 (λ serial read_serial e3.
    let t1 = expect_takes 0x04 bytes name each read_name in
    let t2 = expect_takes 0x04 name.1 key t1.taken.each read_key in
    let t3 = serial_takes key.1 serial t2.taken.each read_serial in
    subst (λ (y : List ℕ × List ℕ × List ℕ). AreNamesRead bytes y.0 y.1 y.2) (some_is (name.0, key.0, serial) x e3)
    (record {
      spelled = t1.taken.parts ∙ ap (λ (r : List ℕ). tlv 0x04 name.0 ++ r) (t2.taken.parts ∙ ap (λ (r : List ℕ). tlv 0x04 key.0 ++ r) t3.spelled);
      shortest = t3.shortest;
    }))))

abbrev the_id : Id → Id
the_id id = id

same_id : (raw raw2 algorithm algorithm2 name key serial : List ℕ) → raw ≡ raw2 → algorithm ≡ algorithm2
    → the_id (record { raw = raw; algorithm = algorithm; name_hash = name; key_hash = key; serial = serial }) ≡ record { raw = raw2; algorithm = algorithm2; name_hash = name; key_hash = key; serial = serial }
same_id raw raw2 algorithm algorithm2 name key serial e f = cc

target_takes : (bytes : List ℕ) (x : Id × List ℕ) → IsBytes bytes → cert_id_at bytes ≡ Some x → TakesItem cert_id id_of IsCertIdTree bytes x.0 x.1
unfolding cert_id_at
target_takes bytes x each e =
    bind_then (expect_at 0x30 bytes) _ x e (λ outer read_outer e1.
    bind_then (algorithm_at outer.0) _ x e1 (λ hash read_hash e2.
    bind_then (hashes_and_serial_at hash.1) _ x e2 (λ names read_names e3.
    let made : Id = record { raw = tlv 0x30 outer.0; algorithm = hash.0; name_hash = names.0; key_hash = names.1; serial = names.2 } in
    let t0 = expect_takes 0x30 bytes outer each read_outer in
    let t1 = algorithm_takes outer.0 hash t0.inner read_hash in
    let t2 = names_take hash.1 names t1.taken.each read_names in
    let tree : CertIdTree = record { identifier = t1.identifier; parameters = t1.any; name_hash = names.0; key_hash = names.1; serial = names.2 } in
    let front = algorithm t1.identifier t1.any in
    let inner : outer.0 ≡ front ++ (tlv 0x04 names.0 ++ (tlv 0x04 names.1 ++ tlv 0x02 names.2)) = t1.taken.parts ∙ ap (λ (r : List ℕ). front ++ r) t2.spelled in
    subst (λ (y : Id × List ℕ). TakesItem cert_id id_of IsCertIdTree bytes y.0 y.1) (some_is (made, outer.1) x e3)
    (record {
      tree = tree;
      fits = record { identified = t1.identified; low_tag = t1.low_tag; shortest = t2.shortest };
      taken = subst (λ (c : List ℕ). Takes bytes (tlv 0x30 c) outer.1) inner t0.taken;
      same = same_id (tlv 0x30 outer.0) (cert_id tree) hash.0 front names.0 names.1 names.2 (ap (tlv 0x30) inner) t1.same;
    }))))

target_again : (t : CertIdTree) (rest : List ℕ) → IsCertIdTree t → length (cert_id t) ≤ 65536 → cert_id_at (cert_id t ++ rest) ≡ Some (id_of t, rest)
unfolding cert_id_at hashes_and_serial_at serial_at
target_again t rest fits small =
    let front = algorithm t.identifier t.parameters in
    let last = tlv 0x02 t.serial in
    let after_name = tlv 0x04 t.key_hash ++ last in
    let after_front = tlv 0x04 t.name_hash ++ after_name in
    let contents = front ++ after_front in
    let l0 : length contents ≤ 65536 = omega (arith, (value_size 0x30 contents).least) in
    let len0 = length-append front after_front in
    let e0 = expect_again 0x30 contents rest (omega arith) l0 in
    let e1 = algorithm_again t.identifier t.parameters after_front fits.identified fits.low_tag (omega (arith, len0, l0)) in
    let s2 = expect_next 0x04 t.name_hash after_name (omega arith) (omega (arith, len0, l0)) in
    let s3 = expect_next 0x04 t.key_hash last (omega arith) s2.1 in
    let e4 = whole_again 0x02 t.serial (omega arith) (omega (arith, s3.1, (value_size 0x02 t.serial).least)) in
    rw (e0, e1, s2.0, s3.0, e4, shortest_passes t.serial fits.shortest) refl

-- ---- one request

pub single_takes : (bytes : List ℕ) (x : Id × List ℕ) → IsBytes bytes → single_at bytes ≡ Some x → TakesItem single cert_id_in IsSingle bytes x.0 x.1
unfolding single_at
single_takes bytes x each e =
    bind_then (expect_at 0x30 bytes) _ x e (λ outer read_outer e1.
    bind_then (cert_id_at outer.0) _ x e1 (λ target read_target e2.
    bind_then (last_nonce_at 0xA0 target.1) _ x e2 (λ nonce read_nonce e3.
    let t0 = expect_takes 0x30 bytes outer each read_outer in
    let t1 = target_takes outer.0 target t0.inner read_target in
    let t2 = last_nonce_takes 0xA0 target.1 nonce t1.taken.each read_nonce in
    let inner : outer.0 ≡ cert_id t1.tree ++ extensions 0xA0 t2.tree = t1.taken.parts ∙ ap (λ (r : List ℕ). cert_id t1.tree ++ r) t2.spelled in
    subst (λ (y : Id × List ℕ). TakesItem single cert_id_in IsSingle bytes y.0 y.1) (some_is (target.0, outer.1) x e3)
    (record {
      tree = record { target = t1.tree; extensions = t2.tree };
      fits = record { target = t1.fits; extensions = t2.fits };
      taken = subst (λ (c : List ℕ). Takes bytes (tlv 0x30 c) outer.1) inner t0.taken;
      same = t1.same;
    }))))

single_again : (s : Single) (rest : List ℕ) → IsSingle s → length (single s) ≤ 65536 → single_at (single s ++ rest) ≡ Some (cert_id_in s, rest)
unfolding single_at
single_again s rest fits small =
    let front = cert_id s.target in
    let last = extensions 0xA0 s.extensions in
    let contents = front ++ last in
    let len = length-append front last in
    let l0 : length contents ≤ 65536 = omega (arith, (value_size 0x30 contents).least) in
    let e0 = expect_again 0x30 contents rest (omega arith) l0 in
    let e1 = target_again s.target last fits.target (omega arith) in
    let e2 = last_nonce_again 0xA0 s.extensions (omega arith) fits.extensions (omega arith) in
    rw (e0, e1, e2) refl

pub single_reads : Reads single_at single cert_id_in IsSingle
single_reads = record {
  takes = single_takes;
  again = single_again;
  some = λ s. omega (arith, (value_size 0x30 (cert_id s.target ++ extensions 0xA0 s.extensions)).least);
}
