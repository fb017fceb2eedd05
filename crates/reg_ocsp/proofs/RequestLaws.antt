-- Whole requests: reading gives only requests, and gives each request; bytes have at most one reading.
use Rattle.std.proofs.Common.{◌≡◌, ℕ, ◌≤◌, Bool, true, false, ◌&&◌, cond, eqb, ltb, List, [], ◌∷◌, ◌++◌, length, map, Option, Some, None, refl, sym, ap, subst, ◌∙◌, arith}
use Rattle.std.specs.Prelude.{IfSome, IfOk, IsErrOf, Result, Ok, Err, option_copied, leb, sum_by}
use Rattle.std.specs.List.{flat_map, AllByRecursion}
use Rattle.std.proofs.lemmas.Bool.{eqb-false, ne_eqb, ltb-false, le-ltb, leb-true}
use Rattle.std.proofs.lemmas.List.{length-append, length-map}
use Rattle.std.proofs.lemmas.List.Sums.{sum_by-cons}
use Rattle.std.proofs.lemmas.Slice.Eq.{bytes_eq-Decides}
use Rattle.reg_core.specs.Integer.{IsBytes}
use Rattle.reg_der.specs.Der.{tlv, length_octets}
use Rattle.reg_der.specs.ValueReading.{Takes}
use Rattle.reg_der.proofs.PublicLaws.{value_size, bind_then, kept, some_is}
use Rattle.reg_ocsp.specs.Request.{Single, IsSingle, Extension, AreExtensions, Id, cert_id_in, RequestTree, IsRequestTree, single, request_version, optional, extensions, to_be_signed, spelling, echoed_nonce, nonce_of, first_nonce, IsOcspRequest, OneReading, cert_id, algorithm, raw_length, IsNonce, CanBeAnswered}
use Rattle.reg_ocsp.specs.declared.asked.Asked.{Asked}
use Rattle.reg_ocsp.specs.declared.fault.RequestFault.{RequestFault}
use Rattle.reg_ocsp.specs.declared.fault.RequestFault.TheVariants.{Malformed, Memory}
use Rattle.reg_ocsp.specs.Views.{id_model, ids_model, GivesUnlessMemory}
use Rattle.reg_der.specs.TaggedValues.{expect_at, whole_at, optional_at, last_at, all_at}
use Rattle.reg_ocsp.specs.RequestReading.{ids_at, single_at, is_version, version_at, last_nonce_at, list_at, signed_at, tbs_at, parts_at, request_at}
use Rattle.reg_ocsp.proofs.PartLaws.{chosen, expect_takes, expect_again, expect_next, whole_takes, whole_again, optional_takes, optional_again, optional_next, last_takes, last_again, IsSmall, BeginsElse, begins_value, begins_optional}
use Rattle.reg_ocsp.proofs.ItemLaws.{TakesAll, items_take, items_again}
use Rattle.reg_ocsp.proofs.ExtensionLaws.{nonce_in, contents_small, last_nonce_takes, last_nonce_again}
use Rattle.reg_ocsp.proofs.TargetLaws.{single_reads}

-- ---- the list

some_trees : (ss : List Single) (bytes : List ℕ) → bytes ≡ flat_map single ss → 1 ≤ length bytes → 1 ≤ length ss
some_trees [] bytes e some = absurd (omega (arith, ap length e))
some_trees (s ∷ ss) bytes e some = omega arith

record TakesIds (bytes : List ℕ) (ids : List Id) : Type 0 where
  all : TakesAll single cert_id_in IsSingle bytes ids
  some : 1 ≤ length all.trees

ids_takes : (bytes : List ℕ) (ids : List Id) → IsBytes bytes → ids_at bytes ≡ Some ids → TakesIds bytes ids
unfolding ids_at
ids_takes bytes ids each e =
    let g = kept (eqb (length bytes) 0) (all_at single_at bytes) ids e in
    let ne = eqb-false (length bytes) 0 g.0 in
    let t = items_take single_at single cert_id_in IsSingle single_reads (length bytes) bytes ids each g.1 in
    record { all = t; some = some_trees t.trees bytes t.spelled (omega (arith, ne)) }

some_bytes : (ss : List Single) → 1 ≤ length ss → 1 ≤ length (flat_map single ss)
some_bytes [] some = absurd (omega arith)
some_bytes (s ∷ ss) some = let first = single_reads.some s in omega (arith, length-append (single s) (flat_map single ss))

ids_again : (ss : List Single) → AllByRecursion IsSingle ss → 1 ≤ length ss → length (flat_map single ss) ≤ 65536 → ids_at (flat_map single ss) ≡ Some (map cert_id_in ss)
unfolding ids_at
ids_again ss fits some small =
    let bytes = some_bytes ss some in
    let e0 : eqb (length (flat_map single ss)) 0 ≡ false = ne_eqb (length (flat_map single ss)) 0 (λ same. absurd (omega arith)) in
    rw e0 (items_again single_at single cert_id_in IsSingle single_reads ss (length (flat_map single ss)) fits (omega arith) small)

-- ---- the version

the_version : tlv 0x02 (0 ∷ []) ≡ 0x02 ∷ 0x01 ∷ 0x00 ∷ []
unfolding tlv length_octets
the_version = refl

record TakesVersion (bytes rest : List ℕ) : Type 0 where
  flag : Bool
  taken : Takes bytes (request_version flag) rest

version_written : (bytes rest : List ℕ) (written : Option (List ℕ)) → Takes bytes (optional 0xA0 written) rest → is_version written ≡ true → TakesVersion bytes rest
version_written bytes rest None taken is = record { flag = false; taken = taken }
version_written bytes rest (Some contents) taken is =
    let same : contents ≡ tlv 0x02 (0 ∷ []) = (bytes_eq-Decides contents (0x02 ∷ 0x01 ∷ 0x00 ∷ [])).0 is ∙ sym the_version in
    record { flag = true; taken = subst (λ (c : List ℕ). Takes bytes (tlv 0xA0 c) rest) same taken }

version_takes : (bytes rest : List ℕ) → IsBytes bytes → version_at bytes ≡ Some rest → TakesVersion bytes rest
unfolding version_at
version_takes bytes rest each e =
    bind_then (optional_at 0xA0 bytes) _ rest e (λ written read then.
    let g = chosen (is_version written.0) (Some written.1) rest then in
    let t = optional_takes 0xA0 bytes written each read in
    subst (λ (r : List ℕ). TakesVersion bytes r) (some_is written.1 rest g.1) (version_written bytes written.1 written.0 t.taken g.0))

abbrev version_contents : Bool → Option (List ℕ)
version_contents true = Some (tlv 0x02 (0 ∷ []))
version_contents false = None

version_is : (flag : Bool) → request_version flag ≡ optional 0xA0 (version_contents flag)
version_is true = refl
version_is false = refl

version_small : (flag : Bool) → IsSmall (version_contents flag)
unfolding tlv length_octets
version_small true = omega arith
version_small false = tt

version_reads : (flag : Bool) → is_version (version_contents flag) ≡ true
version_reads true = (bytes_eq-Decides (tlv 0x02 (0 ∷ [])) (0x02 ∷ 0x01 ∷ 0x00 ∷ [])).1 the_version
version_reads false = refl

version_again : (flag : Bool) (rest : List ℕ) → BeginsElse 0xA0 rest → version_at (request_version flag ++ rest) ≡ Some rest
unfolding version_at
version_again flag rest begins =
    let again : optional_at 0xA0 (request_version flag ++ rest) ≡ Some (version_contents flag, rest) =
    rw (version_is flag) (optional_again 0xA0 (version_contents flag) rest (omega arith) (version_small flag) begins) in
    rw (again, version_reads flag) refl

-- ---- what is signed

nonce_is : (tree : Option (List Extension)) → echoed_nonce (nonce_in tree) ≡ nonce_of tree
nonce_is None = refl
nonce_is (Some es) = refl

-- the contents of a TBSRequest
abbrev signed_text : Bool → Option (List ℕ) → List ℕ → Option (List Extension) → List ℕ
signed_text flag requestor list es = request_version flag ++ (optional 0xA1 requestor ++ (tlv 0x30 list ++ extensions 0xA2 es))

record TakesSigned (bytes list : List ℕ) (nonce : Option (List ℕ)) : Type 0 where
  flag : Bool
  requestor : Option (List ℕ)
  tree : Option (List Extension)
  fits : AreExtensions tree
  spelled : bytes ≡ signed_text flag requestor list tree
  inner : IsBytes list
  same : nonce ≡ nonce_of tree

-- the list of requests, and what stands before it
record TakesList (bytes list rest : List ℕ) : Type 0 where
  flag : Bool
  requestor : Option (List ℕ)
  spelled : bytes ≡ request_version flag ++ (optional 0xA1 requestor ++ (tlv 0x30 list ++ rest))
  inner : IsBytes list
  each : IsBytes rest

list_takes : (bytes : List ℕ) (x : List ℕ × List ℕ) → IsBytes bytes → list_at bytes ≡ Some x → TakesList bytes x.0 x.1
unfolding list_at
list_takes bytes x each e =
    bind_then (version_at bytes) _ x e (λ start read_start e1.
    bind_then (optional_at 0xA1 start) _ x e1 (λ requestor read_requestor e2.
    let t0 = version_takes bytes start each read_start in
    let t1 = optional_takes 0xA1 start requestor t0.taken.each read_requestor in
    let t2 = expect_takes 0x30 requestor.1 x t1.taken.each e2 in
    record {
      flag = t0.flag;
      requestor = requestor.0;
      spelled = t0.taken.parts ∙ ap (λ (r : List ℕ). request_version t0.flag ++ r) (t1.taken.parts ∙ ap (λ (r : List ℕ). optional 0xA1 requestor.0 ++ r) t2.taken.parts);
      inner = t2.inner;
      each = t2.taken.each;
    }))

signed_takes : (bytes : List ℕ) (x : List ℕ × Option (List ℕ)) → IsBytes bytes → signed_at bytes ≡ Some x → TakesSigned bytes x.0 x.1
unfolding signed_at
signed_takes bytes x each e =
    bind_then (list_at bytes) _ x e (λ list read_list e1.
    bind_then (last_nonce_at 0xA2 list.1) _ x e1 (λ first read_first e2.
    let t0 = list_takes bytes list each read_list in
    let t1 = last_nonce_takes 0xA2 list.1 first t0.each read_first in
    let whole : bytes ≡ signed_text t0.flag t0.requestor list.0 t1.tree =
    t0.spelled ∙ ap (λ (r : List ℕ). request_version t0.flag ++ (optional 0xA1 t0.requestor ++ (tlv 0x30 list.0 ++ r))) t1.spelled in
    subst (λ (y : List ℕ × Option (List ℕ)). TakesSigned bytes y.0 y.1) (some_is (list.0, echoed_nonce first) x e2)
    (record {
      flag = t0.flag;
      requestor = t0.requestor;
      tree = t1.tree;
      fits = t1.fits;
      spelled = whole;
      inner = t0.inner;
      same = ap echoed_nonce t1.same ∙ nonce_is t1.tree;
    })))

signed_again : (flag : Bool) (requestor : Option (List ℕ)) (list : List ℕ) (tree : Option (List Extension)) → AreExtensions tree → length (signed_text flag requestor list tree) ≤ 65536
    → signed_at (signed_text flag requestor list tree) ≡ Some (list, nonce_of tree)
unfolding signed_at list_at
signed_again flag requestor list tree fits small =
    let last = extensions 0xA2 tree in
    let after_requestor = tlv 0x30 list ++ last in
    let after_version = optional 0xA1 requestor ++ after_requestor in
    let len0 = length-append (request_version flag) after_version in
    let begins_list : BeginsElse 0xA1 after_requestor = begins_value 0xA1 0x30 list last (λ same. absurd (omega arith)) in
    let begins_here : BeginsElse 0xA0 after_version = begins_optional 0xA0 0xA1 requestor after_requestor (λ same. absurd (omega arith)) (begins_value 0xA0 0x30 list last (λ same. absurd (omega arith))) in
    let e0 = version_again flag after_version begins_here in
    let s1 = optional_next 0xA1 requestor after_requestor (omega arith) (omega (arith, len0)) begins_list in
    let s2 = expect_next 0x30 list last (omega arith) s1.1 in
    let e3 = last_nonce_again 0xA2 tree (omega arith) fits s2.1 in
    rw (e0, s1.0, s2.0, e3, nonce_is tree) refl

-- ---- the outer values

-- what is signed, and what stands beside it
record TakesOuter (bytes signed : List ℕ) : Type 0 where
  signature : Option (List ℕ)
  spelled : bytes ≡ tlv 0x30 (tlv 0x30 signed ++ optional 0xA0 signature)
  inner : IsBytes signed

outer_takes : (bytes signed : List ℕ) → IsBytes bytes → tbs_at bytes ≡ Some signed → TakesOuter bytes signed
unfolding tbs_at
outer_takes bytes signed each e =
    bind_then (whole_at 0x30 bytes) _ signed e (λ outer read_outer e1.
    bind_then (expect_at 0x30 outer) _ signed e1 (λ first read_first e2.
    bind_then (last_at 0xA0 first.1) _ signed e2 (λ signature read_signature e3.
    let t0 = whole_takes 0x30 bytes outer each read_outer in
    let t1 = expect_takes 0x30 outer first t0.inner read_first in
    let t2 = last_takes 0xA0 first.1 signature t1.taken.each read_signature in
    subst (λ (s : List ℕ). TakesOuter bytes s) (some_is first.0 signed e3)
    (record {
      signature = signature;
      spelled = t0.spelled ∙ ap (tlv 0x30) (t1.taken.parts ∙ ap (λ (r : List ℕ). tlv 0x30 first.0 ++ r) t2.spelled);
      inner = t1.inner;
    }))))

record TakesParts (bytes list : List ℕ) (nonce : Option (List ℕ)) : Type 0 where
  signed : List ℕ
  short : length bytes ≤ 65536
  outer : TakesOuter bytes signed
  within : TakesSigned signed list nonce

parts_takes : (bytes : List ℕ) (x : List ℕ × Option (List ℕ)) → IsBytes bytes → parts_at bytes ≡ Some x → TakesParts bytes x.0 x.1
unfolding parts_at
parts_takes bytes x each e =
    let g = kept (ltb 65536 (length bytes)) _ x e in
    bind_then (tbs_at bytes) _ x g.1 (λ signed read_signed e1.
    let outer = outer_takes bytes signed each read_signed in
    record { signed = signed; short = ltb-false 65536 (length bytes) g.0; outer = outer; within = signed_takes signed x outer.inner e1 })

parts_again : (flag : Bool) (requestor : Option (List ℕ)) (list : List ℕ) (tree : Option (List Extension)) (signature : Option (List ℕ)) → AreExtensions tree
    → length (tlv 0x30 (tlv 0x30 (signed_text flag requestor list tree) ++ optional 0xA0 signature)) ≤ 65536
    → parts_at (tlv 0x30 (tlv 0x30 (signed_text flag requestor list tree) ++ optional 0xA0 signature)) ≡ Some (list, nonce_of tree)
unfolding parts_at tbs_at
parts_again flag requestor list tree signature fits small =
    let signed = signed_text flag requestor list tree in
    let last = optional 0xA0 signature in
    let outer = tlv 0x30 signed ++ last in
    let len = length-append (tlv 0x30 signed) last in
    let l0 : length outer ≤ 65536 = omega (arith, (value_size 0x30 outer).least) in
    let l1 : length signed ≤ 65536 = omega (arith, (value_size 0x30 signed).least) in
    let e0 : ltb 65536 (length (tlv 0x30 outer)) ≡ false = le-ltb 65536 (length (tlv 0x30 outer)) small in
    let e1 = whole_again 0x30 outer (omega arith) l0 in
    let e2 = expect_again 0x30 signed last (omega arith) l1 in
    let e3 = last_again 0xA0 signature (omega arith) (contents_small 0xA0 signature (omega arith)) in
    let e4 = signed_again flag requestor list tree fits l1 in
    rw (e0, e1, e2, e3, e4) refl

-- ---- the two laws

pub request_takes : (bytes : List ℕ) (x : List Id × Option (List ℕ)) → IsBytes bytes → request_at bytes ≡ Some x → IsOcspRequest bytes x.0 x.1
unfolding request_at
request_takes bytes x each e =
    bind_then (parts_at bytes) _ x e (λ parts read_parts e1.
    bind_then (ids_at parts.0) _ x e1 (λ ids read_ids e2.
    let t0 = parts_takes bytes parts each read_parts in
    let s = t0.within in
    let t1 = ids_takes parts.0 ids s.inner read_ids in
    let made : RequestTree = record { version = s.flag; requestor = s.requestor; singles = t1.all.trees; extensions = s.tree; signature = t0.outer.signature } in
    let spelled : bytes ≡ spelling made =
    t0.outer.spelled ∙ ap (λ (r : List ℕ). tlv 0x30 (tlv 0x30 r ++ optional 0xA0 t0.outer.signature)) (s.spelled ∙ ap (λ (list : List ℕ). signed_text s.flag s.requestor list s.tree) t1.all.spelled) in
    subst (λ (y : List Id × Option (List ℕ)). IsOcspRequest bytes y.0 y.1) (some_is (ids, parts.1) x e2)
    (record {
      each = each;
      short = t0.short;
      form = made;
      built = record { allowed = record { some = t1.some; each = t1.all.fits; extensions = s.fits }; spelled = spelled; asks = t1.all.same; repeats = s.same };
    })))

list_small : (f : RequestTree) → length (spelling f) ≤ 65536 → length (flat_map single f.singles) ≤ 65536
list_small f small =
    let list = flat_map single f.singles in
    let last = extensions 0xA2 f.extensions in
    let signed = to_be_signed f in
    omega (
      arith,
      (value_size 0x30 (signed ++ optional 0xA0 f.signature)).least,
      length-append signed (optional 0xA0 f.signature),
      (value_size 0x30 (signed_text f.version f.requestor list f.extensions)).least,
      length-append (request_version f.version) (optional 0xA1 f.requestor ++ (tlv 0x30 list ++ last)),
      length-append (optional 0xA1 f.requestor) (tlv 0x30 list ++ last),
      length-append (tlv 0x30 list) last,
      (value_size 0x30 list).least,
    )

spelling_reads : (f : RequestTree) → IsRequestTree f → length (spelling f) ≤ 65536 → request_at (spelling f) ≡ Some (map cert_id_in f.singles, nonce_of f.extensions)
unfolding request_at
spelling_reads f allowed small =
    let list = flat_map single f.singles in
    let e0 = parts_again f.version f.requestor list f.extensions f.signature allowed.extensions small in
    let e1 = ids_again f.singles allowed.each allowed.some (list_small f small) in
    rw (e0, e1) refl

-- the same up to equations of its parts
reading_is : (bytes text : List ℕ) (ids asked : List Id) (nonce repeats : Option (List ℕ)) → bytes ≡ text → ids ≡ asked → nonce ≡ repeats → request_at text ≡ Some (asked, repeats) → request_at bytes ≡ Some (ids, nonce)
reading_is bytes text ids asked nonce repeats e f g read = rw (e, f, g) read

pub request_reads : (bytes : List ℕ) (ids : List Id) (nonce : Option (List ℕ)) → IsOcspRequest bytes ids nonce → request_at bytes ≡ Some (ids, nonce)
request_reads bytes ids nonce is =
    let b = is.built in
    let small : length (spelling is.form) ≤ 65536 = let short = is.short in let same = ap length b.spelled in omega arith in
    reading_is bytes (spelling is.form) ids (map cert_id_in is.form.singles) nonce (nonce_of is.form.extensions) b.spelled b.asks b.repeats (spelling_reads is.form b.allowed small)

abbrev some_reading : List Id × Option (List ℕ) → Option (List Id × Option (List ℕ))
some_reading x = Some x

pub one_reading : OneReading
one_reading bytes ids_a ids_b nonce_a nonce_b a b =
    let both : some_reading (ids_a, nonce_a) ≡ some_reading (ids_b, nonce_b) = sym (request_reads bytes ids_a nonce_a a) ∙ request_reads bytes ids_b nonce_b b in
    let pair = some_is {A = List Id × Option (List ℕ)} (ids_a, nonce_a) (ids_b, nonce_b) both in
    (ap (λ (x : List Id × Option (List ℕ)). x.0) pair, ap (λ (x : List Id × Option (List ℕ)). x.1) pair)

-- where nothing is read there is no request
pub no_request : (bytes : List ℕ) → request_at bytes ≡ None → (ids : List Id) (nonce : Option (List ℕ)) → IsOcspRequest bytes ids nonce → ⊥
no_request bytes read ids nonce is =
    let same : some_reading (ids, nonce) ≡ None = sym (request_reads bytes ids nonce is) ∙ read in
    absurd cc

-- ---- sizes

-- the whole values of the CertIDs stand in the list, which is longer
raws_small : (ss : List Single) → sum_by raw_length (map cert_id_in ss) ≤ length (flat_map single ss)
raws_small [] = omega arith
raws_small (s ∷ ss) =
    let others = raws_small ss in
    let id = cert_id s.target in
    let written = extensions 0xA0 s.extensions in
    omega (arith, sum_by-cons raw_length (cert_id_in s) (map cert_id_in ss), length-append (single s) (flat_map single ss), (value_size 0x30 (id ++ written)).least, length-append id written)

ids_few : (ss : List Single) → length (map cert_id_in ss) ≤ sum_by raw_length (map cert_id_in ss)
ids_few [] = omega arith
ids_few (s ∷ ss) =
    let others = ids_few ss in
    let t = s.target in
    omega (arith, sum_by-cons raw_length (cert_id_in s) (map cert_id_in ss), (value_size 0x30 (algorithm t.identifier t.parameters ++ (tlv 0x04 t.name_hash ++ (tlv 0x04 t.key_hash ++ tlv 0x02 t.serial)))).least)

repeated_short : (first : Option (List ℕ)) → IfSome (echoed_nonce first) IsNonce
repeated_short None = tt
repeated_short (Some value) = kept_short value (leb 1 (length value)) (leb (length value) 131) refl refl
  where
    kept_short : (value : List ℕ) (some few : Bool) → leb 1 (length value) ≡ some → leb (length value) 131 ≡ few → IfSome (cond (some && few) (Some value) None) IsNonce
    kept_short value true true one last = record { some = leb-true 1 (length value) one; short = leb-true (length value) 131 last }
    kept_short value true false one last = tt
    kept_short value false few one last = tt

nonce_short : (tree : Option (List Extension)) → IfSome (nonce_of tree) IsNonce
nonce_short None = tt
nonce_short (Some es) = repeated_short (first_nonce es)

-- a nonce that is repeated is short enough
nonce_fits : (nonce : Option (List ℕ)) → IfSome nonce IsNonce → IfSome nonce (λ value. length value ≤ 131)
nonce_fits None is = tt
nonce_fits (Some value) is = is.short

pub repeats_nonce : (bytes : List ℕ) (ids : List Id) (nonce : Option (List ℕ)) → IsOcspRequest bytes ids nonce → IfSome nonce IsNonce
repeats_nonce bytes ids nonce is = subst (λ (n : Option (List ℕ)). IfSome n IsNonce) (sym is.built.repeats) (nonce_short is.form.extensions)

pub asks_some : (bytes : List ℕ) (ids : List Id) (nonce : Option (List ℕ)) → IsOcspRequest bytes ids nonce → 1 ≤ length ids
asks_some bytes ids nonce is =
    let one = is.built.allowed.some in
    let same = ap length is.built.asks in
    omega (arith, length-map is.form.singles cert_id_in)

pub can_be_answered : (bytes : List ℕ) (ids : List Id) (nonce : Option (List ℕ)) → IsOcspRequest bytes ids nonce → CanBeAnswered ids nonce
can_be_answered bytes ids nonce is =
    let f = is.form in
    let small : length (spelling f) ≤ 65536 = let short = is.short in let same = ap length is.built.spelled in omega arith in
    let list = list_small f small in
    let asked = map cert_id_in f.singles in
    let raws = raws_small f.singles in
    let few = ids_few f.singles in
    let made : CanBeAnswered asked (nonce_of f.extensions) = record {
      few = omega arith;
      short = omega arith;
      short_nonce = nonce_fits (nonce_of f.extensions) (nonce_short f.extensions);
    } in
    answered_same asked ids (nonce_of f.extensions) nonce (sym is.built.asks) (sym is.built.repeats) made
  where
    answered_same : (asked ids : List Id) (repeats nonce : Option (List ℕ)) → asked ≡ ids → repeats ≡ nonce → CanBeAnswered asked repeats → CanBeAnswered ids nonce
    answered_same asked ids repeats other e f can = rw (← e, ← f) can

-- ---- what the reader gives

abbrev asked_seen : Asked → List Id × Option (List ℕ)
asked_seen a = (ids_model a.ids.items, option_copied a.nonce)

pub is_found : (bytes : List ℕ) (outcome : Result Asked RequestFault) → IsBytes bytes → GivesUnlessMemory asked_seen outcome (request_at bytes)
    → IfOk outcome (λ a. IsOcspRequest bytes (ids_model a.ids.items) (option_copied a.nonce))
is_found bytes (Ok a) each given = request_takes bytes (asked_seen a) each given
is_found bytes (Err e) each given = tt

pub is_malformed : (bytes : List ℕ) (outcome : Result Asked RequestFault) → GivesUnlessMemory asked_seen outcome (request_at bytes)
    → IsErrOf outcome Malformed → (ids : List Id) (nonce : Option (List ℕ)) → IsOcspRequest bytes ids nonce → ⊥
is_malformed bytes (Ok a) given is = absurd (cc)
is_malformed bytes (Err Malformed) given is = no_request bytes given
is_malformed bytes (Err Memory) given is = absurd (cc)

pub is_answerable : (bytes : List ℕ) (outcome : Result Asked RequestFault) → IfOk outcome (λ a. IsOcspRequest bytes (ids_model a.ids.items) (option_copied a.nonce))
    → IfOk outcome (λ a. CanBeAnswered (ids_model a.ids.items) (option_copied a.nonce))
is_answerable bytes (Ok a) is = can_be_answered bytes (ids_model a.ids.items) (option_copied a.nonce) is
is_answerable bytes (Err e) is = tt

pub is_some : (bytes : List ℕ) (outcome : Result Asked RequestFault) → IfOk outcome (λ a. IsOcspRequest bytes (ids_model a.ids.items) (option_copied a.nonce))
    → IfOk outcome (λ a. 1 ≤ length a.ids.items)
is_some bytes (Ok a) is = omega (arith, asks_some bytes (ids_model a.ids.items) (option_copied a.nonce) is, length-map a.ids.items id_model)
is_some bytes (Err e) is = tt

pub is_repeated : (bytes : List ℕ) (outcome : Result Asked RequestFault) → IfOk outcome (λ a. IsOcspRequest bytes (ids_model a.ids.items) (option_copied a.nonce))
    → IfOk outcome (λ a. IfSome (option_copied a.nonce) IsNonce)
is_repeated bytes (Ok a) is = repeats_nonce bytes (ids_model a.ids.items) (option_copied a.nonce) is
is_repeated bytes (Err e) is = tt
