-- Extensions: reading gives only trees whose encoding is the bytes, and gives each of them.
use Rattle.std.proofs.Common.{◌≡◌, ℕ, ◌%◌, ◌<◌, ◌≤◌, Bool, true, false, not, ◌&&◌, cond, eqb, List, [], ◌∷◌, ◌++◌, length, map, Option, Some, None, unwrap_or, refl, sym, ap, subst, ◌∙◌, arith}
use Rattle.std.specs.Prelude.{IfSome}
use Rattle.std.specs.List.{flat_map}
use Rattle.std.specs.Str.{bytes_eq}
use Rattle.std.proofs.lemmas.Bool.{eqb-true, eqb-false, ne_eqb, not-false, not_from_true}
use Rattle.std.proofs.lemmas.List.{length-append}
use Rattle.std.proofs.lemmas.Slice.Eq.{bytes_eq-Decides}
use Rattle.reg_core.specs.Integer.{IsBytes}
use Rattle.reg_der.specs.Der.{tlv}
use Rattle.reg_der.specs.ValueReading.{Takes}
use Rattle.reg_der.proofs.PublicLaws.{value_size, bind_then, kept, some_is, or_false}
use Rattle.reg_ocsp.specs.Request.{Extension, IsExtension, AreExtensions, nonce_identifier, first_nonce, optional, boolean, critical, request_extension, extensions}
use Rattle.reg_der.specs.TaggedValues.{expect_at, whole_at, optional_at, last_at, all_at}
use Rattle.reg_ocsp.specs.RequestReading.{flag_of, written_flag, critical_at, is_refused, fields_at, extension_at, nonce_at, written_nonce, last_nonce_at}
use Rattle.reg_ocsp.proofs.PartLaws.{expect_takes, expect_again, whole_takes, whole_again, optional_takes, optional_again, last_takes, last_again, IsSmall, BeginsElse, begins_last}
use Rattle.reg_ocsp.proofs.ItemLaws.{Reads, TakesItem, items_take, items_again}

-- ---- the flag

flag_cases : (octet : ℕ) (b p q : Bool) → eqb octet 0xFF ≡ p → eqb octet 0x00 ≡ q → cond p (Some true) (cond q (Some false) None) ≡ Some b → octet ∷ [] ≡ boolean b
flag_cases octet b true q set clear e =
    subst (λ (v : Bool). octet ∷ [] ≡ boolean v) (some_is true b e) (ap (λ (n : ℕ). n ∷ []) (eqb-true octet 0xFF set))
flag_cases octet b false true set clear e =
    subst (λ (v : Bool). octet ∷ [] ≡ boolean v) (some_is false b e) (ap (λ (n : ℕ). n ∷ []) (eqb-true octet 0x00 clear))
flag_cases octet b false false set clear e = absurd cc

flag_takes : (contents : List ℕ) (b : Bool) → flag_of contents ≡ Some b → contents ≡ boolean b
flag_takes [] b e = absurd cc
flag_takes (octet ∷ []) b e = flag_cases octet b (eqb octet 0xFF) (eqb octet 0x00) refl refl e
flag_takes (octet ∷ second ∷ rest) b e = absurd cc

written_takes : (written : Option (List ℕ)) (flag : Option Bool) → written_flag written ≡ Some flag → optional 0x01 written ≡ critical flag
written_takes None flag e = ap critical (some_is None flag e)
written_takes (Some contents) flag e =
    bind_then (flag_of contents) _ flag e (λ b read then.
    ap (tlv 0x01) (flag_takes contents b read) ∙ ap critical (some_is (Some b) flag then))

critical_takes : (bytes : List ℕ) (x : Option Bool × List ℕ) → IsBytes bytes → critical_at bytes ≡ Some x → Takes bytes (critical x.0) x.1
unfolding critical_at
critical_takes bytes x each e =
    bind_then (optional_at 0x01 bytes) _ x e (λ written read then.
    bind_then (written_flag written.0) _ x then (λ flag read_flag made.
    let t = optional_takes 0x01 bytes written each read in
    let same = written_takes written.0 flag read_flag in
    subst (λ (y : Option Bool × List ℕ). Takes bytes (critical y.0) y.1) (some_is (flag, written.1) x made)
    (subst (λ (text : List ℕ). Takes bytes text written.1) same t.taken)))

abbrev octets_of : Option Bool → Option (List ℕ)
octets_of None = None
octets_of (Some flag) = Some (boolean flag)

critical_is : (flag : Option Bool) → critical flag ≡ optional 0x01 (octets_of flag)
critical_is None = refl
critical_is (Some flag) = refl

octets_small : (flag : Option Bool) → IfSome (octets_of flag) (λ contents. length contents ≤ 65536)
octets_small None = tt
octets_small (Some true) = omega arith
octets_small (Some false) = omega arith

octets_read : (flag : Option Bool) → written_flag (octets_of flag) ≡ Some flag
octets_read None = refl
octets_read (Some true) = refl
octets_read (Some false) = refl

critical_again : (flag : Option Bool) (rest : List ℕ) → BeginsElse 0x01 rest → critical_at (critical flag ++ rest) ≡ Some (flag, rest)
unfolding critical_at
critical_again flag rest begins =
    let again : optional_at 0x01 (critical flag ++ rest) ≡ Some (octets_of flag, rest) = rw (critical_is flag) (optional_again 0x01 (octets_of flag) rest (omega arith) (octets_small flag) begins) in
    rw (again, octets_read flag) refl

-- ---- one extension

known_from : (identifier : List ℕ) (flag : Option Bool) → (unwrap_or flag false && not (bytes_eq identifier nonce_identifier)) ≡ false → flag ≡ Some true → identifier ≡ nonce_identifier
known_from identifier None e same = absurd cc
known_from identifier (Some false) e same = absurd cc
known_from identifier (Some true) e same = (bytes_eq-Decides identifier nonce_identifier).0 (not-false (bytes_eq identifier nonce_identifier) e)

not_refused : (identifier : List ℕ) (flag : Option Bool) (value : List ℕ) → is_refused identifier flag ≡ false → IsExtension (record { identifier = identifier; critical = flag; value = value })
not_refused identifier flag value e =
    let parts = or_false (eqb (length identifier) 0) (unwrap_or flag false && not (bytes_eq identifier nonce_identifier)) e in
    let ne = eqb-false (length identifier) 0 parts.0 in
    record { identified = omega (arith, ne); known = known_from identifier flag parts.1 }

known_passes : (identifier : List ℕ) (flag : Option Bool) → (flag ≡ Some true → identifier ≡ nonce_identifier) → (unwrap_or flag false && not (bytes_eq identifier nonce_identifier)) ≡ false
known_passes identifier None known = refl
known_passes identifier (Some false) known = refl
known_passes identifier (Some true) known =
    let same : bytes_eq identifier nonce_identifier ≡ true = (bytes_eq-Decides identifier nonce_identifier).1 (known refl) in
    not_from_true (bytes_eq identifier nonce_identifier) same

passes : (e : Extension) → IsExtension e → is_refused e.identifier e.critical ≡ false
passes e fits =
    let some = fits.identified in
    let ne : eqb (length e.identifier) 0 ≡ false = ne_eqb (length e.identifier) 0 (λ same. absurd (omega arith)) in
    rw ne (known_passes e.identifier e.critical fits.known)

abbrev pub same_extension : Extension → Extension
same_extension e = e

-- the contents are those of an extension that is known or need not be
record HasFields (contents : List ℕ) (e : Extension) : Type 0 where
  spelled : contents ≡ tlv 0x06 e.identifier ++ (critical e.critical ++ tlv 0x04 e.value)
  fits : IsExtension e

fields_take : (bytes : List ℕ) (e : Extension) → IsBytes bytes → fields_at bytes ≡ Some e → HasFields bytes e
unfolding fields_at
fields_take bytes e each read =
    bind_then (expect_at 0x06 bytes) _ e read (λ identifier read_identifier e2.
    bind_then (critical_at identifier.1) _ e e2 (λ flag read_flag e3.
    bind_then (whole_at 0x04 flag.1) _ e e3 (λ value read_value e4.
    let made : Extension = record { identifier = identifier.0; critical = flag.0; value = value } in
    let g = kept (is_refused identifier.0 flag.0) (Some made) e e4 in
    let t1 = expect_takes 0x06 bytes identifier each read_identifier in
    let t2 = critical_takes identifier.1 flag t1.taken.each read_flag in
    let t3 = whole_takes 0x04 flag.1 value t2.each read_value in
    subst (λ (x : Extension). HasFields bytes x) (some_is made e g.1)
    (record {
      spelled = t1.taken.parts ∙ ap (λ (r : List ℕ). tlv 0x06 identifier.0 ++ r) (t2.parts ∙ ap (λ (r : List ℕ). critical flag.0 ++ r) t3.spelled);
      fits = not_refused identifier.0 flag.0 value g.0;
    }))))

pub extension_takes : (bytes : List ℕ) (x : Extension × List ℕ) → IsBytes bytes → extension_at bytes ≡ Some x → TakesItem request_extension same_extension IsExtension bytes x.0 x.1
unfolding extension_at
extension_takes bytes x each e =
    bind_then (expect_at 0x30 bytes) _ x e (λ outer read_outer e1.
    bind_then (fields_at outer.0) _ x e1 (λ made read_made e2.
    let t0 = expect_takes 0x30 bytes outer each read_outer in
    let t1 = fields_take outer.0 made t0.inner read_made in
    subst (λ (y : Extension × List ℕ). TakesItem request_extension same_extension IsExtension bytes y.0 y.1) (some_is (made, outer.1) x e2)
    (record {
      tree = made;
      fits = t1.fits;
      taken = subst (λ (c : List ℕ). Takes bytes (tlv 0x30 c) outer.1) t1.spelled t0.taken;
      same = refl;
    })))

pub extension_again : (e : Extension) (rest : List ℕ) → IsExtension e → length (request_extension e) ≤ 65536 → extension_at (request_extension e ++ rest) ≡ Some (e, rest)
unfolding extension_at fields_at
extension_again e rest fits small =
    let last = tlv 0x04 e.value in
    let after = critical e.critical ++ last in
    let contents = tlv 0x06 e.identifier ++ after in
    let l0 : length contents ≤ 65536 = omega (arith, (value_size 0x30 contents).least) in
    let l1 : length e.identifier ≤ 65536 = omega (arith, length-append (tlv 0x06 e.identifier) after, (value_size 0x06 e.identifier).least) in
    let l2 : length e.value ≤ 65536 = omega (arith, length-append (tlv 0x06 e.identifier) after, length-append (critical e.critical) last, (value_size 0x04 e.value).least) in
    let e0 = expect_again 0x30 contents rest (omega arith) l0 in
    let e1 = expect_again 0x06 e.identifier after (omega arith) l1 in
    let e2 = critical_again e.critical last (begins_last 0x01 0x04 e.value (λ same. absurd (omega arith))) in
    let e3 = whole_again 0x04 e.value (omega arith) l2 in
    rw (e0, e1, e2, e3, passes e fits) refl

pub extension_reads : Reads extension_at request_extension same_extension IsExtension
extension_reads = record {
  takes = extension_takes;
  again = extension_again;
  some = λ e. omega (arith, (value_size 0x30 (tlv 0x06 e.identifier ++ (critical e.critical ++ tlv 0x04 e.value))).least);
}

-- ---- extensions that are written or not

map_same : (es : List Extension) → map same_extension es ≡ es
map_same [] = refl
map_same (e ∷ es) = ap (λ (xs : List Extension). e ∷ xs) (map_same es)

-- the value of the first nonce, where extensions are written
abbrev pub nonce_in : Option (List Extension) → Option (List ℕ)
nonce_in None = None
nonce_in (Some es) = first_nonce es

-- what was read of written extensions
pub record TakesExtensions (tag : ℕ) (written : Option (List ℕ)) (nonce : Option (List ℕ)) : Type 0 where
  pub tree : Option (List Extension)
  pub fits : AreExtensions tree
  pub spelled : optional tag written ≡ extensions tag tree
  pub same : nonce ≡ nonce_in tree

nonce_takes : (tag : ℕ) (contents : List ℕ) (nonce : Option (List ℕ)) → IsBytes contents → nonce_at contents ≡ Some nonce → TakesExtensions tag (Some contents) nonce
unfolding nonce_at
nonce_takes tag contents nonce each e =
    bind_then (whole_at 0x30 contents) _ nonce e (λ list read_list e1.
    bind_then (all_at extension_at list) _ nonce e1 (λ es read_es e2.
    let t0 = whole_takes 0x30 contents list each read_list in
    let t1 = items_take extension_at request_extension same_extension IsExtension extension_reads (length list) list es t0.inner read_es in
    let same : es ≡ t1.trees = t1.same ∙ map_same t1.trees in
    record {
      tree = Some t1.trees;
      fits = t1.fits;
      spelled = ap (tlv tag) (t0.spelled ∙ ap (tlv 0x30) t1.spelled);
      same = sym (some_is (first_nonce es) nonce e2) ∙ ap first_nonce same;
    }))

pub written_nonce_takes : (tag : ℕ) (written : Option (List ℕ)) (nonce : Option (List ℕ)) → IfSome written IsBytes → written_nonce written ≡ Some nonce → TakesExtensions tag written nonce
written_nonce_takes tag None nonce each e = record { tree = None; fits = tt; spelled = refl; same = sym (some_is None nonce e) }
written_nonce_takes tag (Some contents) nonce each e = nonce_takes tag contents nonce each e

-- the octets of Extensions, where they are written
abbrev pub contents_of : Option (List Extension) → Option (List ℕ)
contents_of None = None
contents_of (Some es) = Some (tlv 0x30 (flat_map request_extension es))

pub extensions_are : (tag : ℕ) (tree : Option (List Extension)) → extensions tag tree ≡ optional tag (contents_of tree)
extensions_are tag None = refl
extensions_are tag (Some es) = refl

pub written_nonce_again : (tag : ℕ) (tree : Option (List Extension)) → AreExtensions tree → length (extensions tag tree) ≤ 65536 → written_nonce (contents_of tree) ≡ Some (nonce_in tree)
unfolding nonce_at
written_nonce_again tag None fits small = refl
written_nonce_again tag (Some es) fits small =
    let list = flat_map request_extension es in
    let l0 : length list ≤ 65536 = omega (arith, (value_size tag (tlv 0x30 list)).least, (value_size 0x30 list).least) in
    let e0 = whole_again 0x30 list (omega arith) l0 in
    let e1 = items_again extension_at request_extension same_extension IsExtension extension_reads es (length list) fits (omega arith) l0 in
    rw (e0, e1, map_same es) refl

-- what is written of extensions is few where they are
pub contents_small : (tag : ℕ) (written : Option (List ℕ)) → length (optional tag written) ≤ 65536 → IsSmall written
contents_small tag None small = tt
contents_small tag (Some contents) small = omega (arith, (value_size tag contents).least)

-- ---- extensions to the end

-- what was read of extensions under the tag, or of no bytes
pub record TakesLast (tag : ℕ) (bytes : List ℕ) (nonce : Option (List ℕ)) : Type 0 where
  pub tree : Option (List Extension)
  pub fits : AreExtensions tree
  pub spelled : bytes ≡ extensions tag tree
  pub same : nonce ≡ nonce_in tree

pub last_nonce_takes : (tag : ℕ) (bytes : List ℕ) (nonce : Option (List ℕ)) → IsBytes bytes → last_nonce_at tag bytes ≡ Some nonce → TakesLast tag bytes nonce
unfolding last_nonce_at
last_nonce_takes tag bytes nonce each e =
    bind_then (last_at tag bytes) _ nonce e (λ written read then.
    let t0 = last_takes tag bytes written each read in
    let t1 = written_nonce_takes tag written nonce t0.inner then in
    record { tree = t1.tree; fits = t1.fits; spelled = t0.spelled ∙ t1.spelled; same = t1.same })

pub last_nonce_again : (tag : ℕ) (tree : Option (List Extension)) → tag % 32 < 31 → AreExtensions tree → length (extensions tag tree) ≤ 65536
    → last_nonce_at tag (extensions tag tree) ≡ Some (nonce_in tree)
unfolding last_nonce_at
last_nonce_again tag tree low fits small =
    let written = contents_of tree in
    let is : extensions tag tree ≡ optional tag written = extensions_are tag tree in
    let few : length (optional tag written) ≤ 65536 = let same = ap length is in omega arith in
    let again : last_at tag (extensions tag tree) ≡ Some written = rw is (last_again tag written low (contents_small tag written few)) in
    rw again (written_nonce_again tag tree fits small)
