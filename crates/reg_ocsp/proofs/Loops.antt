-- The steps of the loops over extensions and over requests.
use Rattle.std.proofs.Common.{◌≡◌, ℕ, ◌≤◌, true, false, List, [], ◌∷◌, ◌++◌, length, Option, Some, None, Bor, refl, sym, ap, ◌∙◌, append_assoc}
use Rattle.std.specs.Prelude.{option_copied, is_some}
use Rattle.std.specs.Str.{bytes_eq}
use Rattle.reg_core.specs.Integer.{IsBytes}
use Rattle.reg_core.specs.Sequence.{◌>>=◌}
use Rattle.reg_ocsp.specs.Request.{Extension, IsExtension, Id, cert_id_in, single, IsSingle, request_extension, first_nonce, nonce_identifier}
use Rattle.reg_der.specs.TaggedValues.{whole_at, all_at}
use Rattle.reg_ocsp.specs.RequestReading.{extension_at, single_at}
use Rattle.reg_ocsp.proofs.PartLaws.{whole_takes}
use Rattle.reg_ocsp.proofs.ItemLaws.{all_step}
use Rattle.reg_ocsp.proofs.ExtensionLaws.{same_extension, extension_takes, extension_reads}
use Rattle.reg_ocsp.proofs.TargetLaws.{single_takes, single_reads}

-- ---- the first nonce

-- the nonce that was found before, or else the first of the rest
abbrev pub found_first : Option (List ℕ) → List Extension → Option (List ℕ)
found_first (Some value) es = Some value
found_first None es = first_nonce es

abbrev pub found_in : Option (List ℕ) → Option (List Extension) → Option (Option (List ℕ))
found_in nonce read = read >>= λ es. Some (found_first nonce es)

-- what is found, with what was found before, is what is found in the whole list
pub record LooksFor (nonce : Option (List ℕ)) (rest list : List ℕ) : Type 0 where
  pub found_is : found_in nonce (all_at extension_at rest) ≡ found_in None (all_at extension_at list)
  pub each : IsBytes rest

pub nonce_begins : (bytes list : List ℕ) → IsBytes bytes → whole_at 0x30 bytes ≡ Some list → LooksFor None list list
nonce_begins bytes list each read = record { found_is = refl; each = (whole_takes 0x30 bytes list each read).inner }

regroup : (nonce nonce2 : Option (List ℕ)) (e : Extension) (read : Option (List Extension)) → ((es : List Extension) → found_first nonce (e ∷ es) ≡ found_first nonce2 es)
    → found_in nonce (read >>= λ es. Some (e ∷ es)) ≡ found_in nonce2 read
regroup found found2 e (Some es) same = ap (λ (o : Option (List ℕ)). Some o) (same es)
regroup found found2 e None same = refl

pub nonce_goes_on : (nonce nonce2 : Option (List ℕ)) (rest after list : List ℕ) (e : Extension) → ((es : List Extension) → found_first nonce (e ∷ es) ≡ found_first nonce2 es)
    → 1 ≤ length rest → extension_at rest ≡ Some (e, after) → LooksFor nonce rest list → LooksFor nonce2 after list
nonce_goes_on nonce nonce2 rest after list e same some read so_far =
    let step = all_step extension_at request_extension same_extension IsExtension extension_reads rest e after so_far.each some read in
    record {
      found_is = sym (ap (found_in nonce) step ∙ regroup nonce nonce2 e (all_at extension_at after) same) ∙ so_far.found_is;
      each = (extension_takes rest (e, after) so_far.each read).taken.each;
    }

-- what is kept where a nonce was found before
pub nonce_was : (before : Option (Bor (List ℕ))) (e : Extension) → is_some before ≡ true → (es : List Extension) → found_first (option_copied before) (e ∷ es) ≡ found_first (option_copied before) es
nonce_was (Some value) e was es = refl
nonce_was None e was es = absurd cc

-- what is kept where this extension is the first nonce
pub nonce_now : (before : Option (Bor (List ℕ))) (e : Extension) → is_some before ≡ false → bytes_eq e.identifier nonce_identifier ≡ true → (es : List Extension) → found_first (option_copied before) (e ∷ es) ≡ found_first (Some e.value) es
nonce_now (Some value) e was is es = absurd cc
nonce_now None e was is es = rw is refl

-- what is kept where it is another
pub nonce_not : (before : Option (Bor (List ℕ))) (e : Extension) → is_some before ≡ false → bytes_eq e.identifier nonce_identifier ≡ false → (es : List Extension) → found_first (option_copied before) (e ∷ es) ≡ found_first (option_copied before) es
nonce_not (Some value) e was is es = absurd cc
nonce_not None e was is es = rw is refl

-- ---- the CertIDs

-- what was read before, and what is read of the rest
abbrev pub with_front : List Id → Option (List Id) → Option (List Id)
with_front front read = read >>= λ ids. Some (front ++ ids)

pub record Lists (front : List Id) (rest list : List ℕ) : Type 0 where
  pub read_is : with_front front (all_at single_at rest) ≡ all_at single_at list
  pub each : IsBytes rest

push_front : (front : List Id) (id : Id) (read : Option (List Id)) → with_front front (read >>= λ ids. Some (id ∷ ids)) ≡ with_front (front ++ id ∷ []) read
push_front front id (Some ids) = ap (λ (xs : List Id). Some xs) (simp append_assoc)
push_front front id None = refl

pub ids_go_on : (front : List Id) (rest after list : List ℕ) (id : Id) → 1 ≤ length rest → single_at rest ≡ Some (id, after) → Lists front rest list → Lists (front ++ id ∷ []) after list
ids_go_on front rest after list id some read so_far =
    let step = all_step single_at single cert_id_in IsSingle single_reads rest id after so_far.each some read in
    record {
      read_is = sym (ap (with_front front) step ∙ push_front front id (all_at single_at after)) ∙ so_far.read_is;
      each = (single_takes rest (id, after) so_far.each read).taken.each;
    }
