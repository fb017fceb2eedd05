-- The parts of a page are read as they were written.
use Rattle.std.proofs.Common.{◌≡◌, ◌≢◌, ℕ, List, [], ◌∷◌, ◌++◌, length, take, drop, Option, Some, None, append_assoc, sym, ap, subst, ◌∙◌}
use Rattle.std.specs.Prelude.{IfSome, MatchOption, flat_map}
use Rattle.std.specs.Result.{result_ok}
use Rattle.std.proofs.Math.Seq.{drop-append_seam, take-append_seam}
use Rattle.std.proofs.lemmas.List.{append_cancel_left}
use Rattle.hex.specs.Hex.{IsBytes, decode_of, encode_lower}
use Rattle.hex.proofs.HexLemmas.{decode_of-encode_lower}
use Rattle.reg_core.specs.Crls.{row_of}
use Rattle.reg_core.specs.Records.{Crl}
use Rattle.reg_core.specs.declared.rows.CrlRow.{CrlRow}
use Rattle.reg_core_lists.specs.Feed.{crl_part, feed_rows_text, last_line, page_parts_text}
use Rattle.reg_core_lists.specs.FeedLines.{crl_feed_text, crl_line, step_text}
use Rattle.reg_core_lists.specs.FeedReading.{HeadFields, ReadsItems, crl_line_read, step_read}
use Rattle.reg_core_lists.specs.ReceivedPages.{HeadTerms, IsReadableCrl, IsReadableHead, Received, fields_of_terms, head_terms_text, positions_of, received_text}
use Rattle.reg_core_lists.proofs.LinesRead.{crl_line_found, head_steps}
use Rattle.reg_core_lists.proofs.RowsRead.{same_items}

pub some_same : {A : Type 0} (x y : A) → Some x ≡ Some y → x ≡ y
some_same x y is = cc is

pub none_some : {A : Type 0} (x : A) → None ≡ Some x → ⊥
none_some x is = cc is

-- what was appended to nothing
pub written_is : (slice items old text : List ℕ) → slice ≡ items → items ≡ old ++ text → old ≡ [] → slice ≡ text
written_is slice items old text of appends none = of ∙ appends ∙ ap (λ (l : List ℕ). l ++ text) none

-- octets are decoded from their digits
pub decoded : (found : Option (List ℕ)) (digits octets : List ℕ) → IsBytes octets → digits ≡ encode_lower octets → found ≡ result_ok
    (decode_of digits)
    → found ≡ Some octets
decoded found digits octets are is decodes =
    decodes ∙ ap (λ (text : List ℕ). result_ok (decode_of text)) is ∙ ap result_ok (decode_of-encode_lower octets are)

-- as many octets before the same text are the same
pub same_octets : (der other rest behind : List ℕ) → length der ≡ length other → der ++ 10 ∷ rest ≡ other ++ 10 ∷ behind → (der ≡ other) ×
    (rest ≡ behind)
same_octets der other rest behind long is =
    let front : der ≡ other =
    sym (take-append_seam der (10 ∷ rest)) ∙ ap (take (length der)) is ∙ ap (λ (k : ℕ). take k (other ++ 10 ∷ behind)) long
    ∙ take-append_seam other (10 ∷ behind) in
    let back : (10 ∷ rest) ≡ 10 ∷ behind =
    sym (drop-append_seam der (10 ∷ rest)) ∙ ap (drop (length der)) is ∙ ap (λ (k : ℕ). drop k (other ++ 10 ∷ behind)) long
    ∙ drop-append_seam other (10 ∷ behind) in
    (front, cc back)

crl_text : (crl : Crl) (rest : List ℕ) → crl_feed_text (row_of crl) crl.bytes ++ rest ≡ crl_line (row_of crl) (length crl.bytes) ++
    (crl.bytes ++ 10 ∷ rest)
unfolding crl_feed_text
crl_text crl rest = simp append_assoc

pub crl_found : (crl : Crl) (rest : List ℕ) → IsReadableCrl crl → crl_line_read (crl_feed_text (row_of crl) crl.bytes ++ rest) ≡ Some
    (row_of crl, length crl.bytes)
crl_found crl rest ok =
    ap crl_line_read (crl_text crl rest)
    ∙ crl_line_found (row_of crl) (length crl.bytes) (crl.bytes ++ 10 ∷ rest) ok.number ok.this_update ok.octets

module _ (crl : Crl) (row : CrlRow) (octets : ℕ) (text line rest : List ℕ) (same_row : row ≡ row_of crl) (count : octets ≡ length crl.bytes) (is : text ≡ crl_feed_text (row_of crl) crl.bytes ++ rest) (written : line ≡ crl_line row octets) where
  whole : text ≡ line ++ (crl.bytes ++ 10 ∷ rest)
  whole =
      is ∙ crl_text crl rest
      ∙ sym (ap (λ (l : List ℕ). l ++ (crl.bytes ++ 10 ∷ rest)) (written ∙ ap (λ (r : CrlRow). crl_line r octets) same_row ∙ ap (crl_line
      (row_of crl)) count))

  pub same_crl : (der behind : List ℕ) → length der ≡ octets → text ≡ line ++ der ++ 10 ∷ behind → (der ≡ crl.bytes) × (behind ≡ rest)
  same_crl der behind long read =
      same_octets der crl.bytes behind rest (long ∙ count) (append_cancel_left line (der ++ 10 ∷ behind) (crl.bytes ++ 10 ∷ rest) (sym (read
      ∙ append_assoc line der (10 ∷ behind)) ∙ whole))

  pub some_crl : ((der behind : List ℕ) → length der ≡ octets → text ≢ line ++ der ++ 10 ∷ behind) → ⊥
  some_crl never = never crl.bytes rest (sym count) (whole ∙ sym (append_assoc line crl.bytes (10 ∷ rest)))

-- the policy of the fields that were read
pub terms_of : (fields : HeadFields) (head : HeadTerms) (steps : List (ℕ × ℕ)) (rest : List ℕ) → IsReadableHead head → fields ≡ fields_of_terms head
    → ReadsItems step_read steps fields.steps rest
    → head.policy ≡ record { schedule = steps; crl_life = fields.crl_life; ocsp_life = fields.ocsp_life; cap = fields.cap }
terms_of fields head steps rest ok is reads =
    let text : fields.steps ≡ flat_map step_text head.policy.schedule = ap (λ (f : HeadFields). f.steps) is in
    let written : ReadsItems step_read head.policy.schedule fields.steps [] =
    subst (λ (t : List ℕ). ReadsItems step_read head.policy.schedule t []) (sym text) (head_steps head ok) in
    let same : steps ≡ head.policy.schedule = (same_items step_read steps head.policy.schedule fields.steps rest [] reads written).0 in
    let crl_life = ap (λ (f : HeadFields). f.crl_life) is in
    let ocsp_life = ap (λ (f : HeadFields). f.ocsp_life) is in
    let cap = ap (λ (f : HeadFields). f.cap) is in
    sym (λ i. record { schedule = same i; crl_life = crl_life i; ocsp_life = ocsp_life i; cap = cap i })

pub parts_text : (it : Received) → page_parts_text it.parts it.digest
    ≡ feed_rows_text it.parts.rows ++ (crl_part it.parts.crl ++ last_line it.parts.ends (positions_of it))
unfolding page_parts_text
parts_text it = append_assoc (feed_rows_text it.parts.rows) (crl_part it.parts.crl) (last_line it.parts.ends (positions_of it))

-- a page is its parts, one after the other
pub whole_parts : (it : Received) (text : List ℕ)
    → text ≡ feed_rows_text it.parts.rows ++ (crl_part it.parts.crl ++ last_line it.parts.ends (positions_of it))
    → head_terms_text it.head ++ text ≡ received_text it
whole_parts it text is = ap (λ (t : List ℕ). head_terms_text it.head ++ t) (is ∙ sym (parts_text it))

pub if_some : {A : Type 0} (P : Type 0) (Q R : A → Type 0) (wanted : A) (found : Option A) → MatchOption found P (λ it. (it ≡ wanted) × Q it)
    → R wanted → IfSome found R
if_some P Q R wanted None is holds = tt
if_some P Q R wanted (Some it) is holds = subst R (sym is.0) holds
