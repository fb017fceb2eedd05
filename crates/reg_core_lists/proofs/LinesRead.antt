-- The other lines of a page, and the positions, are read as they were written.
use Rattle.std.proofs.Common.{◌≡◌, ℕ, ◌<◌, ◌^◌, Bool, true, false, List, [], ◌∷◌, ◌++◌, length, take, drop, Option, Some, None, append_assoc, lit<, refl, sym, ap, ◌∙◌, arith}
use Rattle.std.specs.Prelude.{codes, decimal, flat_map, nat_le, nat_lt}
use Rattle.std.specs.List.{AllByRecursion}
use Rattle.std.proofs.Math.Seq.{drop-append-add, drop-append_seam, take-append_seam}
use Rattle.std.proofs.lemmas.Bool.{le-leb, lt-ltb}
use Rattle.std.proofs.lemmas.List.{append-nil, length-append}
use Rattle.hex.specs.Hex.{IsBytes, encode_lower}
use Rattle.hex.proofs.HexLemmas.{decode_sized-encode_lower}
use Rattle.reg_core.specs.Calendar.{IsMoment, moment_text}
use Rattle.reg_core.specs.Number.{number_of}
use Rattle.reg_core.specs.Policy.{IsPolicy, Terms}
use Rattle.reg_core.specs.Records.{Crl}
use Rattle.reg_core.specs.Schedule.{HasDays}
use Rattle.reg_core.specs.declared.rows.CrlRow.{CrlRow}
use Rattle.reg_core.proofs.PublicLaws.{moment_of-text}
use Rattle.reg_core_lists.specs.Feed.{crl_part, last_line}
use Rattle.reg_core_lists.specs.FeedLines.{crl_feed_text, crl_line, feed_line, issuer_line, page_head, policy_line, schedule_line, step_text}
use Rattle.reg_core_lists.specs.FeedReading.{ReadsItems, crl_line_read, field_read, head_read, is_other_version, issuer_read, last_line_read, line_read, policy_read, positions_in_line, step_read, value_read, version_read}
use Rattle.reg_core_lists.specs.Positions.{counts_read, declines_read, declines_text, number_and_rest, part_text, positions_of_text, positions_text, row_counts_text}
use Rattle.reg_core_lists.specs.ReceivedPages.{HasNoRow, HeadTerms, IsReadableHead, IsReadableNumber, IsReadablePositions, fields_of_terms, head_terms_text}
use Rattle.reg_core_lists.specs.declared.fields.Cell.TheVariants.{Number, At}
use Rattle.reg_core_lists.specs.declared.positions.Positions.{Positions}
use Rattle.reg_core_lists.proofs.FieldsRead.{EndsField, IsField, IsLine, digits_number, field_found, field_in_line, first_at, hex_bytes, joined, line_found, moment_bytes, moment_field, moment_length, number_field, number_read, weaker, written_line, written_value}

-- ---- positions

part_found : (n : ℕ) (more : List ℕ) → n < 10 ^ 18 → number_and_rest (decimal n ++ 46 ∷ more) ≡ Some (n, more)
unfolding number_and_rest
part_found n more small =
    let inside : nat_lt (length (decimal n)) (length (decimal n ++ 46 ∷ more)) ≡ true =
    lt-ltb (length (decimal n)) (length (decimal n ++ 46 ∷ more)) (omega (arith, length-append (decimal n) (46 ∷ more))) in
    rw (
      first_at 48 46 (lit< tt) (decimal n) more (digits_number n small),
      inside,
      take-append_seam (decimal n) (46 ∷ more),
      drop-append-add (decimal n) (46 ∷ more) 1,
      number_read n small,
    ) refl

counts_found : (positions : Positions) (more : List ℕ) → IsReadablePositions positions
    → counts_read (row_counts_text positions.counts ++ more) ≡ Some (positions.counts, more)
unfolding counts_read row_counts_text
counts_found p more ok =
    let c = p.counts in
    let after5 = decimal c.crls ++ 46 ∷ more in
    let after4 = decimal c.revocations ++ 46 ∷ after5 in
    let after3 = decimal c.requests ++ 46 ∷ after4 in
    let after2 = decimal c.certificates ++ 46 ∷ after3 in
    let after1 = decimal c.orders ++ 46 ∷ after2 in
    let regrouped : row_counts_text c ++ more ≡ decimal c.subscribers ++ 46 ∷ after1 = simp append_assoc in
    ap counts_read regrouped
    ∙ rw (
      part_found c.subscribers after1 ok.subscribers,
      part_found c.orders after2 ok.orders,
      part_found c.certificates after3 ok.certificates,
      part_found c.requests after4 ok.requests,
      part_found c.revocations after5 ok.revocations,
      part_found c.crls more ok.crls,
    ) refl

declines_found : (positions : Positions) (more : List ℕ) → IsReadablePositions positions
    → declines_read (declines_text positions.declines ++ more) ≡ Some (positions.declines, more)
unfolding declines_read declines_text
declines_found p more ok =
    let after = decimal p.declines.last ++ 46 ∷ more in
    let regrouped : declines_text p.declines ++ more ≡ decimal p.declines.count ++ 46 ∷ after = simp append_assoc in
    ap declines_read regrouped ∙ rw (part_found p.declines.count after ok.count, part_found p.declines.last more ok.last) refl

pub positions_found : (positions : Positions) → IsReadablePositions positions → positions_of_text (positions_text positions) ≡ Some positions
unfolding positions_of_text positions_text
positions_found p ok =
    rw (
      append_assoc (row_counts_text p.counts) (declines_text p.declines) (encode_lower p.digest),
      counts_found p (declines_text p.declines ++ encode_lower p.digest) ok,
      declines_found p (encode_lower p.digest) ok,
      decode_sized-encode_lower p.digest 32 ok.octets ok.digest,
    ) refl

part_bytes : (n : ℕ) → n < 10 ^ 18 → IsField (part_text n)
part_bytes n small = joined 45 (decimal n) (46 ∷ []) (weaker (decimal n) (digits_number n small)) refl

counts_bytes : (positions : Positions) → IsReadablePositions positions → IsField (row_counts_text positions.counts)
unfolding row_counts_text
counts_bytes p ok =
    let a = part_text p.counts.subscribers in
    let b = part_text p.counts.orders in
    let c = part_text p.counts.certificates in
    let d = part_text p.counts.requests in
    let e = part_text p.counts.revocations in
    let one = joined 45 a b (part_bytes p.counts.subscribers ok.subscribers) (part_bytes p.counts.orders ok.orders) in
    let two = joined 45 (a ++ b) c one (part_bytes p.counts.certificates ok.certificates) in
    let three = joined 45 (a ++ b ++ c) d two (part_bytes p.counts.requests ok.requests) in
    let four = joined 45 (a ++ b ++ c ++ d) e three (part_bytes p.counts.revocations ok.revocations) in
    joined 45 (a ++ b ++ c ++ d ++ e) (part_text p.counts.crls) four (part_bytes p.counts.crls ok.crls)

declines_bytes : (positions : Positions) → IsReadablePositions positions → IsField (declines_text positions.declines)
unfolding declines_text
declines_bytes p ok =
    joined 45 (part_text p.declines.count) (part_text p.declines.last) (part_bytes p.declines.count ok.count) (part_bytes p.declines.last ok.last)

pub positions_bytes : (positions : Positions) → IsReadablePositions positions → IsField (positions_text positions)
unfolding positions_text
positions_bytes p ok =
    joined 45 (row_counts_text p.counts ++ declines_text p.declines) (encode_lower p.digest)
    (joined 45 (row_counts_text p.counts) (declines_text p.declines) (counts_bytes p ok) (declines_bytes p ok))
    (weaker (encode_lower p.digest) (hex_bytes p.digest ok.digest))

-- ---- the last line

positions_at : (word : List ℕ) (positions : Positions) → IsReadablePositions positions
    → positions_in_line word (word ++ (32 ∷ positions_text positions) ++ 10 ∷ []) ≡ Some positions
unfolding positions_in_line
positions_at word p ok =
    let fields = 32 ∷ positions_text p in
    let bytes = positions_bytes p ok in
    let line : line_read word (word ++ fields ++ 10 ∷ []) ≡ Some (fields, []) =
    ap (line_read word) (sym (append-nil (word ++ fields ++ 10 ∷ []))) ∙ line_found word fields [] (field_in_line (positions_text p) bytes) in
    let field : field_read (32 ∷ positions_text p) ≡ Some (positions_text p, []) =
    ap (λ (text : List ℕ). field_read (32 ∷ text)) (sym (append-nil (positions_text p))) ∙ field_found (positions_text p) [] bytes tt in
    rw (line, field, positions_found p ok) refl

not_end : (positions : Positions) → positions_in_line (codes "end") (codes "more " ++ positions_text positions ++ 10 ∷ []) ≡ None
unfolding positions_in_line line_read
not_end p = refl

pub last_line_found : (ends : Bool) (positions : Positions) → IsReadablePositions positions
    → last_line_read (last_line ends positions) ≡ Some (ends, positions)
unfolding last_line_read last_line
last_line_found true p ok = rw (positions_at (codes "end") p ok) refl
last_line_found false p ok = rw (not_end p, positions_at (codes "more") p ok) refl

-- ---- a CRL

pub crl_line_found : (row : CrlRow) (octets : ℕ) (more : List ℕ) → IsReadableNumber row.number → IsMoment row.this_update → IsReadableNumber octets
    → crl_line_read (crl_line row octets ++ more) ≡ Some (row, octets)
unfolding crl_line_read
crl_line_found row octets more number_ok moment_ok octets_ok =
    let number = number_field row.number number_ok in
    let moment = moment_field row.this_update moment_ok in
    let count = number_field octets octets_ok in
    let last = Number octets ∷ [] in
    rw (
      written_line (codes "crl") (Number row.number ∷ At row.this_update ∷ last) more (number.bytes, (moment.bytes, (count.bytes, tt))),
      written_value number (At row.this_update ∷ last),
      written_value moment last,
      written_value count [],
    ) refl

pub no_crl : (ends : Bool) (positions : Positions) → crl_line_read (last_line ends positions) ≡ None
unfolding crl_line_read last_line line_read
no_crl true positions = refl
no_crl false positions = refl

-- neither a CRL nor the last line is a row
pub no_row : (crl : Option Crl) (ends : Bool) (positions : Positions) → HasNoRow (crl_part crl ++ last_line ends positions)
unfolding line_read last_line crl_feed_text feed_line
no_row (Some crl) ends positions = (refl, (refl, (refl, (refl, (refl, (refl, tt))))))
no_row None true positions = (refl, (refl, (refl, (refl, (refl, (refl, tt))))))
no_row None false positions = (refl, (refl, (refl, (refl, (refl, (refl, tt))))))

-- ---- the head

step_bytes : (step : ℕ × ℕ) → step.1 < 10 ^ 18 → IsField (moment_text step.0 ++ 61 ∷ decimal step.1)
step_bytes step small =
    joined 45 (moment_text step.0) (61 ∷ decimal step.1) (moment_bytes step.0) (weaker (decimal step.1) (digits_number step.1 small))

step_found : (step : ℕ × ℕ) (more : List ℕ) → IsMoment step.0 → HasDays step → EndsField more → step_read (step_text step ++ more) ≡ Some (step, more)
unfolding step_read
step_found step more is days ends =
    let text = moment_text step.0 ++ 61 ∷ decimal step.1 in
    let small : step.1 < 10 ^ 18 = omega arith in
    let twenty = moment_length step.0 in
    let bytes = step_bytes step small in
    let long : nat_le 20 (length text) ≡ true = le-leb 20 (length text) (omega (arith, length-append (moment_text step.0) (61 ∷ decimal step.1))) in
    let front : take 20 text ≡ moment_text step.0 =
    ap (λ (k : ℕ). take k text) (sym twenty) ∙ take-append_seam (moment_text step.0) (61 ∷ decimal step.1) in
    let behind : drop 20 text ≡ 61 ∷ decimal step.1 =
    ap (λ (k : ℕ). drop k text) (sym twenty) ∙ drop-append_seam (moment_text step.0) (61 ∷ decimal step.1) in
    rw (field_found text more bytes ends, long, front, behind, moment_of-text step.0 is, number_read step.1 small) refl

no_step : step_read [] ≡ None
unfolding step_read field_read
no_step = refl

ends_steps : (steps : List (ℕ × ℕ)) → EndsField (flat_map step_text steps)
ends_steps [] = tt
ends_steps (step ∷ steps) = refl

steps_found : (steps : List (ℕ × ℕ)) → AllByRecursion (λ step. IsMoment step.0) steps → AllByRecursion HasDays steps
    → ReadsItems step_read steps (flat_map step_text steps) []
steps_found [] moments days = record { reads = refl; ends = no_step }
steps_found (step ∷ steps) moments days =
    let others = steps_found steps moments.1 days.1 in
    record {
      reads = (flat_map step_text steps, step_found step (flat_map step_text steps) moments.0 days.0 (ends_steps steps), others.reads);
      ends = others.ends;
    }

steps_in_line : (steps : List (ℕ × ℕ)) → AllByRecursion HasDays steps → IsLine (flat_map step_text steps)
steps_in_line [] days = refl
steps_in_line (step ∷ steps) days =
    let within = days.0 in
    joined 32 (step_text step) (flat_map step_text steps)
    (field_in_line (moment_text step.0 ++ 61 ∷ decimal step.1) (step_bytes step (omega arith))) (steps_in_line steps days.1)

issuer_found : (name key more : List ℕ) → IsBytes name → IsBytes key
    → issuer_read (issuer_line name key ++ more) ≡ Some (encode_lower name, encode_lower key, more)
unfolding issuer_read issuer_line
issuer_found name key more name_ok key_ok =
    let fields = (32 ∷ encode_lower name) ++ 32 ∷ encode_lower key in
    let name_bytes = weaker (encode_lower name) (hex_bytes name name_ok) in
    let key_bytes = weaker (encode_lower key) (hex_bytes key key_ok) in
    let within = joined 32 (32 ∷ encode_lower name) (32 ∷ encode_lower key) (field_in_line (encode_lower name) name_bytes) (field_in_line
    (encode_lower key) key_bytes) in
    let regrouped : issuer_line name key ≡ codes "issuer" ++ fields ++ 10 ∷ [] = simp append_assoc in
    let line : line_read (codes "issuer") (issuer_line name key ++ more) ≡ Some (fields, more) =
    ap (λ (text : List ℕ). line_read (codes "issuer") (text ++ more)) regrouped ∙ line_found (codes "issuer") fields more within in
    let last : field_read (32 ∷ encode_lower key) ≡ Some (encode_lower key, []) =
    ap (λ (text : List ℕ). field_read (32 ∷ text)) (sym (append-nil (encode_lower key))) ∙ field_found (encode_lower key) [] key_bytes tt in
    rw (line, field_found (encode_lower name) (32 ∷ encode_lower key) name_bytes refl, last) refl

policy_found : (policy : Terms) (more : List ℕ) → IsPolicy policy
    → policy_read (policy_line policy ++ more) ≡ Some (policy.crl_life, policy.ocsp_life, policy.cap, more)
unfolding policy_read
policy_found policy more is =
    let crl_range = is.crl_life in
    let ocsp_range = is.ocsp_life in
    let cap_range = is.cap in
    let crl = number_field policy.crl_life (omega arith) in
    let ocsp = number_field policy.ocsp_life (omega arith) in
    let cap = number_field policy.cap (omega arith) in
    let last = Number policy.cap ∷ [] in
    rw (
      written_line (codes "policy") (Number policy.crl_life ∷ Number policy.ocsp_life ∷ last) more (crl.bytes, (ocsp.bytes, (cap.bytes, tt))),
      written_value crl (Number policy.ocsp_life ∷ last),
      written_value ocsp last,
      written_value cap [],
    ) refl

schedule_found : (steps : List (ℕ × ℕ)) (more : List ℕ) → AllByRecursion HasDays steps
    → line_read (codes "schedule") (schedule_line steps ++ more) ≡ Some (flat_map step_text steps, more)
unfolding schedule_line
schedule_found steps more days = line_found (codes "schedule") (flat_map step_text steps) more (steps_in_line steps days)

pub head_found : (head : HeadTerms) (rest : List ℕ) → IsReadableHead head → head_read (head_terms_text head ++ rest) ≡ Some (fields_of_terms head)
unfolding head_read page_head
head_found head rest ok =
    let policy = ok.policy in
    let last = moment_field head.last ok.last in
    let t3 = feed_line (codes "last") (At head.last ∷ []) ++ rest in
    let t2 = schedule_line head.policy.schedule ++ t3 in
    let t1 = policy_line head.policy ++ t2 in
    let regrouped : head_terms_text head ++ rest ≡ codes "changes 1\n" ++ (issuer_line head.name head.key ++ t1) = simp append_assoc in
    ap head_read regrouped
    ∙ rw (
      issuer_found head.name head.key t1 ok.name ok.key,
      policy_found head.policy t2 policy,
      schedule_found head.policy.schedule t3 policy.schedule.days,
      written_line (codes "last") (At head.last ∷ []) rest (last.bytes, tt),
      written_value last [],
    ) refl

pub head_steps : (head : HeadTerms) → IsReadableHead head
    → ReadsItems step_read head.policy.schedule (flat_map step_text head.policy.schedule) []
head_steps head ok = steps_found head.policy.schedule ok.moments ok.policy.schedule.days

-- ---- the version

one_read : value_read number_of (32 ∷ 49 ∷ []) ≡ Some (1, [])
unfolding value_read field_read number_of
one_read = refl

pub this_version : (head : HeadTerms) (rest : List ℕ) → is_other_version (head_terms_text head ++ rest) ≡ false
unfolding version_read page_head
this_version head rest =
    let t1 = issuer_line head.name head.key ++ policy_line head.policy ++ schedule_line head.policy.schedule ++ feed_line (codes "last")
    (At head.last ∷ []) ++ rest in
    let regrouped : head_terms_text head ++ rest ≡ codes "changes 1\n" ++ t1 = simp append_assoc in
    ap is_other_version regrouped ∙ rw (line_found (codes "changes") (32 ∷ 49 ∷ []) t1 refl, one_read) refl
