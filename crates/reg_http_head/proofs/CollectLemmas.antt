-- What is known of bytes that come in pieces.
use Rattle.std.proofs.Common.{◌≡◌, ℕ, ◌<◌, ◌≤◌, ◌-◌, Bool, true, false, if◌then◌else◌, List, [], ◌++◌, length, take, drop, Result, Ok, refl, sym, ap, ◌∙◌, subst, arith, inl, inr, take-append-drop, length-append, length-drop}
use Rattle.std.proofs.lemmas.List.{append-nil, take-append-le, take-take, take_all, length-take-le}
use Rattle.std.proofs.lemmas.Grind.{not_there}
use Rattle.std.proofs.lemmas.Bool.{cases_order}
use Rattle.reg_io.specs.Delimiter.{HasNoDelimiter}
use Rattle.reg_io.proofs.PublicLaws.{first_delimiter_in_prefix, no_delimiter_in_prefix}
use Rattle.httparse.specs.Spans.{span_bytes}
use Rattle.reg_http_head.specs.Head.{blank_line, longest_head, RefusesHead, IsHeadAt}
use Rattle.reg_http_head.specs.Frame.{RequestMeaning, refused, asked, AsksFor, Framed, HasHead, IsUnfinished}
use Rattle.reg_http_head.specs.Bytes.{IsExact}
use Rattle.reg_http_head.specs.Collected.{HoldsRequest, IsWholeRequest, HasNoHeadEnd, IsRefusedRequest, NeedsBytes, Knows, IsAllKnown}
use Rattle.reg_http_head.specs.declared.scan_state.HeadState.{HeadState}
use Rattle.reg_http_head.specs.declared.scan_state.ScanState.{ScanState}
use Rattle.reg_http_head.specs.declared.scan_state.ScanState.TheVariants.{NoHeadEnd, Refused, Valid}
use Rattle.reg_http_head.proofs.FrameLemmas.{head_of_more, take_of_more}

-- a head that is refused is refused by its own bytes
pub refused_at : (bytes : List ℕ) (end status : ℕ) → HasHead bytes end → RefusesHead (take end bytes) status → (end ≤ length bytes) × IsRefusedRequest bytes end status
refused_at bytes end status head refuses =
    let kept : HasHead (take end bytes) end = record { within = head.within; ends = first_delimiter_in_prefix blank_line bytes end end head.ends (omega arith) } in
    let same : take end (take end bytes) ≡ take end bytes = take-take end end bytes (omega arith) in
    let P : List ℕ → Type 0 = λ b. RefusesHead b status in
    (head.ends.within, inr (end, kept, subst P (sym same) refuses))

-- 8,192 bytes in which no head ends
pub refused_long : (bytes : List ℕ) → longest_head ≤ length bytes → HasNoHeadEnd bytes longest_head → (longest_head ≤ length bytes) × IsRefusedRequest bytes longest_head 431
refused_long bytes long none =
    (long, inl (refl, (length-take-le longest_head bytes long, no_delimiter_in_prefix blank_line bytes longest_head none)))

-- what is told is known
pub known_of_all : (bytes : List ℕ) (known : ScanState) → IsAllKnown bytes known → Knows bytes known
known_of_all bytes (NoHeadEnd count) all_known = (omega (arith, all_known.0), all_known.2)
known_of_all bytes (Refused count status) all_known = all_known
known_of_all bytes (Valid head) all_known = all_known

-- what is known stays so, however the bytes go on
pub known_of_more : (bytes more : List ℕ) (known : ScanState) → Knows bytes known → Knows (bytes ++ more) known
known_of_more bytes more (NoHeadEnd count) known = (
  omega (arith, known.0, length-append bytes more),
  λ n below ends. known.1 n below (ends.0, sym (take-append-le n bytes more (omega (arith, known.0))) ∙ ends.1),
)
known_of_more bytes more (Refused count status) known =
    let same : take count (bytes ++ more) ≡ take count bytes = take-append-le count bytes more known.0 in
    let P : List ℕ → Type 0 = λ b. Framed b (refused status) in
    (omega (arith, known.0, length-append bytes more), subst P (sym same) known.1)
known_of_more bytes more (Valid it) known = record {
  head = known.head;
  has_head = head_of_more bytes more it.end known.has_head;
  stands = (let P : List ℕ → Type 0 = λ b. IsHeadAt b it.spans known.head in subst P (sym (take_of_more bytes more it.end known.has_head)) known.stands);
  needed_is = known.needed_is;
}

-- a refusal is a whole request
pub holds_refused : (bytes : List ℕ) (count status : ℕ) → IsRefusedRequest bytes count status → HoldsRequest bytes (refused status)
holds_refused bytes count status is =
    record { took = take count bytes; left = drop count bytes; parted = sym (take-append-drop count bytes); framed = is }

-- a head with all of its body is asked
pub asks_of_needs : (bytes : List ℕ) (it : HeadState) (needs : NeedsBytes bytes it) → it.needed ≤ length bytes
    → (asks : AsksFor bytes needs.head.method needs.head.target (take it.spans.size (drop it.end bytes))) × (asks.end ≡ it.end)
asks_of_needs bytes it needs there =
    let long : length (take it.spans.size (drop it.end bytes)) ≡ it.spans.size =
    length-take-le it.spans.size (drop it.end bytes) (omega (arith, there, needs.needed_is, length-drop it.end bytes)) in (
      record {
        end = it.end;
        head = needs.head;
        within = needs.has_head.within;
        ends = needs.has_head.ends;
        reads = needs.stands.reads;
        method_is = refl;
        target_is = refl;
        size = (let made : ℕ → Result ℕ ℕ = λ n. Ok n in needs.stands.size_is ∙ ap made (sym long));
        body_is = ap (λ (n : ℕ). take n (drop it.end bytes)) (sym long);
      },
      refl,
    )

pub holds_asked : (bytes : List ℕ) (it : HeadState) (needs : NeedsBytes bytes it) → it.needed ≤ length bytes
    → HoldsRequest bytes (asked needs.head.method needs.head.target (take it.spans.size (drop it.end bytes)))
holds_asked bytes it needs there =
    record { took = bytes; left = []; parted = sym (append-nil bytes); framed = (asks_of_needs bytes it needs there).0 }

pub whole_of_refused : (bytes : List ℕ) (count status : ℕ) → IsRefusedRequest bytes count status → IsWholeRequest bytes
whole_of_refused bytes count status is = record { part = refused status; holds = holds_refused bytes count status is }

pub whole_of_needs : (bytes : List ℕ) (it : HeadState) → NeedsBytes bytes it → it.needed ≤ length bytes → IsWholeRequest bytes
whole_of_needs bytes it needs there = record { part = _; holds = holds_asked bytes it needs there }

-- the same by the slices of the bytes
pub holds_slices : (bytes method target : List ℕ) (it : HeadState) → method ≡ span_bytes (take it.end bytes) it.spans.method
    → target ≡ span_bytes (take it.end bytes) it.spans.target → it.needed ≤ length bytes → NeedsBytes bytes it
    → HoldsRequest bytes (asked method target (take (it.needed - it.end) (drop it.end bytes)))
holds_slices bytes method target it method_is target_is there needs =
    let P : RequestMeaning → Type 0 = λ part. HoldsRequest bytes part in
    let size_is : it.spans.size ≡ it.needed - it.end = omega (arith, needs.needed_is) in
    let same : asked needs.head.method needs.head.target (take it.spans.size (drop it.end bytes)) ≡ asked method target (take (it.needed - it.end) (drop it.end bytes)) =
    λ i. asked (sym (method_is ∙ needs.stands.method_is) i) (sym (target_is ∙ needs.stands.target_is) i) (take (size_is i) (drop it.end bytes)) in
    subst P same (holds_asked bytes it needs there)

-- where a fact that holds bounds a number, it is so bounded
pub at_most : {P : Type 0} (n m : ℕ) → ∥ P ∥₁ → (P → n ≤ m) → n ≤ m
at_most n m buffered bounds =
    elim (cases_order n m) [
      | inl same ↦ omega (arith, same)
      | inr (inl less) ↦ omega (arith, less)
      | inr (inr late) ↦ absurd (not_there buffered (λ fact. let most = bounds fact in absurd (omega (arith, late, most))))
    ]

pub exact_of_needs : (bytes : List ℕ) (it : HeadState) → NeedsBytes bytes it → it.needed ≡ length bytes → IsExact bytes
exact_of_needs bytes it needs all =
    let body : List ℕ = take it.spans.size (drop it.end bytes) in
    let long : length body ≡ it.spans.size =
    length-take-le it.spans.size (drop it.end bytes) (omega (arith, all, needs.needed_is, length-drop it.end bytes)) in
    let found = asks_of_needs bytes it needs (omega (arith, all)) in
    record {
      method = needs.head.method;
      target = needs.head.target;
      body = body;
      asks = found.0;
      all = omega (arith, found.1, all, needs.needed_is, long);
    }

-- no head yet, or a head with less than its body
pub unfinished_of_no_end : (bytes : List ℕ) (count : ℕ) → IsAllKnown bytes (NoHeadEnd count) → IsUnfinished bytes
unfinished_of_no_end bytes count all_known =
    let P : List ℕ → Type 0 = λ b. HasNoDelimiter blank_line b in
    inl (
      omega (arith, all_known.0, all_known.1),
      subst P (take_all count bytes (omega (arith, all_known.0))) (no_delimiter_in_prefix blank_line bytes count all_known.2),
    )

pub unfinished_of_needs : (bytes : List ℕ) (it : HeadState) → NeedsBytes bytes it → length bytes < it.needed → IsUnfinished bytes
unfinished_of_needs bytes it needs short =
    inr (it.end, needs.head, it.spans.size, needs.has_head, needs.stands.reads, needs.stands.size_is, omega (arith, short, needs.needed_is))

-- what is known stays so where more bytes were taken, or none
pub known_of_added : (bytes more after : List ℕ) (known : ScanState) (taken : Bool) → after ≡ (if taken then bytes ++ more else bytes)
    → Knows bytes known → Knows after known
known_of_added bytes more after known true is knows =
    let P : List ℕ → Type 0 = λ b. Knows b known in subst P (sym is) (known_of_more bytes more known knows)
known_of_added bytes more after known false is knows =
    let P : List ℕ → Type 0 = λ b. Knows b known in subst P (sym is) knows
