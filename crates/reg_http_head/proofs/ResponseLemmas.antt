-- The head of a response, in the first bytes of a connection and in all of them.
use Rattle.std.proofs.Common.{◌≡◌, ℕ, ◌+◌, ◌-◌, ◌≤◌, List, ◌++◌, length, take, drop, Some, None, ap, sym, ◌∙◌, subst, arith, map, length-take}
use Rattle.std.proofs.lemmas.List.{append_assoc, drop-append-le, length-map, take-append-le, take-append-drop}
use Rattle.std.proofs.Math.Seq.{take-append-add}
use Rattle.httparse.specs.Grammar.{ResponseHead, print_response, ReadsResponse, HasNoResponse}
use Rattle.httparse.specs.Spans.{header_bytes, name_and_value, ResponseOverflows, IsResponseAt}
use Rattle.httparse.specs.declared.spans.HeaderSpan.{HeaderSpan}
use Rattle.httparse.specs.declared.spans.ResponseSpans.{ResponseSpans}
use Rattle.httparse.proofs.GrammarLemmas.{ReadsResponse-append, response_prefix_free}
use Rattle.reg_http_head.specs.Head.{longest_head, most_fields}
use Rattle.reg_http_head.specs.ResponseStart.{BeginsWith, NeverAccepted, length_of}

-- what the first bytes never are, all of them never are
pub never_from_prefix : (bytes : List ℕ) (n : ℕ) → NeverAccepted (take n bytes) → NeverAccepted bytes
never_from_prefix bytes n never more h rest size reads =
    let all : bytes ++ more ≡ take n bytes ++ (drop n bytes ++ more) =
    ap (λ (l : List ℕ). l ++ more) (sym (take-append-drop n bytes)) ∙ append_assoc (take n bytes) (drop n bytes) more in
    never (drop n bytes ++ more) h rest size (subst (λ (l : List ℕ). ReadsResponse l h rest) all reads)

-- a head with more than 64 fields is not accepted
pub never_overflowing : (bytes : List ℕ) → ResponseOverflows most_fields bytes → NeverAccepted bytes
never_overflowing bytes overflows more h rest size reads accepted =
    let many = overflows more h rest reads in absurd (omega (arith, many, accepted.few))

-- a head that does not state the length of its body is not accepted
pub never_unstated : (bytes rest : List ℕ) (h : ResponseHead) → ReadsResponse bytes h rest → length_of (map name_and_value h.fields) ≡ None → NeverAccepted bytes
never_unstated bytes rest h reads unstated more k other size also accepted =
    let same : h ≡ k = (response_prefix_free bytes more h k rest other reads also).0 in
    let states : length_of (map name_and_value h.fields) ≡ Some size =
    subst (λ (it : ResponseHead). length_of (map name_and_value it.fields) ≡ Some size) (sym same) accepted.states in
    let bad : ⊥ = cc in bad

-- if no head ends in the first 8,192 bytes, none is accepted
pub never_long : (bytes : List ℕ) → longest_head ≤ length bytes → HasNoResponse (take longest_head bytes) → NeverAccepted bytes
never_long bytes long none more h rest size reads accepted =
    let left : ℕ = longest_head - length (print_response h) in
    let parted : longest_head ≡ length (print_response h) + left = omega (arith, accepted.short) in
    let whole : take longest_head bytes ≡ print_response h ++ take left rest =
    sym (take-append-le longest_head bytes more long)
    ∙ ap (take longest_head) reads.1
    ∙ ap (λ (n : ℕ). take n (print_response h ++ rest)) parted
    ∙ take-append-add (print_response h) rest left in
    none h (take left rest) (reads.0, whole)

-- a head in the first bytes is a head in all of them
pub begins_from_prefix : (bytes : List ℕ) (n size : ℕ) (headers : List HeaderSpan) (spans : ResponseSpans) (h : ResponseHead)
    → IsResponseAt (take n bytes) headers spans h → spans.len ≤ length (take n bytes) → n ≤ longest_head → length headers ≤ most_fields
    → length_of (map (header_bytes (take n bytes)) (take spans.headers headers)) ≡ Some size
    → BeginsWith bytes (record { status = spans.code; end = spans.len; length = size }) h
begins_from_prefix bytes n size headers spans h at within short room states =
    let reads = ReadsResponse-append (take n bytes) h (drop spans.len (take n bytes)) (drop n bytes) at.reads in
    let rest = sym (drop-append-le spans.len (take n bytes) (drop n bytes) within) ∙ ap (drop spans.len) (take-append-drop n bytes) in
    let count : length (take spans.headers headers) ≡ length h.fields =
    sym (length-map (take spans.headers headers) (header_bytes (take n bytes))) ∙ ap length at.fields ∙ length-map h.fields name_and_value in
    record {
      reads = subst (λ (l : List ℕ). ReadsResponse bytes h l) rest (subst (λ (l : List ℕ). ReadsResponse l h (drop spans.len (take n bytes) ++ drop n bytes)) (take-append-drop n bytes) reads);
      end_is = at.len;
      status_is = at.code;
      accepted = record {
        few = omega (arith, count, length-take spans.headers headers, room);
        short = omega (arith, at.len, within, length-take n bytes, short);
        states = ap length_of (sym at.fields) ∙ states;
      };
    }
