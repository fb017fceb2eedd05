-- What the bytes that were read come to.
use Rattle.std.proofs.Common.{◌≡◌, ℕ, ◌+◌, ◌-◌, ◌<◌, ◌≤◌, List, [], ◌++◌, length, take, drop, Option, Result, Ok, ap, sym, ◌∙◌, subst, arith, inl, inr, length-append, length-drop}
use Rattle.std.proofs.lemmas.List.{append-nil, take-append-le, drop-append-le, take_all}
use Rattle.httparse.specs.Grammar.{RequestHead}
use Rattle.reg_io.specs.Fill.{FillsTo, FillsShort}
use Rattle.reg_io.specs.Delimiter.{HasNoDelimiter}
use Rattle.reg_io.specs.declared.fill.FillEnd.TheVariants.{Delimiter, Full, End}
use Rattle.reg_io.proofs.PublicLaws.{first_delimiter_of_append, first_delimiter_in_prefix, keeps_what_was_taken}
use Rattle.reg_http_head.specs.Head.{blank_line, longest_head, IsHead, RefusesHead, body_size}
use Rattle.reg_http_head.specs.Frame.{refused, AsksFor, HasHead, IsTooLong, IsUnfinished, Framed}

-- the head stands in what was read, and in what more is read
pub head_of_more : (buffered took : List ℕ) (end : ℕ) → HasHead buffered end → HasHead (buffered ++ took) end
head_of_more buffered took end head = record { within = head.within; ends = first_delimiter_of_append blank_line buffered took end head.ends }

pub take_of_more : (buffered took : List ℕ) (end : ℕ) → HasHead buffered end → take end (buffered ++ took) ≡ take end buffered
take_of_more buffered took end head = take-append-le end buffered took head.ends.within

-- the bytes from a place on
pub rest_is : (buffered : List ℕ) (end : ℕ) → take (length buffered - end) (drop end buffered) ≡ drop end buffered
rest_is buffered end =
    ap (λ (n : ℕ). take n (drop end buffered)) (sym (length-drop end buffered)) ∙ take_all (length (drop end buffered)) (drop end buffered) (omega arith)

-- a head, and the whole of its body
pub asks_from : (buffered took body : List ℕ) (end size : ℕ) (h : RequestHead) (method target : List ℕ) → HasHead buffered end → IsHead (take end buffered) h
    → method ≡ h.method → target ≡ h.target → body_size h ≡ Ok size → length body ≡ size → body ≡ take size (take (length buffered - end) (drop end buffered) ++ took)
    → AsksFor (buffered ++ took) method target body
asks_from buffered took body end size h method target head reads method_is target_is size_is long body_is = record {
  end = end;
  head = h;
  within = head.within;
  ends = first_delimiter_of_append blank_line buffered took end head.ends;
  reads = (let P : List ℕ → Type 0 = λ bytes. IsHead bytes h in subst P (sym (take_of_more buffered took end head)) reads);
  method_is = method_is;
  target_is = target_is;
  size = (let made : ℕ → Result ℕ ℕ = λ n. Ok n in size_is ∙ ap made (sym long));
  body_is =
      body_is
      ∙ ap (λ (rest : List ℕ). take size (rest ++ took)) (rest_is buffered end)
      ∙ ap (λ (n : ℕ). take n (drop end buffered ++ took)) (sym long)
      ∙ ap (take (length body)) (sym (drop-append-le end buffered took head.ends.within));
}

-- a head, and less than the whole of its body
pub unfinished_from : (buffered took : List ℕ) (end size : ℕ) (h : RequestHead) → HasHead buffered end → IsHead (take end buffered) h
    → body_size h ≡ Ok size → length (take (length buffered - end) (drop end buffered)) + length took < size → IsUnfinished (buffered ++ took)
unfinished_from buffered took end size h head reads size_is short =
    let P : List ℕ → Type 0 = λ bytes. IsHead bytes h in
    inr (
      end,
      h,
      size,
      head_of_more buffered took end head,
      subst P (sym (take_of_more buffered took end head)) reads,
      size_is,
      omega (arith, length-append buffered took, length-drop end buffered, ap length (rest_is buffered end), short, head.ends.within),
    )

-- a head that is refused
pub refused_from : (buffered : List ℕ) (end status : ℕ) → HasHead buffered end → RefusesHead (take end buffered) status → Framed (buffered ++ []) (refused status)
refused_from buffered end status head refuses =
    let P : List ℕ → Type 0 = λ bytes. Framed bytes (refused status) in
    subst P (sym (append-nil buffered)) (inr (end, head, refuses))

module _ (input left : Option (List ℕ)) (before after : List ℕ) where
  -- the bytes that are held at a mark are those that were taken
  pub taken_at_mark : (end now : ℕ) (to : FillsTo blank_line input left before after 0 (Delimiter end now)) → take now after ≡ to.took
  taken_at_mark end now to = keeps_what_was_taken blank_line input left before after 0 (Delimiter end now) to

  pub head_at_mark : (end now : ℕ) → FillsTo blank_line input left before after 0 (Delimiter end now) → length after ≡ longest_head → HasHead (take now after) end
  head_at_mark end now to long = record {
    within = (let low : end ≤ length after = to.rests.1.within in omega (arith, low, long));
    ends = first_delimiter_in_prefix blank_line after end now to.rests.1 to.rests.0;
  }

  -- a full buffer without an end of a head
  pub too_long_at_full : (to : FillsTo blank_line input left before after 0 Full) → length after ≡ longest_head → IsTooLong to.took
  too_long_at_full to long =
      let all : after ≡ to.took = sym (take_all (length after) after (omega arith)) ∙ keeps_what_was_taken blank_line input left before after 0 Full to in
      let P : List ℕ → Type 0 = λ bytes. HasNoDelimiter blank_line bytes in
      (ap length (sym all) ∙ long, subst P all to.rests)

  -- the reader's end before the end of a head
  pub unfinished_at_end : (now : ℕ) (to : FillsTo blank_line input left before after 0 (End now)) → length after ≡ longest_head → IsUnfinished to.took
  unfinished_at_end now to long =
      let all : take now after ≡ to.took = keeps_what_was_taken blank_line input left before after 0 (End now) to in
      let P : List ℕ → Type 0 = λ bytes. HasNoDelimiter blank_line bytes in
      let room : now < length after = to.rests.0 in
      inl (omega (arith, to.count, room, long), subst P all to.rests.1)

  -- a failed read before the end of a head
  pub unfinished_at_fault : (short : FillsShort blank_line input left before after 0) → length after ≡ longest_head → IsUnfinished short.took
  unfinished_at_fault short long =
      let P : List ℕ → Type 0 = λ bytes. HasNoDelimiter blank_line bytes in
      inl (omega (arith, short.room, long), subst P short.fills.stands short.no_delimiter)
