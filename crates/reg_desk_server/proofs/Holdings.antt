-- Lemmas about the received bytes that are kept, and about the sent part of a text, one step after the other.
use Rattle.std.proofs.Common.{◌≡◌, ℕ, ◌+◌, ◌-◌, ◌≤◌, List, [], ◌∷◌, ◌++◌, length, take, drop, sym, subst, ap, ◌∙◌, arith, take-append-drop, length-drop}
use Rattle.std.specs.Prelude.{Option, None, Some, MatchOption}
use Rattle.std.specs.Io.KnownBytes.{Appends}
use Rattle.std.proofs.KnownBytes.{Appends-trans, Consumes-trans}
use Rattle.std.proofs.Math.Seq.{take-add}
use Rattle.std.proofs.lemmas.List.{append_assoc, drop-drop, take-take, take_all}
use Rattle.reg_io.specs.Delimiter.{EndsWith, FirstDelimiter, HasNoDelimiter}
use Rattle.reg_io.proofs.PublicLaws.{first_delimiter_of_byte, no_delimiter_in_prefix}
use Rattle.reg_desk_server.specs.Stages.{HasUnsentText, HasUnsentRest, IsDropped, Sends}
use Rattle.reg_desk_server.specs.Buffers.{AddsTo, Receives, SendsOn}
use Rattle.reg_desk_server.specs.LineEnds.{EndsLine, FirstLineEnds, IsLine}
use Rattle.reg_desk_server.specs.declared.http_connection.HttpConnection.{HttpConnection}
use Rattle.reg_desk_server.specs.declared.http_connection.Stage.{Stage}
use Rattle.reg_desk_server.specs.declared.http_connection.Stage.TheVariants as stage
use Rattle.reg_desk_server.specs.declared.request_bytes.Received.{Received}
use Rattle.reg_desk_server.specs.declared.request_bytes.Received.TheVariants as received
use Rattle.reg_desk_server.specs.declared.unsent.Sent.{Sent}
use Rattle.reg_desk_server.specs.declared.unsent.Sent.TheVariants as sent

-- some bytes were appended, and then others
pub adds_then : (x y z first arrived : List ℕ) (t : Received) → y ≡ x ++ first → AddsTo y arrived z t → AddsTo x (first ++ arrived) z t
adds_then x y z first arrived received.OutOfMemory before (kept, lost, parted, after) = (
  first ++ kept,
  lost,
  ap (λ (l : List ℕ). first ++ l) parted ∙ sym (append_assoc first kept lost),
  after ∙ ap (λ (l : List ℕ). l ++ kept) before ∙ append_assoc x first kept,
)
adds_then x y z first arrived other before after = after ∙ ap (λ (l : List ℕ). l ++ arrived) before ∙ append_assoc x first arrived

-- some bytes were received, and then others
pub takes_then : (a b c : Option (List ℕ)) (x y z : List ℕ) (t : Received) → Receives a b x y received.More → Receives b c y z t → Receives a c x z t
takes_then a b c x y z t first rest = record {
  arrived = first.arrived ++ rest.arrived;
  consumed = Consumes-trans a b c first.arrived rest.arrived first.consumed rest.consumed;
  held = adds_then x y z first.arrived rest.arrived t first.held rest.held;
}

-- some of a text was sent, and then more
pub sends_then : (a b c : Option (List ℕ)) (x y z : List ℕ) (t : Sent) → SendsOn a b x y sent.More → SendsOn b c y z t → SendsOn a c x z t
sends_then a b c x y z t first rest = record {
  went = first.went ++ rest.went;
  appended = Appends-trans a b c first.went rest.went first.appended rest.appended;
  parted = first.parted ∙ ap (λ (l : List ℕ). first.went ++ l) rest.parted ∙ sym (append_assoc first.went rest.went z);
  all = rest.all;
}

-- a prefix of a piece was sent
pub sends_piece : (old new : Option (List ℕ)) (text : List ℕ) (at end count : ℕ) → count ≤ end - at
    → Appends old new (take count (take (end - at) (drop at text))) → SendsOn old new (drop at text) (drop (at + count) text) sent.More
sends_piece old new text at end count few appended = record {
  went = take count (drop at text);
  appended = subst (Appends old new) (take-take count (end - at) (drop at text) few) appended;
  parted = sym (take-append-drop count (drop at text)) ∙ ap (λ (l : List ℕ). take count (drop at text) ++ l) (drop-drop count at text);
  all = λ is. let bad : ⊥ = cc in absurd bad;
}

-- the end of the first line, or none
pub found_or_none : (bytes mark : List ℕ) (r : Option ℕ)
    → MatchOption r ((n : ℕ) → n ≤ length bytes → ¬ EndsWith (take n bytes) mark) (λ end. (end ≤ length bytes) × FirstDelimiter mark bytes end)
    → MatchOption r (HasNoDelimiter mark bytes) (λ end. FirstDelimiter mark bytes end)
found_or_none bytes mark None none =
    let P : List ℕ → Type 0 = λ l. HasNoDelimiter mark l in
    subst P (take_all (length bytes) bytes (omega arith)) (no_delimiter_in_prefix mark bytes (length bytes) none)
found_or_none bytes mark (Some end) found = found.1

-- the same after a reply that was wholly sent
pub due_or_none : (unsent bytes : List ℕ) (r : Option ℕ) → unsent ≡ [] → MatchOption r (HasNoDelimiter (10 ∷ []) bytes) (λ end. FirstDelimiter (10 ∷ []) bytes end)
    → MatchOption r (unsent ≡ [] → HasNoDelimiter (10 ∷ []) bytes) (λ end. (unsent ≡ []) × FirstDelimiter (10 ∷ []) bytes end)
due_or_none unsent bytes None sent none = λ is. none
due_or_none unsent bytes (Some end) sent found = (sent, found)

-- the same for whole lines
pub due_or_no_lines : (unsent bytes : List ℕ) (r : Option ℕ) → unsent ≡ [] → MatchOption r (HasNoDelimiter (10 ∷ []) bytes) (λ end. EndsLine bytes end)
    → MatchOption r (unsent ≡ [] → HasNoDelimiter (10 ∷ []) bytes) (λ end. (unsent ≡ []) × EndsLine bytes end)
due_or_no_lines unsent bytes None sent none = λ is. none
due_or_no_lines unsent bytes (Some end) sent found = (sent, found)

-- the first line, taken alone, is a line
pub first_is_line : (bytes : List ℕ) (end : ℕ) → FirstLineEnds bytes end → IsLine (take end bytes)
first_is_line bytes end ends = first_delimiter_of_byte 10 bytes end ends

-- one more line ends after whole lines
pub ends_next : (bytes : List ℕ) (end more : ℕ) → EndsLine bytes end → FirstLineEnds (drop end bytes) more → EndsLine bytes (end + more)
ends_next bytes end more ends next = (
  omega (arith, ends.0, next.within, length-drop {A = ℕ} end bytes),
  (
    take end bytes ++ next.here.0,
    take-add end more bytes ∙ ap (λ (l : List ℕ). take end bytes ++ l) next.here.1 ∙ sym (append_assoc (take end bytes) next.here.0 (10 ∷ [])),
  ),
)

-- the same for the rest as a slice
pub ends_next_slice : (bytes : List ℕ) (end more : ℕ) → EndsLine bytes end → FirstLineEnds (take (length bytes - end) (drop end bytes)) more
    → EndsLine bytes (end + more)
ends_next_slice bytes end more ends next =
    ends_next bytes end more ends
    (subst (λ (l : List ℕ). FirstLineEnds l more) (take_all (length bytes - end) (drop end bytes) (omega (arith, length-drop {A = ℕ} end bytes))) next)

-- some bytes were dropped, and then others
pub dropped_then : (a b c : Option (List ℕ)) → IsDropped a b → IsDropped b c → IsDropped a c
dropped_then a b c first rest = (first.0 ++ rest.0, Consumes-trans a b c first.0 rest.0 first.1 rest.1)

-- if the unsent part of an answer is empty, the rest is empty
none_left : {T : Type 0} (at : Stage T) (rest : List ℕ) → HasUnsentRest at rest → HasUnsentText at [] → rest ≡ []
none_left (stage.Sending unsent exact) rest left empty = left ∙ sym empty
none_left _ rest left empty = absurd empty

-- the last bytes of an answer were sent, and the connection drains
pub sends_last : {S H T L : Type 0} (contents : S → Option (List ℕ)) (old between new : HttpConnection S H T L) → Sends contents old between
    → HasUnsentText between.stage [] → new.stream ≡ between.stream → new.stage ≡ stage.Draining → Sends contents old new
sends_last {S = S} {T = T} contents old between new sends empty same drains text holds =
    let (went, rest, parted, appended, left) = sends text holds in (
      went,
      rest,
      parted,
      subst (λ (v : S). Appends (contents old.stream) (contents v) went) (sym same) appended,
      subst (λ (v : Stage T). HasUnsentRest v rest) (sym drains) (none_left between.stage rest left empty),
    )
