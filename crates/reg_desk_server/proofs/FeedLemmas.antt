-- One request to another desk, and its response.
use Rattle.std.proofs.Common.{◌≡◌, ◌⊎◌, ℕ, ◌+◌, ◌<◌, ◌≤◌, Bool, List, [], ◌++◌, Option, true, length, length-drop, drop, refl, sym, subst, ap, ◌∙◌, arith, inl, inr}
use Rattle.std.proofs.KnownBytes.{Consumes-nil}
use Rattle.std.proofs.lemmas.List.{append-nil, nil_from_length}
use Rattle.reg_http_head.specs.ResponseStart.{HasHead, NeverAccepted}
use Rattle.reg_http_head.specs.declared.response_head.ResponseHead.{ResponseHead}
use Rattle.reg_http_head.proofs.PublicLaws.{one_response_head}
use Rattle.reg_desk_server.specs.Buffers.{Receives, SendsUnsent, unsent_of}
use Rattle.reg_desk_server.specs.FeedExchanges.{FailsBy, HasResponse, LacksResponse, Proceeds, ReceivesResponse, Transfers, longest_response}
use Rattle.reg_desk_server.specs.declared.feed_exchange.FeedExchange.{FeedExchange}
use Rattle.reg_desk_server.specs.declared.request_bytes.Received.{Received}
use Rattle.reg_desk_server.specs.declared.request_bytes.Received.TheVariants as received
use Rattle.reg_desk_server.specs.declared.unsent.Sent.{Sent}
use Rattle.reg_desk_server.specs.declared.unsent.Unsent.{Unsent}
use Rattle.reg_desk_server.proofs.Gatherings.{gathers_taken}
use Rattle.reg_desk_server.proofs.Holdings.{takes_then}

-- from an index on, or from the end on if that is before it
pub drop_within : (bytes : List ℕ) (end at : ℕ) → (at ≡ end) ⊎ ((at ≡ length bytes) × (length bytes ≤ end)) → drop at bytes ≡ drop end bytes
drop_within bytes end at (inl same) = ap (λ (n : ℕ). drop n bytes) same
drop_within bytes end at (inr past) =
    nil_from_length (drop at bytes) (omega (arith, past.0, length-drop at bytes))
    ∙ sym (nil_from_length (drop end bytes) (omega (arith, past.1, length-drop end bytes)))

-- nothing came, and the result is not `OutOfMemory`
pub takes_none : (a : Option (List ℕ)) (x : List ℕ) (t : Received) → ¬ (t ≡ received.OutOfMemory) → Receives a a x x t
takes_none a x received.OutOfMemory not = absurd (not refl)
takes_none a x other not = record { arrived = []; consumed = Consumes-nil a; held = sym (append-nil x) }

module _ {S : Type 0} where
  -- a response that needs more bytes than came is not whole
  pub waits_for_more : (exchange : FeedExchange S) (head : ResponseHead) → HasHead exchange.received.items head
      → length exchange.received.items < head.end + head.length → (other : ResponseHead) → ¬ HasResponse exchange other
  waits_for_more exchange head begins short other has =
      let same : other ≡ head = one_response_head exchange.received.items other head has.1.0 begins.0 has.1.1 begins.1 in
      let all : length exchange.received.items ≡ head.end + head.length =
      subst (λ (it : ResponseHead). length exchange.received.items ≡ it.end + it.length) same has.2 in
      absurd (omega (arith, all, short))

  -- more bytes than a response has are none
  too_many_bytes : (exchange : FeedExchange S) (head : ResponseHead) → HasHead exchange.received.items head
      → head.end + head.length < length exchange.received.items → LacksResponse exchange
  too_many_bytes exchange head begins long other has =
      let same : other ≡ head = one_response_head exchange.received.items other head has.1.0 begins.0 has.1.1 begins.1 in
      let all : length exchange.received.items ≡ head.end + head.length =
      subst (λ (it : ResponseHead). length exchange.received.items ≡ it.end + it.length) same has.2 in
      absurd (omega (arith, all, long))

  pub fails_over : (now : ℕ) (exchange : FeedExchange S) (head : ResponseHead) → HasHead exchange.received.items head
      → head.end + head.length < length exchange.received.items → FailsBy now exchange × LacksResponse exchange
  fails_over now exchange head begins long = (inr (inr (head, begins, long)), too_many_bytes exchange head begins long)

  -- bytes that begin with no accepted head are no response
  never_response : (exchange : FeedExchange S) → NeverAccepted exchange.received.items → LacksResponse exchange
  never_response exchange never head has =
      let all : List ℕ = exchange.received.items in
      let begins : HasHead (all ++ []) head = subst (λ (l : List ℕ). HasHead l head) (sym (append-nil all)) has.1 in
      never [] begins.0 (drop head.end (all ++ [])) head.length begins.1.reads begins.1.accepted

  pub fails_never : (now : ℕ) (exchange : FeedExchange S) → NeverAccepted exchange.received.items → FailsBy now exchange × LacksResponse exchange
  fails_never now exchange never = (inr (inl never), never_response exchange never)

  -- while a part of the request is unsent, there is no response
  pub waits_to_send : (exchange : FeedExchange S) → 0 < length (unsent_of exchange.request) → (head : ResponseHead) → ¬ HasResponse exchange head
  waits_to_send exchange unsent head has = let none : length (unsent_of exchange.request) ≡ 0 = ap length has.0 in absurd (omega (arith, none, unsent))

  -- some bytes were received, and then others
  pub receives_then : (remaining : S → Option (List ℕ)) (old middle new : FeedExchange S) (result : Received) → ReceivesResponse remaining old middle received.More
      → ReceivesResponse remaining middle new result → ReceivesResponse remaining old new result
  receives_then remaining old middle new result first rest = record {
    receives = takes_then _ _ _ _ _ _ result first.receives rest.receives;
    request = rest.request ∙ first.request;
    moved_at = rest.moved_at ∙ first.moved_at;
    short = λ few. rest.short (first.short few);
  }

  -- nothing was received
  pub receives_none : (remaining : S → Option (List ℕ)) (exchange : FeedExchange S) (result : Received) → ¬ (result ≡ received.OutOfMemory)
      → ReceivesResponse remaining exchange exchange result
  receives_none remaining exchange result not = record {
    receives = takes_none (remaining exchange.stream) exchange.received.items result not;
    request = refl;
    moved_at = refl;
    short = λ few. few;
  }

  -- some of the request was sent, and then bytes were received
  pub transfers_from : (contents remaining : S → Option (List ℕ)) (old middle new : FeedExchange S) (rests : Sent) (result : Received)
      → SendsUnsent contents old.stream middle.stream old.request middle.request rests → middle.received.items ≡ old.received.items
      → ReceivesResponse remaining middle new result → Transfers contents remaining old new result
  transfers_from contents remaining old middle new rests result sends same it = record {
    between = middle.stream;
    rests = rests;
    sends = subst (λ (u : Unsent). SendsUnsent contents old.stream middle.stream old.request u rests) (sym it.request) sends;
    receives = subst (λ (l : List ℕ). Receives (remaining middle.stream) (remaining new.stream) l new.received.items result) same it.receives;
    short = λ few. it.short (subst (λ (l : List ℕ). length l ≤ longest_response) (sym same) few);
  }

  -- what was sent and received, if bytes are lost only by an exchange that has failed
  pub proceeds_of : (contents remaining : S → Option (List ℕ)) (old new : FeedExchange S) (result : Received) (failed : Bool)
      → (result ≡ received.OutOfMemory → failed ≡ true) → Transfers contents remaining old new result → Proceeds contents remaining old new failed
  proceeds_of contents remaining old new result failed lost it = record {
    between = it.between;
    went = it.sends.went;
    appended = it.sends.appended;
    parted = it.sends.parted;
    gathered = gathers_taken _ _ _ _ result failed lost it.receives;
  }
