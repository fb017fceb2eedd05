-- Lemmas about the bytes that come on a control connection and are kept, read by read.
use Rattle.std.proofs.Common.{◌≡◌, ℕ, Bool, List, ◌++◌, [], ◌⊎◌, refl, sym, subst, ap, ◌∙◌, inl, inr}
use Rattle.std.specs.Prelude.{Option, Some, None, true, false}
use Rattle.std.specs.Io.KnownBytes.{Consumes, IsAtEnd}
use Rattle.std.proofs.KnownBytes.{Consumes-nil, Consumes-trans}
use Rattle.std.proofs.lemmas.List.{append-nil, append_assoc}
use Rattle.reg_desk_server.specs.Buffers.{ReadsToEnd, Receives, SendsUnsent, unsent_of}
use Rattle.reg_desk_server.specs.ControlLines.{Advances, Gathers, StaysEnded, ends_by, fault_by}
use Rattle.reg_desk_server.specs.declared.control_connection.ControlConnection.{ControlConnection}
use Rattle.reg_desk_server.specs.declared.handler.ConnectionFault.TheVariants as fault
use Rattle.reg_desk_server.specs.declared.request_bytes.Received.{Received}
use Rattle.reg_desk_server.specs.declared.request_bytes.Received.TheVariants as received
use Rattle.reg_desk_server.specs.declared.unsent.Unsent.{Unsent}
use Rattle.reg_desk_server.specs.declared.unsent.Sent.{Sent}

-- nothing came
pub gathers_none : (input : Option (List ℕ)) (held : List ℕ) (ended : Bool) → Gathers input input held held ended
gathers_none input held ended = record { kept = []; lost = []; consumed = Consumes-nil input; held = sym (append-nil held); whole = inl refl }

-- the bytes of one read
pub gathers_taken : (a b : Option (List ℕ)) (x y : List ℕ) (t : Received) (ended : Bool) → (t ≡ received.OutOfMemory → ended ≡ true) → Receives a b x y t
    → Gathers a b x y ended
gathers_taken a b x y received.OutOfMemory ended is took =
    let (kept, lost, parted, after) = took.held in
    record { kept = kept; lost = lost; consumed = subst (Consumes a b) parted took.consumed; held = after; whole = inr (is refl) }
gathers_taken a b x y other ended is took =
    let all = subst (Consumes a b) (sym (append-nil took.arrived)) took.consumed in
    record { kept = took.arrived; lost = []; consumed = all; held = took.held; whole = inl refl }

-- a connection that has not ended is not one that has ended
pub goes_on : (ended : Bool) → ended ≡ false → ended ≡ true → ⊥
goes_on ended goes ends = let both : false ≡ true = sym goes ∙ ends in let bad : ⊥ = cc in bad

-- without a next step, the other alternative holds
pub not_due : {N : Type 0} (next : N) (P : Type 0) → (None ≡ Some next) ⊎ P → P
not_due next P (inl none) = let bad : ⊥ = cc in absurd bad
not_due next P (inr other) = other

-- as long as a connection has not ended, nothing was lost
pub none_lost : (lost : List ℕ) (ended : Bool) → ended ≡ false → (lost ≡ []) ⊎ (ended ≡ true) → lost ≡ []
none_lost lost ended goes (inl none) = none
none_lost lost ended goes (inr ends) = absurd (goes_on ended goes ends)

-- some bytes came, of which none was lost, and then others
pub gathers_then : (a b c : Option (List ℕ)) (x y z : List ℕ) (ended ended' : Bool) → ended ≡ false → Gathers a b x y ended → Gathers b c y z ended'
    → Gathers a c x z ended'
gathers_then a b c x y z ended ended' goes first rest = record {
  kept = first.kept ++ rest.kept;
  lost = rest.lost;
  consumed =
      subst (Consumes a c) (sym (append_assoc first.kept rest.kept rest.lost))
      (Consumes-trans a b c first.kept (rest.kept ++ rest.lost)
      (subst (Consumes a b) (ap (λ (l : List ℕ). first.kept ++ l) (none_lost first.lost ended goes first.whole) ∙ append-nil first.kept) first.consumed)
      rest.consumed);
  held = rest.held ∙ ap (λ (l : List ℕ). l ++ rest.kept) first.held ∙ append_assoc x first.kept rest.kept;
  whole = rest.whole;
}

-- a read that ends a connection was at the end of its input, failed, or had no memory for what came
pub ends_by_read : (failed : Type 0) (left : Option (List ℕ)) (t : Received) → ReadsToEnd failed left t → ends_by t ≡ true
    → IsAtEnd left ⊎ (failed ⊎ (fault_by t ≡ Some fault.Memory))
ends_by_read failed left received.Ended is ends = inl is
ends_by_read failed left received.Broken is ends = inr (inl is)
ends_by_read failed left received.OutOfMemory is ends = inr (inr refl)
ends_by_read failed left received.Whole is ends = let bad : ⊥ = cc in absurd bad
ends_by_read failed left received.Blocked is ends = let bad : ⊥ = cc in absurd bad
ends_by_read failed left received.More is ends = let bad : ⊥ = cc in absurd bad

-- a read after which bytes were kept, or lost, is not at the end
pub kept_is_no_end : (failed : Type 0) (left : Option (List ℕ)) (t : Received) → (t ≡ received.More) ⊎ (t ≡ received.OutOfMemory) → ReadsToEnd failed left t
kept_is_no_end failed left t (inl is) = subst (ReadsToEnd failed left) (sym is) tt
kept_is_no_end failed left t (inr is) = subst (ReadsToEnd failed left) (sym is) tt

pub kept_waits_not : (t : Received) → (t ≡ received.More) ⊎ (t ≡ received.OutOfMemory) → t ≡ received.Blocked → ⊥
kept_waits_not t (inl is) blocked = let other : received.More ≡ received.Blocked = sym is ∙ blocked in let bad : ⊥ = cc in bad
kept_waits_not t (inr is) blocked = let other : received.OutOfMemory ≡ received.Blocked = sym is ∙ blocked in let bad : ⊥ = cc in bad

-- more of a reply was sent, and then the bytes that came were received
pub advances_taken : {S : Type 0} (contents remaining : S → Option (List ℕ)) (old new : ControlConnection S) (m : S) (u : Unsent) (rests : Sent)
    → SendsUnsent contents old.stream m old.unsent u rests → new.unsent ≡ u
    → Gathers (remaining m) (remaining new.stream) old.arrived.items new.arrived.items new.has_ended
    → StaysEnded old new → Advances contents remaining old new
advances_taken contents remaining old new m u rests sent same gathered over = record {
  between = m;
  went = sent.went;
  appended = sent.appended;
  parted = subst (λ (v : Unsent). unsent_of old.unsent ≡ sent.went ++ unsent_of v) (sym same) sent.parted;
  gathered = gathered;
  over = over;
}
