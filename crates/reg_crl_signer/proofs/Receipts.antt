-- Lemmas about what comes on a connection to a signer.
use Rattle.std.proofs.Common.{◌≡◌, ℕ, ◌<◌, ◌≤◌, List, [], ◌++◌, ◌⊎◌, length, length-append, refl, sym, subst, ap, ◌∙◌, arith, inl, inr}
use Rattle.std.specs.Prelude.{Option, Bool, true, false}
use Rattle.std.specs.Io.KnownBytes.{Consumes, IsAtEnd, Keeps}
use Rattle.std.proofs.KnownBytes.{Consumes-kept, Consumes-nil, Consumes-trans}
use Rattle.std.proofs.lemmas.List.{append-nil, append_assoc}
use Rattle.reg_crl_signer.specs.SignerConnections.{FailsAfterRead, FailsToReceive, HoldsAnswer, LeadsOn, Receives, read, memory, unawaited, short, long}
use Rattle.reg_crl_signer.specs.declared.signer_connection.Framing.TheVariants.{ByLength}
use Rattle.reg_crl_signer.specs.declared.signer_connection.Progress.{Progress}
use Rattle.reg_crl_signer.specs.declared.signer_connection.Progress.TheVariants.{Idle, Waiting, Arrived, Failed}
use Rattle.reg_crl_signer.specs.declared.signer_connection.SignerConnection.{SignerConnection}

abbrev is_false : Bool → Type 0
is_false false = Unit {0}
is_false true = ⊥

bool_differs : false ≡ true → ⊥
bool_differs is = subst is_false is tt

-- an answer is awaited
abbrev waiting : Progress → Type 0
waiting Waiting = Unit {0}
waiting _ = ⊥

abbrev arrived : Progress → Type 0
arrived Arrived = Unit {0}
arrived _ = ⊥

abbrev failed : Progress → Type 0
failed Failed = Unit {0}
failed _ = ⊥

-- an answer that was awaited does not stop being awaited before it arrives
not_idle : (new : Progress) → LeadsOn Waiting new → new ≡ Idle → ⊥
not_idle Idle leads idle = leads
not_idle Waiting leads idle = subst waiting idle tt
not_idle Arrived leads idle = subst arrived idle tt
not_idle Failed leads idle = subst failed idle tt

pub leads_nowhere : (progress : Progress) → LeadsOn progress progress
leads_nowhere Idle = tt
leads_nowhere Waiting = tt
leads_nowhere Arrived = tt
leads_nowhere Failed = tt

-- progress while an answer is awaited
leads_further : (old middle new : Progress) → LeadsOn old middle → middle ≡ Waiting → LeadsOn middle new → LeadsOn old new
leads_further Waiting middle new first waits second = subst (λ (progress : Progress). LeadsOn progress new) waits second
leads_further Idle Waiting new first waits second = absurd first
leads_further Arrived Waiting new first waits second = absurd first
leads_further Failed Waiting new first waits second = absurd first
leads_further old Idle new first waits second = absurd (subst waiting (sym waits) tt)
leads_further old Arrived new first waits second = absurd (subst waiting (sym waits) tt)
leads_further old Failed new first waits second = absurd (subst waiting (sym waits) tt)

-- the connection is the same, after no read, or waits for more
pub same_or_waiting : {S : Type 0} (middle old : SignerConnection S) (reads : ℕ)
    → ((middle ≡ old) × (reads ≡ 0)) ⊎ ((middle.progress ≡ Waiting) × (length middle.received.items ≤ 4100)) → (middle ≡ old) ⊎ (middle.progress ≡ Waiting)
same_or_waiting middle old reads (inl same) = inl same.0
same_or_waiting middle old reads (inr waits) = inr waits.0

-- there are never as many reads as the longest answer has octets with its length, and two more
pub too_many : {S : Type 0} (middle old : SignerConnection S) (reads : ℕ)
    → ((middle ≡ old) × (reads ≡ 0)) ⊎ ((middle.progress ≡ Waiting) × (length middle.received.items ≤ 4100)) → reads ≤ length middle.received.items
    → 4102 ≤ reads → ⊥
too_many middle old reads (inl same) grows many = omega (arith, same.1)
too_many middle old reads (inr waits) grows many = omega (arith, waits.1)

-- an answer that is awaited now was awaited before
waited : (old middle : Progress) → LeadsOn old middle → middle ≡ Waiting → old ≡ Waiting
waited Waiting _ leads is = refl
waited Idle Waiting leads is = absurd leads
waited Arrived Waiting leads is = absurd leads
waited Failed Waiting leads is = absurd leads
waited old Idle leads is = absurd (subst waiting (sym is) tt)
waited old Arrived leads is = absurd (subst waiting (sym is) tt)
waited old Failed leads is = absurd (subst waiting (sym is) tt)

-- an answer is awaited or not
waits_or_not : (progress : Progress) → (progress ≡ Waiting) ⊎ (¬ (progress ≡ Waiting))
waits_or_not Waiting = inl refl
waits_or_not Idle = inr (λ is. subst waiting (sym is) tt)
waits_or_not Arrived = inr (λ is. subst waiting (sym is) tt)
waits_or_not Failed = inr (λ is. subst waiting (sym is) tt)

module _ {S : Type 0} (remaining : S → Option (List ℕ)) where
  -- the connection failed after a read at the end
  pub fails_at_end : (read_failed : Type 0) (old new : SignerConnection S) (came : List ℕ) → Consumes (remaining old.stream) (remaining new.stream) came
      → IsAtEnd (remaining new.stream) → (old.progress ≡ Waiting → FailsAfterRead new true) → FailsToReceive read_failed remaining old new
  fails_at_end read_failed old new came consumed ended why =
      elim (waits_or_not old.progress) [
        | inl waits ↦ elim (why waits) [ inl early ↦ short ended early.1 | inr many ↦ long many ]
        | inr none ↦ unawaited none came consumed (inr ended)
      ]

  -- the connection failed after a read that gave some octets
  pub fails_after : (read_failed : Type 0) (old new : SignerConnection S) (came : List ℕ) → Consumes (remaining old.stream) (remaining new.stream) came
      → 0 < length came → (old.progress ≡ Waiting → FailsAfterRead new false) → FailsToReceive read_failed remaining old new
  fails_after read_failed old new came consumed some why =
      elim (waits_or_not old.progress) [
        | inl waits ↦ elim (why waits) [ inl early ↦ absurd (bool_differs early.0) | inr many ↦ long many ]
        | inr none ↦ unawaited none came consumed (inl some)
      ]

  -- nothing was read
  pub receives_none : (it : SignerConnection S) → Receives remaining it it
  receives_none it = record {
    came = [];
    consumed = Consumes-nil (remaining it.stream);
    kept = λ works. sym (append-nil it.received.items);
    leads = leads_nowhere it.progress;
    idle = λ idle. refl;
    ended = λ waits arrived framed. absurd (subst waiting (sym waits ∙ arrived) tt);
    same_framing = refl;
  }

  -- a read failed, and nothing has come
  pub receives_kept : (it : SignerConnection S) (stream : S) → Keeps (remaining it.stream) (remaining stream)
      → Receives remaining it (record { stream = stream; framing = it.framing; progress = it.progress; received = it.received })
  receives_kept it stream same = record {
    came = [];
    consumed = Consumes-kept (remaining it.stream) (remaining it.stream) (remaining stream) [] (Consumes-nil (remaining it.stream)) same;
    kept = λ works. sym (append-nil it.received.items);
    leads = leads_nowhere it.progress;
    idle = λ idle. refl;
    ended = λ waits arrived framed. absurd (subst waiting (sym waits ∙ arrived) tt);
    same_framing = refl;
  }

  -- more has come while the answer was awaited
  pub receives_more : (old middle new : SignerConnection S) → Receives remaining old middle → middle.progress ≡ Waiting → Receives remaining middle new
      → Receives remaining old new
  receives_more old middle new first waits second = record {
    came = first.came ++ second.came;
    consumed = Consumes-trans (remaining old.stream) (remaining middle.stream) (remaining new.stream) first.came second.came first.consumed second.consumed;
    kept = λ works.
        second.kept works ∙ ap (λ (l : List ℕ). l ++ second.came) (first.kept (λ failed. subst waiting (sym waits ∙ failed) tt))
        ∙ append_assoc old.received.items first.came second.came;
    leads = leads_further old.progress middle.progress new.progress first.leads waits second.leads;
    idle = λ idle. absurd (not_idle new.progress (subst (λ (progress : Progress). LeadsOn progress new.progress) waits second.leads) idle);
    ended = λ waited arrived framed. second.ended waits arrived framed;
    same_framing = second.same_framing ∙ first.same_framing;
  }

  -- one more read
  pub receives_on : (old middle new : SignerConnection S) → Receives remaining old middle → (middle ≡ old) ⊎ (middle.progress ≡ Waiting)
      → Receives remaining middle new → Receives remaining old new
  receives_on old middle new first (inl same) second = subst (λ (it : SignerConnection S). Receives remaining it new) same second
  receives_on old middle new first (inr waits) second = receives_more old middle new first waits second

  -- where the last read left the connection resting, a read failed
  pub rests_on : (read_failed : Type 0) (old middle new : SignerConnection S) → Receives remaining old middle → (middle ≡ old) ⊎ (middle.progress ≡ Waiting)
      → (new.progress ≡ middle.progress → ¬ (new.progress ≡ Failed) → read_failed) → new.progress ≡ old.progress → ¬ (new.progress ≡ Failed) → read_failed
  rests_on read_failed old middle new first (inl same) last =
      subst (λ (it : SignerConnection S). new.progress ≡ it.progress → ¬ (new.progress ≡ Failed) → read_failed) same last
  rests_on read_failed old middle new first (inr waits) last = λ is. last (is ∙ waited old.progress middle.progress first.leads waits ∙ sym waits)

  -- the answer that has arrived is whole
  pub whole_on : (old middle new : SignerConnection S) → (middle ≡ old) ⊎ (middle.progress ≡ Waiting)
      → (middle.progress ≡ Waiting → new.progress ≡ Arrived → HoldsAnswer new) → old.progress ≡ Waiting → new.progress ≡ Arrived → HoldsAnswer new
  whole_on old middle new (inl same) last =
      subst (λ (it : SignerConnection S). it.progress ≡ Waiting → new.progress ≡ Arrived → HoldsAnswer new) same last
  whole_on old middle new (inr waits) last = λ waited. last waits

  -- as long as an answer with its length is awaited, it is not whole
  pub partial_on : (old middle new : SignerConnection S) → new.framing ≡ middle.framing → (middle ≡ old) ⊎ (middle.progress ≡ Waiting)
      → (middle.progress ≡ Waiting → middle.framing ≡ ByLength → ¬ HoldsAnswer old → ¬ HoldsAnswer middle)
      → (new.progress ≡ Waiting → new.framing ≡ ByLength → ¬ HoldsAnswer middle → ¬ HoldsAnswer new) → new.progress ≡ Waiting → new.framing ≡ ByLength
      → ¬ HoldsAnswer old → ¬ HoldsAnswer new
  partial_on old middle new same (inl is) first last waits counted none = last waits counted (subst (λ (it : SignerConnection S). ¬ HoldsAnswer it) (sym is) none)
  partial_on old middle new same (inr waited) first last waits counted none = last waits counted (first waited (sym same ∙ counted) none)

  -- why the connection failed after more than one read
  fails_later : (read_failed : Type 0) (old middle new : SignerConnection S) → Receives remaining old middle → middle.progress ≡ Waiting
      → FailsToReceive read_failed remaining middle new → FailsToReceive read_failed remaining old new
  fails_later read_failed old middle new first waits (read why) = read why
  fails_later read_failed old middle new first waits (memory came consumed lost) =
      let kept : length middle.received.items ≡ length (old.received.items ++ first.came) =
      ap length (first.kept (λ failed. subst waiting (sym waits ∙ failed) tt)) in
      memory (first.came ++ came) (Consumes-trans (remaining old.stream) (remaining middle.stream) (remaining new.stream) first.came came first.consumed consumed)
      (omega (arith, length-append old.received.items first.came, length-append first.came came))
  fails_later read_failed old middle new first waits (unawaited none came consumed some) = absurd (none waits)
  fails_later read_failed old middle new first waits (short ended none) = short ended none
  fails_later read_failed old middle new first waits (long above) = long above

  pub fails_on : (read_failed : Type 0) (old middle new : SignerConnection S) → Receives remaining old middle → (middle ≡ old) ⊎ (middle.progress ≡ Waiting)
      → (¬ (middle.progress ≡ Failed) → new.progress ≡ Failed → FailsToReceive read_failed remaining middle new)
      → ¬ (old.progress ≡ Failed) → new.progress ≡ Failed → FailsToReceive read_failed remaining old new
  fails_on read_failed old middle new first (inl same) last =
      subst (λ (it : SignerConnection S). ¬ (it.progress ≡ Failed) → new.progress ≡ Failed → FailsToReceive read_failed remaining it new) same last
  fails_on read_failed old middle new first (inr waits) last = λ works is.
      fails_later read_failed old middle new first waits (last (λ failed. subst waiting (sym waits ∙ failed) tt) is)
