-- From each state of a leader to each later one, rows were only added; and which records are those of a leader.
use Rattle.std.proofs.Common.{◌≡◌, ◌∙◌, ◌≤◌, ◌+◌, ◌-◌, ℕ, zero, suc, List, [], ◌∷◌, ◌++◌, inl, inr, refl, sym, ap, subst, arith, append-nil, append_assoc}
use Rattle.reg_core.specs.Changes.{with_schedule}
use Rattle.reg_core.specs.Crls.{CertList}
use Rattle.reg_core.specs.Records.{Records}
use Rattle.reg_core.specs.Sound.{Sound}
use Rattle.reg_core.specs.declared.rows.RequestRow.{RequestRow}
use Rattle.reg_core_laws.specs.Extends.{IsSameRequest, OnlyAdded, OnlyAddedOrDeclined, RunsExtend}
use Rattle.reg_core_laws.specs.Headline.{KeepsSound}
use Rattle.reg_core_laws.proofs.PublicLaws.{schedule_keeps_sound}
use Rattle.reg_office_api.specs.FollowedLeaders.{IsLeader, IsLeaderStep, OnlyAddsRows, StepsMakeLeader}

pub added_on : {Row : Type 0} (rows between after : List Row) → OnlyAdded rows between → OnlyAdded between after → OnlyAdded rows after
added_on rows between after first second =
    (first.0 ++ second.0, second.1 ∙ ap (λ front. front ++ second.0) first.1 ∙ append_assoc rows first.0 second.0)

pub none_added : {Row : Type 0} (rows : List Row) → OnlyAdded rows rows
none_added rows = ([], sym (append-nil rows))

same_request_on : (row between after : RequestRow) → IsSameRequest row between → IsSameRequest between after → IsSameRequest row after
same_request_on row between after (inl same) second = rw same at second
same_request_on row between after (inr declined) (inl same) = inr (same ∙ declined)
same_request_on row between after (inr declined) (inr again) = inr (rw declined at again)

requests_on : (rows between after : List RequestRow) → OnlyAddedOrDeclined rows between → OnlyAddedOrDeclined between after → OnlyAddedOrDeclined rows after
requests_on [] between after first second = tt
requests_on (row ∷ rows) [] after first second = absurd first
requests_on (row ∷ rows) (next ∷ others) [] first second = absurd second
requests_on (row ∷ rows) (next ∷ others) (last ∷ rest) first second =
    (same_request_on row next last first.0 second.0, requests_on rows others rest first.1 second.1)

none_requested : (rows : List RequestRow) → OnlyAddedOrDeclined rows rows
none_requested [] = tt
none_requested (row ∷ rows) = (inl refl, none_requested rows)

only_none : (records : Records) → OnlyAddsRows records records
only_none records = record {
  subscribers = none_added records.subscribers;
  orders = none_added records.orders;
  certificates = none_added records.certificates;
  requests = none_requested records.requests;
  revocations = none_added records.revocations;
  crls = none_added records.crls;
}

only_on : (first second third : Records) → OnlyAddsRows first second → OnlyAddsRows second third → OnlyAddsRows first third
only_on first second third one two = record {
  subscribers = added_on _ _ _ one.subscribers two.subscribers;
  orders = added_on _ _ _ one.orders two.orders;
  certificates = added_on _ _ _ one.certificates two.certificates;
  requests = requests_on _ _ _ one.requests two.requests;
  revocations = added_on _ _ _ one.revocations two.revocations;
  crls = added_on _ _ _ one.crls two.crls;
}

module _ (leader : ℕ → Records) (is : IsLeader leader) where
  grown_by : (earlier more : ℕ) → OnlyAddsRows (leader earlier) (leader (earlier + more))
  grown_by earlier zero = rw (let e : earlier + 0 ≡ earlier = omega arith in e) (only_none (leader earlier))
  grown_by earlier (suc more) =
      subst (λ n. OnlyAddsRows (leader earlier) (leader n)) (let e : earlier + more + 1 ≡ earlier + suc more = omega arith in e)
      (only_on (leader earlier) (leader (earlier + more)) (leader (earlier + more + 1)) (grown_by earlier more) (is.grows (earlier + more)))

  pub grown : (earlier later : ℕ) → earlier ≤ later → OnlyAddsRows (leader earlier) (leader later)
  grown earlier later order =
      subst (λ n. OnlyAddsRows (leader earlier) (leader n)) (let e : earlier + (later - earlier) ≡ later = omega (arith, order) in e)
      (grown_by earlier (later - earlier))

-- ---- runs of commands, and other schedules

module _ (signed : CertList → List ℕ → Type 0) (keeps : KeepsSound signed) (extends : RunsExtend signed) where
  step_of : (before after : Records) → IsLeaderStep signed before after → Sound signed before → Sound signed after × OnlyAddsRows before after
  step_of before after (inl (commands, outcomes, run)) sound =
      let more = extends before after commands outcomes run in
      let adds : OnlyAddsRows before after = record {
        subscribers = more.subscribers;
        orders = more.orders;
        certificates = more.certificates;
        requests = more.requests;
        revocations = more.revocations;
        crls = more.crls;
      } in
      (keeps before after commands outcomes sound run, adds)
  step_of before after (inr (schedule, is)) sound =
      let same : OnlyAddsRows before (with_schedule before schedule) = record {
        subscribers = none_added before.subscribers;
        orders = none_added before.orders;
        certificates = none_added before.certificates;
        requests = none_requested before.requests;
        revocations = none_added before.revocations;
        crls = none_added before.crls;
      } in
      (subst (Sound signed) (sym is) (schedule_keeps_sound signed before schedule sound), subst (OnlyAddsRows before) (sym is) same)

  module _ (leader : ℕ → Records) (begun : Sound signed (leader 0)) (steps : (state : ℕ) → IsLeaderStep signed (leader state) (leader (state + 1))) where
    sound_at : (state : ℕ) → Sound signed (leader state)
    sound_at zero = begun
    sound_at (suc state) =
        subst (λ n. Sound signed (leader n)) (let e : state + 1 ≡ suc state = omega arith in e)
        (step_of (leader state) (leader (state + 1)) (steps state) (sound_at state)).0

    pub steps_make : IsLeader leader
    steps_make = record {
      sound = λ state. (sound_at state).rows;
      grows = λ state. (step_of (leader state) (leader (state + 1)) (steps state) (sound_at state)).1;
    }

  pub steps_make_leader : StepsMakeLeader signed
  steps_make_leader leader begun steps = steps_make leader begun steps
