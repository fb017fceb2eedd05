use Rattle.std.proofs.Common.{◌≡◌, ℕ, List, Some, sym, ap, subst, ◌∙◌}
use Rattle.reg_core_lists.specs.FeedReading.{HeadFields, ReadsItems, step_read}
use Rattle.reg_core_lists.specs.ReceivedPages.{head_fields_of}
use Rattle.reg_core_lists.proofs.PartsRead.{decoded, none_some, some_same, terms_of}
use Rattle.reg_core_lists.proofs.feed_reader.head_with.Goals as goal

pub returns-in-None : goal.returns-in-None
returns-in-None c = record {
  only = λ head ok is.
      let name = decoded _ c.args.fields.now.name.now head.name ok.name (ap (λ (f : HeadFields). f.name) is) c.in_ok-octets.ensures in
      absurd (none_some head.name (rw c.in-None.is at name));
}

pub returns-in-None-2 : goal.returns-in-None-2
returns-in-None-2 c = record {
  only = λ head ok is.
      let key = decoded _ c.args.fields.now.key.now head.key ok.key (ap (λ (f : HeadFields). f.key) is) c.in_ok-octets-2.ensures in
      absurd (none_some head.key (rw c.in-None-2.is at key));
}

pub returns-in-Some-policy_with : goal.returns-in-Some-policy_with
returns-in-Some-policy_with c = record {
  only = λ head ok is.
      let name = decoded _ c.args.fields.now.name.now head.name ok.name (ap (λ (f : HeadFields). f.name) is) c.in_ok-octets.ensures in
      let key = decoded _ c.args.fields.now.key.now head.key ok.key (ap (λ (f : HeadFields). f.key) is) c.in_ok-octets-2.ensures in
      let terms = terms_of (head_fields_of c.args.fields.now) head c.deref.result.now c.in_ok-steps.field-0-1.now ok is (subst (λ (steps : List
      (ℕ × ℕ)). ReadsItems step_read steps c.args.fields.now.steps.now c.in_ok-steps.field-0-1.now)
      (sym c.deref.ensures.value) c.in_ok-steps.ensures) in
      let found : c.policy_with.result ≡ Some head.policy = c.policy_with.ensures head.policy ok.policy terms in
      let same_name : c.in-Some.octets.items ≡ head.name = some_same _ _ (rw c.in-Some.is at name) in
      let same_key : c.in-Some-2.octets.items ≡ head.key = some_same _ _ (rw c.in-Some-2.is at key) in
      let same_policy : c.in-Some-policy_with.policy ≡ head.policy = some_same _ _ (sym c.in-Some-policy_with.is ∙ found) in
      let last = ap (λ (f : HeadFields). f.last) is in
      λ i. record { name = same_name i; key = same_key i; policy = same_policy i; last = last i };
}

pub returns-in-None-policy_with : goal.returns-in-None-policy_with
returns-in-None-policy_with c = record {
  only = λ head ok is.
      let terms = terms_of (head_fields_of c.args.fields.now) head c.deref.result.now c.in_ok-steps.field-0-1.now ok is (subst (λ (steps : List
      (ℕ × ℕ)). ReadsItems step_read steps c.args.fields.now.steps.now c.in_ok-steps.field-0-1.now)
      (sym c.deref.ensures.value) c.in_ok-steps.ensures) in
      let found : c.policy_with.result ≡ Some head.policy = c.policy_with.ensures head.policy ok.policy terms in
      absurd (none_some head.policy (sym c.in-None-policy_with.is ∙ found));
}
