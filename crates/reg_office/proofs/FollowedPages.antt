-- Pages that were entered: the head of the last one, the rows of all, and the moment of the last one, as one step of the records.
use Rattle.std.proofs.Common.{◌≡◌, ◌∙◌, ℕ, List, refl, sym, ap, subst}
use Rattle.sqlite_trees.specs.declared.store.Store.{Ghosts}
use Rattle.sqlite.specs.Held.{Held}
use Rattle.reg_core.specs.Changes.{touched, with_schedule}
use Rattle.reg_core.specs.Issuer.{Issuer}
use Rattle.reg_core.specs.Policy.{Terms}
use Rattle.reg_core.specs.Records.{Records}
use Rattle.reg_core.specs.Schedule.{one_step}
use Rattle.reg_core_lists.specs.Feed.{IsInHistory}
use Rattle.reg_core_lists.specs.declared.feed_reader.FeedHead.{FeedHead}
use Rattle.reg_core_lists.specs.declared.feed_reader.ReceivedPage.{ReceivedPage}
use Rattle.reg_crl.specs.Signing.{Identity}
use Rattle.reg_der.specs.Authority.{key_identifier_at, name_of}
use Rattle.reg_der.specs.Issuers.{with_issuer}
use Rattle.reg_store_changes.specs.WithinTransactions.{StepsWithin}
use Rattle.reg_store_changes.proofs.PublicLaws.{steps_clean}
use Rattle.reg_office_api.specs.Follows.{AddsRows, FollowsPages, HasFeedHead, IsLastOf, KeepsSettings}
use Rattle.reg_office.specs.Replays.{HasReplayedAll, LeadsWithin, MayTakeHead, TakesIssuer, TakesMoment}

-- the records after the issuer and the widest schedule were set
abbrev pub opened : Records → Issuer → Records
opened before issuer = with_schedule (with_issuer before issuer) (one_step 398)

-- rows that were added to these were added to those before, which have the same rows
same_rows : (pages : List ReceivedPage) (before : Records) (issuer : Issuer) (after : Records) (head : FeedHead) → AddsRows pages (opened before issuer) after
    → AddsRows pages before (with_schedule (touched after head.last) head.policy.schedule)
same_rows pages before issuer after head adds = record {
  subscribers = adds.subscribers;
  orders = adds.orders;
  certificates = adds.certificates;
  requests = adds.requests;
  revocations = adds.revocations;
  crls = adds.crls;
}

module _ (pages : List ReceivedPage) (page : ReceivedPage) (last : IsLastOf pages page) (before middle after : Records)
    (issuer : Issuer) (may : MayTakeHead page.head before issuer) (all : HasReplayedAll pages (opened before issuer) middle) (takes : TakesMoment page.head middle after)
    (history : IsInHistory (name_of after.issuer) after page.positions) where
  issuer_is : after.issuer ≡ issuer
  issuer_is = ap (λ (r : Records). r.issuer) takes ∙ all.issuer

  policy_is : after.policy ≡ page.head.policy
  policy_is =
      let was : middle.policy ≡ (opened before issuer).policy = all.policy in
      let head : Terms = page.head.policy in
      ap (λ (r : Records). r.policy) takes ∙ (λ i. record {
        schedule = head.schedule;
        crl_life = (ap (λ (terms : Terms). terms.crl_life) was ∙ sym may.crl_life) i;
        ocsp_life = (ap (λ (terms : Terms). terms.ocsp_life) was ∙ sym may.ocsp_life) i;
        cap = (ap (λ (terms : Terms). terms.cap) was ∙ sym may.cap) i;
      })

  head_is : HasFeedHead page.head after
  head_is = record {
    name = ap (λ (it : Issuer). it.name) issuer_is ∙ may.name_is;
    key = ap (λ (it : Issuer). it.key) issuer_is ∙ may.key_is;
    policy = policy_is;
    last = ap (λ (r : Records). r.last) takes;
  }

  kept : KeepsSettings before after
  kept = record {
    name = ap name_of issuer_is ∙ may.name;
    key = ap (λ (it : Issuer). it.key) issuer_is ∙ may.key;
    identifiers = λ number one within. ap (λ (it : Issuer). key_identifier_at it number) issuer_is ∙ may.identifiers number one within;
    crl_life = ap (λ (terms : Terms). terms.crl_life) policy_is ∙ may.crl_life;
    ocsp_life = ap (λ (terms : Terms). terms.ocsp_life) policy_is ∙ may.ocsp_life;
    cap = ap (λ (terms : Terms). terms.cap) policy_is ∙ may.cap;
  }

  pub follows_pages : FollowsPages pages page.positions before after
  follows_pages = record {
    page = page;
    is_last = last;
    rows = subst (λ (r : Records). AddsRows pages before r) (sym takes) (same_rows pages before issuer middle page.head all.rows);
    kept = kept;
    head = head_is;
    positions = refl;
    history = history;
  }

-- the same from the steps
pub steps_follow : (pages : List ReceivedPage) (page : ReceivedPage) → IsLastOf pages page → (before first middle after : Records) → TakesIssuer page.head before first → HasReplayedAll pages first middle
    → TakesMoment page.head middle after → IsInHistory (name_of after.issuer) after page.positions → FollowsPages pages page.positions before after
steps_follow pages page last before first middle after taken all takes history =
    follows_pages pages page last before middle after taken.issuer taken.may (subst (λ (r : Records). HasReplayedAll pages r middle) taken.after_is all) takes history

-- ---- inside the transaction

module _ {C : Type 0} (g : Ghosts C) (signs : Identity → List ℕ → List ℕ → Type 0) (identity : Identity) (pages : List ReceivedPage) (page : ReceivedPage) where
  -- the steps of the transaction, one after another
  pub follow_steps : (h0 h1 h2 h3 h4 h5 : Held C) → IsLastOf pages page
      → StepsWithin g h0 h1 → StepsWithin g h1 h2 → StepsWithin g h2 h3 → StepsWithin g h3 h4 → StepsWithin g h4 h5
      → LeadsWithin g signs identity h0 h1 (TakesIssuer page.head)
      → LeadsWithin g signs identity h1 h2 (λ before after. after ≡ before)
      → LeadsWithin g signs identity h2 h3 (HasReplayedAll pages)
      → LeadsWithin g signs identity h3 h4 (TakesMoment page.head)
      → LeadsWithin g signs identity h4 h5 (λ before after. (after ≡ before) × IsInHistory (name_of before.issuer) before page.positions)
      → LeadsWithin g signs identity h0 h5 (FollowsPages pages page.positions)
  follow_steps h0 h1 h2 h3 h4 h5 last e1 e2 e3 e4 e5 l1 l2 l3 l4 l5 within clean before stands =
      let clean4 = steps_clean e5 clean in
      let clean3 = steps_clean e4 clean4 in
      let clean2 = steps_clean e3 clean3 in
      let clean1 = steps_clean e2 clean2 in
      let within1 = e1.within within in
      let within2 = e2.within within1 in
      let within3 = e3.within within2 in
      let within4 = e4.within within3 in
      let (r1, taken, st1) = l1 within clean1 before stands in
      let (r2, same2, st2) = l2 within1 clean2 r1 st1 in
      let (r3, all, st3) = l3 within2 clean3 r2 st2 in
      let (r4, takes, st4) = l4 within3 clean4 r3 st3 in
      let (r5, both5, st5) = l5 within4 clean r4 st4 in (
        r5,
        steps_follow pages page last before r2 r3 r5
            (subst (λ (r : Records). TakesIssuer page.head before r) (sym same2) taken) all
            (subst (λ (r : Records). TakesMoment page.head r3 r) (sym both5.0) takes)
            (subst (λ (r : Records). IsInHistory (name_of r.issuer) r page.positions) (sym both5.0) both5.1),
        st5,
      )
