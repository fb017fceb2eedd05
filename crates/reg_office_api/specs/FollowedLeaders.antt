-- The law of followers: a follower has records that its leader had.
use Rattle.std.specs.Prelude.{◌≡◌, ◌⊎◌, ℕ, ◌+◌, ◌≤◌, false, List, [], ◌∷◌, map, Result, Ok, Err, IfOk, IsTrue}
use Rattle.reg_core.specs.Changes.{with_schedule}
use Rattle.reg_core.specs.Crls.{CertList}
use Rattle.reg_core.specs.Records.{Records}
use Rattle.reg_core.specs.Sound.{Sound, SoundRows}
use Rattle.reg_core.specs.declared.command.Command.{Command}
use Rattle.reg_core.specs.declared.command.Reply.{Reply}
use Rattle.reg_core.specs.declared.refusal.Fault.{Fault}
use Rattle.reg_core.specs.declared.rows.RequestRow.{RequestRow}
use Rattle.reg_core_laws.specs.Extends.{OnlyAdded, OnlyAddedOrDeclined}
use Rattle.reg_core_laws.specs.Run.{Run}
use Rattle.reg_core_lists.specs.Feed.{HasParts, IsPage, PageParts}
use Rattle.reg_core_lists.specs.ReceivedPages.{HeadTerms, IsReadable, ReadsAs, Received, head_terms_of, received_of, received_text}
use Rattle.reg_core_lists.specs.declared.feed_reader.PageFault.{PageFault}
use Rattle.reg_core_lists.specs.declared.feed_reader.ReceivedPage.{ReceivedPage}
use Rattle.reg_core_lists.specs.declared.positions.Declines.{Declines}
use Rattle.reg_core_lists.specs.declared.positions.Positions.{Positions}
use Rattle.reg_core_lists.specs.declared.positions.RowCounts.{RowCounts}
use Rattle.reg_der.specs.Authority.{name_of}
use Rattle.reg_office_api.specs.Follows.{ArePositionsOf, FollowStep}
use Rattle.reg_office_api.specs.declared.follow.FollowFault.{FollowFault}

-- ---- the leader

-- rows were only added, and requests declined; the settings and the last accepted moment may be any
pub record OnlyAddsRows (before after : Records) : Type 0 where
  pub subscribers : OnlyAdded before.subscribers after.subscribers
  pub orders : OnlyAdded before.orders after.orders
  pub certificates : OnlyAdded before.certificates after.certificates
  pub requests : OnlyAddedOrDeclined before.requests after.requests
  pub revocations : OnlyAdded before.revocations after.revocations
  pub crls : OnlyAdded before.crls after.crls

-- the records of a leader, one state after another: each is sound, and up to the next one rows were only added
pub record IsLeader (leader : ℕ → Records) : Type 0 where
  pub sound : (state : ℕ) → SoundRows (leader state)
  pub grows : (state : ℕ) → OnlyAddsRows (leader state) (leader (state + 1))

-- a run of commands, or another schedule
abbrev pub IsLeaderStep : (CertList → List ℕ → Type 0) → Records → Records → Type 0
IsLeaderStep signed before after =
    ((commands : List (ℕ × Command)) × (outcomes : List (Result Reply Fault))
    × Run signed before commands outcomes after)
    ⊎ ((schedule : List (ℕ × ℕ)) × (after ≡ with_schedule before schedule))

-- sound records that change only by such steps are those of a leader
abbrev pub StepsMakeLeader : (CertList → List ℕ → Type 0) → Type 0
StepsMakeLeader signed =
    (leader : ℕ → Records)
    → Sound signed (leader 0)
    → ((state : ℕ) → IsLeaderStep signed (leader state) (leader (state + 1)))
    → IsLeader leader

-- ---- its pages

abbrev pub head_terms : Records → HeadTerms
head_terms records = record {
  name = records.issuer.name;
  key = records.issuer.key;
  policy = records.policy;
  last = records.last;
}

-- the request, not declined
abbrev pub undeclined : RequestRow → RequestRow
undeclined row = record row { declined = false }

-- the parts of a page, as they are read: the line of a request does not say that it is declined
abbrev pub as_read : PageParts → PageParts
as_read parts =
    record parts { rows = record parts.rows { requests = map undeclined parts.rows.requests } }

-- the page of these records after counts and declines, as it is read
pub record IsPageOf (records : Records) (counts : RowCounts) (declines : Declines) (page : ReceivedPage) : Type 0 where
  pub made : PageParts
  pub has_parts : HasParts records counts declines made
  pub head : head_terms_of page.head ≡ head_terms records
  pub parts : (received_of page).parts ≡ as_read made

-- the same with the digest of its positions
abbrev pub page_read : Records → PageParts → List ℕ → Received
page_read records made digest = record { head = head_terms records; parts = as_read made; digest = digest }

-- The text of a leader's page is read as that page, if the values in it can be read, by a reader that reads all such pages (`read_feed_page` ensures
-- this).
abbrev pub ReadsLeadersPage : Type 0
ReadsLeadersPage =
    (records : Records)
    (counts : RowCounts)
    (declines : Declines)
    (text : List ℕ)
    (result : Result ReceivedPage PageFault)
    → IsPage (name_of records.issuer) records counts declines text
    → ((made : PageParts) (digest : List ℕ) → text ≡ received_text (page_read records made digest)
    → IsReadable (page_read records made digest))
    → ((it : Received) → IsReadable it → text ≡ received_text it → ReadsAs result it)
    → IfOk result (IsPageOf records counts declines)

-- Pages up to the end of the feed: each is of the leader's records in a state, after the positions of the page before. No state is earlier than that
-- of the page before, or than `since`; the last is `at`.
abbrev pub AreFeedPages : (ℕ → Records) → ℕ → RowCounts → Declines → List ReceivedPage → ℕ → Type 0
AreFeedPages leader since counts declines [] at = ⊥
AreFeedPages leader since counts declines (page ∷ []) at =
    (since ≤ at) × IsPageOf (leader at) counts declines page × IsTrue page.ends
AreFeedPages leader since counts declines (page ∷ next ∷ pages) at =
    (state : ℕ) × (since ≤ state) × IsPageOf (leader state) counts declines page
    × AreFeedPages leader state page.positions.counts page.positions.declines (next ∷ pages) at

-- ---- one call

-- after a call that succeeds, the records are those of the leader's last page, and the positions are theirs; after a fault, they are as before
abbrev pub HasLeaders : (ℕ → Records) → ℕ → ℕ → Result Positions FollowFault → Records → Type 0
HasLeaders leader had at (Ok reached) records = (records ≡ leader at) × ArePositionsOf records reached
HasLeaders leader had at (Err fault) records = records ≡ leader had

-- A follower has the leader's records of a state, and enters pages of the leader's feed, which go on from its positions. Then its records are exactly
-- those of which the last page was made: each field of each row, the declined requests, the octets of CRLs, the settings, the last accepted moment.
abbrev pub FollowsLeader : Type 0
FollowsLeader =
    (leader : ℕ → Records)
    (had since at : ℕ)
    (own : Positions)
    (pages : List ReceivedPage)
    (result : Result Positions FollowFault)
    (before after : Records)
    → IsLeader leader
    → before ≡ leader had
    → had ≤ since
    → ArePositionsOf before own
    → AreFeedPages leader since own.counts own.declines pages at
    → FollowStep own pages result before after
    → HasLeaders leader had at result after

-- ---- call after call

-- a call: the pages, the state of the last one, and what is returned
pub record FollowCall : Type 0 where
  pub pages : List ReceivedPage
  pub at : ℕ
  pub result : Result Positions FollowFault

-- the positions after a call: those that it returns, or at a fault those before
abbrev pub own_after : Positions → Result Positions FollowFault → Positions
own_after own (Ok reached) = reached
own_after own (Err fault) = own

-- calls of a follower with these positions, each with pages that were made after those of the call before
abbrev pub AreFollowCalls : (ℕ → Records) → ℕ → Positions → List FollowCall → Records → Records → Type 0
AreFollowCalls leader since own [] before after = after ≡ before
AreFollowCalls leader since own (call ∷ calls) before after =
    (next : Records) × AreFeedPages leader since own.counts own.declines call.pages call.at
    × FollowStep own call.pages call.result before next
    × AreFollowCalls leader call.at (own_after own call.result) calls next after

-- After any calls, a follower has records that its leader had, in no earlier state than before. It never loses or changes a row or a CRL.
abbrev pub CallsFollowLeader : Type 0
CallsFollowLeader =
    (leader : ℕ → Records)
    (had since : ℕ)
    (own : Positions)
    (calls : List FollowCall)
    (before after : Records)
    → IsLeader leader
    → before ≡ leader had
    → had ≤ since
    → ArePositionsOf before own
    → AreFollowCalls leader since own calls before after
    → (state : ℕ) × (had ≤ state) × (after ≡ leader state) × OnlyAddsRows before after
