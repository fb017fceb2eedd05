-- How a new copy fetches the feed of its leader: each response that came, the pages in their order, and why no whole feed came.
use Rattle.std.specs.Prelude.{◌≡◌, ◌≢◌, ◌⊎◌, ℕ, false, List, [], ◌∷◌, ◌++◌, Option, Some, None, Result, Ok, Err, drop, length, IsTrue, IsFalse}
use Rattle.reg_core.specs.declared.refusal.Fault.TheVariants as fault
use Rattle.reg_core_lists.specs.ReceivedPages.{IsReadable, Received, received_of, received_text}
use Rattle.reg_core_lists.specs.declared.feed_reader.ReceivedPage.{ReceivedPage}
use Rattle.reg_core_lists.specs.declared.positions.Positions.{Positions}
use Rattle.reg_desk_cli.specs.declared.failure.Failure.{Failure}
use Rattle.reg_desk_cli.specs.declared.failure.Failure.TheVariants as failure
use Rattle.reg_desk_metrics.specs.declared.follower_status.FeedFailure.{FeedFailure}
use Rattle.reg_desk_metrics.specs.declared.follower_status.FeedFailure.TheVariants as feed
use Rattle.reg_desk_server.specs.Buffers.{unsent_of}
use Rattle.reg_desk_server.specs.Failures.{EndsEarly}
use Rattle.reg_desk_server.specs.FeedExchanges.{Proceeds, Progresses}
use Rattle.reg_desk_server.specs.declared.feed_exchange.FeedExchange.{FeedExchange}
use Rattle.reg_desk_server.specs.declared.feed_exchange.FeedProgress.TheVariants.{Arrived}
use Rattle.reg_desk_server.specs.declared.leader_stream.LeaderStream.{LeaderStream}
use Rattle.reg_desk_service.specs.ChangesRequests.{changes_text}
use Rattle.reg_http_head.specs.declared.response_head.ResponseHead.{ResponseHead}

-- ---- one response

-- An exchange sent and received more, if it could. The proofs don't know which bytes the other side of a socket gets and gives (`contents`, `remaining`).
abbrev pub Transferred : FeedExchange LeaderStream → FeedExchange LeaderStream → Type 0
Transferred old new =
    (contents remaining : LeaderStream → Option (List ℕ)) × Proceeds contents remaining old new false

-- The same, and then the whole response has come (`HasResponse`). This is its head.
abbrev pub ArrivesIn : FeedExchange LeaderStream → FeedExchange LeaderStream → ResponseHead → Type 0
ArrivesIn old new head =
    (contents remaining : LeaderStream → Option (List ℕ)) × (now : ℕ) × Progresses contents remaining now old new (Arrived head)

-- an exchange went on by steps; the list has the exchange before each step, the latest first
abbrev pub WentOn : List (FeedExchange LeaderStream) → FeedExchange LeaderStream → FeedExchange LeaderStream → Type 0
WentOn [] first last = last ≡ first
WentOn (before ∷ steps) first last = WentOn steps first before × Transferred before last

-- To the request for the changes after these positions, a response with this status code and this body came, and nothing more.
pub record CameResponse (after : Option Positions) (status : ℕ) (body : List ℕ) : Type 0 where
  pub first : FeedExchange LeaderStream
  pub before : FeedExchange LeaderStream
  pub last : FeedExchange LeaderStream
  pub steps : List (FeedExchange LeaderStream)
  pub head : ResponseHead
  pub requested : unsent_of first.request ≡ changes_text after None [] false
  pub nothing_came : first.received.items ≡ []
  pub went_on : WentOn steps first before
  pub arrived : ArrivesIn before last head
  pub status_is : head.status ≡ status
  pub body_is : body ≡ drop head.end last.received.items

-- a page of the feed came (RFC 9110 15.3.1)
abbrev pub CamePage : Option Positions → ReceivedPage → Type 0
CamePage after page = CameResponse after 200 (received_text (received_of page))

-- the body that came is no page that can be read
pub record CameNoPage (after : Option Positions) : Type 0 where
  pub body : List ℕ
  pub came : CameResponse after 200 body
  pub no_page : (it : Received) → IsReadable it → body ≢ received_text it

-- the leader answered with this status code
abbrev pub CameStatus : Option Positions → ℕ → Type 0
CameStatus after status = (body : List ℕ) × CameResponse after status body

-- one try: a page came, or another status code, or no page that can be read; otherwise nothing is known
abbrev pub ComesOnce : Option Positions → Result ReceivedPage FeedFailure → Type 0
ComesOnce after (Ok page) = CamePage after page
ComesOnce after (Err (feed.Status code)) = (code ≢ 200) × CameStatus after code
ComesOnce after (Err feed.OtherVersion) = CameNoPage after
ComesOnce after (Err feed.Malformed) = CameNoPage after
ComesOnce after (Err other) = Unit {0}

-- a page came; or the leader does not know the positions (RFC 9110 15.5.10)
abbrev pub Comes : Option Positions → Option ReceivedPage → Type 0
Comes after (Some page) = CamePage after page
Comes after None = CameStatus after 409

-- ---- the feed

-- pages came one after another, each for the positions of the one before it, and none of them ends the feed
abbrev pub LeadFrom : Option Positions → List ReceivedPage → Option Positions → Type 0
LeadFrom after [] reached = reached ≡ after
LeadFrom after (page ∷ pages) reached =
    CamePage after page × IsFalse page.ends × LeadFrom (Some page.positions) pages reached

-- These pages are a whole feed: they came in this order, from the first row on, and only the last one ends the feed.
pub record IsWholeFeed (pages : List ReceivedPage) : Type 0 where
  pub before : List ReceivedPage
  pub last : ReceivedPage
  pub reached : Option Positions
  pub parts : pages ≡ before ++ last ∷ []
  pub leads : LeadFrom None before reached
  pub came : CamePage reached last
  pub ends : IsTrue last.ends

-- a page came for its own positions, and does not end the feed
pub record LeadsNowhere : Type 0 where
  pub page : ReceivedPage
  pub came : CamePage (Some page.positions) page
  pub goes_on : IsFalse page.ends

-- 2^64 - 1 pages came, and none of them ends the feed
pub record NeverEnds : Type 0 where
  pub pages : List ReceivedPage
  pub reached : Option Positions
  pub leads : LeadFrom None pages reached
  pub many : length pages ≡ 18446744073709551615

module _ (failed : Type 0) (waited : ℕ → Type 0) where
  -- why a try or a pause failed: out of memory; or the system failed, or the program waited 2^64 - 1 times
  abbrev pub FailsBySystem : Failure → Type 0
  FailsBySystem why =
      (why ≡ failure.Fault fault.Memory) ⊎ ((why ≡ failure.Fault fault.Read) × EndsEarly failed waited)

  -- why no whole feed came: for such a reason, or because of a page
  abbrev pub FailsToFetch : Failure → Type 0
  FailsToFetch why =
      FailsBySystem why
      ⊎ (((why ≡ failure.BrokenFeed) × (((after : Option Positions) × CameNoPage after) ⊎ LeadsNowhere))
      ⊎ ((why ≡ failure.Fault fault.Read) × NeverEnds))
