-- What a follower does that another desk does not: the work by which it follows its leader, and the lines that it refuses.
use Rattle.std.specs.Prelude.{◌≡◌, ◌⊎◌, ◌==◌, ◌&&◌, not, ◌+◌, ◌-◌, ◌/◌, ◌<◌, ◌≤◌, ℕ, min, nat_le, Bool, true, false, List, [], length, codes, if◌then◌else◌, unwrap_or, Option, Some, None, Ok, IfSome, IsFalse, IsTrue}
use Rattle.reg_core.specs.declared.refusal.Fault.TheVariants as fault
use Rattle.reg_core_lists.specs.declared.feed_reader.ReceivedPage.{ReceivedPage}
use Rattle.reg_desk_cli.specs.declared.failure.Failure.{Failure}
use Rattle.reg_desk_cli.specs.declared.failure.Failure.TheVariants as failure
use Rattle.reg_desk_metrics.specs.Tallies.{greatest}
use Rattle.reg_desk_metrics.specs.declared.follower_status.FeedFailure.{FeedFailure}
use Rattle.reg_desk_metrics.specs.declared.follower_status.FollowerStatus.{FollowerStatus}
use Rattle.reg_lines.specs.Meaning.{IsUnreadable, LineMeans, is_ocsp_line, means_query}
use Rattle.reg_lines.specs.Script.{IsShortUntimedLine, line_of}
use Rattle.reg_core.specs.declared.command.Query.{Query}
use Rattle.reg_desk_server.specs.Buffers.{unsent_of}
use Rattle.reg_desk_server.specs.Exchange.{Outcome}
use Rattle.reg_desk_server.specs.LineEnds.{IsLine}
use Rattle.reg_office_api.specs.Calls.{KeepsIn, LeadsIn}
use Rattle.reg_office_api.specs.Follows.{FollowStep, FormsSign, IsLastOf}
use Rattle.reg_office_api.specs.declared.follow.BrokenFeed.{BrokenFeed}
use Rattle.reg_office_api.specs.declared.follow.FeedPart.TheVariants.{Positions}
use Rattle.reg_office_api.specs.declared.follow.FeedRule.TheVariants.{OtherPositions}
use Rattle.reg_office_api.specs.declared.office.Office.{Ghosts as Office}
use Rattle.reg_desk_service.specs.ChangesRequests.{changes_text}
use Rattle.reg_desk_service.specs.ExpectedCrls.{ExpectsCrls, LeadsWithCrls}
use Rattle.reg_desk_service.specs.ControlReplies.{IsReplyText, ReportsFault}
use Rattle.reg_desk_service.specs.ControlWords.{AnswersLinesByClock, HasCommand, IsAdmissionAfter, WordMeaning, helps, why, copies, shows, decides, accepts, schedules, commands, meaning_in}
use Rattle.reg_desk_service.specs.Exchanges.{AnswersAs}
use Rattle.reg_desk_service.specs.PageSchedules.{HasLastSteps}
use Rattle.reg_desk_service.specs.FinishedResponses.{FinishesUnsigned, Meets}
use Rattle.reg_desk_service.specs.SignerAnswers.{AnsweredAtSomePath}
use Rattle.reg_desk_service.specs.declared.admission.Admission.{Admission}
use Rattle.reg_desk_service.specs.declared.follower.Follower.{Follower}
use Rattle.reg_desk_service.specs.declared.http_exchanges.DeskKind.TheVariants.{Following}
use Rattle.reg_desk_service.specs.declared.machine.Machine.{Ghosts as Machine}
use Rattle.reg_desk_service.specs.declared.unsigned_responses.Unsigned.{Unsigned}
use Rattle.reg_desk_service.specs.declared.line_kinds.LineKind.{LineKind}
use Rattle.reg_desk_service.specs.declared.line_kinds.LineKind.TheVariants.{Command, Query as Question, Other}

-- ---- its lag

-- whether the last request that reached the leader was made at most `lag` milliseconds ago
abbrev pub reached_within : ℕ → ℕ → Option ℕ → Bool
reached_within lag now None = false
reached_within lag now (Some reached) = nat_le (now - reached) lag

-- whether a follower answers at a moment of the monotonic clock
abbrev pub is_current_at : Follower → ℕ → Bool
is_current_at follower now = reached_within follower.lag now follower.reached_at

abbrev pub has_diverged : Option Failure → Bool
has_diverged (Some failure.Diverged) = true
has_diverged other = false

-- its progress at a moment of the monotonic clock; the lag is in seconds
abbrev pub progress_at : Follower → ℕ → FollowerStatus
progress_at follower now = record {
  is_current = is_current_at follower now;
  lag = (now - unwrap_or follower.reached_at follower.started_at) / 1000;
  positions = follower.own;
  entered = follower.entered;
  refused = follower.refused;
  is_diverged = has_diverged follower.stop;
  failure = follower.failure;
}

-- ---- its requests

-- whether a request without news may wait at the leader
abbrev pub may_wait : Follower → Bool
may_wait follower = nat_le 5000 follower.lag

-- Its next request. It gives its number only with the positions and the schedule of its records, which its file has: pages that are kept may be lost.
abbrev pub next_request : Follower → List ℕ
next_request follower =
    if length follower.pages.items == 0 && not (length follower.schedule.items == 0)
    then changes_text (Some follower.own) (Some follower.number) follower.schedule.items (may_wait follower)
    else changes_text (Some follower.after) None [] false

-- ---- its work

-- its lag, the positions and the schedule of its records, and the moments of its last request and of the last one that reached the leader stay
pub record KeepsProgress (old new : Follower) : Type 0 where
  pub lag : new.lag ≡ old.lag
  pub own : new.own ≡ old.own
  pub schedule : new.schedule ≡ old.schedule
  pub asked_at : new.asked_at ≡ old.asked_at
  pub reached_at : new.reached_at ≡ old.reached_at

-- A request failed at this moment. The pages that were kept are dropped, and the next request, a second later, goes on from its records.
pub record NotesFailure (failure : FeedFailure) (now : ℕ) (old new : Follower) : Type 0 where
  pub pages : new.pages.items ≡ []
  pub bytes : new.bytes ≡ 0
  pub after : new.after ≡ old.own
  pub next_at : new.next_at ≡ min (now + 1000) greatest
  pub failure_is : new.failure ≡ Some failure
  pub stop : new.stop ≡ old.stop

-- more pages, or bytes of them, are kept than a follower has room for, 512 and 160,000,000
abbrev pub IsTooFarBehind : Follower → Type 0
IsTooFarBehind it = (512 ≤ length it.pages.items) ⊎ (160000000 < it.bytes)

-- it began an exchange with its next request at this moment, or could not; or it did nothing
abbrev pub SendsRequest : ℕ → Follower → Follower → Type 0
SendsRequest now old new =
    (new ≡ old) ⊎ (new ≡ record old { asked_at = new.asked_at; exchange = new.exchange } × (new.asked_at ≡ now)
    × IfSome new.exchange (λ exchange. unsent_of exchange.request ≡ next_request old))

-- the fault of a page that neither ends the feed nor leads on
abbrev pub no_progress : BrokenFeed
no_progress = record { part = Positions; row = 0; why = OtherPositions }

-- the last of these pages ends the feed
abbrev pub LastEnds : List ReceivedPage → Type 0
LastEnds pages = (page : ReceivedPage) × IsLastOf pages page × IsTrue page.ends

module _ {O : Type 0} (office : Office O) where
  -- the records stay, if each signature that has the form of one counts as one
  abbrev pub KeepsRecords : O → O → Type 0
  KeepsRecords s t = FormsSign office.signs office.forms → ExpectsCrls office s t

  -- Pages up to the end of the leader's feed were entered, all or (if there is no news) none. They go on from the positions of the follower's
  -- records.
  -- So these are the leader's at the moment of the request or later. The schedule that it keeps for its requests is that of the last page.
  pub record Reaches (old new : Follower) (s t : O) : Type 0 where
    pub pages : List ReceivedPage
    pub ends : LastEnds pages
    pub steps : HasLastSteps pages new.schedule.items
    pub entered : FormsSign office.signs office.forms → LeadsWithCrls office (FollowStep old.own pages (Ok new.own)) s t
    pub lag : new.lag ≡ old.lag
    pub asked_at : new.asked_at ≡ old.asked_at
    pub reached_at : new.reached_at ≡ Some new.asked_at

  -- it takes what came of a response: the records stay, or it reaches the leader
  abbrev pub TakesResponse : Follower → Follower → O → O → Type 0
  TakesResponse old new s t = (KeepsProgress old new × KeepsRecords s t) ⊎ Reaches old new s t

  -- it works at a moment: it may send a request, and takes what came of the response
  abbrev pub FollowsAt : ℕ → Follower → Follower → O → O → Type 0
  FollowsAt now old new s t = (sent : Follower) × SendsRequest now old sent × TakesResponse sent new s t

-- ---- its control socket

-- the kind of a command line, given without its line end: a command, a query or an OCSP request, or one that can't be read
abbrev pub IsTextKind : List ℕ → LineKind → Type 0
IsTextKind text Command = HasCommand text
IsTextKind text Question =
    ((query : Query) × LineMeans text (means_query query))
    ⊎ ((bytes : List ℕ) × LineMeans text (is_ocsp_line bytes))
IsTextKind text Other = IsUnreadable text

-- the same with its line end; a line that is too long is of no other kind
abbrev pub IsCommandLineKind : List ℕ → LineKind → Type 0
IsCommandLineKind line kind =
    (IsShortUntimedLine line × IsTextKind (line_of line) kind)
    ⊎ ((¬ IsShortUntimedLine line) × (kind ≡ Other))

-- the kind of a line with this meaning: a command would change the register or the desk, a query reads the register
abbrev pub HasKind : List ℕ → WordMeaning → LineKind → Type 0
HasKind line helps kind = kind ≡ Other
HasKind line why kind = kind ≡ Other
HasKind line copies kind = kind ≡ Other
HasKind line (shows key) kind = kind ≡ Question
HasKind line (decides decision) kind = kind ≡ Command
HasKind line (accepts moment) kind = kind ≡ Command
HasKind line (schedules steps) kind = kind ≡ Command
HasKind line commands kind = IsCommandLineKind line kind

abbrev pub IsLineKind : List ℕ → LineKind → Type 0
IsLineKind line kind = HasKind line (meaning_in line) kind

-- the line is a query, or of another kind, but no command
abbrev pub IsNoCommand : List ℕ → Type 0
IsNoCommand line = IsLineKind line Question ⊎ IsLineKind line Other

-- a follower that is current or not refuses a line: a command with `follower`; a query with `behind` once its lag is over; or it is out of memory
abbrev pub RefusesLine : Bool → List ℕ → List ℕ → Type 0
RefusesLine is_current line text =
    (IsLineKind line Command × IsReplyText (codes "follower\n") text)
    ⊎ (IsLineKind line Question × IsFalse is_current × IsReplyText (codes "behind\n") text)
    ⊎ ReportsFault fault.Memory text

-- it answers a line as an open desk does: a query while it is current, or a line that neither commands nor asks
abbrev pub MayAnswerLine : Bool → List ℕ → Type 0
MayAnswerLine is_current line = (IsLineKind line Question × IsTrue is_current) ⊎ IsLineKind line Other

-- the failure with which a follower refuses a line; `None` if it answers the line
abbrev pub IsRefusal : Bool → List ℕ → Option Failure → Type 0
IsRefusal is_current line None = MayAnswerLine is_current line
IsRefusal is_current line (Some failure.IsFollower) = IsLineKind line Command
IsRefusal is_current line (Some failure.Behind) = IsLineKind line Question × IsFalse is_current
IsRefusal is_current line (Some (failure.Fault fault.Memory)) = Unit {0}
IsRefusal is_current line (Some other) = ⊥

-- ---- all of it

-- The state of a follower's desk: its office, its admission, and the follower. Each step lies at some moment that the monotonic clock showed.
module _ {M O D S R : Type 0} (machines : Machine M O D S R) (offices : Office O) where
  abbrev pub FollowerState : Type 0
  FollowerState = O × Admission × Follower

  -- an HTTP request: it is answered as by a follower with the progress of that moment
  abbrev pub FollowerAnswers : FollowerState → List ℕ → Outcome Unsigned → FollowerState → Type 0
  FollowerAnswers s request outcome t =
      (millis : ℕ) × machines.millis_read millis × (t.2 ≡ s.2)
      × LeadsIn offices
      (λ identity before after. Meets (FinishesUnsigned (AnsweredAtSomePath machines.signer_answered))
      (λ text. AnswersAs (Following (progress_at s.2 millis)) offices.signs machines.clock_reached s.1 t.1
      identity before request text after)
      outcome)
      s.0 t.0

  -- lines that are answered as by an open desk
  abbrev pub AnswersLinesAsOpen : FollowerState → List ℕ → List ℕ → FollowerState → Type 0
  AnswersLinesAsOpen s bytes text t =
      (t.2 ≡ s.2) × IsAdmissionAfter bytes s.1 t.1
      × LeadsIn offices
      (λ identity before after. AnswersLinesByClock s.1.accepted offices.signs machines.clock_reached
      identity before bytes text after)
      s.0 t.0

  -- One line at the control socket. If it is refused, it changes nothing; any other is no command, and is answered as by an open desk.
  abbrev pub FollowerAnswersLines : FollowerState → List ℕ → List ℕ → FollowerState → Type 0
  FollowerAnswersLines s bytes text t =
      IsLine bytes × (millis : ℕ) × machines.millis_read millis
      × ((RefusesLine (is_current_at s.2 millis) bytes text × (t ≡ s))
      ⊎ (MayAnswerLine (is_current_at s.2 millis) bytes × AnswersLinesAsOpen s bytes text t))

  -- a line that is answered later, perhaps with a signature
  abbrev pub FollowerDefers : FollowerState → List ℕ → FollowerState → Type 0
  FollowerDefers s line t = (t.2 ≡ s.2) × (t.1 ≡ s.1) × KeepsIn offices s.0 t.0

  -- work between requests and lines: none, or the follower asks its leader, and the office enters pages of the leader's feed
  abbrev pub FollowerWorks : FollowerState → FollowerState → Type 0
  FollowerWorks s t =
      (t ≡ s)
      ⊎ ((millis : ℕ) × machines.millis_read millis × (t.1 ≡ s.1) × FollowsAt offices millis s.2 t.2 s.0 t.0)
