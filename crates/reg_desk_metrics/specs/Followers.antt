-- The part of a follower in the bodies of its answers to `GET /health` and `GET /metrics`.
use Rattle.std.specs.Prelude.{ℕ, Bool, true, false, cond, not, ◌&&◌, List, [], ◌∷◌, ◌++◌, codes, decimal, Some, None}
use Rattle.std.specs.declared.option.Option.{Option}
use Rattle.reg_core_lists.specs.Positions.{positions_text}
use Rattle.reg_core_lists.specs.declared.feed_reader.PageFault.{PageFault}
use Rattle.reg_core_lists.specs.declared.feed_reader.PageFault.TheVariants as page
use Rattle.reg_core_lists.specs.declared.positions.RowCounts.{RowCounts}
use Rattle.reg_office_api.specs.BrokenFeeds.{broken_line}
use Rattle.reg_office_api.specs.declared.follow.FollowFault.{FollowFault}
use Rattle.reg_office_api.specs.declared.follow.FollowFault.TheVariants as follow
use Rattle.reg_desk_metrics.specs.Healths.{health_members, is_well}
use Rattle.reg_desk_metrics.specs.Samples.{sample}
use Rattle.reg_desk_metrics.specs.declared.follower_status.FeedFailure.{FeedFailure}
use Rattle.reg_desk_metrics.specs.declared.follower_status.FeedFailure.TheVariants as failure
use Rattle.reg_desk_metrics.specs.declared.follower_status.FollowerStatus.{FollowerStatus}
use Rattle.reg_desk_metrics.specs.declared.health.Health.{Health}
use Rattle.reg_desk_metrics.specs.declared.series_names.TheConstants.{FOLLOWER_CERTIFICATE_ROWS, FOLLOWER_CRL_ROWS, FOLLOWER_CURRENT, FOLLOWER_DIVERGED, FOLLOWER_LAG, FOLLOWER_ORDER_ROWS, FOLLOWER_REQUEST_ROWS, FOLLOWER_REVOCATION_ROWS, FOLLOWER_SUBSCRIBER_ROWS, PAGES_ENTERED, PAGES_REFUSED}

-- the line of a failure
unfoldable pub failure_text : FeedFailure → List ℕ
failure_text failure.Unreachable = codes "leader unreachable"
failure_text (failure.Status code) = codes "leader answered " ++ decimal code
failure_text failure.OtherVersion = codes "page of another version"
failure_text failure.Malformed = codes "malformed page"
failure_text (failure.Broken broken) = codes "broken page: " ++ broken_line broken
failure_text failure.TooFarBehind = codes "too far behind"
failure_text failure.Memory = codes "F1 memory"
failure_text failure.Store = codes "F2 store"

-- the failure, if a page can't be read
abbrev pub failure_of_page : PageFault → FeedFailure
failure_of_page page.Version = failure.OtherVersion
failure_of_page page.Malformed = failure.Malformed
failure_of_page page.Memory = failure.Memory

-- the failure, if pages are not entered
abbrev pub failure_of_follow : FollowFault → FeedFailure
failure_of_follow (follow.Broken broken) = failure.Broken broken
failure_of_follow follow.Memory = failure.Memory
failure_of_follow follow.Store = failure.Store

-- whether nothing failed
abbrev pub has_none : Option FeedFailure → Bool
has_none (Some failure) = false
has_none None = true

-- whether the follower answers, and nothing failed
abbrev pub is_following : FollowerStatus → Bool
is_following follower = follower.is_current && (not follower.is_diverged && has_none follower.failure)

-- whether all is well with a follower and its register
abbrev pub is_well_with : FollowerStatus → Health → Bool
is_well_with follower health = is_following follower && is_well health

-- a member: its name, and `true` or `false`
unfoldable pub flag_member : List ℕ → Bool → List ℕ
flag_member name flag = name ++ cond flag (codes "true") (codes "false")

-- a member: its name, and a number
abbrev pub number_member : List ℕ → ℕ → List ℕ
number_member name number = name ++ decimal number

-- the line of a failure in quotation marks (34), or null
unfoldable pub failure_value : Option FeedFailure → List ℕ
failure_value None = codes "null"
failure_value (Some failure) = 34 ∷ failure_text failure ++ 34 ∷ []

-- the name of the member `leader`, and its first three members
unfoldable pub state_text : FollowerStatus → List ℕ
state_text follower =
    flag_member (codes ",\"leader\":{\"current\":") follower.is_current
    ++ flag_member (codes ",\"diverged\":") follower.is_diverged
    ++ codes ",\"failure\":" ++ failure_value follower.failure

-- the other members of `leader`
unfoldable pub progress_text : FollowerStatus → List ℕ
progress_text follower =
    number_member (codes ",\"lag\":") follower.lag ++ number_member (codes ",\"pages\":") follower.entered
    ++ codes ",\"positions\":\"" ++ positions_text follower.positions
    ++ number_member (codes "\",\"refused\":") follower.refused

-- the member `leader`, such as `,"leader":{"current":true,"diverged":false,"failure":null,"lag":0,"pages":2,"positions":"..","refused":0}`
unfoldable pub leader_text : FollowerStatus → List ℕ
leader_text follower = state_text follower ++ progress_text follower ++ 125 ∷ []

-- the body of the answer to `GET /health`: the members that an open desk has, and `leader`; `status` is `ok` only if all is well with both
unfoldable pub follower_health_text : FollowerStatus → Health → List ℕ
follower_health_text follower health =
    health_members health (is_well_with follower health) ++ leader_text follower ++ 125 ∷ []

-- how many rows of each table the follower has
unfoldable pub follower_rows_text : RowCounts → List ℕ
follower_rows_text counts =
    sample FOLLOWER_SUBSCRIBER_ROWS.now counts.subscribers ++ sample FOLLOWER_ORDER_ROWS.now counts.orders
    ++ sample FOLLOWER_CERTIFICATE_ROWS.now counts.certificates
    ++ sample FOLLOWER_REQUEST_ROWS.now counts.requests
    ++ sample FOLLOWER_REVOCATION_ROWS.now counts.revocations ++ sample FOLLOWER_CRL_ROWS.now counts.crls

-- a sample that is 1 or 0
abbrev pub flag_sample : List ℕ → Bool → List ℕ
flag_sample series flag = sample series (cond flag 1 0)

-- the series that only a follower has
unfoldable pub follower_text : FollowerStatus → List ℕ
follower_text follower =
    flag_sample FOLLOWER_CURRENT.now follower.is_current ++ sample FOLLOWER_LAG.now follower.lag
    ++ follower_rows_text follower.positions.counts
    ++ sample PAGES_ENTERED.now follower.entered ++ sample PAGES_REFUSED.now follower.refused
    ++ flag_sample FOLLOWER_DIVERGED.now follower.is_diverged
