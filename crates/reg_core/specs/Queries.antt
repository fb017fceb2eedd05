-- The replies to queries.
use Rattle.std.specs.Prelude.{ℕ, List, [], ◌∷◌, ◌++◌, Option, option_map, Result}
use Rattle.reg_core.specs.Records.{Records, certificate_in, revocation_in}
use Rattle.reg_core.specs.Checks.{first_refusal, clock_checks, refused_if_none}
use Rattle.reg_core.specs.Crls.{last_listing}
use Rattle.reg_core.specs.Decisions.{refused_or}
use Rattle.reg_core.specs.Due.{overdue, overdue_report, due}
use Rattle.reg_core.specs.Status.{status, counts}
use Rattle.reg_core.specs.declared.command.Listing.{Listing}
use Rattle.reg_core.specs.declared.command.Query.{Query}
use Rattle.reg_core.specs.declared.command.Query.TheVariants.{Status as AskStatus, Counts as AskCounts, Listing as AskListing, Overdue as AskOverdue, NextCrl as AskNextCrl}
use Rattle.reg_core.specs.declared.command.Reply.{Reply}
use Rattle.reg_core.specs.declared.command.Reply.TheVariants.{Status as StatusIs, Counts as CountsAre, Listing as ListingIs, Overdue as OverdueAre, NextCrl as NextCrlIs}
use Rattle.reg_core.specs.declared.refusal.Refusal.{Refusal}
use Rattle.reg_core.specs.declared.refusal.Refusal.TheVariants.{UnknownSerial}

-- the numbers of the first and, once it is issued, the last CRL that list a revoked serial number; `None` if it is not revoked
abbrev pub listing : Records → ℕ → Option Listing
listing records serial =
    option_map
    (λ revocation. record { first = revocation.first; last = last_listing records revocation })
    (revocation_in records.revocations serial)

-- the checks of a query, besides those of the clock
abbrev pub query_checks : Records → Query → List (Option Refusal)
query_checks records (AskListing serial) =
    refused_if_none (certificate_in records.certificates serial) UnknownSerial ∷ []
query_checks records (AskStatus serial) = []
query_checks records AskCounts = []
query_checks records AskOverdue = []
query_checks records AskNextCrl = []

-- the reply to a query that is not refused
abbrev pub query_reply : Records → ℕ → Query → Reply
query_reply records now (AskStatus serial) = StatusIs (status records serial now)
query_reply records now AskCounts = CountsAre (counts records now)
query_reply records now (AskListing serial) = ListingIs (listing records serial)
query_reply records now AskOverdue = OverdueAre (overdue_report (overdue records now))
query_reply records now AskNextCrl = NextCrlIs (due records)

-- the answer to a query: the first refusal that applies, those of the clock before its own, or else the reply
abbrev pub answer : Records → ℕ → Query → Result Reply Refusal
answer records now query =
    refused_or (first_refusal (clock_checks now records.last ++ query_checks records query))
    (query_reply records now query)
