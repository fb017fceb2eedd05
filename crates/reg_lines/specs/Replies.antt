-- The reply line of a command, a query or an OCSP request.
use Rattle.std.specs.Prelude.{ℕ, List, [], ◌∷◌, ◌++◌, codes, decimal, if◌then◌else◌, Option, Some, None, Result, Ok, Err}
use Rattle.reg_core.specs.Calendar.{moment_text}
use Rattle.reg_core.specs.Lines.{fault_line}
use Rattle.reg_core.specs.declared.refusal.Fault.{Fault}
use Rattle.reg_core.specs.declared.command.Reply.{Reply}
use Rattle.reg_core.specs.declared.command.Reply.TheVariants as reply
use Rattle.reg_core.specs.declared.command.Status.{Status}
use Rattle.reg_core.specs.declared.command.Status.TheVariants.{Unknown, Good, Expired, Revoked}
use Rattle.reg_core.specs.declared.command.Counts.{Counts}
use Rattle.reg_core.specs.declared.command.Listing.{Listing}
use Rattle.reg_core.specs.declared.command.Overdue.{Overdue}

-- the line of a status
unfoldable pub line_of_status : Status → List ℕ
line_of_status Unknown = codes "unknown"
line_of_status Good = codes "good"
line_of_status Expired = codes "expired"
line_of_status (Revoked at reason) = codes "revoked " ++ moment_text at ++ codes " reason " ++ decimal reason

-- the line of the three counts
unfoldable pub counts_line : Counts → List ℕ
counts_line counts =
    codes "good " ++ decimal counts.good ++ codes " revoked " ++ decimal counts.revoked ++ codes " expired "
    ++ decimal counts.expired

-- the line of a listing: the number of the first CRL, and of the last one if it is known
unfoldable pub listing_by : ℕ → Option ℕ → List ℕ
listing_by first None = codes "listing first " ++ decimal first
listing_by first (Some last) = codes "listing first " ++ decimal first ++ codes " last " ++ decimal last

-- the line of a listing, or of a serial number that is not revoked
unfoldable pub listing_line : Option Listing → List ℕ
listing_line None = codes "listing none"
listing_line (Some listing) = listing_by listing.first listing.last

-- the line for overdue requests: how many there are, and the least id
unfoldable pub overdue_line : Option Overdue → List ℕ
overdue_line None = codes "overdue 0"
overdue_line (Some overdue) =
    codes "overdue " ++ decimal overdue.count ++ codes " first " ++ decimal overdue.first

-- the line for when the next CRL is due
unfoldable pub next_crl_line : Option ℕ → List ℕ
next_crl_line None = codes "next-crl at-once"
next_crl_line (Some moment) = codes "next-crl " ++ moment_text moment

-- the line of a reply, without its LF
unfoldable pub reply_line : Reply → List ℕ
reply_line (reply.Subscriber id) = codes "subscriber " ++ decimal id
reply_line (reply.Order id) = codes "order " ++ decimal id
reply_line reply.Registered = codes "registered"
reply_line reply.Same = codes "same"
reply_line (reply.Request id due) = codes "request " ++ decimal id ++ codes " due " ++ moment_text due
reply_line reply.Declined = codes "declined"
reply_line (reply.Revoked late) = if late then codes "revoked late" else codes "revoked"
reply_line (reply.Crl number entries) = codes "crl " ++ decimal number ++ codes " entries " ++ decimal entries
reply_line (reply.Status status) = line_of_status status
reply_line (reply.Counts counts) = counts_line counts
reply_line (reply.Listing listing) = listing_line listing
reply_line (reply.Overdue overdue) = overdue_line overdue
reply_line (reply.NextCrl moment) = next_crl_line moment

-- the line for the outcome of a command or query, without its LF
unfoldable pub outcome_line : Result Reply Fault → List ℕ
outcome_line (Ok reply) = reply_line reply
outcome_line (Err fault) = fault_line fault

-- a line with its LF, as it is written
unfoldable pub with_lf : List ℕ → List ℕ
with_lf line = line ++ 10 ∷ []
