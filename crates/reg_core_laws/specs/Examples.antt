-- Worked examples: days of a register, with the outcome of each command, the answer to each query and the entries of CRLs.
use Rattle.std.specs.Prelude.{◌≡◌, ℕ, true, false, ◌+◌, ◌-◌, ◌*◌, List, [], ◌∷◌, ◌++◌, Option, Some, None, Result, Ok, Err, codes}
use Rattle.reg_core.specs.Crls.{CertList, entries}
use Rattle.reg_core.specs.Policy.{Terms}
use Rattle.reg_core.specs.Queries.{answer}
use Rattle.reg_core.specs.Records.{Records, no_records}
use Rattle.reg_core.specs.Schedule.{one_step}
use Rattle.reg_core.specs.Step.{refusal, reply, changed}
use Rattle.reg_core.specs.declared.rows.Entry.{Entry}
use Rattle.reg_core.specs.declared.command.Command.{Command}
use Rattle.reg_core.specs.declared.command.Command.TheVariants.{Subscriber, Order, Register, Request, Decline, Revoke, Crl as IssueCrl}
use Rattle.reg_core.specs.declared.command.Query.{Query}
use Rattle.reg_core.specs.declared.command.Query.TheVariants.{Status, Counts, Listing, Overdue, NextCrl}
use Rattle.reg_core.specs.declared.command.Reply.{Reply}
use Rattle.reg_core.specs.declared.command.Reply.TheVariants.{Subscriber as SubscriberIs, Order as OrderIs, Registered, Same, Request as RequestIs, Declined, Revoked as RevokedNow, Crl as CrlIs, Status as StatusIs, Counts as CountsAre, Listing as ListingIs, Overdue as OverdueAre, NextCrl as NextCrlIs}
use Rattle.reg_core.specs.declared.command.Status.TheVariants.{Unknown, Good, Expired, Revoked}
use Rattle.reg_core.specs.declared.refusal.Refusal.{Refusal}
use Rattle.reg_core.specs.declared.refusal.Refusal.TheVariants.{ClockBack, ClockEnd, Full, BadName, NameTaken, NoSubscriber, BadDays, NoOrder, OrderFilled, SerialTaken, BadValidity, TooLong, Ended, UnknownSerial, NoHold, BadGround, NoRequest, DeclinedBefore, RevokedBefore, Expired as ExpiredBefore}
use Rattle.reg_core.specs.declared.refusal.Fault.{Fault}
use Rattle.reg_core.specs.declared.refusal.Fault.TheVariants.{Refused}
use Rattle.reg_core_laws.specs.Run.{Run}

-- ---- a day

-- a line of a day, at its moment
pub data DayLine : Type 0 where
  -- the command is accepted, with this reply
  decided : ℕ → Command → Reply → DayLine
  -- the command is refused
  refuse : ℕ → Command → Refusal → DayLine
  -- the query gets this reply
  queried : ℕ → Query → Reply → DayLine
  -- the query is refused
  deny : ℕ → Query → Refusal → DayLine
  -- the CRL with this number has these entries; such a line has no moment
  crl_has : ℕ → List Entry → DayLine

-- the commands among the lines
abbrev pub commands_of : List DayLine → List (ℕ × Command)
commands_of [] = []
commands_of (decided now command reply ∷ rest) = (now, command) ∷ commands_of rest
commands_of (refuse now command refusal ∷ rest) = (now, command) ∷ commands_of rest
commands_of (queried now query reply ∷ rest) = commands_of rest
commands_of (deny now query refusal ∷ rest) = commands_of rest
commands_of (crl_has number those ∷ rest) = commands_of rest

-- the outcomes of the commands among the lines
abbrev pub outcomes_of : List DayLine → List (Result Reply Fault)
outcomes_of [] = []
outcomes_of (decided now command reply ∷ rest) = Ok reply ∷ outcomes_of rest
outcomes_of (refuse now command refusal ∷ rest) = Err (Refused refusal) ∷ outcomes_of rest
outcomes_of (queried now query reply ∷ rest) = outcomes_of rest
outcomes_of (deny now query refusal ∷ rest) = outcomes_of rest
outcomes_of (crl_has number those ∷ rest) = outcomes_of rest

-- the outcome of a command: the refusal if there is one, or else the reply
abbrev pub outcome_by : Option Refusal → Reply → Result Reply Fault
outcome_by (Some refused) reply = Err (Refused refused)
outcome_by None reply = Ok reply

-- the same records if there is a refusal, or else those after
abbrev pub records_by : Option Refusal → Records → Records → Records
records_by (Some refused) records after = records
records_by None records after = after

-- the records after a command; the bytes of a CRL are left empty here
abbrev pub records_after : Records → ℕ → Command → Records
records_after records now command =
    records_by (refusal records now command) records (changed records now command [])

-- the records after commands
abbrev pub records_after_all : Records → List (ℕ × Command) → Records
records_after_all records [] = records
records_after_all records (timed ∷ rest) = records_after_all (records_after records timed.0 timed.1) rest

-- the observation at a line that is not a command: the answer to a query, or the entries of a CRL
pub data Seen : Type 0 where
  answered : Result Reply Refusal → Seen
  listed : List Entry → Seen

-- the observations at the lines, each over the records after the commands before it
abbrev pub seen_over : Records → List DayLine → List Seen
seen_over records [] = []
seen_over records (decided now command reply ∷ rest) = seen_over (records_after records now command) rest
seen_over records (refuse now command refusal ∷ rest) = seen_over (records_after records now command) rest
seen_over records (queried now query reply ∷ rest) =
    answered (answer records now query) ∷ seen_over records rest
seen_over records (deny now query refusal ∷ rest) =
    answered (answer records now query) ∷ seen_over records rest
seen_over records (crl_has number those ∷ rest) = listed (entries records number) ∷ seen_over records rest

-- the observations that the lines expect
abbrev pub seen_in : List DayLine → List Seen
seen_in [] = []
seen_in (decided now command reply ∷ rest) = seen_in rest
seen_in (refuse now command refusal ∷ rest) = seen_in rest
seen_in (queried now query reply ∷ rest) = answered (Ok reply) ∷ seen_in rest
seen_in (deny now query refusal ∷ rest) = answered (Err refusal) ∷ seen_in rest
seen_in (crl_has number those ∷ rest) = listed those ∷ seen_in rest

-- the bytes of every CRL are empty
abbrev pub no_bytes : CertList → List ℕ → Type 0
no_bytes list bytes = bytes ≡ []

-- the records of a new register with this policy, and without an issuer's name and key
abbrev pub new_under : Terms → Records
new_under policy = no_records (record { name = []; key = [] }) policy

-- a day is as its lines say: from a new register, the commands have these outcomes, and the observations at the other lines are as expected
pub record DayUnder (policy : Terms) (lines : List DayLine) : Type 0 where
  pub run :
      Run no_bytes (new_under policy) (commands_of lines) (outcomes_of lines)
      (records_after_all (new_under policy) (commands_of lines))
  pub seen : seen_over (new_under policy) lines ≡ seen_in lines

-- the default policy: 398 days, with lives of eight days for CRLs and four days for OCSP responses
abbrev pub usual : Terms
usual = record { schedule = one_step 398; crl_life = 691200; ocsp_life = 345600; cap = 1000000 }

-- a day under the default policy
abbrev pub Day : List DayLine → Type 0
Day lines = DayUnder usual lines

-- the moment at which a day of January 2026 begins; day 32 is February 1, and so on
abbrev pub january : ℕ → ℕ
january day = 1767225600 + 86400 * (day - 1)

-- a subscriber, an order and a certificate with serial number 5, valid from January 1 to the first second of January 10
abbrev pub first_day : List DayLine
first_day =
    decided (january 1) (Subscriber (codes "acme")) (SubscriberIs 1)
    ∷ decided (january 1) (Order 1 398) (OrderIs 1)
    ∷ decided (january 1) (Register 1 5 (january 1) (january 10)) Registered
    ∷ []

-- a day that begins with `first_day`, and then has these lines
abbrev pub Then : List DayLine → Type 0
Then more = Day (first_day ++ more)

abbrev pub counted : ℕ → ℕ → ℕ → Reply
counted good revoked expired = CountsAre (record { good = good; revoked = revoked; expired = expired })

abbrev pub entry : ℕ → ℕ → ℕ → Entry
entry serial at reason = record { serial = serial; at = at; reason = reason }

-- ---- the examples

-- nothing is registered in a new register, and its first CRL is due at once
abbrev pub ANewRegisterIsEmpty : Type 0
ANewRegisterIsEmpty =
    Day
    (queried (january 1) Counts (counted 0 0 0)
    ∷ queried (january 1) (Status 1) (StatusIs Unknown)
    ∷ queried (january 1) NextCrl (NextCrlIs None)
    ∷ [])

-- 398 days are allowed, both ends counted: up to 2027-02-02T23:59:59Z and no second longer
abbrev pub TheLongestValidity : Type 0
TheLongestValidity =
    Day
    (decided (january 1) (Subscriber (codes "acme")) (SubscriberIs 1)
    ∷ decided (january 1) (Order 1 398) (OrderIs 1)
    ∷ refuse (january 1) (Order 1 399) (BadDays 398)
    ∷ refuse (january 1) (Register 1 5 (january 1) 1801612800) TooLong
    ∷ decided (january 1) (Register 1 5 (january 1) 1801612799) Registered
    ∷ [])

-- a second registration of the same certificate gets the reply `Same`; one that differs is refused
abbrev pub ASecondRegisterIsTheSame : Type 0
ASecondRegisterIsTheSame =
    Then
    (decided (january 1) (Register 1 5 (january 1) (january 10)) Same
    ∷ refuse (january 1) (Register 1 5 (january 1) (january 11)) OrderFilled
    ∷ decided (january 1) (Order 1 398) (OrderIs 2)
    ∷ refuse (january 1) (Register 2 5 (january 1) (january 10)) SerialTaken
    ∷ [])

-- a certificate is good through notAfter and expired a second later
abbrev pub NotAfterIsTheLastGoodSecond : Type 0
NotAfterIsTheLastGoodSecond =
    Then
    (queried (january 10) (Status 5) (StatusIs Good)
    ∷ queried (january 10 + 1) (Status 5) (StatusIs Expired)
    ∷ [])

-- time moves the counts, and the clock does not go back
abbrev pub TimeMovesTheCounts : Type 0
TimeMovesTheCounts =
    Then
    (queried (january 10) Counts (counted 1 0 0)
    ∷ queried (january 10 + 1) Counts (counted 0 0 1)
    ∷ decided (january 10 + 1) (Subscriber (codes "b")) (SubscriberIs 2)
    ∷ refuse (january 10) (Subscriber (codes "c")) (ClockBack (january 10 + 1))
    ∷ deny (january 10) Counts (ClockBack (january 10 + 1))
    ∷ [])

-- a revocation at the deadline of its request is in time
abbrev pub TheDeadlineIsInTime : Type 0
TheDeadlineIsInTime =
    Then
    (decided (january 2) (Request 5 (codes "key-compromise")) (RequestIs 1 (january 3))
    ∷ queried (january 3) Overdue (OverdueAre None)
    ∷ decided (january 3) (Revoke 1) (RevokedNow false)
    ∷ [])

-- a revocation a second after the deadline of its request is late
abbrev pub ASecondLaterIsLate : Type 0
ASecondLaterIsLate =
    Then
    (decided (january 2) (Request 5 (codes "key-compromise")) (RequestIs 1 (january 3))
    ∷ queried (january 3 + 1) Overdue (OverdueAre (Some (record { count = 1; first = 1 })))
    ∷ decided (january 3 + 1) (Revoke 1) (RevokedNow true)
    ∷ queried (january 3 + 1) (Status 5) (StatusIs (Revoked (january 3 + 1) 1))
    ∷ [])

-- each CRL after a revocation lists it while its certificate is not past notAfter; the CRL before the revocation does not
abbrev pub EachCrlListsARevocation : Type 0
EachCrlListsARevocation =
    Then
    (decided (january 2) (Request 5 (codes "superseded")) (RequestIs 1 (january 3))
    ∷ decided (january 2) IssueCrl (CrlIs 1 0)
    ∷ decided (january 2 + 60) (Revoke 1) (RevokedNow false)
    ∷ decided (january 2 + 60) IssueCrl (CrlIs 2 1)
    ∷ decided (january 3) IssueCrl (CrlIs 3 1)
    ∷ crl_has 1 []
    ∷ crl_has 2 (entry 5 (january 2 + 60) 4 ∷ [])
    ∷ crl_has 3 (entry 5 (january 2 + 60) 4 ∷ [])
    ∷ queried (january 3) (Listing 5) (ListingIs (Some (record { first = 2; last = None })))
    ∷ [])

-- the last CRL that lists a revocation is the first one past the certificate's notAfter
abbrev pub TheLastListingIsPastTheEnd : Type 0
TheLastListingIsPastTheEnd =
    Then
    (decided (january 2) (Request 5 (codes "superseded")) (RequestIs 1 (january 3))
    ∷ decided (january 2) (Revoke 1) (RevokedNow false)
    ∷ decided (january 10) IssueCrl (CrlIs 1 1)
    ∷ decided (january 10 + 1) IssueCrl (CrlIs 2 1)
    ∷ decided (january 10 + 1) IssueCrl (CrlIs 3 0)
    ∷ crl_has 2 (entry 5 (january 2) 4 ∷ [])
    ∷ crl_has 3 []
    ∷ queried (january 10 + 1) (Listing 5) (ListingIs (Some (record { first = 1; last = Some 2 })))
    ∷ queried (january 10 + 1) (Status 5) (StatusIs (Revoked (january 2) 4))
    ∷ [])

-- a revocation is listed once if the first CRL after it is issued long after notAfter
abbrev pub ALateCrlListsOnce : Type 0
ALateCrlListsOnce =
    Then
    (decided (january 10 - 3600) (Request 5 (codes "cessation")) (RequestIs 1 (january 11 - 3600))
    ∷ decided (january 10 - 3600) (Revoke 1) (RevokedNow false)
    ∷ decided (january 40 - 90000) IssueCrl (CrlIs 1 1)
    ∷ decided (january 40 - 90000) IssueCrl (CrlIs 2 0)
    ∷ crl_has 1 (entry 5 (january 10 - 3600) 5 ∷ [])
    ∷ crl_has 2 []
    ∷ queried (january 40 - 90000) (Listing 5) (ListingIs (Some (record { first = 1; last = Some 1 })))
    ∷ [])

-- a request needs the name of a ground, and `hold` is none; a serial number is revoked once; a request for a revoked certificate is not overdue
abbrev pub OneRevocationOfASerialNumber : Type 0
OneRevocationOfASerialNumber =
    Then
    (refuse (january 2) (Request 5 (codes "hold")) NoHold
    ∷ refuse (january 2) (Request 5 (codes "lost")) BadGround
    ∷ decided (january 2) (Request 5 (codes "asked")) (RequestIs 1 (january 3))
    ∷ decided (january 2) (Request 5 (codes "asked")) (RequestIs 2 (january 3))
    ∷ decided (january 2) (Revoke 1) (RevokedNow false)
    ∷ refuse (january 2) (Revoke 2) (RevokedBefore (january 2))
    ∷ queried (january 5) Overdue (OverdueAre None)
    ∷ [])

-- the next CRL is due a week after the latest one, or a day after a revocation that no CRL has listed yet
abbrev pub TheNextCrlIsDue : Type 0
TheNextCrlIsDue =
    Then
    (decided (january 2) IssueCrl (CrlIs 1 0)
    ∷ queried (january 2) NextCrl (NextCrlIs (Some (january 9)))
    ∷ decided (january 3) (Request 5 (codes "asked")) (RequestIs 1 (january 4))
    ∷ decided (january 3) (Revoke 1) (RevokedNow false)
    ∷ queried (january 3) NextCrl (NextCrlIs (Some (january 4)))
    ∷ decided (january 3 + 3600) IssueCrl (CrlIs 2 1)
    ∷ queried (january 3 + 3600) NextCrl (NextCrlIs (Some (january 10 + 3600)))
    ∷ [])

-- the next CRL is due at nextUpdate of the latest one, if that is sooner: here two days after thisUpdate
abbrev pub TheNextCrlIsDueByNextUpdate : Type 0
TheNextCrlIsDueByNextUpdate =
    DayUnder
    (record usual { crl_life = 172800 })
    (decided (january 2) IssueCrl (CrlIs 1 0)
    ∷ queried (january 2) NextCrl (NextCrlIs (Some (january 4)))
    ∷ queried (january 6) NextCrl (NextCrlIs (Some (january 4)))
    ∷ [])

-- six more grounds, each with its limit and its reason, and the CRL with its entries in ascending order of serial number
abbrev pub EachGroundHasItsLimitAndReason : Type 0
EachGroundHasItsLimitAndReason =
    Then
    (decided (january 1) (Order 1 398) (OrderIs 2)
    ∷ decided (january 1) (Register 2 9 (january 1) (january 20)) Registered
    ∷ decided (january 1) (Order 1 398) (OrderIs 3)
    ∷ decided (january 1) (Register 3 8 (january 1) (january 20)) Registered
    ∷ decided (january 1) (Order 1 398) (OrderIs 4)
    ∷ decided (january 1) (Register 4 10 (january 1) (january 20)) Registered
    ∷ decided (january 1) (Order 1 398) (OrderIs 5)
    ∷ decided (january 1) (Register 5 6 (january 1) (january 20)) Registered
    ∷ decided (january 1) (Order 1 398) (OrderIs 6)
    ∷ decided (january 1) (Register 6 11 (january 1) (january 20)) Registered
    ∷ decided (january 1) (Order 1 398) (OrderIs 7)
    ∷ decided (january 1) (Register 7 7 (january 1) (january 20)) Registered
    ∷ decided (january 2) (Request 9 (codes "unauthorized")) (RequestIs 1 (january 3))
    ∷ decided (january 2) (Request 8 (codes "control-lost")) (RequestIs 2 (january 3))
    ∷ decided (january 2) (Request 10 (codes "affiliation")) (RequestIs 3 (january 3))
    ∷ decided (january 2) (Request 6 (codes "name-not-permitted")) (RequestIs 4 (january 7))
    ∷ decided (january 2) (Request 11 (codes "nonconforming")) (RequestIs 5 (january 7))
    ∷ decided (january 2) (Request 7 (codes "inaccurate")) (RequestIs 6 (january 7))
    ∷ decided (january 3 + 1) (Revoke 1) (RevokedNow true)
    ∷ decided (january 3 + 2) (Revoke 2) (RevokedNow true)
    ∷ decided (january 3 + 3) (Revoke 3) (RevokedNow true)
    ∷ decided (january 3 + 4) (Revoke 4) (RevokedNow false)
    ∷ decided (january 3 + 5) (Revoke 5) (RevokedNow false)
    ∷ decided (january 3 + 6) (Revoke 6) (RevokedNow false)
    ∷ decided (january 4) IssueCrl (CrlIs 1 6)
    ∷ crl_has
    1
    (entry 6 (january 3 + 4) 5
    ∷ entry 7 (january 3 + 6) 9
    ∷ entry 8 (january 3 + 2) 4
    ∷ entry 9 (january 3 + 1) 9
    ∷ entry 10 (january 3 + 3) 3
    ∷ entry 11 (january 3 + 5) 4
    ∷ [])
    ∷ queried (january 4) (Status 6) (StatusIs (Revoked (january 3 + 4) 5))
    ∷ queried (january 4) Counts (counted 1 6 0)
    ∷ [])

-- no row is added to a table with as many rows as the policy allows; this refusal is the last that is checked
abbrev pub AFullTableTakesNoMore : Type 0
AFullTableTakesNoMore =
    DayUnder
    (record usual { cap = 1 })
    (decided (january 1) (Subscriber (codes "acme")) (SubscriberIs 1)
    ∷ decided (january 1) (Order 1 398) (OrderIs 1)
    ∷ decided (january 1) (Register 1 5 (january 1) (january 10)) Registered
    ∷ refuse (january 1) (Subscriber (codes "b")) Full
    ∷ refuse (january 1) (Subscriber (codes "acme")) (NameTaken 1)
    ∷ decided (january 1) (Register 1 5 (january 1) (january 10)) Same
    ∷ [])

-- a declined request stays declined
abbrev pub ADeclinedRequestStaysSo : Type 0
ADeclinedRequestStaysSo =
    Then
    (decided (january 2) (Request 5 (codes "misuse")) (RequestIs 1 (january 7))
    ∷ decided (january 2) (Decline 1) Declined
    ∷ refuse (january 2) (Decline 1) DeclinedBefore
    ∷ refuse (january 2) (Revoke 1) DeclinedBefore
    ∷ [])

-- the refusals of commands and queries that no other example has; also an order of 0 days
abbrev pub EachRefusalHasItsCase : Type 0
EachRefusalHasItsCase =
    Then
    (refuse (january 1) (Subscriber (codes "a!")) BadName
    ∷ refuse (january 1) (Order 7 10) NoSubscriber
    ∷ refuse (january 1) (Order 1 0) (BadDays 398)
    ∷ refuse (january 1) (Register 9 6 (january 1) (january 2)) NoOrder
    ∷ decided (january 1) (Order 1 10) (OrderIs 2)
    ∷ refuse (january 1) (Register 2 6 (january 2) (january 1)) BadValidity
    ∷ refuse (january 5) (Register 2 6 (january 1) (january 4)) Ended
    ∷ refuse (january 5) (Request 6 (codes "asked")) UnknownSerial
    ∷ refuse (january 10 + 1) (Request 5 (codes "asked")) ExpiredBefore
    ∷ refuse (january 10 + 1) (Revoke 1) NoRequest
    ∷ queried (january 10 + 1) (Listing 5) (ListingIs None)
    ∷ deny (january 10 + 1) (Listing 6) UnknownSerial
    ∷ [])

-- the clock ends at 9999-12-22T00:00:00Z
abbrev pub TheClockEnds : Type 0
TheClockEnds =
    Then
    (queried 253401436799 Counts (counted 0 0 1)
    ∷ deny 253401436800 Counts ClockEnd
    ∷ refuse 253401436800 IssueCrl ClockEnd
    ∷ [])

-- the longest validity is that of the last step not after notBefore: 398 days, and 200 from 2026-03-15 on
abbrev pub TheScheduleGoesByNotBefore : Type 0
TheScheduleGoesByNotBefore =
    DayUnder
    (record usual { schedule = (0, 398) ∷ (1773532800, 200) ∷ [] })
    (decided (january 1) (Subscriber (codes "acme")) (SubscriberIs 1)
    ∷ decided (january 1) (Order 1 398) (OrderIs 1)
    ∷ decided (january 1) (Order 1 398) (OrderIs 2)
    ∷ refuse (january 1) (Order 1 399) (BadDays 398)
    ∷ refuse (january 1) (Register 1 5 1773532800 1790812800) TooLong
    ∷ decided (january 1) (Register 1 5 1773532800 1790812799) Registered
    ∷ refuse (january 1) (Register 2 6 1773532799 1807919999) TooLong
    ∷ decided (january 1) (Register 2 6 1773532799 1807919998) Registered
    ∷ [])
