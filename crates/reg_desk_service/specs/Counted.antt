-- A desk counts each exchange once, when its text is made.
use Rattle.std.specs.Prelude.{◌≡◌, ◌⊎◌, ◌↔◌, ◌<◌, ℕ, Bool, IsTrue, List}
use Rattle.reg_http.specs.declared.exchange.Exchange.{Exchange}
use Rattle.reg_http.specs.declared.exchange.UnsignedResponse.{UnsignedResponse}
use Rattle.reg_desk_server.specs.Exchange.{Outcome, said, pending}
use Rattle.reg_desk_service.specs.ControlReplies.{ReportsLineOutcome, effects_of}
use Rattle.reg_desk_service.specs.declared.control_reply.LineOutcome.{LineOutcome}
use Rattle.reg_desk_service.specs.Exchanges.{IsRouteOf}
use Rattle.reg_desk_service.specs.FinishedResponses.{FinishesUnsigned}
use Rattle.reg_desk_service.specs.declared.unsigned_responses.Unsigned.{Unsigned}
use Rattle.reg_desk_metrics.specs.Tallies.{with_exchange, with_line}
use Rattle.reg_desk_metrics.specs.declared.tally.Tally.{Tally}
use Rattle.reg_io.specs.declared.begun.ReadyOrUnsigned.{ReadyOrUnsigned}
use Rattle.reg_io.specs.declared.begun.ReadyOrUnsigned.TheVariants as begun

-- The outcome of a request at this moment. An exchange that is ready has its text, and is counted, with any duration. A response
-- that is to be signed is not counted yet; it keeps the moment and the route under which it will be counted.
abbrev pub CountsBegun
    : ℕ → List ℕ → ReadyOrUnsigned Exchange UnsignedResponse → Outcome Unsigned → Tally → Tally → Type 0
CountsBegun now request (begun.Ready exchange) (said text) tally tally' =
    (text ≡ exchange.text.items) × IsRouteOf request exchange.route
    × ((micros : ℕ) × (tally' ≡ with_exchange now exchange micros tally))
CountsBegun now request (begun.Unsigned left) (pending unsigned) tally tally' =
    (unsigned.draft ≡ left.draft) × (unsigned.moment ≡ now) × (unsigned.route ≡ left.route)
    × IsRouteOf request left.route × (tally' ≡ tally)
CountsBegun now request begun outcome tally tally' = ⊥

-- this text finishes a response, and its exchange is counted at the response's moment, under its route, with any duration
abbrev pub CountsFinished : (List ℕ → List ℕ → Type 0) → Unsigned → List ℕ → Tally → Tally → Type 0
CountsFinished signer_answered unsigned text tally tally' =
    (it : FinishesUnsigned signer_answered unsigned text) × (it.exchange.route ≡ unsigned.route)
    × ((micros : ℕ) × (tally' ≡ with_exchange unsigned.moment it.exchange micros tally))

-- whether a signature failed between two states of an office, by its counts of failed ones: of CRLs, and of OCSP responses
abbrev pub SignatureFailed : {S : Type 0} → (S → ℕ) → (S → ℕ) → S → S → Type 0
SignatureFailed crls answers before after = (crls before < crls after) ⊎ (answers before < answers after)

-- a line is counted at a moment by a result that its reply shows, by whether a signature failed, and with any duration
abbrev pub CountsLine : Type 0 → ℕ → List ℕ → Tally → Tally → Type 0
CountsLine failed now reply tally tally' =
    (micros : ℕ) × (line_outcome : LineOutcome) × (signature_failed : Bool)
    × ReportsLineOutcome line_outcome reply
    × (IsTrue signature_failed ↔ failed)
    × (tally' ≡ with_line now (effects_of signature_failed line_outcome) micros tally)
