-- The pages that a new copy fetches.
use Rattle.std.proofs.Common.{◌≡◌, ℕ, false, List, [], ◌∷◌, ◌++◌, Some, Ok, Err, refl, subst, sym}
use Rattle.std.specs.Prelude.{Option, Result}
use Rattle.reg_core_lists.specs.ReceivedPages.{IsReadable, Received, received_of, received_text}
use Rattle.reg_core_lists.specs.declared.feed_reader.PageFault.{PageFault}
use Rattle.reg_core_lists.specs.declared.feed_reader.PageFault.TheVariants as page
use Rattle.reg_core_lists.specs.declared.feed_reader.ReceivedPage.{ReceivedPage}
use Rattle.reg_core_lists.specs.declared.positions.Positions.{Positions}
use Rattle.reg_desk_jobs.specs.Fetches.{CamePage, CameResponse, ComesOnce, LeadFrom}
use Rattle.reg_desk_metrics.specs.Followers.{failure_of_page}
use Rattle.reg_desk_metrics.specs.declared.follower_status.FeedFailure.{FeedFailure}

abbrev UnlessMemory : PageFault → Type 0
UnlessMemory page.Memory = ⊥
UnlessMemory page.Version = Unit {0}
UnlessMemory page.Malformed = Unit {0}

-- a body that can't be read
pub comes_unread : (after : Option Positions) (body : List ℕ) (why : PageFault) → CameResponse after 200 body
    → ((it : Received) → IsReadable it → body ≡ received_text it → why ≡ page.Memory) → ComesOnce after (Err (failure_of_page why))
comes_unread after body page.Version came only =
    record { body = body; came = came; no_page = λ it readable is. subst UnlessMemory (only it readable is) tt }
comes_unread after body page.Malformed came only =
    record { body = body; came = came; no_page = λ it readable is. subst UnlessMemory (only it readable is) tt }
comes_unread after body page.Memory came only = tt

-- a page that was read
pub comes_read : (after : Option Positions) (body : List ℕ) (result : Result ReceivedPage FeedFailure) (page : ReceivedPage) → CameResponse after 200 body
    → result ≡ Ok page → body ≡ received_text (received_of page) → ComesOnce after result
comes_read after body result page came is text_is = subst (ComesOnce after) (sym is) (subst (CameResponse after 200) text_is came)

-- one more page
pub lead_then : (after : Option Positions) (pages : List ReceivedPage) (reached : Option Positions) (page : ReceivedPage) → LeadFrom after pages reached
    → CamePage reached page → page.ends ≡ false → LeadFrom after (pages ++ page ∷ []) (Some page.positions)
lead_then after [] reached page leads came goes = (subst (λ it. CamePage it page) leads came, goes, refl)
lead_then after (first ∷ pages) reached page leads came goes =
    (leads.0, leads.1, lead_then (Some first.positions) pages reached page leads.2 came goes)
