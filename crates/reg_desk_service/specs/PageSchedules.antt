-- The schedule in the text of a page of the changes feed.
use Rattle.std.specs.Prelude.{◌≡◌, ℕ, ◌==◌, List, [], ◌∷◌, length, take, drop, codes, if◌then◌else◌, Option, Some, None}
use Rattle.std.specs.List.{position, starts_with}
use Rattle.reg_core_lists.specs.ReceivedPages.{received_of, received_text}
use Rattle.reg_core_lists.specs.declared.feed_reader.ReceivedPage.{ReceivedPage}
use Rattle.reg_office_api.specs.Follows.{IsLastOf}

-- what follows the first place at which a text has this part
abbrev pub after_part : List ℕ → List ℕ → Option (List ℕ)
after_part part [] = None
after_part part (first ∷ rest) =
    if starts_with (λ a b. a == b) (first ∷ rest) part then Some (drop (length part) (first ∷ rest))
    else after_part part rest

-- the first line of a text, by the index of its LF (10); empty if the text has no LF
abbrev pub line_before : List ℕ → Option ℕ → List ℕ
line_before text None = []
line_before text (Some end) = take end text

abbrev pub whole_first_line : List ℕ → List ℕ
whole_first_line text = line_before text (position (λ b. b == 10) text)

abbrev pub steps_after : Option (List ℕ) → List ℕ
steps_after None = []
steps_after (Some line) = whole_first_line line

-- the steps of the schedule in a page: the rest of the first line that begins with `schedule`; empty if there is none
abbrev pub steps_in : List ℕ → List ℕ
steps_in page = steps_after (after_part (codes "\nschedule ") page)

-- the steps of the schedule in the text of the last of these pages
abbrev pub HasLastSteps : List ReceivedPage → List ℕ → Type 0
HasLastSteps pages steps =
    (page : ReceivedPage) × IsLastOf pages page × (steps ≡ steps_in (received_text (received_of page)))
