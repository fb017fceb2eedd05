-- A list that is given page by page.
use Rattle.std.proofs.Common.{◌≡◌, ℕ, suc, List, [], ◌∷◌, ◌++◌, append_assoc, append-nil, Option, None, Some, Ok, refl, sym, ap, subst, ◌∙◌}
use Rattle.std.specs.List.{filter, flat_map}
use Rattle.std.proofs.lemmas.List.Elements.{filter-append}
use Rattle.reg_core.specs.Checks.{clock_checks, first_refusal}
use Rattle.reg_core.specs.Records.{Records}
use Rattle.reg_office_api.specs.Leads.{Leads}
use Rattle.reg_office_api.specs.Signers.{OfficeSigners}
use Rattle.reg_office_api.proofs.PublicLaws.{chains, follows, stays}
use Rattle.reg_core_lists.specs.Filters.{keeps}
use Rattle.reg_core_lists.specs.Lists.{rows_from}
use Rattle.reg_core_lists.specs.Pages.{IsPageOfSoundRows, Pages}
use Rattle.reg_core_lists.specs.Texts.{opening_text, row_text}
use Rattle.reg_core_lists.specs.declared.cursor.Cursor.{Cursor}
use Rattle.reg_core_lists.specs.declared.filter.Filter.{Filter}
use Rattle.reg_core_lists.specs.declared.rows.Page.{Page}
use Rattle.reg_core_lists.specs.declared.rows.Row.{Row}
use Rattle.reg_core_lists.specs.declared.texts.Format.{Format}
use Rattle.reg_core_lists.proofs.PublicLaws.{page_step, rest_of}

-- so much of a list was given: the rows of its pages so far, and where the next one goes on
abbrev pub IsGoing : ℕ → Cursor → List Row → Option Cursor → OfficeSigners → Records → Records → Type 0
IsGoing now from done next identity before after =
    (after ≡ before) × (rows_from before now from ≡ done ++ rest_of before now next) × (next ≡ None → first_refusal (clock_checks now before.last) ≡ None)

-- those of them that are wanted, as a text
abbrev pub IsText : Format → Filter → Cursor → List Row → List ℕ → Type 0
IsText form wanted from done text = text ≡ opening_text form from ++ flat_map (row_text form) (filter (keeps wanted) done)

flat_append : {A B : Type 0} (f : A → List B) (xs ys : List A) → flat_map f (xs ++ ys) ≡ flat_map f xs ++ flat_map f ys
flat_append f [] ys = refl
flat_append f (x ∷ xs) ys = ap (λ l. f x ++ l) (flat_append f xs ys) ∙ sym (append_assoc (f x) (flat_map f xs) (flat_map f ys))

-- the text with the rows of one page more
pub text_more : (form : Format) (wanted : Filter) (from : Cursor) (done rows : List Row) (text more : List ℕ) → IsText form wanted from done text
    → more ≡ text ++ flat_map (row_text form) (filter (keeps wanted) rows) → IsText form wanted from (done ++ rows) more
text_more form wanted from done rows text more is longer =
    let kept = filter (keeps wanted) in
    longer ∙ ap (λ l. l ++ flat_map (row_text form) (kept rows)) is
    ∙ append_assoc (opening_text form from) (flat_map (row_text form) (kept done)) (flat_map (row_text form) (kept rows))
    ∙ ap (λ l. opening_text form from ++ l) (sym (flat_append (row_text form) (kept done) (kept rows)))
    ∙ ap (λ l. opening_text form from ++ flat_map (row_text form) l) (sym (filter-append (keeps wanted) done rows))

pub text_begun : (form : Format) (wanted : Filter) (from : Cursor) (text : List ℕ) → text ≡ opening_text form from → IsText form wanted from [] text
text_begun form wanted from text is = is ∙ sym (append-nil (opening_text form from))

-- What stands in a register before and after.
module _ {S : Type 0} (is_clean : S → Type 0) (stands : OfficeSigners → S → Records → Type 0) (now m : ℕ) (from : Cursor) where
  -- nothing yet
  pub begun : (s : S) → Leads is_clean stands (IsGoing now from [] (Some from)) s s
  begun s =
      follows is_clean stands (λ identity before after. after ≡ before) (IsGoing now from [] (Some from))
      (λ identity before after same. (same, refl, (λ none. absurd (cc)))) s s (stays is_clean stands s s refl)

  -- one page more
  pub gone_on : (s t u : S) (done : List Row) (at : Cursor) (given : Page) → Leads is_clean stands (IsGoing now from done (Some at)) s t
      → Leads is_clean stands (λ identity before after. Pages before now (suc m) at (Ok given) after) t u
      → Leads is_clean stands (IsGoing now from (done ++ given.rows.items) given.next) s u
  gone_on s t u done at given first next =
      follows is_clean stands
      (λ identity before after. (middle : Records) × IsGoing now from done (Some at) identity before middle × Pages middle now (suc m) at (Ok given) after)
      (IsGoing now from (done ++ given.rows.items) given.next)
      (λ identity before after made.
      let middle = made.0 in
      let paged : IsPageOfSoundRows before now (suc m) at (Ok given) = subst (λ records. IsPageOfSoundRows records now (suc m) at (Ok given)) made.1.0 made.2.0 in
      let is = paged.1.1 in (
        made.2.1 ∙ made.1.0,
        made.1.1 ∙ ap (λ l. done ++ l) (page_step before now m paged.0 at ∙ (λ i. sym is.rows i ++ rest_of before now (sym is.next i)))
            ∙ sym (append_assoc done given.rows.items (rest_of before now given.next)),
        (λ none. paged.1.0),
      ))
      s
      u
      (chains is_clean stands (IsGoing now from done (Some at)) (λ identity before after. Pages before now (suc m) at (Ok given) after) s t u first next)
