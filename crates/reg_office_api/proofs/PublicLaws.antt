-- How calls of an office compose, for proofs above: they cite these alone.

use Rattle.std.proofs.Common.{◌≡◌, List, [], ◌∷◌, refl, sym, subst}
use Rattle.reg_io.specs.RunsOfAnswers.{Answered}
use Rattle.reg_office_api.specs.Leads.{Leads}
pub use Rattle.reg_office_api.proofs.Drafting.{signed_response, unsigned_response}
pub use Rattle.reg_office_api.proofs.Happening.{happens_by}

module _ {S I R : Type 0} (is_clean : S → Type 0) (stands : I → S → R → Type 0) where
  -- an office that stays as it is
  pub stays : (s t : S) → t ≡ s → Leads is_clean stands (λ i before after. after ≡ before) s t
  stays s t same = (
    (λ clean. subst is_clean same clean),
    (λ i before stood clean.
        let P : S → Type 0 = λ v. stands i v before in
        (before, refl, subst P (sym same) stood)),
  )

  -- a step that another one follows from
  pub follows : (step other : I → R → R → Type 0) → ((i : I) (before after : R) → step i before after → other i before after)
      → (s t : S) → Leads is_clean stands step s t → Leads is_clean stands other s t
  follows step other from s t moved = (
    moved.0,
    (λ i before stood clean.
        let (after, made, stands_now) = moved.1 i before stood clean in
        (after, from i before after made, stands_now)),
  )

  -- one call, and another
  pub chains : (first next : I → R → R → Type 0) (s m t : S) → Leads is_clean stands first s m → Leads is_clean stands next m t
      → Leads is_clean stands (λ i before after. (middle : R) × first i before middle × next i middle after) s t
  chains first next s m t one two = (
    (λ clean. one.0 (two.0 clean)),
    (λ i before stood clean.
        let (middle, made, stands_there) = one.1 i before stood (two.0 clean) in
        let (after, made_next, stands_now) = two.1 i middle stands_there clean in
        (after, (middle, made, made_next), stands_now)),
  )

  -- a run of an office is a run of its records
  pub runs : {Q A : Type 0} (answers : S → Q → A → S → Type 0) (kept : I → R → Q → A → R → Type 0)
      → ((s : S) (q : Q) (a : A) (t : S) → answers s q a t → Leads is_clean stands (λ i before after. kept i before q a after) s t)
      → (s t : S) (asked : List Q) (given : List A) → Answered answers s asked given t
      → Leads is_clean stands (λ i before after. Answered (kept i) before asked given after) s t
  runs answers kept lifts s t [] [] run = stays s t run
  runs answers kept lifts s t [] (a ∷ given) run = absurd run
  runs answers kept lifts s t (q ∷ asked) [] run = absurd run
  runs answers kept lifts s t (q ∷ asked) (a ∷ given) run =
      chains
      (λ i before after. kept i before q a after)
      (λ i before after. Answered (kept i) before asked given after)
      s
      run.0
      t
      (lifts s q a run.0 run.1)
      (runs answers kept lifts run.0 t asked given run.2)
