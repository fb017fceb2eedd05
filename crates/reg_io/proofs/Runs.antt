-- Lemmas on runs: requests that are answered one after another.
use Rattle.std.proofs.Common.{List, [], ◌∷◌, ◌++◌, refl, subst}
use Rattle.reg_io.specs.RunsOfAnswers.{Answered}

-- a run, and another from where it ended
pub answered_append : {S Q A : Type 0} (answers : S → Q → A → S → Type 0) (s m t : S) (qs : List Q) (as' : List A) (ps : List Q) (bs : List A)
    → Answered answers s qs as' m → Answered answers m ps bs t → Answered answers s (qs ++ ps) (as' ++ bs) t
answered_append answers s m t [] [] ps bs first rest = subst (λ v. Answered answers v ps bs t) first rest
answered_append answers s m t [] (a ∷ as') ps bs first rest = absurd first
answered_append answers s m t (q ∷ qs) [] ps bs first rest = absurd first
answered_append answers s m t (q ∷ qs) (a ∷ as') ps bs first rest =
    (first.0, first.1, answered_append answers first.0 m t qs as' ps bs first.2 rest)

-- a run, and one more step
pub answered_push : {S Q A : Type 0} (answers : S → Q → A → S → Type 0) (s m t : S) (qs : List Q) (as' : List A) (q : Q) (a : A)
    → Answered answers s qs as' m → answers m q a t → Answered answers s (qs ++ q ∷ []) (as' ++ a ∷ []) t
answered_push answers s m t qs as' q a run step = answered_append answers s m t qs as' (q ∷ []) (a ∷ []) run (t, step, refl)
