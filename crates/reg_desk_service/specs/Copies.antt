-- A copy of a register: the word `copy` at the control socket, and its reply.
use Rattle.std.specs.Prelude.{◌≡◌, ◌⊎◌, ℕ, Bool, List, [], ◌∷◌, ◌++◌, ◌==◌, codes, decimal}
use Rattle.std.specs.List.{starts_with}
use Rattle.reg_core.specs.Lines.{fault_line}
use Rattle.reg_core.specs.declared.refusal.Fault.{Fault}
use Rattle.reg_office_api.specs.LookUps.{IsOfStore}

-- whether a line asks for a copy: it begins with `copy` and a space
abbrev pub is_copy_line : List ℕ → Bool
is_copy_line line = starts_with (λ a b. a == b) line (codes "copy ")

-- the reply after a copy: how many bytes it has, and in how many milliseconds it was created
unfoldable pub copied_text : ℕ → ℕ → List ℕ
copied_text bytes millis =
    codes "copied " ++ decimal bytes ++ codes " bytes in " ++ decimal millis ++ codes " ms\n"

-- the reply: that a copy was created, or the fault because of which none was; or empty, if there was no memory for it
abbrev pub AnswersCopy : (ℕ → Type 0) → List ℕ → Type 0
AnswersCopy Copied text =
    ((bytes millis : ℕ) × Copied bytes × (text ≡ copied_text bytes millis))
    ⊎ (((fault : Fault) × IsOfStore fault × (text ≡ fault_line fault ++ 10 ∷ [])) ⊎ (text ≡ []))
