use Rattle.std.proofs.Common.{ℕ, List, [], ◌∷◌, length, sym, subst, arith}
use Rattle.std.proofs.lemmas.List.{take_all}
use Rattle.reg_io.specs.Delimiter.{EndsWith}
use Rattle.reg_desk_server.specs.LineEnds.{HasNoLine, IsWholeLines}
use Rattle.reg_desk_service.proofs.control_lines.first_length.Goals as goal

-- whole lines have a line
some_line : (bytes : List ℕ) → HasNoLine bytes → IsWholeLines bytes → ⊥
some_line bytes none whole =
    none (length bytes) (subst (λ (l : List ℕ). EndsWith l (10 ∷ [])) (sym (take_all (length bytes) bytes (omega arith))) whole)

pub returns-in-None : goal.returns-in-None
returns-in-None c = absurd (some_line c.args.lines.now c.in-None.ensures c.requires)
