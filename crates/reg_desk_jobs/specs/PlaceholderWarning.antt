-- The first CRL of a register, if it has a placeholder digest.
use Rattle.std.specs.Prelude.{◌≡◌, ℕ, List, codes, Ok}
use Rattle.reg_core.specs.declared.command.Reply.TheVariants as reply
use Rattle.reg_lines.specs.declared.answered.Answered.{Answered}
use Rattle.reg_lines.specs.declared.answered.Answered.TheVariants.{Completed}
use Rattle.reg_lines.specs.declared.answered.LineKind.{LineKind}

-- the reply says that CRL 1, the first of its register, was issued
abbrev pub IsFirstCrl : Answered → Type 0
IsFirstCrl answered =
    (what : LineKind) × (entries : ℕ) × (answered ≡ Completed what (Ok (reply.Crl 1 entries)))

-- the warning that CRL 1 has a placeholder digest, with its LF
unfoldable pub placeholder_warning : List ℕ
placeholder_warning =
    codes "warning: CRL 1 has a placeholder digest instead of a signature, which no client accepts; to sign the next one: --signer SOCKET --algorithm NAME\n"
