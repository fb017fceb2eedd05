-- Lemmas on decisions: accepted answers, and requests that can be declined or lead to a revocation.
use Rattle.std.proofs.Common.{◌≡◌, true, List, [], ◌∷◌, ◌++◌, refl, ap, Option, Some, None, Result, Ok, IfSome}
use Rattle.std.specs.Prelude.{⊤}
use Rattle.reg_core.specs.Checks.{clock_checks, first_refusal, pending_request_checks}
use Rattle.reg_core.specs.Decisions.{IsDecidedAfterClock, IsDecidedBy, DecidesDecline, DecidesRegister, DecidesRevoke, is_same, revocation_by}
use Rattle.reg_core.specs.declared.refusal.Refusal.{Refusal}
use Rattle.reg_core.specs.declared.rows.Head.{Head}
use Rattle.reg_core.specs.declared.rows.CertRow.{CertRow}
use Rattle.reg_core.specs.declared.rows.CrlRow.{CrlRow}
use Rattle.reg_core.specs.declared.rows.OrderRow.{OrderRow}
use Rattle.reg_core.specs.declared.rows.RequestRow.{RequestRow}
use Rattle.reg_core.specs.declared.rows.RevocationRow.{RevocationRow}

-- an answer made of an accepted one
pub decided_ok : {A B : Type 0} (refusal : Option Refusal) (P : A → Type 0) (Q : B → Type 0) (x : A) (y : B) → IsDecidedBy refusal P (Ok x) → (P x → Q y) → IsDecidedBy refusal Q (Ok y)
decided_ok (Some refused) P Q x y e f = absurd (let bad : ⊥ = cc in bad)
decided_ok None P Q x y p f = f p

-- an answer after checks that were passed
passed
    : {A B : Type 0} (first second : List (Option Refusal)) (P : A → Type 0) (Q : B → Type 0) (x : A) (result : Result B Refusal)
    → IsDecidedBy (first_refusal first) P (Ok x)
    → IsDecidedBy (first_refusal second) Q result
    → IsDecidedBy (first_refusal (first ++ second)) Q result
passed [] second P Q x result accepted next = next
passed (None ∷ rest) second P Q x result accepted next = passed rest second P Q x result accepted next
passed (Some refused ∷ rest) second P Q x result accepted next = absurd (let bad : ⊥ = cc in bad)

-- a certificate that stands registered, equal in all parts, is answered by none
pub stands
    : {A : Type 0} (head : Head) (wanted : CertRow) (order : Option OrderRow) (by_order by_serial : Option CertRow) (x : A)
    → IsDecidedBy (first_refusal (clock_checks head.now head.last)) (λ (answer : A). ⊤) (Ok x)
    → is_same wanted by_serial ≡ true
    → DecidesRegister head wanted order by_order by_serial (Ok None)
stands head wanted order by_order by_serial x clock same =
    rw same (passed (clock_checks head.now head.last) [] (λ answer. ⊤) (λ (row : Option CertRow). row ≡ None) x (Ok None) clock refl)

-- what is made of a looked-up row is made of the same row
pub IfSome-made : {A B : Type 0} (f : A → B) (looked_up : Option A) (x : A) → IfSome looked_up (λ known. x ≡ known) → IfSome looked_up (λ known. f x ≡ f known)
IfSome-made f None x e = e
IfSome-made f (Some known) x e = ap f e

-- the request that can be settled
abbrev pub Settles : Head → Option RequestRow → Option CertRow → Option RevocationRow → Result RequestRow Refusal → Type 0
Settles head request certificate revocation result =
    IsDecidedAfterClock
    head
    (pending_request_checks head.now request certificate revocation)
    (λ row. IfSome request (λ known. row ≡ known))
    result

-- is declined with the mark
pub settles_declined : (head : Head) (request : Option RequestRow) (certificate : Option CertRow) (revocation : Option RevocationRow) (row : RequestRow) → Settles head request certificate revocation (Ok row) → DecidesDecline head request certificate revocation (Ok (record row { declined = true }))
settles_declined head request certificate revocation row settled =
    decided_ok
    _
    (λ (answer : RequestRow). IfSome request (λ known. answer ≡ known))
    (λ (answer : RequestRow). IfSome request (λ known. answer ≡ record known { declined = true }))
    row
    (record row { declined = true })
    settled
    (IfSome-made (λ (known : RequestRow). record known { declined = true }) request row)

-- and leads to its revocation
pub settles_revoked : (head : Head) (request : Option RequestRow) (certificate : Option CertRow) (revocation : Option RevocationRow) (latest : Option CrlRow) (row : RequestRow) → Settles head request certificate revocation (Ok row) → DecidesRevoke head request certificate revocation latest (Ok (revocation_by head row latest))
settles_revoked head request certificate revocation latest row settled =
    decided_ok
    _
    (λ (answer : RequestRow). IfSome request (λ known. answer ≡ known))
    (λ answer. IfSome request (λ known. answer ≡ revocation_by head known latest))
    row
    (revocation_by head row latest)
    settled
    (IfSome-made (λ (known : RequestRow). revocation_by head known latest) request row)
