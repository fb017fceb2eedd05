-- A text that is told in two writes, a port that is told whole or not, and one that is not bound.
use Rattle.std.proofs.Common.{◌≡◌, ◌⊎◌, ℕ, List, [], ◌∷◌, ◌++◌, Option, Result, Ok, Err, OnErr, OnOk, refl, sym, subst, ap, ◌∙◌, inl, inr}
use Rattle.std.specs.Io.KnownBytes.{Appends}
use Rattle.std.proofs.KnownBytes.{Appends-trans}
use Rattle.reg_io.proofs.PublicLaws.{front_of_first, front_of_second}
use Rattle.reg_desk_cli.specs.declared.failure.Failure.{Failure}
use Rattle.reg_desk_server.specs.Exchange.{Input, requests_in}
use Rattle.reg_desk_jobs.specs.Ends.{PrintsText}
use Rattle.reg_core.specs.declared.refusal.Fault.TheVariants as fault
use Rattle.reg_desk_cli.specs.declared.failure.Failure.TheVariants as failure
use Rattle.reg_desk_jobs.specs.Serving.{Served, Unbound, listening}
use Rattle.reg_desk_service.specs.FailureReports.{IsReportedLine, IsWritten}

-- a line, and then its end
pub line_and_lf : (old middle new : Option (List ℕ)) (line : List ℕ) → Appends old middle line → IsWritten middle new (10 ∷ [])
    → IsReportedLine old new line
line_and_lf old middle new line first (inl second) = inl (Appends-trans old middle new line (10 ∷ []) first second)
line_and_lf old middle new line first (inr front) = inr (front_of_second old middle new line (10 ∷ []) first front)

-- a second part is said, after the first
pub says_then : (head body : List ℕ) (old middle new : Option (List ℕ)) (result : Result (Unit {0}) Failure)
    → Appends old middle head → PrintsText body middle new result → PrintsText (head ++ body) old new result
says_then head body old middle new (Ok done) first second = Appends-trans old middle new head body first second
says_then head body old middle new (Err why) first second = (second.0, front_of_second old middle new head body first second.1)

-- the first part is not said whole
pub says_not : (head body : List ℕ) (old new : Option (List ℕ)) (why : Failure) → PrintsText head old new (Err why)
    → PrintsText (head ++ body) old new (Err why)
says_not head body old new why first = (first.0, front_of_first old new head body first.1)

-- a port that is not told whole
pub memory_answer : (port requests : ℕ) (Early : Type 0) (old new : Option (List ℕ)) (why : Failure) → PrintsText (listening port) old new (Err why)
    → Served port requests Early [] old new (Err why)
memory_answer port requests Early old new why said =
    let P : Failure → Type 0 = λ w. Served port requests Early [] old new (Err w) in
    subst P (sym said.0) (refl, said.1)

-- a port that is not bound
pub unbound : (why : Failure) → (why ≡ failure.Fault fault.Read) ⊎ (why ≡ failure.Fault fault.Memory) → Unbound [] (Err why)
unbound why (inl read) = (refl, inl (ap (λ (w : Failure). Err w) read))
unbound why (inr memory) = (refl, inr (ap (λ (w : Failure). Err w) memory))

-- the same of other inputs with as many requests, of a handler that does not end the loop
pub served_by : (port requests : ℕ) (Early : Type 0) (inputs others : List Input) (out out' : Option (List ℕ)) (result : Result (Unit {0}) Failure)
    → requests_in others ≡ requests_in inputs → (inputs ≡ [] → others ≡ []) → Served port requests (Early ⊎ ⊥) inputs out out' result
    → Served port requests Early others out out' result
served_by port requests Early inputs others out out' (Ok done) count none served = (count ∙ served.0, served.1)
served_by port requests Early inputs others out out' (Err (failure.Fault fault.Read)) count none served =
    (λ same. served.0 (sym count ∙ same), elim served.1 [ inl early ↦ early | inr bad ↦ absurd bad ], served.2)
served_by port requests Early inputs others out out' (Err (failure.Fault fault.Write)) count none served = (none served.0, served.1)
served_by port requests Early inputs others out out' (Err other) count none served = absurd served

-- a loop that did not complete ended early
pub ended_early : {T E : Type 0} {Complete Early : Type 0} (result : Result T E) → OnOk result Complete → OnErr result Early → (Complete → ⊥) → Early
ended_early (Ok done) complete early not = absurd (not complete)
ended_early (Err why) complete early not = early
