-- The line on standard error and the exit status of each failure.
use Rattle.std.specs.Prelude.{ℕ, List, codes, Result, Ok, Err}
use Rattle.reg_core.specs.Lines.{fault_line}
use Rattle.reg_desk_cli.specs.declared.failure.Failure.{Failure}
use Rattle.reg_desk_cli.specs.declared.failure.Failure.TheVariants as failure
use Rattle.reg_store_tables.specs.declared.fault.StoreFault.{StoreFault}
use Rattle.reg_store_tables.specs.declared.fault.StoreFault.TheVariants as stored
use Rattle.reg_core.specs.declared.refusal.Fault.TheVariants as fault

-- the line of standard error for a failure, without its LF; for `RefusedNoLineEnd`, two lines with an LF between them
unfoldable pub failure_line : Failure → List ℕ
failure_line (failure.Fault fault) = fault_line fault
failure_line failure.NotEmpty = codes "not-empty"
failure_line failure.NotARegister = codes "not-a-register"
failure_line failure.NewVersion = codes "new-version"
failure_line failure.OldVersion = codes "old-version"
failure_line failure.BadIssuer = codes "bad-issuer"
failure_line failure.BadPolicy = codes "bad-policy"
failure_line failure.BadClock = codes "bad-clock"
failure_line failure.BadSigner = codes "bad-signer"
failure_line failure.BadResponder = codes "bad-responder"
failure_line failure.Refused = codes "refused"
failure_line failure.NoLineEnd = codes "no-line-end"
failure_line failure.RefusedNoLineEnd = codes "refused\nno-line-end"
failure_line failure.Broken = codes "broken"
failure_line failure.NotACrl = codes "not-a-crl"
failure_line failure.LacksPublished = codes "behind-crl"
failure_line failure.Diverged = codes "diverged"
failure_line failure.BrokenFeed = codes "broken-feed"
failure_line failure.TooFarBehind = codes "too-far-behind"
failure_line failure.IsFollower = codes "follower"
failure_line failure.Behind = codes "behind"

-- the exit status: 0 if the job is done; 3 for `Refused`, `NoLineEnd` and `RefusedNoLineEnd`; else 1
abbrev pub exit_status : {T : Type 0} → Result T Failure → ℕ
exit_status (Ok done) = 0
exit_status (Err failure.Refused) = 3
exit_status (Err failure.NoLineEnd) = 3
exit_status (Err failure.RefusedNoLineEnd) = 3
exit_status (Err (failure.Fault fault)) = 1
exit_status (Err failure.NotEmpty) = 1
exit_status (Err failure.NotARegister) = 1
exit_status (Err failure.NewVersion) = 1
exit_status (Err failure.OldVersion) = 1
exit_status (Err failure.BadIssuer) = 1
exit_status (Err failure.BadPolicy) = 1
exit_status (Err failure.BadClock) = 1
exit_status (Err failure.BadSigner) = 1
exit_status (Err failure.BadResponder) = 1
exit_status (Err failure.Broken) = 1
exit_status (Err failure.NotACrl) = 1
exit_status (Err failure.LacksPublished) = 1
exit_status (Err failure.Diverged) = 1
exit_status (Err failure.BrokenFeed) = 1
exit_status (Err failure.TooFarBehind) = 1
exit_status (Err failure.IsFollower) = 1
exit_status (Err failure.Behind) = 1

-- the failure of a job whose register can't be created, opened or changed
abbrev pub store_failure : StoreFault → Failure
store_failure stored.Memory = failure.Fault fault.Memory
store_failure stored.Store = failure.Fault fault.Store
store_failure stored.NotEmpty = failure.NotEmpty
store_failure stored.NotARegister = failure.NotARegister
store_failure stored.NewVersion = failure.NewVersion
