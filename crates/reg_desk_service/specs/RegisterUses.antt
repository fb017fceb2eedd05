-- What a job does with the registers of a machine.
use Rattle.std.specs.Prelude.{◌≡◌, ℕ, List, Result, Ok, Err}
use Rattle.reg_core.specs.Records.{Records}
use Rattle.reg_core.specs.declared.refusal.Fault.{Fault}
use Rattle.reg_office_api.specs.Signers.{OfficeSigners}
use Rattle.reg_office_api.specs.Leads.{Leads}
use Rattle.reg_office_api.specs.declared.office.Office.{Ghosts as Office}
use Rattle.reg_desk_cli.specs.declared.failure.Failure.{Failure}
use Rattle.reg_desk_cli.specs.declared.failure.Failure.TheVariants as failure
use Rattle.reg_lines.specs.declared.answered.Ended.{Ended}
use Rattle.reg_lines.specs.declared.answered.Ended.TheVariants as ended
use Rattle.reg_desk_service.specs.RegisterFailures.{IsCreateFailure, IsOpenFailure}
use Rattle.reg_desk_service.specs.Registers.{Created, Opened, NotCreated, Unopened}
use Rattle.reg_desk_service.specs.Signers.{Signing}
use Rattle.reg_desk_service.specs.declared.machine.Machine.{Ghosts as Machine}

-- the end of a job, by the result of its run over a register
abbrev pub exit_of : Result (Unit {0}) Fault → Result (Unit {0}) Failure
exit_of (Ok done) = Ok done
exit_of (Err fault) = Err (failure.Fault fault)

-- the end of a job, by the result of its run of lines or rows
abbrev pub exit_of_run : Result Ended Fault → Result (Unit {0}) Failure
exit_of_run (Ok ended.Whole) = Ok tt
exit_of_run (Ok (ended.Refused refused)) = Err failure.Refused
exit_of_run (Ok ended.NoLineEnd) = Err failure.NoLineEnd
exit_of_run (Err fault) = Err (failure.Fault fault)

-- What calls to a machine did: the machine before and after them. No other call that may change it lies between.
module _ {M O D S R : Type 0} (machines : Machine M O D S R) (offices : Office O) (machine machine' : M) where
  -- The register at a path was opened for these signatures, and then closed. `step` relates any records that stood in it to those that stand
  -- in it afterwards, if the disk returned all that was written.
  pub record UsesRegister (path : List ℕ) (signing : Signing)
      (step : OfficeSigners → Records → Records → Type 0) : Type 0 where
    pub first : O
    pub last : O
    pub between : M
    pub opened : Opened machines machine path signing first between
    pub moves : Leads offices.is_clean offices.stands step first last
    pub closed : machines.closed between path last machine'

  -- a register was created at a path with these records, and then closed
  pub record Creates (path : List ℕ) (records : Records) : Type 0 where
    pub register : O
    pub identity : OfficeSigners
    pub between : M
    pub made : Created machines machine path register between
    pub stands : offices.stands identity register records
    pub closed : machines.closed between path register machine'

module _ {M O D S R : Type 0} (machines : Machine M O D S R) (machine machine' : M) where
  -- the register at a path could not be opened, and the job ends with that failure
  abbrev pub NotOpened : List ℕ → Signing → Result (Unit {0}) Failure → Type 0
  NotOpened path signing result =
      (why : Failure) × (result ≡ Err why) × Unopened machines machine path signing why machine'
      × IsOpenFailure why

  -- no register could be created at a path, and the job ends with that failure
  abbrev pub NotCreatedAt : List ℕ → Result (Unit {0}) Failure → Type 0
  NotCreatedAt path result =
      (why : Failure) × (result ≡ Err why) × NotCreated machines machine path why machine'
      × IsCreateFailure why
