-- The exit status of a command line without a job.
use Rattle.std.specs.Prelude.{ℕ}
use Rattle.reg_desk_cli.specs.declared.job.Usage.{Usage}
use Rattle.reg_desk_cli.specs.declared.job.Usage.TheVariants.{Help, Version, Bad, Memory}

-- 0 for help and the version, 2 if the command line can't be read, 1 if out of memory
abbrev pub usage_status : Usage → ℕ
usage_status (Help text) = 0
usage_status (Version text) = 0
usage_status (Bad text) = 2
usage_status Memory = 1
