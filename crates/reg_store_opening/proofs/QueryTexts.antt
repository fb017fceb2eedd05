-- What the statements that test the tables read.
use Rattle.std.proofs.Common.{refl, arith}
use Rattle.sqlite_resolve.specs.Compile.{first}
use Rattle.sqlite_tied.specs.Compute.{everything}
use Rattle.reg_store_tables.specs.declared.sql.TheConstants.{STEPS}
use Rattle.reg_store_opening.specs.declared.sql.TheConstants.{VERSION, OFFICE, OLDER_OFFICE}
use Rattle.reg_store_opening.specs.VersionAndOffice.{IsQuery}
use Rattle.reg_store_opening.proofs.Queried.{query_text}

pub version_query : IsQuery VERSION.now
unfolding first everything
version_query = query_text VERSION.now _ _ refl refl refl refl (omega arith)

pub office_query : IsQuery OFFICE.now
unfolding first everything
office_query = query_text OFFICE.now _ _ refl refl refl refl (omega arith)

pub steps_query : IsQuery STEPS.now
unfolding first everything
steps_query = query_text STEPS.now _ _ refl refl refl refl (omega arith)

pub older_query : IsQuery OLDER_OFFICE.now
unfolding first everything
older_query = query_text OLDER_OFFICE.now _ _ refl refl refl refl (omega arith)
