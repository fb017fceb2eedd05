use Rattle.std.proofs.Common.{take}
use Rattle.std.specs.List.{AllByRecursion}
use Rattle.sqlite.specs.Held.{state}
use Rattle.sqlite.specs.State.{HasCleanDisk}
use Rattle.reg_core.specs.Records.{Records}
use Rattle.reg_store_tables.specs.Shows.{Shows}
use Rattle.reg_store_tables.specs.Stays.{Looked}
use Rattle.reg_audit.specs.Crls.{MatchRecords}
use Rattle.reg_audit.specs.Stored.{IsStored}
use Rattle.reg_audit.proofs.stored.check_each.Given as goal

abbrev pub invariant-loop-crl : goal.invariant-loop-crl
invariant-loop-crl g l = record {
  looked : Looked g.S.Store l.fn.conn l.conn;
  bytes : (records : Records) → Shows g.S.Store l.fn.conn records → MatchRecords l.issuer l.crl_life l.listed records → HasCleanDisk (state g.S.Store l.conn) → AllByRecursion (IsStored records) (take l.crl-index l.crls);
}
